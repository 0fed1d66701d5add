-- A mesh has one map, and one content.
use Rattle.std.proofs.Common.{◌≡◌, ◌≢◌, ◌↔◌, ℕ, zero, suc, ◌<◌, true, List, length, get_or, All, sym, ap, ◌∙◌, subst, inl, inr, arith, rules, tests}
use Rattle.std.proofs.lemmas.Bool.{cases_lt}
use Rattle.map_defs.specs.Kind.{Kind, alpha, beta}
use Rattle.map_defs.specs.Links.{Links}
use Rattle.map_defs.specs.Rows.{Rows, IsLive, links_of}
use Rattle.map_defs.specs.Off.{Mesh}
use Rattle.machine_defs.specs.State.{Content, value_at}
use Rattle.map_defs.specs.MeshMap.{Side, sides_of, start, finish, has_ends, AreAlong, AreSewn, IsBorder, AreMeshLinks}
use Rattle.machine_defs.specs.Loading.{IsMeshContent}
use Rattle.link_laws.proofs.Basics.{same_or_not, by_cases}
use Rattle.link_laws.proofs.SameRows.{same_rows}
use Rattle.link_laws.proofs.RowFacts.{live_or_free}
use Rattle.journal_laws.proofs.ContentFacts.{values-one, same-content}
use Rattle.mesh_laws.proofs.MeshLinks.{side_in, side-is, HasSide, at_start, at_finish, has-side, lies-there}

-- what is said of two sides with the same points can be said in the other order
ends-turned : (s t : Side) → has_ends s t ≡ true → has_ends t s ≡ true
ends-turned s t h = search (rules, tests)

-- two maps that sew two sides, sew them alike
abbrev AreAlike : Kind → Links → Links → Side → Type 0
AreAlike k L M s = (L 2 (start k s.number) ≡ M 2 (start k s.number)) × (k ≡ alpha → L 2 (finish s.number) ≡ M 2 (finish s.number))

sewn-alike : (k : Kind) (L M : Links) (s t : Side) → AreSewn k L s t → AreSewn k M s t → AreAlike k L M s × AreAlike k L M t
sewn-alike alpha L M s t (inl p) (inl q) = ((p.1.0 ∙ sym q.1.0, λ _. p.2.0 ∙ sym q.2.0), (p.1.1 ∙ sym q.1.1, λ _. p.2.1 ∙ sym q.2.1))
sewn-alike alpha L M s t (inl p) (inr q) = absurd (q.0 p.0)
sewn-alike alpha L M s t (inr p) (inl q) = absurd (p.0 q.0)
sewn-alike alpha L M s t (inr p) (inr q) = ((p.1.0 ∙ sym q.1.0, λ _. p.2.0 ∙ sym q.2.0), (p.2.1 ∙ sym q.2.1, λ _. p.1.1 ∙ sym q.1.1))
sewn-alike beta L M s t p q = ((p.1.0 ∙ sym q.1.0, λ e. cc (e)), (p.1.1 ∙ sym q.1.1, λ e. cc (e)))

border-alike : (k : Kind) (L M : Links) (s : Side) → IsBorder k L s → IsBorder k M s → AreAlike k L M s
border-alike alpha L M s p q = (p.0 ∙ sym q.0, λ _. p.1 ∙ sym q.1)
border-alike beta L M s p q = (p ∙ sym q, λ e. cc (e))

abbrev AreAlikeAlong : Kind → Links → Links → Side → ℕ → Type 0
AreAlikeAlong k L M s t = (L t (start k s.number) ≡ M t (start k s.number)) × (k ≡ alpha → L t (finish s.number) ≡ M t (finish s.number))

along-alike : (k : Kind) (L M : Links) (s : Side) → AreAlong k L s → AreAlong k M s → AreAlikeAlong k L M s 0 × AreAlikeAlong k L M s 1
along-alike alpha L M s p q = ((p.0 ∙ sym q.0, λ _. p.1 ∙ sym q.1), (p.2 ∙ sym q.2, λ _. p.3 ∙ sym q.3))
along-alike beta L M s p q = ((p.1 ∙ sym q.1, λ e. cc (e)), (p.0 ∙ sym q.0, λ e. cc (e)))

module _ (k : Kind) (faces : List (List ℕ)) (L M : Links) (p : AreMeshLinks k (sides_of faces) L) (q : AreMeshLinks k (sides_of faces) M) where
  -- another side has the same points
  abbrev HasOther : ℕ → Type 0
  HasOther i = (j : ℕ) × (j < length (sides_of faces)) × (j ≢ i) × (has_ends (side_in faces i) (side_in faces j) ≡ true)

  sewn-at : (N : Links) → AreMeshLinks k (sides_of faces) N → (i j : ℕ) → i < j → j < length (sides_of faces) → has_ends (side_in faces i) (side_in faces j) ≡ true
      → AreSewn k N (side_in faces i) (side_in faces j)
  sewn-at N m i j lt h ends =
      let one = side-is faces i (side_in faces i) (omega (arith, lt, h)) in
      let two = side-is faces j (side_in faces i) h in
      subst (λ (s : Side). AreSewn k N s (side_in faces j)) one
      (subst (λ (t : Side). AreSewn k N (get_or (sides_of faces) i (side_in faces i)) t) two
      (m.sewn i j (side_in faces i) lt h (subst (λ (s : Side). has_ends s (get_or (sides_of faces) j (side_in faces i)) ≡ true) (sym one) (subst (λ (t : Side). has_ends (side_in faces i) t ≡ true) (sym two) ends))))

  other-alike : (i : ℕ) → i < length (sides_of faces) → HasOther i → AreAlike k L M (side_in faces i)
  other-alike i h o = elim (cases_lt o.0 i) [
    | inl lt ↦ (let ends = ends-turned (side_in faces i) (side_in faces o.0) o.3 in
        (sewn-alike k L M (side_in faces o.0) (side_in faces i) (sewn-at L p o.0 i lt h ends) (sewn-at M q o.0 i lt h ends)).1)
    | inr ge ↦ (let lt : i < o.0 = omega (arith, ge, o.2) in
        (sewn-alike k L M (side_in faces i) (side_in faces o.0) (sewn-at L p i o.0 lt o.1 o.3) (sewn-at M q i o.0 lt o.1 o.3)).0)
  ]

  alone : (i : ℕ) → i < length (sides_of faces) → (HasOther i → ⊥) → All (λ t. has_ends (side_in faces i) t ≡ true → side_in faces i ≡ t) (sides_of faces)
  alone i h none j z lt ends = elim (same_or_not j i) [
    | inl e ↦ sym (side-is faces j z lt ∙ ap (side_in faces) e)
    | inr other ↦ absurd (none (j, lt, other, subst (λ (t : Side). has_ends (side_in faces i) t ≡ true) (side-is faces j z lt) ends))
  ]

  border-at : (N : Links) → AreMeshLinks k (sides_of faces) N → (i : ℕ) → i < length (sides_of faces) → (HasOther i → ⊥) → IsBorder k N (side_in faces i)
  border-at N m i h none =
      let is = side-is faces i (side_in faces i) h in
      subst (λ (s : Side). IsBorder k N s) is
      (m.border i (side_in faces i) h (subst (λ (s : Side). All (λ t. has_ends s t ≡ true → s ≡ t) (sides_of faces)) (sym is) (alone i h none)))

  along-at : (N : Links) → AreMeshLinks k (sides_of faces) N → (i : ℕ) → i < length (sides_of faces) → AreAlong k N (side_in faces i)
  along-at N m i h = subst (λ (s : Side). AreAlong k N s) (side-is faces i (side_in faces i) h) (m.along i (side_in faces i) h)

  second-start : (i : ℕ) → i < length (sides_of faces) → L 2 (start k (side_in faces i).number) ≡ M 2 (start k (side_in faces i).number)
  second-start i h = by_cases (HasOther i) _ _ (λ o. (other-alike i h o).0)
      (λ none. (border-alike k L M (side_in faces i) (border-at L p i h none) (border-at M q i h none)).0)

  second-finish : k ≡ alpha → (i : ℕ) → i < length (sides_of faces) → L 2 (finish (side_in faces i).number) ≡ M 2 (finish (side_in faces i).number)
  second-finish kind i h = by_cases (HasOther i) _ _ (λ o. (other-alike i h o).1 kind)
      (λ none. (border-alike k L M (side_in faces i) (border-at L p i h none) (border-at M q i h none)).1 kind)

  pub mesh-links-one : (t d i : ℕ) → HasSide k faces d i → L t d ≡ M t d
  mesh-links-one zero d i (at_start h e) = rw e (along-alike k L M (side_in faces i) (along-at L p i h) (along-at M q i h)).0.0
  mesh-links-one zero d i (at_finish kind h e) = rw e ((along-alike k L M (side_in faces i) (along-at L p i h) (along-at M q i h)).0.1 kind)
  mesh-links-one (suc zero) d i (at_start h e) = rw e (along-alike k L M (side_in faces i) (along-at L p i h) (along-at M q i h)).1.0
  mesh-links-one (suc zero) d i (at_finish kind h e) = rw e ((along-alike k L M (side_in faces i) (along-at L p i h) (along-at M q i h)).1.1 kind)
  mesh-links-one (suc (suc zero)) d i (at_start h e) = rw e (second-start i h)
  mesh-links-one (suc (suc zero)) d i (at_finish kind h e) = rw e (second-finish kind i h)
  mesh-links-one (suc (suc (suc t))) d i s = p.flat (suc (suc (suc t))) d (omega arith) ∙ sym (q.flat (suc (suc (suc t))) d (omega arith))

no-links : (rows : Rows) (t d : ℕ) → (IsLive rows d → ⊥) → links_of rows t d ≡ 0
no-links rows t d dead = elim (live_or_free rows d) [ inl live ↦ absurd (dead live) | inr free ↦ free.1 t ]

-- a mesh has one content
pub mesh-content-one : (k : Kind) (n : ℕ) (mesh : Mesh) (a b : Content) → IsMeshContent k n mesh a → IsMeshContent k n mesh b → a ≡ b
mesh-content-one k n mesh a b p q = same-content a b (p.kind ∙ sym q.kind) dims rows values (p.rules ∙ sym q.rules)
  where
    dims : a.dim ≡ b.dim
    dims = p.dim ∙ sym q.dim

    live-same : (d : ℕ) → IsLive a.rows d ↔ IsLive b.rows d
    live-same d = ((λ h. (q.live d).1 ((p.live d).0 h)), (λ h. (p.live d).1 ((q.live d).0 h)))

    links : (t d : ℕ) → links_of a.rows t d ≡ links_of b.rows t d
    links t d = elim (live_or_free a.rows d) [
      | inl live ↦ (let within = (p.live d).0 live in let side = has-side k mesh.faces d within.0 within.1 in
          mesh-links-one k mesh.faces (links_of a.rows) (links_of b.rows) p.links q.links t d side.0 side.1)
      | inr free ↦ free.1 t ∙ sym (no-links b.rows t d (λ live. free.0 ((live-same d).1 live)))
    ]

    rows : a.rows ≡ b.rows
    rows = same_rows n a.rows b.rows p.wide q.wide (p.long ∙ sym q.long) live-same (λ t d h. links t d)

    value : (i d : ℕ) → IsLive a.rows d → value_at a i d ≡ value_at b i d
    value i d live = elim (same_or_not i 0) [
      | inl e ↦ (let within = (p.live d).0 live in let side = has-side k mesh.faces d within.0 within.1 in let lies = lies-there k mesh.faces d side.0 side.1 in
          ap (λ (j : ℕ). value_at a j d) e ∙ p.points d lies.0 lies.1 ∙ sym (q.points d lies.0 lies.1) ∙ sym (ap (λ (j : ℕ). value_at b j d) e))
      | inr other ↦ p.others i d other ∙ sym (q.others i d other)
    ]

    values : a.values ≡ b.values
    values = values-one a b p.places q.places dims rows (λ i d within live. value i d live)
