-- Links lead from number to number as from dart to dart, in a generalized map.
use Rattle.std.proofs.Common.{ℕ, zero, suc, ◌≡◌, ◌≢◌, ◌<◌, ◌⊎◌, List, length, slice_index, inl, inr, refl, sym, ap, subst, ◌∙◌, arith}
use Rattle.map_defs.specs.Kind.{alpha}
use Rattle.map_defs.specs.Links.{Links, HasDimension}
use Rattle.map_defs.specs.Laws.{Laws}
use Rattle.map_defs.specs.Rows.{Rows, IsLive, links_of, IsSound}
use Rattle.map_defs.specs.Cells.{InCell, here}
use Rattle.map_defs.specs.MeshMap.{Side, sides_of, start, finish, AreJoined, AreMeshLinks}
use Rattle.map_defs.specs.OffOfMap.{ListsCells}
use Rattle.link_laws.proofs.Basics.{same_or_not, distant_alpha}
use Rattle.link_laws.proofs.LawFacts.{back_to}
use Rattle.link_laws.proofs.CellFacts.{alpha_closed}
use Rattle.mesh_laws.specs.Sides.{side_of}
use Rattle.reading_laws.specs.MeshFaults.{HaveSamePoints}
use Rattle.off_laws.specs.ReadBack.{AreSidesSewn}
use Rattle.off_laws.specs.SideDarts.{AreSideDarts}
use Rattle.off_laws.proofs.RenumberedPlaces.{same-place, side-ring, next-there, previous-there, dart-some, ends}
use Rattle.off_laws.proofs.RenumberedPairs.{ends-same, zero-there}
use Rattle.off_laws.proofs.RenumberedDarts.{IsNumbered, nowhere, starting, ending}
use Rattle.off_laws.proofs.RenumberedSides.{LeadsAway, along-at, sewn-at}
use Rattle.off_laws.proofs.RenumberedLinks.{there, own-number, free-led, dead-led, high-led, border-led}

module _ (n : ℕ) (rows : Rows) (sound : IsSound alpha n rows) (w : Laws alpha (links_of rows)) (vertices : List ℕ) (listed : ListsCells alpha rows 0 vertices)
    (faces : List (List ℕ)) (darts : List ℕ) (s : AreSideDarts alpha (IsLive rows) (links_of rows) vertices faces darts)
    (flat : HasDimension 2 (links_of rows)) (sewn : AreSidesSewn alpha (IsLive rows) (links_of rows)) (away : (i : ℕ) → i < length (sides_of faces) → LeadsAway (side_of (sides_of faces) i))
    (M : Links) (m : AreMeshLinks alpha (sides_of faces) M) (nil : (t : ℕ) → M t 0 ≡ 0) where
  abbrev L : Links
  L = links_of rows

  abbrev dart : ℕ → ℕ
  dart i = slice_index darts i

  abbrev side : ℕ → Side
  side i = side_of (sides_of faces) i

  abbrev Numbered : ℕ → ℕ → Type 0
  Numbered d e = IsNumbered alpha (IsLive rows) L darts d e

  abbrev S : ℕ → ℕ
  S i = start alpha i

  abbrev T : ℕ → ℕ
  T i = finish i

  within : (i : ℕ) → i < length darts → i < length (sides_of faces)
  within i h = there alpha n rows sound w vertices listed faces darts s flat sewn M m nil i h

  number : (i : ℕ) → i < length darts → (side i).number ≡ i
  number i h = own-number alpha n rows sound w vertices listed faces darts s flat sewn M m nil i h

  along : (i : ℕ) → i < length darts → (M 0 (S i) ≡ T i) × (M 0 (T i) ≡ S i) × (M 1 (S i) ≡ T (side i).previous) × (M 1 (T i) ≡ S (side i).next)
  along i h =
      subst (λ (j : ℕ). (M 0 (S j) ≡ T j) × (M 0 (T j) ≡ S j) × (M 1 (S j) ≡ T (side i).previous) × (M 1 (T j) ≡ S (side i).next)) (number i h) (along-at alpha faces M m i (within i h))

  zero-some : (i : ℕ) → i < length darts → L 0 (dart i) ≢ 0
  zero-some i h = zero-there alpha n rows sound w vertices listed faces darts s refl i h

  zero-back : (i : ℕ) → i < length darts → L 0 (L 0 (dart i)) ≡ dart i
  zero-back i h = w.back 0 (dart i) (zero-some i h)

  -- link 1 of a side's dart is the other dart of the side before
  round-back : (i : ℕ) → i < length darts → L 1 (dart i) ≡ L 0 (dart (side i).previous)
  round-back i h =
      let p : ℕ = (side i).previous in
      let hp = previous-there alpha n rows sound w vertices listed faces darts s i h in
      let on : L 1 (L 0 (dart p)) ≡ dart i = s.next p hp ∙ ap dart (side-ring alpha n rows sound w vertices listed faces darts s i h).back in
      back_to alpha L w 1 (L 0 (dart p)) (dart i) (dart-some alpha n rows sound w vertices listed faces darts s i h) on

  -- links 0 and 2 commute
  square : (x : ℕ) → L 2 (L 0 x) ≡ L 0 (L 2 x)
  square x = sym (w.square 0 2 x (distant_alpha 0 2 (inl (omega arith))))

  -- link 2 stays in the 0-cell
  meets : (x y : ℕ) → L 2 x ≡ y → y ≢ 0 → InCell alpha L 0 x y
  meets x y e some = subst (InCell alpha L 0 x) e (alpha_closed L 0 2 x x (λ z. omega (arith, z)) here (λ none. some (sym e ∙ none)))

  -- link 2 at both darts of a side
  abbrev Across : ℕ → Type 0
  Across i = Numbered (L 2 (dart i)) (M 2 (S i)) × Numbered (L 2 (L 0 (dart i))) (M 2 (T i))

  -- two sides are sewn, by the numbers of their darts
  abbrev Sewn : ℕ → ℕ → ℕ → ℕ → Type 0
  Sewn i j a b =
      (((side i).from ≡ (side j).from) × AreJoined M (S a) (S b) × AreJoined M (T a) (T b))
      ⊎ (((side i).from ≢ (side j).from) × AreJoined M (S a) (T b) × AreJoined M (T a) (S b))

  joined : (i j : ℕ) → i < length darts → j < length darts → i ≢ j → HaveSamePoints (side i) (side j) → Sewn i j i j
  joined i j hi hj ne same =
      subst (λ (a : ℕ). Sewn i j a j) (number i hi) (subst (λ (b : ℕ). Sewn i j (side i).number b) (number j hj)
      (sewn-at alpha faces M m i j (within i hi) (within j hj) ne (ends-same (side i) (side j) same)))

  free-across : (i : ℕ) → i < length darts → L 2 (dart i) ≡ 0 → Across i
  free-across i h free =
      let border : (M 2 (S i) ≡ 0) × (M 2 (T i) ≡ 0) =
      subst (λ (j : ℕ). (M 2 (S j) ≡ 0) × (M 2 (T j) ≡ 0)) (number i h) (border-led alpha n rows sound w vertices listed faces darts s flat sewn M m nil i h free) in (
        free-led alpha n rows sound w vertices listed faces darts s flat sewn M m nil (L 2 (dart i)) (M 2 (S i)) free border.0,
        free-led alpha n rows sound w vertices listed faces darts s flat sewn M m nil (L 2 (L 0 (dart i))) (M 2 (T i)) (square (dart i) ∙ (ap (L 0) free ∙ w.nil 0)) border.1,
      )

  -- two sides whose darts link 2 joins lead the same way
  same-across : (i j : ℕ) → i < length darts → j < length darts → L 2 (dart i) ≡ dart j → Across i
  same-across i j hi hj e =
      let ne : i ≢ j = λ is. w.apart 2 (dart i) refl (dart-some alpha n rows sound w vertices listed faces darts s i hi) (e ∙ ap dart (sym is)) in
      let far : L 2 (L 0 (dart i)) ≡ L 0 (dart j) = square (dart i) ∙ ap (L 0) e in
      let from : (side i).from ≡ (side j).from =
      same-place alpha n rows sound w vertices listed (dart i) (dart j) (side i).from (side j).from (s.starts i hi) (s.starts j hj)
      (meets (dart i) (dart j) e (dart-some alpha n rows sound w vertices listed faces darts s j hj)) in
      let to : (side i).to ≡ (side j).to =
      same-place alpha n rows sound w vertices listed (L 0 (dart i)) (L 0 (dart j)) (side i).to (side j).to
      (ends alpha n rows sound w vertices listed faces darts s i hi) (ends alpha n rows sound w vertices listed faces darts s j hj) (meets (L 0 (dart i)) (L 0 (dart j)) far (zero-some j hj)) in
      elim (joined i j hi hj ne (inl (from, to))) [
        | inl p ↦ (starting j hj e p.1.0, ending j refl hj far p.2.0)
        | inr p ↦ absurd (p.0 from)
      ]

  -- two sides where link 2 joins a dart and another's other dart lead against each other
  other-across : (i j : ℕ) → i < length darts → j < length darts → L 2 (dart i) ≡ L 0 (dart j) → Across i
  other-across i j hi hj e =
      let far : L 2 (L 0 (dart i)) ≡ dart j = square (dart i) ∙ (ap (L 0) e ∙ zero-back j hj) in
      let from : (side i).from ≡ (side j).to =
      same-place alpha n rows sound w vertices listed (dart i) (L 0 (dart j)) (side i).from (side j).to (s.starts i hi) (ends alpha n rows sound w vertices listed faces darts s j hj)
      (meets (dart i) (L 0 (dart j)) e (zero-some j hj)) in
      let to : (side i).to ≡ (side j).from =
      same-place alpha n rows sound w vertices listed (L 0 (dart i)) (dart j) (side i).to (side j).from (ends alpha n rows sound w vertices listed faces darts s i hi) (s.starts j hj)
      (meets (L 0 (dart i)) (dart j) far (dart-some alpha n rows sound w vertices listed faces darts s j hj)) in
      let ne : i ≢ j = λ is. away i (within i hi) (from ∙ ap (λ (q : ℕ). (side q).to) (sym is)) in
      elim (joined i j hi hj ne (inr (from, to))) [
        | inl p ↦ absurd (away i (within i hi) (p.0 ∙ sym to))
        | inr p ↦ (ending j refl hj e p.1.0, starting j hj far p.2.0)
      ]

  across : (i : ℕ) → i < length darts → Across i
  across i h = elim (same_or_not (L 2 (dart i)) 0) [
    | inl free ↦ free-across i h free
    | inr linked ↦ (let other = s.all (L 2 (dart i)) (sound.live 2 (dart i) linked) in
        elim other.2 [
          | inl e ↦ same-across i other.0 h other.1 (sym e)
          | inr e ↦ other-across i other.0 h other.1 (sym e)
        ])
  ]

  pub led-alpha : (t d e : ℕ) → Numbered d e → Numbered (L t d) (M t e)
  led-alpha t d e (nowhere dead is) = dead-led alpha n rows sound w vertices listed faces darts s flat sewn M m nil t d e dead is
  led-alpha zero d e (starting i h at is) = ending i refl h (ap (L 0) at) (ap (M 0) is ∙ (along i h).0)
  led-alpha zero d e (ending i kind h at is) = starting i h (ap (L 0) at ∙ zero-back i h) (ap (M 0) is ∙ (along i h).1)
  led-alpha (suc zero) d e (starting i h at is) =
      ending (side i).previous refl (previous-there alpha n rows sound w vertices listed faces darts s i h) (ap (L 1) at ∙ round-back i h) (ap (M 1) is ∙ (along i h).2)
  led-alpha (suc zero) d e (ending i kind h at is) = starting (side i).next (next-there alpha n rows sound w vertices listed faces darts s i h) (ap (L 1) at ∙ s.next i h) (ap (M 1) is ∙ (along i h).3)
  led-alpha (suc (suc zero)) d e (starting i h at is) = subst (λ (x : ℕ). Numbered (L 2 x) (M 2 e)) (sym at) (subst (λ (y : ℕ). Numbered (L 2 (dart i)) (M 2 y)) (sym is) (across i h).0)
  led-alpha (suc (suc zero)) d e (ending i kind h at is) = subst (λ (x : ℕ). Numbered (L 2 x) (M 2 e)) (sym at) (subst (λ (y : ℕ). Numbered (L 2 (L 0 (dart i))) (M 2 y)) (sym is) (across i h).1)
  led-alpha (suc (suc (suc t))) d e (starting i h at is) = high-led alpha n rows sound w vertices listed faces darts s flat sewn M m nil (suc (suc (suc t))) d e (omega arith)
  led-alpha (suc (suc (suc t))) d e (ending i kind h at is) = high-led alpha n rows sound w vertices listed faces darts s flat sewn M m nil (suc (suc (suc t))) d e (omega arith)
