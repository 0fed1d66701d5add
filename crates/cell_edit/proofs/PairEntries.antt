-- The changes by which the new darts of pairs are joined.
use Rattle.std.proofs.Common.{ℕ, ◌≡◌, ◌≢◌, ◌+◌, ◌<◌, ◌≤◌, List, [], ◌∷◌, ◌++◌, length, map, take, get_or, slice_index, Contains, refl, sym, ap, ◌∙◌, subst, inl, inr, append_assoc, arith}
use Rattle.std.proofs.lemmas.List.{get_or-map, length-map, map-append, take_more, get_or_default}
use Rattle.std.proofs.lemmas.List.Elements.{Contains-get_or}
use Rattle.map_defs.specs.Links.{Links}
use Rattle.map_defs.specs.Edits.{Change}
use Rattle.sewing.specs.Triples.{Triple, Lists, ComesBefore, IsAscending}
use Rattle.cell_edit.specs.Writing.{WritesEntries}
use Rattle.cell_edit.proofs.Writings.{change_one}

-- the entries by which the new darts of pairs are joined
abbrev pub IsPairEntry : (ℕ → ℕ) → List Triple → ℕ → ℕ → ℕ → Type 0
IsPairEntry star pairs d t y = (u : ℕ) × (v : ℕ) × Lists pairs u v t × (d ≡ star u) × (y ≡ star v)

-- one change for each pair
abbrev pub pair_changes : (ℕ → ℕ) → List Triple → List Change
pair_changes star pairs = map (λ p. record { dart = star p.x; link = p.t; old = 0; new = star p.y }) pairs

module _ (L : Links) (star : ℕ → ℕ) (pairs : List Triple) (up : IsAscending pairs) (free : (x y t : ℕ) → Lists pairs x y t → L t (star x) ≡ 0)
    (one : (x y t u v s : ℕ) → Lists pairs x y t → Lists pairs u v s → star x ≡ star u → x ≡ u) where
  change : Triple → Change
  change p = record { dart = star p.x; link = p.t; old = 0; new = star p.y }

  at : (p : ℕ) (d : Triple) (z : Change) → p < length pairs → get_or (pair_changes star pairs) p z ≡ record { dart = star (get_or pairs p d).x; link = (get_or pairs p d).t; old = 0; new = star (get_or pairs p d).y }
  at p d z low = get_or-map (λ (q : Triple). let c : Change = record { dart = star q.x; link = q.t; old = 0; new = star q.y } in c) pairs p d z low

  within : (p : ℕ) → p < length (pair_changes star pairs) → p < length pairs
  within p low = omega (arith, length-map pairs (λ (q : Triple). let c : Change = record { dart = star q.x; link = q.t; old = 0; new = star q.y } in c))

  beyond_all : (p : ℕ) → p < length pairs → p < length (pair_changes star pairs)
  beyond_all p low = omega (arith, length-map pairs (λ (q : Triple). let c : Change = record { dart = star q.x; link = q.t; old = 0; new = star q.y } in c))

  to : (c : Change) → Contains (pair_changes star pairs) c → IsPairEntry star pairs c.dart c.link c.new × (c.old ≡ L c.link c.dart)
  to c (p, low, is) =
      let d : Triple = record { x = 0; y = 0; t = 0 } in
      let q : Triple = get_or pairs p d in
      let has : Lists pairs q.x q.y q.t = Contains-get_or pairs p d (within p low) in
      let e : record { dart = star q.x; link = q.t; old = 0; new = star q.y } ≡ c = sym (at p d c (within p low)) ∙ is in
      subst (λ (b : Change). IsPairEntry star pairs b.dart b.link b.new × (b.old ≡ L b.link b.dart)) e ((q.x, q.y, has, refl, refl), sym (free q.x q.y q.t has))

  from : (c : Change) → IsPairEntry star pairs c.dart c.link c.new → c.old ≡ L c.link c.dart → Contains (pair_changes star pairs) c
  from c (u, v, has, dart, new) old =
      let q : Triple = record { x = u; y = v; t = c.link } in
      let none : L c.link (star u) ≡ 0 = free u v c.link has in
      let old_free : c.old ≡ 0 = old ∙ ap (L c.link) dart ∙ none in (
        has.0,
        beyond_all has.0 has.1,
        at has.0 q c has.1 ∙ ap (λ (r : Triple). let b : Change = record { dart = star r.x; link = r.t; old = 0; new = star r.y } in b) has.2
            ∙ change_one (record { dart = star u; link = c.link; old = 0; new = star v }) c (sym dart) refl (sym old_free) (sym new),
      )

  before : (a b : Triple) → Lists pairs a.x a.y a.t → Lists pairs b.x b.y b.t → ComesBefore a b → star a.x ≡ star b.x → a.t ≡ b.t → ⊥
  before a b has had (inl less) same link = let e : a.x ≡ b.x = one a.x a.y a.t b.x b.y b.t has had same in omega arith
  before a b has had (inr less) same link = omega (arith, less.1)

  pub pairs-write : WritesEntries L (IsPairEntry star pairs) (pair_changes star pairs)
  pairs-write = record {
    same = λ c. (to c, λ entry. from c entry.0 entry.1);
    once = λ i j z low high.
        let d : Triple = record { x = 0; y = 0; t = 0 } in
        let j_low : j < length pairs = within j high in
        let i_low : i < length pairs = omega arith in
        rw (at i d z i_low, at j d z j_low)
        (before (get_or pairs i d) (get_or pairs j d) (Contains-get_or pairs i d i_low) (Contains-get_or pairs j d j_low) (up i j d low j_low));
  }

-- the change of the next pair is put behind those of the pairs before it
pub pairs-more : (star : ℕ → ℕ) (pairs : List Triple) (i : ℕ) (q : Triple) (a b c : List Change) → i < length pairs → q ≡ get_or pairs i q
    → b ≡ a ++ pair_changes star (take i pairs) → c ≡ b ++ record { dart = star q.x; link = q.t; old = 0; new = star q.y } ∷ [] → c ≡ a ++ pair_changes star (take (i + 1) pairs)
pairs-more star pairs i q a b c low is before grown =
    let one : Triple → Change = λ p. record { dart = star p.x; link = p.t; old = 0; new = star p.y } in
    let more : pair_changes star (take (i + 1) pairs) ≡ pair_changes star (take i pairs) ++ one q ∷ [] =
    ap (map one) (take_more pairs i q low ∙ ap (λ e. take i pairs ++ e ∷ []) (sym is)) ∙ map-append one (take i pairs) (q ∷ []) in
    grown ∙ ap (λ cs. cs ++ one q ∷ []) before ∙ append_assoc a (pair_changes star (take i pairs)) (one q ∷ []) ∙ ap (λ cs. a ++ cs) (sym more)

-- a pair that comes before another does not begin behind it
not_back : (a b : Triple) → ComesBefore a b → a.x ≤ b.x
not_back a b (inl less) = omega arith
not_back a b (inr same) = omega (arith, same.0)

-- darts that are less than the first of a pair are the first of no later pair
pub firsts-rise : (keys : List ℕ) (pairs : List Triple) (i : ℕ) (q : Triple) (place : ℕ) → IsAscending pairs → i < length pairs → q ≡ get_or pairs i q
    → ((p : ℕ) → p < place → slice_index keys p < q.x) → (j : ℕ) → i + 1 ≤ j → j < length pairs → (d : Triple) (p : ℕ) → p < place → slice_index keys p ≢ (get_or pairs j d).x
firsts-rise keys pairs i q place up low is less j after within d p before e =
    let h : slice_index keys p < q.x = less p before in
    let at : (get_or pairs i d).x ≡ q.x = ap (λ (r : Triple). r.x) (get_or_default pairs i d q low ∙ sym is) in
    let on : (get_or pairs i d).x ≤ (get_or pairs j d).x = not_back (get_or pairs i d) (get_or pairs j d) (up i j d (omega arith) within) in
    omega (arith, h, at, on, e)
