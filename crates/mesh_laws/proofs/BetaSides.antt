-- Sewn sides as a combinatorial map: its laws, its links side by side, and the points of its darts.
use Rattle.std.proofs.Common.{◌≡◌, ◌≢◌, ℕ, zero, suc, ◌+◌, ◌-◌, ◌*◌, ◌<◌, ◌≤◌, Bool, true, false, List, length, get_or, Option, Some, None, refl, sym, ap, subst, ◌∙◌, ◌⊎◌, inl, inr, arith}
use Rattle.std.specs.Prelude.{All}
use Rattle.std.specs.List.{AllPairs}
use Rattle.std.proofs.lemmas.Bool.{cases_lt, cases_eq}
use Rattle.std.proofs.lemmas.List.{get_or_default}
use Rattle.map_defs.specs.Kind.{Kind, alpha, beta, inverse, place, IsDistant}
use Rattle.map_defs.specs.Links.{Links, HasDimension}
use Rattle.map_defs.specs.Laws.{Laws}
use Rattle.map_defs.specs.LinkWords.{LinkWord, two_links, through, inverse_word, IsCellWord}
use Rattle.map_defs.specs.Cells.{here, onward, Leads, InCell}
use Rattle.map_defs.specs.MeshMap.{Side, start, has_ends, AreJoined, AreAlong, AreSewn, IsBorder, AreMeshLinks, LiesAt, first, second}
use Rattle.mesh_laws.specs.Sides.{no_side, side_of, partner_of, IsAlone, IsPair, HasPartner, IsSewn}
use Rattle.mesh_laws.specs.SideLinks.{Entries, entry, start_to, start_entries, dart_entries, mesh_links, point_of}
use Rattle.mesh_laws.proofs.SideFacts.{reads, none-outside, other-way}

module _ (sides : List Side) (partners : List (Option ℕ)) (sewn : IsSewn true sides partners) (L : Links) (is : (i d : ℕ) → L i d ≡ mesh_links beta sides partners i d) where
  abbrev S : ℕ → ℕ
  S s = start beta s

  entries : (s : ℕ) → dart_entries beta sides partners (S s) ≡ start_entries beta sides partners s
  entries s = ap (start_entries beta sides partners) (omega arith)

  at-side : (i s : ℕ) → s < length sides → L i (S s) ≡ entry (start_entries beta sides partners s) i
  at-side i s h = is i (S s) ∙ (reads beta sides partners i (S s) (omega arith) (omega arith) ∙ ap (λ (e : Entries). entry e i) (entries s))

  nil_beta : (i d : ℕ) → (d ≡ 0) ⊎ (1 * length sides < d) → L i d ≡ 0
  nil_beta i d h = is i d ∙ none-outside beta sides partners i d h

  -- a dart of no side, or the one of a side
  sided : (d : ℕ) → ((d ≡ 0) ⊎ (1 * length sides < d)) ⊎ ((s : ℕ) × (s < length sides) × (d ≡ S s))
  sided d = elim (cases_eq d 0) [
    | inl none ↦ inl (inl none)
    | inr some ↦ elim (cases_lt (1 * length sides) d) [ inl past ↦ inl (inr past) | inr within ↦ inr (d - 1, omega arith, omega arith) ]
  ]

  flat_beta : (i d : ℕ) → L (suc (suc (suc i))) d ≡ 0
  flat_beta i d = elim (sided d) [
    | inl outside ↦ nil_beta (suc (suc (suc i))) d outside
    | inr (s, within, at) ↦ ap (L (suc (suc (suc i)))) at ∙ at-side (suc (suc (suc i))) s within
  ]

  nil0 : (i : ℕ) → L i 0 ≡ 0
  nil0 i = nil_beta i 0 (inl refl)

  abbrev Over : ℕ → Type 0
  Over s = ((L 2 (S s) ≡ 0) × IsAlone sides s) ⊎ ((t : ℕ) × IsPair true sides s t × AreJoined L (S s) (S t))

  over-of : (s : ℕ) → s < length sides → (p : Option ℕ) → partner_of partners s ≡ p → HasPartner true sides partners s p → Over s
  over-of s h None e alone = inl (at-side 2 s h ∙ ap (start_to beta sides s) e, alone)
  over-of s h (Some t) e (pair, back) = inr (t, pair, (at-side 2 s h ∙ ap (start_to beta sides s) e, at-side 2 t pair.within ∙ ap (start_to beta sides t) back))

  over : (s : ℕ) → s < length sides → Over s
  over s h = over-of s h (partner_of partners s) refl (sewn.each s h)

  back-side : (i s : ℕ) → s < length sides → L i (S s) ≢ 0 → L (inverse beta i) (L i (S s)) ≡ S s
  back-side zero s h some = let r = sewn.ring s h in ap (L 1) (at-side 0 s h) ∙ (at-side 1 (side_of sides s).previous r.previous ∙ ap S r.back)
  back-side (suc zero) s h some = let r = sewn.ring s h in ap (L 0) (at-side 1 s h) ∙ (at-side 0 (side_of sides s).next r.next ∙ ap S r.on)
  back-side (suc (suc zero)) s h some = elim (over s h) [
    | inl none ↦ absurd (some none.0)
    | inr (t, pair, meets) ↦ ap (L 2) meets.0 ∙ meets.1
  ]
  back-side (suc (suc (suc i))) s h some = absurd (some (flat_beta i (S s)))

  pub back_beta : (i x : ℕ) → L i x ≢ 0 → L (inverse beta i) (L i x) ≡ x
  back_beta i x some = elim (sided x) [
    | inl outside ↦ absurd (some (nil_beta i x outside))
    | inr (s, h, at) ↦ ap (λ (d : ℕ). L (inverse beta i) (L i d)) at ∙ (back-side i s h (λ e. some (ap (L i) at ∙ e)) ∙ sym at)
  ]

  apart-side : (i s : ℕ) → inverse beta i ≡ i → s < length sides → L i (S s) ≢ S s
  apart-side zero s self h e = absurd (omega arith)
  apart-side (suc zero) s self h e = absurd (omega arith)
  apart-side (suc (suc zero)) s self h e = elim (over s h) [
    | inl none ↦ let f = none.0 in absurd (omega arith)
    | inr (t, pair, meets) ↦ let f = meets.0 in let g = pair.apart in absurd (g (omega arith))
  ]
  apart-side (suc (suc (suc i))) s self h e = let f = flat_beta i (S s) in absurd (omega arith)

  apart_beta : (i x : ℕ) → inverse beta i ≡ i → x ≢ 0 → L i x ≢ x
  apart_beta i x self some e = elim (sided x) [
    | inl outside ↦ some (sym e ∙ nil_beta i x outside)
    | inr (s, h, at) ↦ apart-side i s self h (ap (L i) (sym at) ∙ (e ∙ at))
  ]

  -- only links from 3 upwards are distant from another
  one-up : (i : ℕ) → 1 ≤ place beta i
  one-up zero = omega arith
  one-up (suc i) = omega arith

  square-up : (i j x : ℕ) → place beta i + 2 ≤ place beta j → L (inverse beta i) (L j x) ≡ L (inverse beta j) (L i x)
  square-up i zero x h = let u = one-up i in absurd (omega arith)
  square-up i (suc zero) x h = let u = one-up i in absurd (omega arith)
  square-up i (suc (suc zero)) x h = let u = one-up i in absurd (omega arith)
  square-up i (suc (suc (suc j))) x h = ap (L (inverse beta i)) (flat_beta j x) ∙ (nil0 (inverse beta i) ∙ sym (flat_beta j (L i x)))

  square_beta : (i j x : ℕ) → IsDistant beta i j → L (inverse beta i) (L j x) ≡ L (inverse beta j) (L i x)
  unfolding IsDistant
  square_beta i j x (inl below) = square-up i j x below
  square_beta i j x (inr above) = sym (square-up j i x above)

  pub laws_beta : Laws beta L
  laws_beta = record { nil = nil0; back = back_beta; apart = apart_beta; square = square_beta }

  number : (p : ℕ) → p < length sides → (side_of sides p).number ≡ p
  number p h = (sewn.ring p h).number

  same : (p : ℕ) (z : Side) → p < length sides → side_of sides p ≡ get_or sides p z
  same p z h = get_or_default sides p no_side z h

  along : All (AreAlong beta L) sides
  along p z h =
      subst (AreAlong beta L) (same p z h)
      (subst (λ (n : ℕ). (L 1 (S n) ≡ S (side_of sides p).next) × (L 0 (S n) ≡ S (side_of sides p).previous)) (sym (number p h)) (at-side 1 p h, at-side 0 p h))

  joined : (i j : ℕ) → i < j → j < length sides → has_ends (side_of sides i) (side_of sides j) ≡ true → AreSewn beta L (side_of sides i) (side_of sides j)
  joined i j lt h e = elim (over i (omega arith)) [
    | inl none ↦ let f = none.1 j h e in absurd (omega arith)
    | inr (t, pair, meets) ↦ elim (pair.only j h e) [
      | inl f ↦ absurd (omega arith)
      | inr at ↦
          let turned : (side_of sides i).from ≢ (side_of sides j).from = subst (λ (u : ℕ). (side_of sides i).from ≢ (side_of sides u).from) (sym at) (pair.turned refl) in
          let m : AreJoined L (S i) (S j) = subst (λ (u : ℕ). AreJoined L (S i) (S u)) (sym at) meets in
          (turned, subst (λ (m : ℕ). AreJoined L (S m) (S (side_of sides j).number)) (sym (number i (omega arith))) (subst (λ (n : ℕ). AreJoined L (S i) (S n)) (sym (number j h)) m))
    ]
  ]

  sewn_pairs : AllPairs (λ (s t : Side). has_ends s t ≡ true → AreSewn beta L s t) sides
  sewn_pairs i j z lt h =
      subst (λ (s : Side). has_ends s (get_or sides j z) ≡ true → AreSewn beta L s (get_or sides j z)) (same i z (omega arith))
      (subst (λ (t : Side). has_ends (side_of sides i) t ≡ true → AreSewn beta L (side_of sides i) t) (same j z h) (joined i j lt h))

  lone : (p : ℕ) → p < length sides → All (λ (t : Side). has_ends (side_of sides p) t ≡ true → side_of sides p ≡ t) sides → IsBorder beta L (side_of sides p)
  lone p h alone = elim (over p h) [
    | inl none ↦ subst (λ (n : ℕ). L 2 (S n) ≡ 0) (sym (number p h)) none.0
    | inr (t, pair, meets) ↦
        let e = alone t no_side pair.within pair.ends in
        absurd (pair.apart (sym (number t pair.within) ∙ (ap (λ (s : Side). s.number) (sym e) ∙ number p h)))
  ]

  border : All (λ (s : Side). All (λ (t : Side). has_ends s t ≡ true → s ≡ t) sides → IsBorder beta L s) sides
  border p z h = subst (λ (s : Side). All (λ (t : Side). has_ends s t ≡ true → s ≡ t) sides → IsBorder beta L s) (same p z h) (lone p h)

  flat : HasDimension 2 L
  flat zero d h = absurd (omega arith)
  flat (suc zero) d h = absurd (omega arith)
  flat (suc (suc zero)) d h = absurd (omega arith)
  flat (suc (suc (suc i))) d h = flat_beta i d

  pub links_beta : AreMeshLinks beta sides L
  links_beta = record { along = along; sewn = sewn_pairs; border = border; flat = flat }

  abbrev V : ℕ → ℕ
  V d = point_of beta sides d

  point-side : (s : ℕ) → V (S s) ≡ (side_of sides s).from
  point-side s = ap (λ (n : ℕ). (side_of sides n).from) (omega arith)

  -- the words of a 0-cell lead to a dart at the same point
  forth : (i j x y : ℕ) → 1 ≤ i → i < j → L i (L j x) ≡ y → y ≢ 0 → V y ≡ V x
  forth i zero x y low lt leads some = absurd (omega arith)
  forth i (suc zero) x y low lt leads some = absurd (omega arith)
  forth zero (suc (suc zero)) x y low lt leads some = absurd (omega arith)
  forth (suc zero) (suc (suc zero)) x y low lt leads some = elim (sided x) [
    | inl outside ↦ absurd (some (sym leads ∙ (ap (L 1) (nil_beta 2 x outside) ∙ nil0 1)))
    | inr (s, h, at) ↦ elim (over s h) [
      | inl none ↦ absurd (some (sym leads ∙ (ap (λ (d : ℕ). L 1 (L 2 d)) at ∙ (ap (L 1) none.0 ∙ nil0 1))))
      | inr (t, pair, meets) ↦
          let to : y ≡ S (side_of sides t).next = sym leads ∙ (ap (λ (d : ℕ). L 1 (L 2 d)) at ∙ (ap (L 1) meets.0 ∙ at-side 1 t pair.within)) in
          let way = other-way (side_of sides s) (side_of sides t) pair.ends (pair.turned refl) in
          ap V to ∙ (point-side (side_of sides t).next ∙ ((sewn.ring t pair.within).meets ∙ (sym way.0 ∙ (sym (point-side s) ∙ ap V (sym at)))))
    ]
  ]
  forth (suc (suc i)) (suc (suc zero)) x y low lt leads some = absurd (omega arith)
  forth i (suc (suc (suc j))) x y low lt leads some = absurd (some (sym leads ∙ (ap (L i) (flat_beta j x) ∙ nil0 i)))

  back : (i j x y : ℕ) → 1 ≤ i → i < j → L (inverse beta j) (L (inverse beta i) x) ≡ y → y ≢ 0 → V y ≡ V x
  back i zero x y low lt leads some = absurd (omega arith)
  back i (suc zero) x y low lt leads some = absurd (omega arith)
  back zero (suc (suc zero)) x y low lt leads some = absurd (omega arith)
  back (suc zero) (suc (suc zero)) x y low lt leads some = elim (sided x) [
    | inl outside ↦ absurd (some (sym leads ∙ (ap (L 2) (nil_beta 0 x outside) ∙ nil0 2)))
    | inr (s, h, at) ↦
        let r = sewn.ring s h in
        let p : ℕ = (side_of sides s).previous in
        let up : L 2 (L 0 x) ≡ L 2 (S p) = ap (λ (d : ℕ). L 2 (L 0 d)) at ∙ ap (L 2) (at-side 0 s h) in
        elim (over p r.previous) [
          | inl none ↦ absurd (some (sym leads ∙ (up ∙ none.0)))
          | inr (t, pair, meets) ↦
              let to : y ≡ S t = sym leads ∙ (up ∙ meets.0) in
              let way = other-way (side_of sides p) (side_of sides t) pair.ends (pair.turned refl) in
              ap V to ∙ (point-side t ∙ (sym way.1 ∙ (sym (sewn.ring p r.previous).meets ∙ (ap (λ (n : ℕ). (side_of sides n).from) r.back ∙ (sym (point-side s) ∙ ap V (sym at))))))
        ]
  ]
  back (suc (suc i)) (suc (suc zero)) x y low lt leads some = absurd (omega arith)
  back i (suc (suc (suc j))) x y low lt leads some = absurd (some (sym leads ∙ flat_beta j (L (inverse beta i) x)))

  step-stays : (x y : ℕ) → Leads L (IsCellWord beta 0) x y → V y ≡ V x
  step-stays x y (w, inl (i, j, low, lt, along), leads, some) = forth i j x y low lt (ap (λ (w : LinkWord). through L w x) (sym along) ∙ leads) some
  step-stays x y (w, inr (v, (i, j, low, lt, along), turned), leads, some) =
      let two : w ≡ two_links (inverse beta i) (inverse beta j) = turned ∙ ap (inverse_word beta) along in
      back i j x y low lt (ap (λ (w : LinkWord). through L w x) (sym two) ∙ leads) some

  -- all darts of a 0-cell lie at one point
  pub cell_beta : (d e : ℕ) → InCell beta L 0 d e → V e ≡ V d
  cell_beta d e here = refl
  cell_beta d e (onward {x = x} {y = y} before step) = step-stays x y step ∙ cell_beta d x before

  pub lies_beta : (d v : ℕ) → LiesAt beta sides d v → V d ≡ v
  lies_beta d v (first s (p, within, eq) at to) =
      let whole : side_of sides p ≡ s = same p s within ∙ eq in
      let n : s.number ≡ p = ap (λ (t : Side). t.number) (sym whole) ∙ number p within in
      ap V at ∙ (ap (λ (m : ℕ). V (S m)) n ∙ (point-side p ∙ (ap (λ (t : Side). t.from) whole ∙ sym to)))
  lies_beta d v (second s k c at to) = absurd (beta≢alpha k)
    where
      is_beta : Kind → Bool
      is_beta alpha = false
      is_beta beta = true

      beta≢alpha : beta ≡ alpha → ⊥
      beta≢alpha e = let f = ap is_beta e in absurd (cc)
