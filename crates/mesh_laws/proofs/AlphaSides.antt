-- Sewn sides as a generalized map: its links side by side, and the points of its darts.
use Rattle.std.proofs.Common.{◌≡◌, ◌≢◌, ℕ, zero, suc, ◌+◌, ◌-◌, ◌*◌, ◌/◌, ◌%◌, ◌<◌, ◌==◌, true, false, List, length, get_or, Option, refl, sym, ap, subst, ◌∙◌, ◌⊎◌, inl, inr, arith}
use Rattle.std.specs.Prelude.{All}
use Rattle.std.specs.List.{AllPairs}
use Rattle.std.proofs.lemmas.List.{get_or_default}
use Rattle.map_defs.specs.Kind.{alpha}
use Rattle.map_defs.specs.Links.{Links, HasDimension}
use Rattle.map_defs.specs.LinkWords.{LinkWord, one_link, through, inverse_word, IsCellWord}
use Rattle.map_defs.specs.Cells.{here, onward, Leads, InCell}
use Rattle.map_defs.specs.MeshMap.{Side, start, finish, has_ends, AreJoined, AreAlong, AreSewn, IsBorder, AreMeshLinks, LiesAt, first, second}
use Rattle.mesh_laws.specs.Sides.{no_side, side_of, IsSewn}
use Rattle.mesh_laws.specs.SideLinks.{mesh_links, point_of}
use Rattle.mesh_laws.proofs.SideFacts.{same-way, other-way, at-first, at-second, nil_alpha, darts, flat_alpha, across}

module _ (sides : List Side) (partners : List (Option ℕ)) (sewn : IsSewn false sides partners) (L : Links) (is : (i d : ℕ) → L i d ≡ mesh_links alpha sides partners i d) where
  abbrev S : ℕ → ℕ
  S s = start alpha s

  abbrev T : ℕ → ℕ
  T s = finish s

  number : (p : ℕ) → p < length sides → (side_of sides p).number ≡ p
  number p h = (sewn.ring p h).number

  same : (p : ℕ) (z : Side) → p < length sides → side_of sides p ≡ get_or sides p z
  same p z h = get_or_default sides p no_side z h

  along : All (AreAlong alpha L) sides
  along p z h =
      subst (AreAlong alpha L) (same p z h)
      (subst (λ (n : ℕ). (L 0 (S n) ≡ T n) × (L 0 (T n) ≡ S n) × (L 1 (S n) ≡ T (side_of sides p).previous) × (L 1 (T n) ≡ S (side_of sides p).next)) (sym (number p h))
      (at-first sides partners sewn L is 0 p h, at-second sides partners sewn L is 0 p h, at-first sides partners sewn L is 1 p h, at-second sides partners sewn L is 1 p h))

  -- two sides are sewn, by the numbers of their darts
  abbrev Sewn : ℕ → ℕ → ℕ → ℕ → Type 0
  Sewn i j m n =
      (((side_of sides i).from ≡ (side_of sides j).from) × AreJoined L (S m) (S n) × AreJoined L (T m) (T n))
      ⊎ (((side_of sides i).from ≢ (side_of sides j).from) × AreJoined L (S m) (T n) × AreJoined L (T m) (S n))

  joined : (i j : ℕ) → i < j → j < length sides → has_ends (side_of sides i) (side_of sides j) ≡ true → AreSewn alpha L (side_of sides i) (side_of sides j)
  joined i j lt h e = elim (across sides partners sewn L is i (omega arith)) [
    | inl none ↦ let f = none.2 j h e in absurd (omega arith)
    | inr (t, pair, meets) ↦ elim (pair.only j h e) [
      | inl f ↦ absurd (omega arith)
      | inr at ↦
          let m : Sewn i j i j = subst (λ (u : ℕ). Sewn i u i u) (sym at) meets in
          subst (λ (m : ℕ). Sewn i j m (side_of sides j).number) (sym (number i (omega arith))) (subst (λ (n : ℕ). Sewn i j i n) (sym (number j h)) m)
    ]
  ]

  sewn_pairs : AllPairs (λ (s t : Side). has_ends s t ≡ true → AreSewn alpha L s t) sides
  sewn_pairs i j z lt h =
      subst (λ (s : Side). has_ends s (get_or sides j z) ≡ true → AreSewn alpha L s (get_or sides j z)) (same i z (omega arith))
      (subst (λ (t : Side). has_ends (side_of sides i) t ≡ true → AreSewn alpha L (side_of sides i) t) (same j z h) (joined i j lt h))

  lone : (p : ℕ) → p < length sides → All (λ (t : Side). has_ends (side_of sides p) t ≡ true → side_of sides p ≡ t) sides → IsBorder alpha L (side_of sides p)
  lone p h alone = elim (across sides partners sewn L is p h) [
    | inl none ↦ subst (λ (n : ℕ). (L 2 (S n) ≡ 0) × (L 2 (T n) ≡ 0)) (sym (number p h)) (none.0, none.1)
    | inr (t, pair, meets) ↦
        let e = alone t no_side pair.within pair.ends in
        absurd (pair.apart (sym (number t pair.within) ∙ (ap (λ (s : Side). s.number) (sym e) ∙ number p h)))
  ]

  border : All (λ (s : Side). All (λ (t : Side). has_ends s t ≡ true → s ≡ t) sides → IsBorder alpha L s) sides
  border p z h = subst (λ (s : Side). All (λ (t : Side). has_ends s t ≡ true → s ≡ t) sides → IsBorder alpha L s) (same p z h) (lone p h)

  flat : HasDimension 2 L
  flat zero d h = absurd (omega arith)
  flat (suc zero) d h = absurd (omega arith)
  flat (suc (suc zero)) d h = absurd (omega arith)
  flat (suc (suc (suc i))) d h = flat_alpha sides partners sewn L is i d

  pub links_alpha : AreMeshLinks alpha sides L
  links_alpha = record { along = along; sewn = sewn_pairs; border = border; flat = flat }

  -- the points of the two darts of a side
  pub point-first : (s : ℕ) → point_of alpha sides (S s) ≡ (side_of sides s).from
  point-first s =
      let odd : (2 * s + 1) % 2 == 1 ≡ true = grind arith in
      let half : (2 * s + 1 - 1) / 2 ≡ s = omega arith in
      rw (odd, half) refl

  pub point-second : (s : ℕ) → point_of alpha sides (T s) ≡ (side_of sides s).to
  point-second s =
      let even : (2 * s + 2) % 2 == 1 ≡ false = grind arith in
      let half : (2 * s + 2 - 1) / 2 ≡ s = omega arith in
      rw (even, half) refl

  abbrev V : ℕ → ℕ
  V d = point_of alpha sides d

  one-first : (s : ℕ) → s < length sides → V (L 1 (S s)) ≡ V (S s)
  one-first s h =
      let r = sewn.ring s h in
      let p : ℕ = (side_of sides s).previous in
      ap V (at-first sides partners sewn L is 1 s h)
      ∙ (point-second p ∙ (sym (sewn.ring p r.previous).meets ∙ (ap (λ (n : ℕ). (side_of sides n).from) r.back ∙ sym (point-first s))))

  one-second : (s : ℕ) → s < length sides → V (L 1 (T s)) ≡ V (T s)
  one-second s h =
      let r = sewn.ring s h in
      ap V (at-second sides partners sewn L is 1 s h) ∙ (point-first (side_of sides s).next ∙ (r.meets ∙ sym (point-second s)))

  two-first : (s : ℕ) → s < length sides → L 2 (S s) ≢ 0 → V (L 2 (S s)) ≡ V (S s)
  two-first s h some = elim (across sides partners sewn L is s h) [
    | inl none ↦ absurd (some none.0)
    | inr (t, pair, inl meets) ↦ ap V meets.1.0 ∙ (point-first t ∙ (sym meets.0 ∙ sym (point-first s)))
    | inr (t, pair, inr meets) ↦
        let way = other-way (side_of sides s) (side_of sides t) pair.ends meets.0 in
        ap V meets.1.0 ∙ (point-second t ∙ (sym way.0 ∙ sym (point-first s)))
  ]

  two-second : (s : ℕ) → s < length sides → L 2 (T s) ≢ 0 → V (L 2 (T s)) ≡ V (T s)
  two-second s h some = elim (across sides partners sewn L is s h) [
    | inl none ↦ absurd (some none.1)
    | inr (t, pair, inl meets) ↦ ap V meets.2.0 ∙ (point-second t ∙ (sym (same-way (side_of sides s) (side_of sides t) pair.ends meets.0) ∙ sym (point-second s)))
    | inr (t, pair, inr meets) ↦
        let way = other-way (side_of sides s) (side_of sides t) pair.ends meets.0 in
        ap V meets.2.0 ∙ (point-first t ∙ (sym way.1 ∙ sym (point-second s)))
  ]

  -- a link from 1 upwards leads to a dart at the same point
  stays : (j x : ℕ) → j ≢ 0 → L j x ≢ 0 → V (L j x) ≡ V x
  stays zero x up some = absurd (up refl)
  stays (suc zero) x up some = elim (darts sides partners sewn L is x) [
    | inl outside ↦ absurd (some (nil_alpha sides partners sewn L is 1 x outside))
    | inr (s, h, inl at) ↦ subst (λ (d : ℕ). V (L 1 d) ≡ V d) (sym at) (one-first s h)
    | inr (s, h, inr at) ↦ subst (λ (d : ℕ). V (L 1 d) ≡ V d) (sym at) (one-second s h)
  ]
  stays (suc (suc zero)) x up some = elim (darts sides partners sewn L is x) [
    | inl outside ↦ absurd (some (nil_alpha sides partners sewn L is 2 x outside))
    | inr (s, h, inl at) ↦ ap (λ (d : ℕ). V (L 2 d)) at ∙ (two-first s h (λ e. some (ap (L 2) at ∙ e)) ∙ ap V (sym at))
    | inr (s, h, inr at) ↦ ap (λ (d : ℕ). V (L 2 d)) at ∙ (two-second s h (λ e. some (ap (L 2) at ∙ e)) ∙ ap V (sym at))
  ]
  stays (suc (suc (suc j))) x up some = absurd (some (flat_alpha sides partners sewn L is j x))

  step-stays : (x y : ℕ) → Leads L (IsCellWord alpha 0) x y → V y ≡ V x
  step-stays x y (w, inl (j, up, along), leads, some) =
      let to : L j x ≡ y = ap (λ (w : LinkWord). through L w x) (sym along) ∙ leads in
      ap V (sym to) ∙ stays j x up (λ e. some (sym to ∙ e))
  step-stays x y (w, inr (v, (j, up, along), turned), leads, some) =
      let one : w ≡ one_link j = turned ∙ ap (inverse_word alpha) along in
      let to : L j x ≡ y = ap (λ (w : LinkWord). through L w x) (sym one) ∙ leads in
      ap V (sym to) ∙ stays j x up (λ e. some (sym to ∙ e))

  -- all darts of a 0-cell lie at one point
  pub cell_alpha : (d e : ℕ) → InCell alpha L 0 d e → V e ≡ V d
  cell_alpha d e here = refl
  cell_alpha d e (onward {x = x} {y = y} before step) = step-stays x y step ∙ cell_alpha d x before

  pub lies_alpha : (d v : ℕ) → LiesAt alpha sides d v → V d ≡ v
  lies_alpha d v (first s (p, within, eq) at to) =
      let whole : side_of sides p ≡ s = same p s within ∙ eq in
      let n : s.number ≡ p = ap (λ (t : Side). t.number) (sym whole) ∙ number p within in
      ap V at ∙ (ap (λ (m : ℕ). V (S m)) n ∙ (point-first p ∙ (ap (λ (t : Side). t.from) whole ∙ sym to)))
  lies_alpha d v (second s k (p, within, eq) at to) =
      let whole : side_of sides p ≡ s = same p s within ∙ eq in
      let n : s.number ≡ p = ap (λ (t : Side). t.number) (sym whole) ∙ number p within in
      ap V at ∙ (ap (λ (m : ℕ). V (T m)) n ∙ (point-second p ∙ (ap (λ (t : Side). t.to) whole ∙ sym to)))
