-- The way round from a dart holds its 2-cell, where links from 3 upwards are free: the cell's darts are those on the way, and
-- in a generalized map their ends at link 0.
use Rattle.std.proofs.Common.{◌≡◌, ◌≢◌, inl, inr, ℕ, zero, suc, ◌+◌, ◌-◌, ◌<◌, List, length, slice_index, refl, sym, ap, ◌∙◌, arith}
use Rattle.std.proofs.lemmas.Bool.{cases_lt}
use Rattle.map_defs.specs.Kind.{Kind, alpha, beta}
use Rattle.map_defs.specs.Links.{Links, HasDimension}
use Rattle.map_defs.specs.Laws.{Laws}
use Rattle.map_defs.specs.Polygon.{next_side, previous_side}
use Rattle.map_defs.specs.Cells.{InCell, here}
use Rattle.map_defs.specs.OffOfMap.{next_round, IsRound}
use Rattle.link_laws.proofs.CellFacts.{alpha_closed, beta_closed}
use Rattle.link_laws.proofs.CellOf.{cell_in, all_alpha, all_beta}
use Rattle.off_laws.specs.SideDarts.{IsOfSide}
use Rattle.off_laws.proofs.RoundsOne.{next-within, previous-within, round-first, round-long, round-next, round-suc, round-back, round-all, round-dart}

-- the way goes on in the 2-cell
pub cell-next : (k : Kind) (L : Links) → Laws k L → (d x : ℕ) → InCell k L 2 d x → next_round k L x ≢ 0 → InCell k L 2 d (next_round k L x)
cell-next alpha L w d x own some =
    alpha_closed L 2 1 d (L 0 x) (omega arith) (alpha_closed L 2 0 d x (omega arith) own (λ none. some (ap (L 1) none ∙ w.nil 1))) some
cell-next beta L w d x own some = beta_closed L 0 1 d x (omega arith) own some

-- each dart of the way from d lies in the 2-cell of d
pub round-cell : (k : Kind) (L : Links) (w : Laws k L) (d : ℕ) → d ≢ 0 → (darts : List ℕ) → IsRound k L d darts → (j : ℕ) → j < length darts → InCell k L 2 d (slice_index darts j)
round-cell k L w d dart darts round j low = round-all k L w d dart darts round (InCell k L 2 d) here (cell-next k L w d) j low

-- x is a dart of a side that one of these stands for
abbrev pub IsOnWay : Kind → Links → List ℕ → ℕ → Type 0
IsOnWay k L darts x = (j : ℕ) × (j < length darts) × IsOfSide k L darts j x

-- each dart of the 2-cell of d is one of the way, or its end
pub round-holds : (k : Kind) (L : Links) (w : Laws k L) → HasDimension 2 L → (d : ℕ) → d ≢ 0 → (darts : List ℕ) → IsRound k L d darts → (x : ℕ) → InCell k L 2 d x → IsOnWay k L darts x
round-holds alpha L w flat d dart darts round x own =
    cell_in alpha 2 all_alpha L (IsOnWay alpha L darts) on d x (0, round-long alpha L w d dart darts round, inl (round-first alpha L w d dart darts round)) own
  where
    on : (t y : ℕ) → t ≢ 2 → IsOnWay alpha L darts y → L t y ≢ 0 → IsOnWay alpha L darts (L t y)
    on zero y apart (j, low, inl is) some = (j, low, inr (ap (L 0) is))
    on zero y apart (j, low, inr is) some =
        (j, low, inl (sym (ap (L 0) (sym is) ∙ w.back 0 (slice_index darts j) (λ none. some (ap (L 0) (sym is ∙ none) ∙ w.nil 0)))))
    on (suc zero) y apart (j, low, inl is) some =
        let before : ℕ = previous_side (length darts) j in
        let back : L 1 (L 0 (slice_index darts before)) ≡ slice_index darts j = round-back alpha L w d dart darts round j low in
        let dart_j = round-dart alpha L w d dart darts round j low in
        let turned : L 1 (slice_index darts j) ≡ L 0 (slice_index darts before) =
        ap (L 1) (sym back) ∙ w.back 1 (L 0 (slice_index darts before)) (λ none. dart_j (sym back ∙ none)) in
        (before, previous-within (length darts) j low, inr (sym turned ∙ ap (L 1) is))
    on (suc zero) y apart (j, low, inr is) some =
        (next_side (length darts) j, next-within (length darts) j low, inl (sym (ap (L 1) (sym is) ∙ round-next alpha L w d dart darts round j low)))
    on (suc (suc zero)) y apart has some = absurd (apart refl)
    on (suc (suc (suc t))) y apart has some = absurd (some (flat (suc (suc (suc t))) y (omega arith)))
round-holds beta L w flat d dart darts round x own =
    cell_in beta 2 all_beta L (IsOnWay beta L darts) on d x (0, round-long beta L w d dart darts round, round-first beta L w d dart darts round) own
  where
    on : (t y : ℕ) → t ≢ 2 → IsOnWay beta L darts y → L t y ≢ 0 → IsOnWay beta L darts (L t y)
    on zero y apart (j, low, is) some =
        let before : ℕ = previous_side (length darts) j in
        let back : L 1 (slice_index darts before) ≡ slice_index darts j = round-back beta L w d dart darts round j low in
        let dart_j = round-dart beta L w d dart darts round j low in
        let turned : L 0 (slice_index darts j) ≡ slice_index darts before =
        ap (L 0) (sym back) ∙ w.back 1 (slice_index darts before) (λ none. dart_j (sym back ∙ none)) in
        (before, previous-within (length darts) j low, sym turned ∙ ap (L 0) is)
    on (suc zero) y apart (j, low, is) some =
        (next_side (length darts) j, next-within (length darts) j low, sym (ap (L 1) (sym is) ∙ round-next beta L w d dart darts round j low))
    on (suc (suc zero)) y apart has some = absurd (apart refl)
    on (suc (suc (suc t))) y apart has some = absurd (some (flat (suc (suc (suc t))) y (omega arith)))

-- In a generalized map no dart of the way is the end of another: going from both towards the middle, some dart would be its own
-- end at link 0 or at link 1.
module _ (L : Links) (w : Laws alpha L) (d : ℕ) (dart : d ≢ 0) (darts : List ℕ) (round : IsRound alpha L d darts) where
  abbrev At : ℕ → ℕ
  At j = slice_index darts j

  some-dart : (j : ℕ) → j < length darts → At j ≢ 0
  some-dart j low = round-dart alpha L w d dart darts round j low

  step : (j : ℕ) → suc j < length darts → L 1 (L 0 (At j)) ≡ At (suc j)
  step j low = round-suc alpha L w d dart darts round j low

  later-other : (m i : ℕ) → i + m < length darts → At (i + m) ≢ L 0 (At i)
  later-other zero i low same =
      let none : i + 0 ≡ i = omega arith in
      w.apart 0 (At i) refl (some-dart i (omega arith)) (sym (ap At (sym none) ∙ same))
  later-other (suc zero) i low same =
      let one : i + 1 ≡ suc i = omega arith in
      let on : At (suc i) ≡ L 0 (At i) = ap At (sym one) ∙ same in
      w.apart 1 (L 0 (At i)) refl (λ none. some-dart (suc i) (omega arith) (on ∙ none)) (step i (omega arith) ∙ on)
  later-other (suc (suc m)) i low same =
      let more : i + suc (suc m) ≡ suc (suc i + m) = omega arith in
      let next : suc i + m ≡ suc (i + m) = omega arith in
      let lead : L 1 (L 0 (At (suc i + m))) ≡ L 0 (At i) = step (suc i + m) (omega arith) ∙ (ap At (sym more) ∙ same) in
      let some : L 1 (L 0 (At (suc i + m))) ≢ 0 = λ none. some-dart (suc (suc i + m)) (omega arith) (sym (step (suc i + m) (omega arith)) ∙ none) in
      let back : L 0 (At (suc i + m)) ≡ At (suc i) = sym (w.back 1 (L 0 (At (suc i + m))) some) ∙ (ap (L 1) lead ∙ step i (omega arith)) in
      later-other m (suc i) (omega arith)
      (sym (w.back 0 (At (suc i + m)) (λ none. some-dart (suc i) (omega arith) (sym back ∙ none))) ∙ ap (L 0) back)

  pub round-other : (i j : ℕ) → i < length darts → j < length darts → At i ≢ L 0 (At j)
  round-other i j low below same = elim (cases_lt i j) [
    | inl less ↦
        let m : ℕ = j - i in
        let at : i + m ≡ j = omega arith in
        let turned : L 0 (At i) ≡ At j = ap (L 0) same ∙ w.back 0 (At j) (λ none. some-dart i low (same ∙ none)) in
        later-other m i (omega arith) (ap At at ∙ sym turned)
    | inr more ↦
        let m : ℕ = i - j in
        let at : j + m ≡ i = omega arith in
        later-other m j (omega arith) (ap At at ∙ same)
  ]
