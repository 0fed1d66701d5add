-- A dangling edge of a generalized map is taken out at its first new dart.
use Rattle.std.proofs.Common.{ℕ, zero, suc, ◌≡◌, ◌≢◌, ◌+◌, ◌≤◌, ◌⊎◌, refl, sym, ap, inl, inr, ⊎_elim, ◌∙◌, arith, List, length}
use Rattle.map_defs.specs.Kind.{alpha}
use Rattle.map_defs.specs.Links.{Links, IsMadeUpTo}
use Rattle.map_defs.specs.Laws.{Laws}
use Rattle.map_defs.specs.Cells.{InOrbit, here, onward, InCell}
use Rattle.map_defs.specs.Births.{IsNumbered, IsFresh}
use Rattle.map_defs.specs.Insertion.{IsCarrying, IsLinkedBy, InAlphaCorner}
use Rattle.map_defs.specs.Closing.{IsAlphaDangled}
use Rattle.link_laws.proofs.Basics.{distant_alpha_is}
use Rattle.link_laws.proofs.CellOf.{all_alpha, cell_on, cell_in}
use Rattle.link_laws.proofs.Orbits.{orbit_back, orbit_trans}
use Rattle.insert_laws.proofs.Fresh.{IsNew, InOrNone, fresh_zero}
use Rattle.center_laws.proofs.Hung.{beside, IsHangingSet, star_high, tip_high, closed, beside_closed}
use Rattle.center_laws.proofs.HangingSets.{corner_hangs}
use Rattle.center_laws.proofs.TwoSeries.{series_fresh}
use Rattle.back_laws.proofs.DangleBack.{dangle_removable, dangle_back}
use Rattle.map_laws.proofs.TakenOut.{IsTakenOut, both-taken-out}

module _ (L : Links) (w : Laws alpha L) (d : ℕ) (hd : d ≢ 0) (star tip : ℕ → ℕ) (fresh-star : IsFresh L (InAlphaCorner L d) star) (fresh-tip : IsFresh L (InAlphaCorner L d) tip)
    (two : (x y : ℕ) → InAlphaCorner L d x → InAlphaCorner L d y → star x ≢ tip y) (N : Links) (s : IsAlphaDangled d star tip L N) where
  set : IsHangingSet 1 L (InAlphaCorner L d)
  set = corner_hangs L d hd

  stays : (t x : ℕ) → 2 ≤ t → InAlphaCorner L d x → InOrNone (InAlphaCorner L d) (L (beside t) x)
  stays t x l h = closed 1 L w (InAlphaCorner L d) set star tip fresh-star fresh-tip two N s x (beside t) (inl h)
      (beside_closed 1 L w (InAlphaCorner L d) set star tip fresh-star fresh-tip two N s t l)

  -- the new edge holds its two series of new darts alone
  IsEnd : ℕ → Type 0
  IsEnd z = IsNew (InAlphaCorner L d) star z ⊎ IsNew (InAlphaCorner L d) tip z

  end-on : (j z : ℕ) → j ≢ 1 → IsEnd z → N j z ≢ 0 → IsEnd (N j z)
  unfolding IsEnd
  end-on zero z n (inl (x, h, e)) m = inr (x, h, ap (N 0) e ∙ s.ends x h)
  end-on zero z n (inr (x, h, e)) m = inl (x, h, ap (N 0) e ∙ s.begins x h)
  end-on (suc zero) z n v m = absurd (n refl)
  end-on (suc (suc j)) z n (inl (x, h, e)) m =
      let a : N (suc (suc j)) z ≡ star (L (beside (suc (suc j))) x) =
      ap (N (suc (suc j))) e ∙ star_high 1 L w (InAlphaCorner L d) set star tip fresh-star fresh-tip two N s (suc (suc j)) x (omega arith) (inl h) in
      inl (L (beside (suc (suc j))) x, fresh_zero alpha L w (InAlphaCorner L d) star fresh-star (L (beside (suc (suc j))) x) (stays (suc (suc j)) x (omega arith) h) (λ o. m (a ∙ o)), a)
  end-on (suc (suc j)) z n (inr (x, h, e)) m =
      let a : N (suc (suc j)) z ≡ tip (L (beside (suc (suc j))) x) =
      ap (N (suc (suc j))) e ∙ tip_high 1 L w (InAlphaCorner L d) set star tip fresh-star fresh-tip two N s (suc (suc j)) x (omega arith) (inl h) in
      inr (L (beside (suc (suc j))) x, fresh_zero alpha L w (InAlphaCorner L d) tip fresh-tip (L (beside (suc (suc j))) x) (stays (suc (suc j)) x (omega arith) h) (λ o. m (a ∙ o)), a)

  edge-new : (x y : ℕ) → InAlphaCorner L d x → (IsNew (InAlphaCorner L d) star y ⊎ IsNew (InAlphaCorner L d) tip y → ⊥) → InCell alpha N 1 (star x) y → ⊥
  unfolding IsEnd
  edge-new x y h old c = old (cell_in alpha 1 all_alpha N IsEnd end-on (star x) y (inl (x, h, refl)) c)

  -- and holds them all
  begin-on : (c x j : ℕ) → InAlphaCorner L d x → IsCarrying alpha 1 j → L j x ≢ 0 → InCell alpha N 1 c (star x) → InCell alpha N 1 c (star (L j x))
  begin-on c x j h (inl e) n o =
      let a : N 2 (star x) ≡ star (L j x) = s.beyond x h ∙ ap (λ t. star (L t x)) (sym e) in
      let k : InAlphaCorner L d (L j x) = onward h (j, inl e, refl, n) in
      rw a at (cell_on alpha 1 all_alpha N 2 c (star x) (λ q. omega arith) o (λ q. fresh-star.dart (L j x) k (sym a ∙ q)))
  begin-on c x j h (inr f) n o =
      let l3 : 3 ≤ j = ⊎_elim (λ (p : 1 + 2 ≤ j). omega arith) (λ (p : j + 2 ≤ 1). absurd (omega arith)) (distant_alpha_is 1 j f) in
      let a : N j (star x) ≡ star (L j x) = s.along x j h l3 in
      let k : InAlphaCorner L d (L j x) = onward h (j, inr f, refl, n) in
      rw a at (cell_on alpha 1 all_alpha N j c (star x) (λ q. omega arith) o (λ q. fresh-star.dart (L j x) k (sym a ∙ q)))

  begin-from : (x y : ℕ) → InAlphaCorner L d x → InOrbit (IsLinkedBy L (IsCarrying alpha 1)) x y → InAlphaCorner L d y × InCell alpha N 1 (star x) (star y)
  begin-from x y h here = (h, here)
  begin-from x y h (onward {x = u} {y = v} o (j, a, e, n)) =
      let r : InAlphaCorner L d u × InCell alpha N 1 (star x) (star u) = begin-from x u h o in
      let m : L j u ≢ 0 = λ z. n (sym e ∙ z) in
      (onward r.0 (j, a, e, n), rw (← e) (begin-on (star x) u j r.0 a m r.1))

  linked-back : (x y : ℕ) → x ≢ 0 → IsLinkedBy L (IsCarrying alpha 1) x y → IsLinkedBy L (IsCarrying alpha 1) y x
  linked-back x y hx (j, a, e, n) = (j, a, ap (L j) (sym e) ∙ w.back j x (λ z. n (sym e ∙ z)), hx)

  begin-in : (x y : ℕ) → InAlphaCorner L d x → InAlphaCorner L d y → InCell alpha N 1 (star x) (star y)
  begin-in x y h g = (begin-from x y h
      (orbit_trans (IsLinkedBy L (IsCarrying alpha 1)) x d y (orbit_back (IsLinkedBy L (IsCarrying alpha 1)) (λ a b t. t.3) linked-back d x hd h) g)).1

  end-in : (x y : ℕ) → InAlphaCorner L d x → InAlphaCorner L d y → InCell alpha N 1 (star x) (tip y)
  end-in x y h g =
      let a : N 0 (star y) ≡ tip y = s.ends y g in
      rw a at (cell_on alpha 1 all_alpha N 0 (star x) (star y) (λ o. omega arith) (begin-in x y h g) (λ o. fresh-tip.dart y g (sym a ∙ o)))

pub alpha-dangle-out : (L : Links) → Laws alpha L → (d : ℕ) → d ≢ 0 → (keys : List ℕ) (made : ℕ) (star tip : ℕ → ℕ) → IsMadeUpTo made L → (N : Links)
    → IsNumbered (InAlphaCorner L d) keys made star → IsNumbered (InAlphaCorner L d) keys (made + length keys) tip
    → ((x : ℕ) → InAlphaCorner L d x → x ≤ made) → IsAlphaDangled d star tip L N
    → IsTakenOut alpha 1 (made + 1) made (length keys + length keys) L N
alpha-dangle-out L w d hd keys made star tip bound N first second low s =
    let both = series_fresh (InAlphaCorner L d) keys made star tip first second L low bound in
    both-taken-out (InAlphaCorner L d) keys made star first d here tip second alpha 1 L N
    (λ x h. dangle_removable L w d hd star tip both.0 both.1 both.2 N s x h)
    (λ x h M r. dangle_back L w d hd star tip both.0 both.1 both.2 N s x h M r)
    (edge-new L w d hd star tip both.0 both.1 both.2 N s)
    (begin-in L w d hd star tip both.0 both.1 both.2 N s)
    (end-in L w d hd star tip both.0 both.1 both.2 N s)
