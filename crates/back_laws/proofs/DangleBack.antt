-- Removal at a new dart of a dangling edge in a generalized map is possible and gives all links back.
use Rattle.std.proofs.Common.{ℕ, zero, suc, ◌≡◌, ◌≢◌, ◌+◌, ◌≤◌, ◌⊎◌, refl, sym, ap, inl, inr, ⊎_elim, ◌∙◌, arith}
use Rattle.map_defs.specs.Kind.{alpha}
use Rattle.map_defs.specs.Links.{Links}
use Rattle.map_defs.specs.Laws.{Laws}
use Rattle.map_defs.specs.Cells.{InOrbit, here, onward, InCell}
use Rattle.map_defs.specs.Births.{IsFresh}
use Rattle.map_defs.specs.Walks.{Walk, stop, go, step}
use Rattle.map_defs.specs.Removal.{CommutesAt, across_removed, Lands, IsRemovable, IsRemoved}
use Rattle.map_defs.specs.Insertion.{IsCarrying, IsLinkedBy, InAlphaCorner}
use Rattle.map_defs.specs.Closing.{IsAlphaDangled}
use Rattle.link_laws.proofs.Basics.{by_cases, same_or_not, distant_alpha, distant_alpha_is}
use Rattle.link_laws.proofs.Orbits.{orbit_back, orbit_trans}
use Rattle.remove_laws.proofs.TotalSteps.{step_free, step_there}
use Rattle.insert_laws.proofs.Fresh.{IsNew, InOrNone, fresh_link, fresh_old, fresh_zero}
use Rattle.center_laws.proofs.Hung.{beside, IsHangingSet, star_high, tip_high, closed, beside_closed}
use Rattle.center_laws.proofs.HangingSets.{corner_hangs}
use Rattle.link_laws.proofs.CellOf.{all_alpha, cell_on, cell_in}
use Rattle.back_laws.proofs.Taken.{steps_commute}

module _ (L : Links) (w : Laws alpha L) (d : ℕ) (hd : d ≢ 0) (star tip : ℕ → ℕ) (fresh_star : IsFresh L (InAlphaCorner L d) star) (fresh_tip : IsFresh L (InAlphaCorner L d) tip) (two : (x y : ℕ) → InAlphaCorner L d x → InAlphaCorner L d y → star x ≢ tip y) (N : Links) (s : IsAlphaDangled d star tip L N) where
  set : IsHangingSet 1 L (InAlphaCorner L d)
  set = corner_hangs L d hd

  begin_high : (t x : ℕ) → 2 ≤ t → InOrNone (InAlphaCorner L d) x → N t (star x) ≡ star (L (beside t) x)
  begin_high = star_high 1 L w (InAlphaCorner L d) set star tip fresh_star fresh_tip two N s

  end_high : (t x : ℕ) → 2 ≤ t → InOrNone (InAlphaCorner L d) x → N t (tip x) ≡ tip (L (beside t) x)
  end_high = tip_high 1 L w (InAlphaCorner L d) set star tip fresh_star fresh_tip two N s

  stays : (t x : ℕ) → 2 ≤ t → InAlphaCorner L d x → InOrNone (InAlphaCorner L d) (L (beside t) x)
  stays t x l h = closed 1 L w (InAlphaCorner L d) set star tip fresh_star fresh_tip two N s x (beside t) (inl h) (beside_closed 1 L w (InAlphaCorner L d) set star tip fresh_star fresh_tip two N s t l)

  -- the new edge holds its two series of new darts alone
  IsEnd : ℕ → Type 0
  IsEnd z = IsNew (InAlphaCorner L d) star z ⊎ IsNew (InAlphaCorner L d) tip z

  end_on : (j z : ℕ) → j ≢ 1 → IsEnd z → N j z ≢ 0 → IsEnd (N j z)
  unfolding IsEnd
  end_on zero z n (inl (x, h, e)) m = inr (x, h, ap (N 0) e ∙ s.ends x h)
  end_on zero z n (inr (x, h, e)) m = inl (x, h, ap (N 0) e ∙ s.begins x h)
  end_on (suc zero) z n v m = absurd (n refl)
  end_on (suc (suc j)) z n (inl (x, h, e)) m =
      let a : N (suc (suc j)) z ≡ star (L (beside (suc (suc j))) x) = ap (N (suc (suc j))) e ∙ begin_high (suc (suc j)) x (omega arith) (inl h) in
      inl (L (beside (suc (suc j))) x, fresh_zero alpha L w (InAlphaCorner L d) star fresh_star (L (beside (suc (suc j))) x) (stays (suc (suc j)) x (omega arith) h) (λ o. m (a ∙ o)), a)
  end_on (suc (suc j)) z n (inr (x, h, e)) m =
      let a : N (suc (suc j)) z ≡ tip (L (beside (suc (suc j))) x) = ap (N (suc (suc j))) e ∙ end_high (suc (suc j)) x (omega arith) (inl h) in
      inr (L (beside (suc (suc j))) x, fresh_zero alpha L w (InAlphaCorner L d) tip fresh_tip (L (beside (suc (suc j))) x) (stays (suc (suc j)) x (omega arith) h) (λ o. m (a ∙ o)), a)

  module _ (x0 : ℕ) (h0 : InAlphaCorner L d x0) where
    edge_new : (x : ℕ) → InCell alpha N 1 (star x0) x → IsEnd x
    unfolding IsEnd
    edge_new x c = cell_in alpha 1 all_alpha N IsEnd end_on (star x0) x (inl (x0, h0, refl)) c

    outside : (x : ℕ) → (IsEnd x → ⊥) → InCell alpha N 1 (star x0) x → ⊥
    outside x n c = n (edge_new x c)

    -- and holds them all
    begin_on : (x j : ℕ) → InAlphaCorner L d x → IsCarrying alpha 1 j → L j x ≢ 0 → InCell alpha N 1 (star x0) (star x) → InCell alpha N 1 (star x0) (star (L j x))
    begin_on x j h (inl e) n c =
        let a : N 2 (star x) ≡ star (L j x) = s.beyond x h ∙ ap (λ t. star (L t x)) (sym e) in
        let k : InAlphaCorner L d (L j x) = onward h (j, inl e, refl, n) in
        rw a at (cell_on alpha 1 all_alpha N 2 (star x0) (star x) (λ o. omega arith) c (λ o. fresh_star.dart (L j x) k (sym a ∙ o)))
    begin_on x j h (inr f) n c =
        let l3 : 3 ≤ j = ⊎_elim (λ (p : 1 + 2 ≤ j). omega arith) (λ (p : j + 2 ≤ 1). absurd (omega arith)) (distant_alpha_is 1 j f) in
        let a : N j (star x) ≡ star (L j x) = s.along x j h l3 in
        let k : InAlphaCorner L d (L j x) = onward h (j, inr f, refl, n) in
        rw a at (cell_on alpha 1 all_alpha N j (star x0) (star x) (λ o. omega arith) c (λ o. fresh_star.dart (L j x) k (sym a ∙ o)))

    begin_from : (x : ℕ) → InOrbit (IsLinkedBy L (IsCarrying alpha 1)) x0 x → InAlphaCorner L d x × InCell alpha N 1 (star x0) (star x)
    begin_from x here = (h0, here)
    begin_from x (onward {x = u} {y = v} o (j, a, e, n)) =
        let r : InAlphaCorner L d u × InCell alpha N 1 (star x0) (star u) = begin_from u o in
        let m : L j u ≢ 0 = λ z. n (sym e ∙ z) in
        (onward r.0 (j, a, e, n), rw (← e) (begin_on u j r.0 a m r.1))

    linked_back : (x y : ℕ) → x ≢ 0 → IsLinkedBy L (IsCarrying alpha 1) x y → IsLinkedBy L (IsCarrying alpha 1) y x
    linked_back x y hx (j, a, e, n) = (j, a, ap (L j) (sym e) ∙ w.back j x (λ z. n (sym e ∙ z)), hx)

    begin_in : (x : ℕ) → InAlphaCorner L d x → InCell alpha N 1 (star x0) (star x)
    begin_in x h = (begin_from x (orbit_trans (IsLinkedBy L (IsCarrying alpha 1)) x0 d x (orbit_back (IsLinkedBy L (IsCarrying alpha 1)) (λ a b g. g.3) linked_back d x0 hd h0) h)).1

    end_in : (x : ℕ) → InAlphaCorner L d x → InCell alpha N 1 (star x0) (tip x)
    end_in x h = let a : N 0 (star x) ≡ tip x = s.ends x h in
        rw a at (cell_on alpha 1 all_alpha N 0 (star x0) (star x) (λ o. omega arith) (begin_in x h) (λ o. fresh_tip.dart x h (sym a ∙ o)))

    -- a step from a new dart is a step from the dart that it is made of
    step_of : (f : ℕ → ℕ) → IsFresh L (InAlphaCorner L d) f → (t u x : ℕ) → InAlphaCorner L d x → (L u x ≢ 0 → InAlphaCorner L d (L u x)) → N t (f x) ≡ f (L u x) → step N t (f x) ≡ f (step L u x)
    step_of f fresh t u x h to e = ⊎_elim
        (λ (z : L u x ≡ 0).
        let a : step L u x ≡ x = step_free L u x z in
        let c : step N t (f x) ≡ f x = step_free N t (f x) (e ∙ (ap f z ∙ fresh.nothing)) in cc)
        (λ (n : L u x ≢ 0).
        let a : step L u x ≡ L u x = step_there L u x n in
        let c : step N t (f x) ≡ N t (f x) = step_there N t (f x) (λ o. fresh.dart (L u x) (to n) (sym e ∙ o)) in cc)
        (same_or_not (L u x) 0)

    to_one : (x : ℕ) → InAlphaCorner L d x → L 1 x ≢ 0 → InAlphaCorner L d (L 1 x)
    to_one x h n = set.on x 1 h (inl refl) n

    to_three : (x : ℕ) → InAlphaCorner L d x → L 3 x ≢ 0 → InAlphaCorner L d (L 3 x)
    to_three x h n = set.on x 3 h (inr (inl (omega arith))) n

    step_in : (u x : ℕ) → InAlphaCorner L d x → (L u x ≢ 0 → InAlphaCorner L d (L u x)) → InAlphaCorner L d (step L u x)
    step_in u x h to = ⊎_elim (λ (z : L u x ≡ 0). rw (step_free L u x z) h) (λ (n : L u x ≢ 0). rw (step_there L u x n) (to n)) (same_or_not (L u x) 0)

    commutes_of : (f : ℕ → ℕ) → IsFresh L (InAlphaCorner L d) f → ((x : ℕ) → InAlphaCorner L d x → N 2 (f x) ≡ f (L 1 x)) → ((x : ℕ) → InAlphaCorner L d x → N 3 (f x) ≡ f (L 3 x)) → (x : ℕ) → InAlphaCorner L d x → CommutesAt N 2 3 (f x)
    commutes_of f fresh two_is three_is x h =
        let a : step N 3 (f x) ≡ f (step L 3 x) = step_of f fresh 3 3 x h (to_three x h) (three_is x h) in
        let b : step N 2 (f x) ≡ f (step L 1 x) = step_of f fresh 2 1 x h (to_one x h) (two_is x h) in
        let h3 : InAlphaCorner L d (step L 3 x) = step_in 3 x h (to_three x h) in
        let h1 : InAlphaCorner L d (step L 1 x) = step_in 1 x h (to_one x h) in
        let c : step N 2 (f (step L 3 x)) ≡ f (step L 1 (step L 3 x)) = step_of f fresh 2 1 (step L 3 x) h3 (to_one (step L 3 x) h3) (two_is (step L 3 x) h3) in
        let e : step N 3 (f (step L 1 x)) ≡ f (step L 3 (step L 1 x)) = step_of f fresh 3 3 (step L 1 x) h1 (to_three (step L 1 x) h1) (three_is (step L 1 x) h1) in
        let g : step L 1 (step L 3 x) ≡ step L 3 (step L 1 x) = steps_commute alpha L w 1 3 x refl refl (distant_alpha 1 3 (inl (omega arith))) in cc

    each : (x : ℕ) → IsEnd x → CommutesAt N 2 3 x
    unfolding IsEnd
    each x (inl (y, h, e)) = rw e (commutes_of star fresh_star s.beyond (λ z k. s.along z 3 k (omega arith)) y h)
    each x (inr (y, h, e)) = rw e (commutes_of tip fresh_tip s.beyond_tip (λ z k. s.along_tip z 3 k (omega arith)) y h)

    pub dangle_removable : IsRemovable alpha N 1 (star x0)
    dangle_removable = record { each = λ b c. each b (edge_new b c); apart = tt }

    old_link : (t z : ℕ) → IsEnd (L t z) → ⊥
    unfolding IsEnd
    old_link t z (inl v) = fresh_link alpha L w (InAlphaCorner L d) star fresh_star t z v
    old_link t z (inr v) = fresh_link alpha L w (InAlphaCorner L d) tip fresh_tip t z v

    old_in : (z : ℕ) → InAlphaCorner L d z → IsEnd z → ⊥
    unfolding IsEnd
    old_in z h (inl v) = fresh_old alpha L w (InAlphaCorner L d) star fresh_star z h v
    old_in z h (inr v) = fresh_old alpha L w (InAlphaCorner L d) tip fresh_tip z h v

    kept : (t z : ℕ) → (IsEnd z → ⊥) → (InAlphaCorner L d z → t ≢ 1) → N t z ≡ L t z
    unfolding IsEnd
    kept t z n f = s.kept z t f (λ y h e. n (inl (y, h, e))) (λ y h e. n (inr (y, h, e)))

    walk_in : (x : ℕ) → InAlphaCorner L d x → Walk (InCell alpha N 1 (star x0)) (across_removed alpha N 1) (N 1 x) (step L 1 x)
    walk_in x h =
        let z : ℕ = step L 1 x in
        let hz : InAlphaCorner L d z = step_in 1 x h (to_one x h) in
        let a : step N 2 (star x) ≡ star z = step_of star fresh_star 2 1 x h (to_one x h) (s.beyond x h) in
        let b : N 1 (star z) ≡ z = s.old z hz in
        let c : step N 1 (star z) ≡ N 1 (star z) = step_there N 1 (star z) (λ o. set.dart z hz (sym b ∙ o)) in
        let e : step N 1 (step N 2 (star x)) ≡ z = cc in
        let t : Walk (InCell alpha N 1 (star x0)) (across_removed alpha N 1) z z = stop (outside z (old_in z hz)) in
        let u : Walk (InCell alpha N 1 (star x0)) (across_removed alpha N 1) (step N 1 (step N 2 (star x))) z = rw e t in
        rw (s.new x h) (go (begin_in x h) u)

    walk_out : (x : ℕ) → (IsEnd x → ⊥) → (InAlphaCorner L d x → ⊥) → Walk (InCell alpha N 1 (star x0)) (across_removed alpha N 1) (N 1 x) (L 1 x)
    walk_out x n m =
        let t : Walk (InCell alpha N 1 (star x0)) (across_removed alpha N 1) (L 1 x) (L 1 x) = stop (outside (L 1 x) (old_link 1 x)) in
        rw (kept 1 x n (λ h. absurd (m h))) t

    module _ (M : Links) (r : IsRemoved alpha 1 (star x0) N M) where
      one_back : (x : ℕ) → (IsEnd x → ⊥) → M 1 x ≡ L 1 x
      one_back x n = by_cases (InAlphaCorner L d x) (M 1 x) (L 1 x)
          (λ h. let p : Lands alpha x (step L 1 x) (M 1 x) = r.lands x (step L 1 x) (outside x n) (walk_in x h) in
          ⊎_elim
          (λ (z : L 1 x ≡ 0). p.1 (step_free L 1 x z) ∙ sym z)
          (λ (m : L 1 x ≢ 0). let a : step L 1 x ≡ L 1 x = step_there L 1 x m in p.0 (λ e. w.apart 1 x refl (set.dart x h) (sym a ∙ e)) ∙ a)
          (same_or_not (L 1 x) 0))
          (λ h. let p : Lands alpha x (L 1 x) (M 1 x) = r.lands x (L 1 x) (outside x n) (walk_out x n h) in
          ⊎_elim
          (λ (z : x ≡ 0). let a : M 1 0 ≡ 0 = r.nothing 1 in cc (w.nil 1))
          (λ (m : x ≢ 0). p.0 (λ e. w.apart 1 x refl m e))
          (same_or_not x 0))

      end_back : (t x : ℕ) → IsEnd x → M t x ≡ L t x
      unfolding IsEnd
      end_back t x (inl (y, h, e)) = rw e (r.gone (star y) t (begin_in y h) ∙ sym (fresh_star.unlinked t y h))
      end_back t x (inr (y, h, e)) = rw e (r.gone (tip y) t (end_in y h) ∙ sym (fresh_tip.unlinked t y h))

      pub dangle_back : (t x : ℕ) → M t x ≡ L t x
      dangle_back t x = by_cases (IsEnd x) (M t x) (L t x) (λ v. end_back t x v)
          (λ n. ⊎_elim
          (λ (e : t ≡ 1). rw e (one_back x n))
          (λ (o : t ≢ 1). r.kept x t (outside x n) o o ∙ kept t x n (λ _. o))
          (same_or_not t 1))
