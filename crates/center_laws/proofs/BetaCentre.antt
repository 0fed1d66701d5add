-- A vertex in the middle of a face keeps the laws of a combinatorial map.
use Rattle.std.proofs.Common.{ℕ, ◌≡◌, ◌≢◌, ◌+◌, ◌≤◌, refl, sym, ap, inl, inr, ⊎_elim, ◌∙◌, arith}
use Rattle.map_defs.specs.Kind.{beta, inverse}
use Rattle.map_defs.specs.Links.{Links}
use Rattle.map_defs.specs.Laws.{Laws}
use Rattle.map_defs.specs.Cells.{InCell}
use Rattle.map_defs.specs.Births.{IsFresh}
use Rattle.map_defs.specs.Closing.{IsBetaCentred}
use Rattle.link_laws.proofs.Basics.{by_cases, same_or_not, stable, inverse_own}
use Rattle.link_laws.proofs.LawFacts.{dart_of_link}
use Rattle.link_laws.proofs.CellFacts.{beta_closed}
use Rattle.link_laws.proofs.Orbits.{orbit_dart}
use Rattle.insert_laws.proofs.Fresh.{IsNew, InOrNone, fresh_link, fresh_old, fresh_none}
use Rattle.insert_laws.proofs.BetaParts.{laws_from_parts, onward_of, backward_of, high_of, back_of, apart_of}

module _ (L : Links) (w : Laws beta L) (d : ℕ) (hd : d ≢ 0) (star tip : ℕ → ℕ) (fresh_star : IsFresh L (InCell beta L 2 d) star) (fresh_tip : IsFresh L (InCell beta L 2 d) tip) (two : (x y : ℕ) → InCell beta L 2 d x → InCell beta L 2 d y → star x ≢ tip y) (N : Links) (s : IsBetaCentred d star tip L N) where
  dart : (x : ℕ) → InCell beta L 2 d x → x ≢ 0
  dart x h = orbit_dart _ (λ u v q. q.3) d x hd h

  pub on : (j x : ℕ) → j ≢ 2 → InOrNone (InCell beta L 2 d) x → InOrNone (InCell beta L 2 d) (L j x)
  on j x n (inl h) = ⊎_elim (λ z. inr z) (λ m. inl (beta_closed L 0 j d x n h m)) (same_or_not (L j x) 0)
  on j x n (inr o) = inr (ap (L j) o ∙ w.nil j)

  -- no link but link 2 leads into the face from outside
  out_on : (j z : ℕ) → j ≢ 2 → inverse beta j ≢ 2 → (InCell beta L 2 d z → ⊥) → InCell beta L 2 d (L j z) → ⊥
  out_on j z n m o h =
      let b : L (inverse beta j) (L j z) ≡ z = w.back j z (dart (L j z) h) in
      o (rw b at (beta_closed L 0 (inverse beta j) d (L j z) m h (λ q. dart_of_link beta L w j z (dart (L j z) h) (sym b ∙ q))))

  -- neither the begin nor the end of a new edge
  IsOld : ℕ → Type 0
  IsOld z = (IsNew (InCell beta L 2 d) star z → ⊥) × (IsNew (InCell beta L 2 d) tip z → ⊥)

  old_link : (t z : ℕ) → IsOld (L t z)
  unfolding IsOld
  old_link t z = (fresh_link beta L w (InCell beta L 2 d) star fresh_star t z, fresh_link beta L w (InCell beta L 2 d) tip fresh_tip t z)

  old_in : (z : ℕ) → InCell beta L 2 d z → IsOld z
  unfolding IsOld
  old_in z h = (fresh_old beta L w (InCell beta L 2 d) star fresh_star z h, fresh_old beta L w (InCell beta L 2 d) tip fresh_tip z h)

  kept_old : (t z : ℕ) → 1 ≤ t → IsOld z → (InCell beta L 2 d z → t ≢ 1) → N t z ≡ L t z
  unfolding IsOld
  kept_old t z l o f = s.kept z t l f (λ y h e. o.0 (y, h, e)) (λ y h e. o.1 (y, h, e))

  nil : (t : ℕ) → 1 ≤ t → N t 0 ≡ 0
  unfolding IsOld
  nil t l = kept_old t 0 l (fresh_none beta L w (InCell beta L 2 d) star fresh_star, fresh_none beta L w (InCell beta L 2 d) tip fresh_tip) (λ h. absurd (dart 0 h refl)) ∙ w.nil t

  by_sort : (z a b : ℕ) → ((x : ℕ) → InCell beta L 2 d x → z ≡ star x → a ≡ b) → ((x : ℕ) → InCell beta L 2 d x → z ≡ tip x → a ≡ b) → (InCell beta L 2 d z → IsOld z → a ≡ b) → ((InCell beta L 2 d z → ⊥) → IsOld z → a ≡ b) → a ≡ b
  unfolding IsOld
  by_sort z a b f g h o = by_cases (IsNew (InCell beta L 2 d) star z) a b (λ v. f v.0 v.1 v.2) (λ n. by_cases (IsNew (InCell beta L 2 d) tip z) a b (λ v. g v.0 v.1 v.2)
      (λ n'. by_cases (InCell beta L 2 d z) a b (λ k. h k (n, n')) (λ k. o k (n, n'))))

  -- the links of the face's darts and of the new darts, also of none
  pub one_star : (u : ℕ) → InOrNone (InCell beta L 2 d) u → N 1 (star u) ≡ tip u
  one_star u (inl h) = s.onward u h
  one_star u (inr o) = let a : N 1 0 ≡ 0 = nil 1 (omega arith) in cc (fresh_star.nothing, fresh_tip.nothing)

  one_tip : (u : ℕ) → InOrNone (InCell beta L 2 d) u → N 1 (tip u) ≡ u
  one_tip u (inl h) = s.out u h
  one_tip u (inr o) = let a : N 1 0 ≡ 0 = nil 1 (omega arith) in cc (fresh_tip.nothing)

  one_in : (u : ℕ) → InOrNone (InCell beta L 2 d) u → N 1 u ≡ star u
  one_in u (inl h) = s.into u h
  one_in u (inr o) = let a : N 1 0 ≡ 0 = nil 1 (omega arith) in cc (fresh_star.nothing)

  pub zero_star : (u : ℕ) → InOrNone (InCell beta L 2 d) u → N 0 (star u) ≡ u
  zero_star u (inl h) = (s.turned.back u (star u) (dart u h) (fresh_star.dart u h)).0 (s.into u h)
  zero_star u (inr o) = let a : N 0 0 ≡ 0 = s.turned.nothing in cc (fresh_star.nothing)

  pub zero_tip : (u : ℕ) → InOrNone (InCell beta L 2 d) u → N 0 (tip u) ≡ star u
  zero_tip u (inl h) = (s.turned.back (star u) (tip u) (fresh_star.dart u h) (fresh_tip.dart u h)).0 (s.onward u h)
  zero_tip u (inr o) = let a : N 0 0 ≡ 0 = s.turned.nothing in cc (fresh_star.nothing, fresh_tip.nothing)

  pub zero_in : (u : ℕ) → InOrNone (InCell beta L 2 d) u → N 0 u ≡ tip u
  zero_in u (inl h) = (s.turned.back (tip u) u (fresh_tip.dart u h) (dart u h)).0 (s.out u h)
  zero_in u (inr o) = let a : N 0 0 ≡ 0 = s.turned.nothing in cc (fresh_tip.nothing)

  zero_free : (u b : ℕ) → IsOld u → (InCell beta L 2 d u → ⊥) → L 0 u ≡ 0 → u ≢ 0 → b ≢ 0 → N 1 b ≡ u → ⊥
  unfolding IsOld
  zero_free u b old n z hu hb e =
      let old_b : IsOld b = ((λ (x, h, q). old.1 (x, h, sym e ∙ (ap (N 1) q ∙ s.onward x h))), (λ (x, h, q). n (rw (sym e ∙ (ap (N 1) q ∙ s.out x h)) h))) in
      let out_b : InCell beta L 2 d b → ⊥ = λ h. old.0 (b, h, sym e ∙ s.into b h) in
      let a : L 1 b ≡ u = sym (kept_old 1 b (omega arith) old_b (λ h. absurd (out_b h))) ∙ e in
      let g : L 0 (L 1 b) ≡ b = w.back 1 b (λ o. hu (sym a ∙ o)) in
      hb (let r : L 0 u ≡ b = cc in sym r ∙ z)

  zero_out : (u : ℕ) → IsOld u → (InCell beta L 2 d u → ⊥) → N 0 u ≡ L 0 u
  zero_out u old n = ⊎_elim
      (λ (z : u ≡ 0). let a : N 0 0 ≡ 0 = s.turned.nothing in cc (w.nil 0))
      (λ (hu : u ≢ 0). ⊎_elim
      (λ (z : L 0 u ≡ 0). stable (N 0 u) 0 (λ m. zero_free u (N 0 u) old n z hu m ((s.turned.back (N 0 u) u m hu).1 refl)) ∙ sym z)
      (λ (m : L 0 u ≢ 0).
      let e : N 1 (L 0 u) ≡ L 1 (L 0 u) = kept_old 1 (L 0 u) (omega arith) (old_link 0 u) (λ h. absurd (out_on 0 u (omega arith) (omega arith) n h)) in
      (s.turned.back (L 0 u) u m hu).0 (e ∙ w.back 0 u m))
      (same_or_not (L 0 u) 0))
      (same_or_not u 0)

  pub star_two : (u : ℕ) → InOrNone (InCell beta L 2 d) u → N 2 (star u) ≡ tip (L 1 u)
  star_two u (inl h) = s.sides u h
  star_two u (inr o) = let a : N 2 0 ≡ 0 = nil 2 (omega arith) in cc (fresh_star.nothing, fresh_tip.nothing, w.nil 1)

  pub tip_two : (u : ℕ) → InOrNone (InCell beta L 2 d) u → N 2 (tip u) ≡ star (L 0 u)
  tip_two u (inl h) = s.sides_back u h
  tip_two u (inr o) = let a : N 2 0 ≡ 0 = nil 2 (omega arith) in cc (fresh_star.nothing, fresh_tip.nothing, w.nil 0)

  pub star_high : (j u : ℕ) → 3 ≤ j → InOrNone (InCell beta L 2 d) u → N j (star u) ≡ tip (L j u)
  star_high j u l (inl h) = s.along u j h l
  star_high j u l (inr o) = let a : N j 0 ≡ 0 = nil j (omega arith) in cc (fresh_star.nothing, fresh_tip.nothing, w.nil j)

  pub tip_high : (j u : ℕ) → 3 ≤ j → InOrNone (InCell beta L 2 d) u → N j (tip u) ≡ star (L j u)
  tip_high j u l (inl h) = s.along_tip u j h l
  tip_high j u l (inr o) = let a : N j 0 ≡ 0 = nil j (omega arith) in cc (fresh_star.nothing, fresh_tip.nothing, w.nil j)

  old_high : (j z : ℕ) → 2 ≤ j → IsOld z → N j z ≡ L j z
  old_high j z l o = kept_old j z (omega arith) o (λ _ q. omega arith)

  pub in_high : (j z : ℕ) → 2 ≤ j → InCell beta L 2 d z → N j z ≡ L j z
  in_high j z l h = old_high j z l (old_in z h)

  back_star : (j x : ℕ) → 2 ≤ j → InCell beta L 2 d x → N j (star x) ≢ 0 → N j (N j (star x)) ≡ star x
  back_star j x l h n = ⊎_elim
      (λ (e : j ≡ 2).
      let a : N 2 (star x) ≡ tip (L 1 x) = s.sides x h in
      let b : N 2 (tip (L 1 x)) ≡ star (L 0 (L 1 x)) = tip_two (L 1 x) (on 1 x (omega arith) (inl h)) in
      let c : L 0 (L 1 x) ≡ x = w.back 1 x (λ o. n (ap (λ t. N t (star x)) e ∙ (a ∙ (ap tip o ∙ fresh_tip.nothing)))) in cc)
      (λ (m : j ≢ 2).
      let l3 : 3 ≤ j = omega arith in
      let a : N j (star x) ≡ tip (L j x) = s.along x j h l3 in
      let b : N j (tip (L j x)) ≡ star (L j (L j x)) = tip_high j (L j x) l3 (on j x m (inl h)) in
      let c : L j (L j x) ≡ x = back_of L w j x l (λ o. n (a ∙ (ap tip o ∙ fresh_tip.nothing))) in cc)
      (same_or_not j 2)

  back_tip : (j x : ℕ) → 2 ≤ j → InCell beta L 2 d x → N j (tip x) ≢ 0 → N j (N j (tip x)) ≡ tip x
  back_tip j x l h n = ⊎_elim
      (λ (e : j ≡ 2).
      let a : N 2 (tip x) ≡ star (L 0 x) = s.sides_back x h in
      let b : N 2 (star (L 0 x)) ≡ tip (L 1 (L 0 x)) = star_two (L 0 x) (on 0 x (omega arith) (inl h)) in
      let c : L 1 (L 0 x) ≡ x = w.back 0 x (λ o. n (ap (λ t. N t (tip x)) e ∙ (a ∙ (ap star o ∙ fresh_star.nothing)))) in cc)
      (λ (m : j ≢ 2).
      let l3 : 3 ≤ j = omega arith in
      let a : N j (tip x) ≡ star (L j x) = s.along_tip x j h l3 in
      let b : N j (star (L j x)) ≡ tip (L j (L j x)) = star_high j (L j x) l3 (on j x m (inl h)) in
      let c : L j (L j x) ≡ x = back_of L w j x l (λ o. n (a ∙ (ap star o ∙ fresh_star.nothing))) in cc)
      (same_or_not j 2)

  back_else : (j z : ℕ) → 2 ≤ j → IsOld z → N j z ≢ 0 → N j (N j z) ≡ z
  back_else j z l o n =
      let a : N j z ≡ L j z = old_high j z l o in
      let b : N j (L j z) ≡ L j (L j z) = old_high j (L j z) l (old_link j z) in
      let c : L j (L j z) ≡ z = back_of L w j z l (λ q. n (a ∙ q)) in cc

  centre_back : (j z : ℕ) → 2 ≤ j → N j z ≢ 0 → N j (N j z) ≡ z
  centre_back j z l n = by_sort z (N j (N j z)) z
      (λ x h e. rw e (back_star j x l h (rw e at n)))
      (λ x h e. rw e (back_tip j x l h (rw e at n)))
      (λ h o. back_else j z l o n) (λ h o. back_else j z l o n)

  -- no begin is an end
  never_same : (x u : ℕ) → InCell beta L 2 d x → InOrNone (InCell beta L 2 d) u → star x ≢ tip u
  never_same x u h (inl g) e = two x u h g e
  never_same x u h (inr o) e = fresh_star.dart x h (e ∙ (ap tip o ∙ fresh_tip.nothing))

  never_same_tip : (x u : ℕ) → InCell beta L 2 d x → InOrNone (InCell beta L 2 d) u → tip x ≢ star u
  never_same_tip x u h (inl g) e = two u x g h (sym e)
  never_same_tip x u h (inr o) e = fresh_tip.dart x h (e ∙ (ap star o ∙ fresh_star.nothing))

  centre_apart : (j z : ℕ) → 2 ≤ j → z ≢ 0 → N j z ≢ z
  unfolding IsOld
  centre_apart j z l hz e =
      let at_star : (x : ℕ) → InCell beta L 2 d x → z ≡ star x → ⊥ = λ x h q. ⊎_elim
      (λ (j2 : j ≡ 2). never_same x (L 1 x) h (on 1 x (omega arith) (inl h)) (let a : N 2 (star x) ≡ tip (L 1 x) = s.sides x h in cc))
      (λ (m : j ≢ 2). never_same x (L j x) h (on j x m (inl h)) (let a : N j (star x) ≡ tip (L j x) = s.along x j h (omega arith) in cc))
      (same_or_not j 2) in
      let at_tip : (x : ℕ) → InCell beta L 2 d x → z ≡ tip x → ⊥ = λ x h q. ⊎_elim
      (λ (j2 : j ≡ 2). never_same_tip x (L 0 x) h (on 0 x (omega arith) (inl h)) (let a : N 2 (tip x) ≡ star (L 0 x) = s.sides_back x h in cc))
      (λ (m : j ≢ 2). never_same_tip x (L j x) h (on j x m (inl h)) (let a : N j (tip x) ≡ star (L j x) = s.along_tip x j h (omega arith) in cc))
      (same_or_not j 2) in
      apart_of L w j z l hz (sym (old_high j z l ((λ (x, h, q). at_star x h q), (λ (x, h, q). at_tip x h q))) ∙ e)

  centre_onward : (j z : ℕ) → 3 ≤ j → N 0 (N j z) ≡ N j (N 1 z)
  centre_onward j z l = by_sort z (N 0 (N j z)) (N j (N 1 z))
      (λ x h e. let a : N j (star x) ≡ tip (L j x) = s.along x j h l in let b : N 0 (tip (L j x)) ≡ star (L j x) = zero_tip (L j x) (on j x (omega arith) (inl h)) in
      let c : N 1 (star x) ≡ tip x = s.onward x h in let f : N j (tip x) ≡ star (L j x) = s.along_tip x j h l in cc)
      (λ x h e. let a : N j (tip x) ≡ star (L j x) = s.along_tip x j h l in let b : N 0 (star (L j x)) ≡ L j x = zero_star (L j x) (on j x (omega arith) (inl h)) in
      let c : N 1 (tip x) ≡ x = s.out x h in let f : N j x ≡ L j x = old_high j x (omega arith) (old_in x h) in cc)
      (λ h o. let a : N j z ≡ L j z = old_high j z (omega arith) o in let b : N 0 (L j z) ≡ tip (L j z) = zero_in (L j z) (on j z (omega arith) (inl h)) in
      let c : N 1 z ≡ star z = s.into z h in let f : N j (star z) ≡ tip (L j z) = s.along z j h l in cc)
      (λ n o. let a : N j z ≡ L j z = old_high j z (omega arith) o in
      let own : inverse beta j ≡ j = inverse_own beta j (omega arith) in
      let b : N 0 (L j z) ≡ L 0 (L j z) = zero_out (L j z) (old_link j z) (out_on j z (omega arith) (λ q. omega arith) n) in
      let c : N 1 z ≡ L 1 z = kept_old 1 z (omega arith) o (λ h. absurd (n h)) in
      let f : N j (L 1 z) ≡ L j (L 1 z) = old_high j (L 1 z) (omega arith) (old_link 1 z) in
      let g : L 0 (L j z) ≡ L j (L 1 z) = onward_of L w j z l in cc)

  centre_backward : (j z : ℕ) → 3 ≤ j → N 1 (N j z) ≡ N j (N 0 z)
  centre_backward j z l = by_sort z (N 1 (N j z)) (N j (N 0 z))
      (λ x h e. let a : N j (star x) ≡ tip (L j x) = s.along x j h l in let b : N 1 (tip (L j x)) ≡ L j x = one_tip (L j x) (on j x (omega arith) (inl h)) in
      let c : N 0 (star x) ≡ x = zero_star x (inl h) in let f : N j x ≡ L j x = old_high j x (omega arith) (old_in x h) in cc)
      (λ x h e. let a : N j (tip x) ≡ star (L j x) = s.along_tip x j h l in let b : N 1 (star (L j x)) ≡ tip (L j x) = one_star (L j x) (on j x (omega arith) (inl h)) in
      let c : N 0 (tip x) ≡ star x = zero_tip x (inl h) in let f : N j (star x) ≡ tip (L j x) = s.along x j h l in cc)
      (λ h o. let a : N j z ≡ L j z = old_high j z (omega arith) o in let b : N 1 (L j z) ≡ star (L j z) = one_in (L j z) (on j z (omega arith) (inl h)) in
      let c : N 0 z ≡ tip z = zero_in z (inl h) in let f : N j (tip z) ≡ star (L j z) = s.along_tip z j h l in cc)
      (λ n o. let a : N j z ≡ L j z = old_high j z (omega arith) o in
      let own : inverse beta j ≡ j = inverse_own beta j (omega arith) in
      let b : N 1 (L j z) ≡ L 1 (L j z) = kept_old 1 (L j z) (omega arith) (old_link j z) (λ h. absurd (out_on j z (omega arith) (λ q. omega arith) n h)) in
      let c : N 0 z ≡ L 0 z = zero_out z o n in
      let f : N j (L 0 z) ≡ L j (L 0 z) = old_high j (L 0 z) (omega arith) (old_link 0 z) in
      let g : L 1 (L j z) ≡ L j (L 0 z) = backward_of L w j z l in cc)

  high_else : (i j z : ℕ) → 2 ≤ i → i + 2 ≤ j → IsOld z → N i (N j z) ≡ N j (N i z)
  high_else i j z l m o =
      let a : N j z ≡ L j z = old_high j z (omega arith) o in let b : N i z ≡ L i z = old_high i z l o in
      let c : N i (L j z) ≡ L i (L j z) = old_high i (L j z) l (old_link j z) in
      let f : N j (L i z) ≡ L j (L i z) = old_high j (L i z) (omega arith) (old_link i z) in
      let g : L i (L j z) ≡ L j (L i z) = high_of L w i j z l m in cc

  high_star : (i j x : ℕ) → 2 ≤ i → i + 2 ≤ j → InCell beta L 2 d x → N i (N j (star x)) ≡ N j (N i (star x))
  high_star i j x l m h =
      let lj : 3 ≤ j = omega arith in
      let a : N j (star x) ≡ tip (L j x) = s.along x j h lj in
      let oj : InOrNone (InCell beta L 2 d) (L j x) = on j x (omega arith) (inl h) in
      ⊎_elim
      (λ (e : i ≡ 2). let b : N 2 (tip (L j x)) ≡ star (L 0 (L j x)) = tip_two (L j x) oj in let c : N 2 (star x) ≡ tip (L 1 x) = s.sides x h in
      let f : N j (tip (L 1 x)) ≡ star (L j (L 1 x)) = tip_high j (L 1 x) lj (on 1 x (omega arith) (inl h)) in
      let g : L 0 (L j x) ≡ L j (L 1 x) = onward_of L w j x lj in cc)
      (λ (n : i ≢ 2). let li : 3 ≤ i = omega arith in
      let b : N i (tip (L j x)) ≡ star (L i (L j x)) = tip_high i (L j x) li oj in let c : N i (star x) ≡ tip (L i x) = s.along x i h li in
      let f : N j (tip (L i x)) ≡ star (L j (L i x)) = tip_high j (L i x) lj (on i x n (inl h)) in
      let g : L i (L j x) ≡ L j (L i x) = high_of L w i j x l m in cc)
      (same_or_not i 2)

  high_tip : (i j x : ℕ) → 2 ≤ i → i + 2 ≤ j → InCell beta L 2 d x → N i (N j (tip x)) ≡ N j (N i (tip x))
  high_tip i j x l m h =
      let lj : 3 ≤ j = omega arith in
      let a : N j (tip x) ≡ star (L j x) = s.along_tip x j h lj in
      let oj : InOrNone (InCell beta L 2 d) (L j x) = on j x (omega arith) (inl h) in
      ⊎_elim
      (λ (e : i ≡ 2). let b : N 2 (star (L j x)) ≡ tip (L 1 (L j x)) = star_two (L j x) oj in let c : N 2 (tip x) ≡ star (L 0 x) = s.sides_back x h in
      let f : N j (star (L 0 x)) ≡ tip (L j (L 0 x)) = star_high j (L 0 x) lj (on 0 x (omega arith) (inl h)) in
      let g : L 1 (L j x) ≡ L j (L 0 x) = backward_of L w j x lj in cc)
      (λ (n : i ≢ 2). let li : 3 ≤ i = omega arith in
      let b : N i (star (L j x)) ≡ tip (L i (L j x)) = star_high i (L j x) li oj in let c : N i (tip x) ≡ star (L i x) = s.along_tip x i h li in
      let f : N j (star (L i x)) ≡ tip (L j (L i x)) = star_high j (L i x) lj (on i x n (inl h)) in
      let g : L i (L j x) ≡ L j (L i x) = high_of L w i j x l m in cc)
      (same_or_not i 2)

  pub centre_keeps : Laws beta N
  centre_keeps = laws_from_parts N (record {
    nil = nil;
    turned = s.turned;
    back = centre_back;
    apart = centre_apart;
    onward = centre_onward;
    backward = centre_backward;
    high = λ i j z l m. by_sort z (N i (N j z)) (N j (N i z)) (λ x h e. rw e (high_star i j x l m h)) (λ x h e. rw e (high_tip i j x l m h)) (λ h o. high_else i j z l m o) (λ h o. high_else i j z l m o);
  })
