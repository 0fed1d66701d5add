-- A dangling edge at a corner keeps the laws of a combinatorial map.
use Rattle.std.proofs.Common.{ℕ, ◌≡◌, ◌≢◌, ◌+◌, ◌≤◌, refl, sym, ap, inl, inr, ⊎_elim, ◌∙◌, arith}
use Rattle.map_defs.specs.Kind.{beta}
use Rattle.map_defs.specs.Links.{Links}
use Rattle.map_defs.specs.Laws.{Laws}
use Rattle.map_defs.specs.LinkWords.{two_links, through}
use Rattle.map_defs.specs.Cells.{here, onward}
use Rattle.map_defs.specs.Births.{IsFresh}
use Rattle.map_defs.specs.Insertion.{InBetaCorner}
use Rattle.map_defs.specs.Closing.{IsBetaDangled}
use Rattle.link_laws.proofs.Basics.{by_cases, same_or_not, stable}
use Rattle.link_laws.proofs.LawFacts.{dart_of_link}
use Rattle.insert_laws.proofs.Fresh.{IsNew, InOrNone, fresh_link, fresh_old, fresh_none}
use Rattle.insert_laws.proofs.BetaParts.{laws_from_parts, onward_of, backward_of, high_of, back_of, apart_of, alike_backward}
use Rattle.insert_laws.proofs.BetaEdge.{before_copy}

-- some side leads into each copy of a corner that a side leads into
module _ (L : Links) (w : Laws beta L) (d : ℕ) (linked : L 0 d ≢ 0) where
  pub corner_begins : (x : ℕ) → InBetaCorner L d x → L 0 x ≢ 0
  corner_begins x here = linked
  corner_begins x (onward {x = u} {y = v} o (word, (j, l, e), q, n)) =
      let a : L j (L 0 u) ≡ v = ap (λ t. through L t u) (sym e) ∙ q in
      let h0 : L 0 u ≢ 0 = corner_begins u o in
      let b : L 0 v ≡ L j u = ap (L 0) (sym a) ∙ before_copy L w j u l h0 in
      λ z. n (sym a ∙ (alike_backward L w j u l h0).0 (sym b ∙ z))

module _ (L : Links) (w : Laws beta L) (d : ℕ) (linked : L 0 d ≢ 0) (star tip : ℕ → ℕ) (fresh_star : IsFresh L (InBetaCorner L d) star) (fresh_tip : IsFresh L (InBetaCorner L d) tip) (two : (x y : ℕ) → InBetaCorner L d x → InBetaCorner L d y → star x ≢ tip y) (N : Links) (s : IsBetaDangled d star tip L N) where
  begins : (x : ℕ) → InBetaCorner L d x → L 0 x ≢ 0
  begins = corner_begins L w d linked

  dart : (x : ℕ) → InBetaCorner L d x → x ≢ 0
  dart x h = dart_of_link beta L w 0 x (begins x h)

  -- the copy of a corner at link j
  copy : (x j : ℕ) → 3 ≤ j → InBetaCorner L d x → InOrNone (InBetaCorner L d) (L j (L 0 x))
  copy x j l h = ⊎_elim (λ z. inr z) (λ n. inl (onward h (two_links 0 j, (j, l, refl), refl, n))) (same_or_not (L j (L 0 x)) 0)

  copy_back : (x i j : ℕ) → 3 ≤ j → InBetaCorner L d x → L i (L 0 (L j (L 0 x))) ≡ L i (L j x)
  copy_back x i j l h = ap (L i) (before_copy L w j x l (begins x h))

  -- neither the begin nor the end of a new edge; before a corner
  IsOld : ℕ → Type 0
  IsOld z = (IsNew (InBetaCorner L d) star z → ⊥) × (IsNew (InBetaCorner L d) tip z → ⊥)

  IsBefore : ℕ → Type 0
  IsBefore z = (c : ℕ) × InBetaCorner L d c × (z ≡ L 0 c)

  old_link : (t z : ℕ) → IsOld (L t z)
  unfolding IsOld
  old_link t z = (fresh_link beta L w (InBetaCorner L d) star fresh_star t z, fresh_link beta L w (InBetaCorner L d) tip fresh_tip t z)

  old_in : (z : ℕ) → InBetaCorner L d z → IsOld z
  unfolding IsOld
  old_in z h = (fresh_old beta L w (InBetaCorner L d) star fresh_star z h, fresh_old beta L w (InBetaCorner L d) tip fresh_tip z h)

  old_high : (j z : ℕ) → 2 ≤ j → IsOld z → N j z ≡ L j z
  unfolding IsOld
  old_high j z l o = s.kept z j (omega arith) (λ y h e. omega arith) (λ y h e. o.0 (y, h, e)) (λ y h e. o.1 (y, h, e))

  old_one : (z : ℕ) → IsOld z → (IsBefore z → ⊥) → N 1 z ≡ L 1 z
  unfolding IsOld IsBefore
  old_one z o b = s.kept z 1 (omega arith) (λ y h e q. b (y, h, q)) (λ y h e. o.0 (y, h, e)) (λ y h e. o.1 (y, h, e))

  nil : (t : ℕ) → 1 ≤ t → N t 0 ≡ 0
  nil t l = s.kept 0 t l (λ y h e q. begins y h (sym q)) (λ y h e. fresh_none beta L w (InBetaCorner L d) star fresh_star (y, h, e)) (λ y h e. fresh_none beta L w (InBetaCorner L d) tip fresh_tip (y, h, e)) ∙ w.nil t

  by_age : (z a b : ℕ) → ((x : ℕ) → InBetaCorner L d x → z ≡ star x → a ≡ b) → ((x : ℕ) → InBetaCorner L d x → z ≡ tip x → a ≡ b) → (IsOld z → a ≡ b) → a ≡ b
  unfolding IsOld
  by_age z a b f g h = by_cases (IsNew (InBetaCorner L d) star z) a b (λ v. f v.0 v.1 v.2) (λ n. by_cases (IsNew (InBetaCorner L d) tip z) a b (λ v. g v.0 v.1 v.2) (λ n'. h (n, n')))

  -- the links of the new darts, also of none
  one_star : (u : ℕ) → InOrNone (InBetaCorner L d) u → N 1 (star u) ≡ tip u
  one_star u (inl h) = s.onward u h
  one_star u (inr o) = let a : N 1 0 ≡ 0 = nil 1 (omega arith) in cc (fresh_star.nothing, fresh_tip.nothing)

  one_tip : (u : ℕ) → InOrNone (InBetaCorner L d) u → N 1 (tip u) ≡ u
  one_tip u (inl h) = s.out u h
  one_tip u (inr o) = let a : N 1 0 ≡ 0 = nil 1 (omega arith) in cc (fresh_tip.nothing)

  two_star : (u : ℕ) → InOrNone (InBetaCorner L d) u → N 2 (star u) ≡ tip u
  two_star u (inl h) = s.sides u h
  two_star u (inr o) = let a : N 2 0 ≡ 0 = nil 2 (omega arith) in cc (fresh_star.nothing, fresh_tip.nothing)

  two_tip : (u : ℕ) → InOrNone (InBetaCorner L d) u → N 2 (tip u) ≡ star u
  two_tip u (inl h) = s.sides_back u h
  two_tip u (inr o) = let a : N 2 0 ≡ 0 = nil 2 (omega arith) in cc (fresh_star.nothing, fresh_tip.nothing)

  high_star : (j u : ℕ) → 3 ≤ j → InOrNone (InBetaCorner L d) u → N j (star u) ≡ tip (L j (L 0 u))
  high_star j u l (inl h) = s.along u j h l
  high_star j u l (inr o) = let a : N j 0 ≡ 0 = nil j (omega arith) in cc (fresh_star.nothing, fresh_tip.nothing, w.nil 0, w.nil j)

  high_tip : (j u : ℕ) → 3 ≤ j → InOrNone (InBetaCorner L d) u → N j (tip u) ≡ star (L j (L 0 u))
  high_tip j u l (inl h) = s.along_tip u j h l
  high_tip j u l (inr o) = let a : N j 0 ≡ 0 = nil j (omega arith) in cc (fresh_star.nothing, fresh_tip.nothing, w.nil 0, w.nil j)

  zero_star : (u : ℕ) → InOrNone (InBetaCorner L d) u → N 0 (star u) ≡ L 0 u
  zero_star u (inl h) = (s.turned.back (L 0 u) (star u) (begins u h) (fresh_star.dart u h)).0 (s.into u h)
  zero_star u (inr o) = let a : N 0 0 ≡ 0 = s.turned.nothing in cc (fresh_star.nothing, w.nil 0)

  zero_tip : (u : ℕ) → InOrNone (InBetaCorner L d) u → N 0 (tip u) ≡ star u
  zero_tip u (inl h) = (s.turned.back (star u) (tip u) (fresh_star.dart u h) (fresh_tip.dart u h)).0 (s.onward u h)
  zero_tip u (inr o) = let a : N 0 0 ≡ 0 = s.turned.nothing in cc (fresh_star.nothing, fresh_tip.nothing)

  zero_in : (u : ℕ) → InOrNone (InBetaCorner L d) u → N 0 u ≡ tip u
  zero_in u (inl h) = (s.turned.back (tip u) u (fresh_tip.dart u h) (dart u h)).0 (s.out u h)
  zero_in u (inr o) = let a : N 0 0 ≡ 0 = s.turned.nothing in cc (fresh_tip.nothing)

  zero_free : (u b : ℕ) → IsOld u → (InBetaCorner L d u → ⊥) → L 0 u ≡ 0 → u ≢ 0 → b ≢ 0 → N 1 b ≡ u → ⊥
  unfolding IsOld IsBefore
  zero_free u b old n z hu hb e =
      let old_b : IsOld b = ((λ (x, h, q). old.1 (x, h, sym e ∙ (ap (N 1) q ∙ s.onward x h))), (λ (x, h, q). n (rw (sym e ∙ (ap (N 1) q ∙ s.out x h)) h))) in
      let before_b : IsBefore b → ⊥ = λ (c, h, q). old.0 (c, h, sym e ∙ (ap (N 1) q ∙ s.into c h)) in
      let a : L 1 b ≡ u = sym (old_one b old_b before_b) ∙ e in
      let g : L 0 (L 1 b) ≡ b = w.back 1 b (λ o. hu (sym a ∙ o)) in
      hb (let r : L 0 u ≡ b = cc in sym r ∙ z)

  zero_out : (u : ℕ) → IsOld u → (InBetaCorner L d u → ⊥) → N 0 u ≡ L 0 u
  unfolding IsBefore
  zero_out u old n = ⊎_elim
      (λ (z : u ≡ 0). let a : N 0 0 ≡ 0 = s.turned.nothing in cc (w.nil 0))
      (λ (hu : u ≢ 0). ⊎_elim
      (λ (z : L 0 u ≡ 0). stable (N 0 u) 0 (λ m. zero_free u (N 0 u) old n z hu m ((s.turned.back (N 0 u) u m hu).1 refl)) ∙ sym z)
      (λ (m : L 0 u ≢ 0).
      let g : L 1 (L 0 u) ≡ u = w.back 0 u m in
      let b : IsBefore (L 0 u) → ⊥ = λ (c, h, q). n (let r : u ≡ c = sym g ∙ (ap (L 1) q ∙ w.back 0 c (begins c h)) in rw r h) in
      (s.turned.back (L 0 u) u m hu).0 (old_one (L 0 u) (old_link 0 u) b ∙ g))
      (same_or_not (L 0 u) 0))
      (same_or_not u 0)

  dangle_back : (j z : ℕ) → 2 ≤ j → N j z ≢ 0 → N j (N j z) ≡ z
  dangle_back j z l n = by_age z (N j (N j z)) z
      (λ x h e. ⊎_elim
      (λ (j2 : j ≡ 2). let a : N 2 (star x) ≡ tip x = s.sides x h in let b : N 2 (tip x) ≡ star x = s.sides_back x h in cc)
      (λ (m : j ≢ 2). let l3 : 3 ≤ j = omega arith in
      let a : N j (star x) ≡ tip (L j (L 0 x)) = s.along x j h l3 in
      let b : N j (tip (L j (L 0 x))) ≡ star (L j (L 0 (L j (L 0 x)))) = high_tip j (L j (L 0 x)) l3 (copy x j l3 h) in
      let q : L j (L 0 (L j (L 0 x))) ≡ L j (L j x) = copy_back x j j l3 h in
      let t : L j (L 0 x) ≢ 0 = λ o. n (ap (N j) e ∙ (a ∙ (ap tip o ∙ fresh_tip.nothing))) in
      let r : L j (L j x) ≡ x = back_of L w j x l (λ o. t ((alike_backward L w j x l3 (begins x h)).0 o)) in cc)
      (same_or_not j 2))
      (λ x h e. ⊎_elim
      (λ (j2 : j ≡ 2). let a : N 2 (star x) ≡ tip x = s.sides x h in let b : N 2 (tip x) ≡ star x = s.sides_back x h in cc)
      (λ (m : j ≢ 2). let l3 : 3 ≤ j = omega arith in
      let a : N j (tip x) ≡ star (L j (L 0 x)) = s.along_tip x j h l3 in
      let b : N j (star (L j (L 0 x))) ≡ tip (L j (L 0 (L j (L 0 x)))) = high_star j (L j (L 0 x)) l3 (copy x j l3 h) in
      let q : L j (L 0 (L j (L 0 x))) ≡ L j (L j x) = copy_back x j j l3 h in
      let t : L j (L 0 x) ≢ 0 = λ o. n (ap (N j) e ∙ (a ∙ (ap star o ∙ fresh_star.nothing))) in
      let r : L j (L j x) ≡ x = back_of L w j x l (λ o. t ((alike_backward L w j x l3 (begins x h)).0 o)) in cc)
      (same_or_not j 2))
      (λ o. let a : N j z ≡ L j z = old_high j z l o in
      let b : N j (L j z) ≡ L j (L j z) = old_high j (L j z) l (old_link j z) in
      let c : L j (L j z) ≡ z = back_of L w j z l (λ q. n (a ∙ q)) in cc)

  -- no begin is an end
  never_same : (x u : ℕ) → InBetaCorner L d x → InOrNone (InBetaCorner L d) u → star x ≢ tip u
  never_same x u h (inl g) e = two x u h g e
  never_same x u h (inr o) e = fresh_star.dart x h (e ∙ (ap tip o ∙ fresh_tip.nothing))

  never_same_tip : (x u : ℕ) → InBetaCorner L d x → InOrNone (InBetaCorner L d) u → tip x ≢ star u
  never_same_tip x u h (inl g) e = two u x g h (sym e)
  never_same_tip x u h (inr o) e = fresh_tip.dart x h (e ∙ (ap star o ∙ fresh_star.nothing))

  dangle_apart : (j z : ℕ) → 2 ≤ j → z ≢ 0 → N j z ≢ z
  unfolding IsOld
  dangle_apart j z l hz e =
      let at_star : (x : ℕ) → InBetaCorner L d x → z ≡ star x → ⊥ = λ x h q. ⊎_elim
      (λ (j2 : j ≡ 2). never_same x x h (inl h) (let a : N 2 (star x) ≡ tip x = s.sides x h in cc))
      (λ (m : j ≢ 2). never_same x (L j (L 0 x)) h (copy x j (omega arith) h) (let a : N j (star x) ≡ tip (L j (L 0 x)) = s.along x j h (omega arith) in cc))
      (same_or_not j 2) in
      let at_tip : (x : ℕ) → InBetaCorner L d x → z ≡ tip x → ⊥ = λ x h q. ⊎_elim
      (λ (j2 : j ≡ 2). never_same_tip x x h (inl h) (let a : N 2 (tip x) ≡ star x = s.sides_back x h in cc))
      (λ (m : j ≢ 2). never_same_tip x (L j (L 0 x)) h (copy x j (omega arith) h) (let a : N j (tip x) ≡ star (L j (L 0 x)) = s.along_tip x j h (omega arith) in cc))
      (same_or_not j 2) in
      apart_of L w j z l hz (sym (old_high j z l ((λ (x, h, q). at_star x h q), (λ (x, h, q). at_tip x h q))) ∙ e)

  onward_before : (j c : ℕ) → 3 ≤ j → InBetaCorner L d c → N 0 (N j (L 0 c)) ≡ N j (N 1 (L 0 c))
  onward_before j c l h =
      let a : N j (L 0 c) ≡ L j (L 0 c) = old_high j (L 0 c) (omega arith) (old_link 0 c) in
      let b : N 0 (L j (L 0 c)) ≡ tip (L j (L 0 c)) = zero_in (L j (L 0 c)) (copy c j l h) in
      let e : N 1 (L 0 c) ≡ star c = s.into c h in
      let f : N j (star c) ≡ tip (L j (L 0 c)) = s.along c j h l in cc

  onward_else : (j z : ℕ) → 3 ≤ j → IsOld z → (IsBefore z → ⊥) → N 0 (N j z) ≡ N j (N 1 z)
  unfolding IsBefore
  onward_else j z l o m =
      let a : N j z ≡ L j z = old_high j z (omega arith) o in
      let b : N 1 z ≡ L 1 z = old_one z o m in
      let c : N j (L 1 z) ≡ L j (L 1 z) = old_high j (L 1 z) (omega arith) (old_link 1 z) in
      let e : L 0 (L j z) ≡ L j (L 1 z) = onward_of L w j z l in
      let out : InBetaCorner L d (L j z) → ⊥ = λ h.
      let n : L j (L 1 z) ≢ 0 = λ q. begins (L j z) h (e ∙ q) in
      let n1 : L 1 z ≢ 0 = dart_of_link beta L w j (L 1 z) n in
      let g : L j (L 0 (L j z)) ≡ L 1 z = ap (L j) e ∙ back_of L w j (L 1 z) (omega arith) n in
      ⊎_elim (λ k. m (L 1 z, rw g at k, sym (w.back 1 z n1))) (λ q. n1 (sym g ∙ q)) (copy (L j z) j l h) in
      let f : N 0 (L j z) ≡ L 0 (L j z) = zero_out (L j z) (old_link j z) out in cc

  dangle_onward : (j z : ℕ) → 3 ≤ j → N 0 (N j z) ≡ N j (N 1 z)
  unfolding IsBefore
  dangle_onward j z l = by_age z (N 0 (N j z)) (N j (N 1 z))
      (λ x h e. let a : N j (star x) ≡ tip (L j (L 0 x)) = s.along x j h l in let b : N 0 (tip (L j (L 0 x))) ≡ star (L j (L 0 x)) = zero_tip (L j (L 0 x)) (copy x j l h) in
      let c : N 1 (star x) ≡ tip x = s.onward x h in let f : N j (tip x) ≡ star (L j (L 0 x)) = s.along_tip x j h l in cc)
      (λ x h e. let a : N j (tip x) ≡ star (L j (L 0 x)) = s.along_tip x j h l in let b : N 0 (star (L j (L 0 x))) ≡ L 0 (L j (L 0 x)) = zero_star (L j (L 0 x)) (copy x j l h) in
      let g : L 0 (L j (L 0 x)) ≡ L j x = before_copy L w j x l (begins x h) in
      let c : N 1 (tip x) ≡ x = s.out x h in let f : N j x ≡ L j x = old_high j x (omega arith) (old_in x h) in cc)
      (λ o. by_cases (IsBefore z) (N 0 (N j z)) (N j (N 1 z)) (λ (c, h, e). rw e (onward_before j c l h)) (λ m. onward_else j z l o m))

  backward_in : (j z : ℕ) → 3 ≤ j → InBetaCorner L d z → N 1 (N j z) ≡ N j (N 0 z)
  backward_in j z l h =
      let a : N j z ≡ L j z = old_high j z (omega arith) (old_in z h) in
      let b : N 0 z ≡ tip z = zero_in z (inl h) in
      let c : N j (tip z) ≡ star (L j (L 0 z)) = s.along_tip z j h l in
      ⊎_elim
      (λ (k : InBetaCorner L d (L j (L 0 z))).
      let e : L 0 (L j (L 0 z)) ≡ L j z = before_copy L w j z l (begins z h) in
      let f : N 1 (L 0 (L j (L 0 z))) ≡ star (L j (L 0 z)) = s.into (L j (L 0 z)) k in cc)
      (λ (o : L j (L 0 z) ≡ 0).
      let e : L j z ≡ 0 = (alike_backward L w j z l (begins z h)).1 o in
      let f : N 1 0 ≡ 0 = nil 1 (omega arith) in cc (fresh_star.nothing))
      (copy z j l h)

  backward_else : (j z : ℕ) → 3 ≤ j → IsOld z → (InBetaCorner L d z → ⊥) → N 1 (N j z) ≡ N j (N 0 z)
  unfolding IsBefore
  backward_else j z l o n =
      let a : N j z ≡ L j z = old_high j z (omega arith) o in
      let b : N 0 z ≡ L 0 z = zero_out z o n in
      let c : N j (L 0 z) ≡ L j (L 0 z) = old_high j (L 0 z) (omega arith) (old_link 0 z) in
      let e : L 1 (L j z) ≡ L j (L 0 z) = backward_of L w j z l in
      let m : IsBefore (L j z) → ⊥ = λ (x, h, q).
      let t : L j z ≢ 0 = λ r. begins x h (sym q ∙ r) in
      let g : L j (L 0 x) ≡ z = ap (L j) (sym q) ∙ back_of L w j z (omega arith) t in
      ⊎_elim (λ k. n (rw g at k)) (λ r. dart_of_link beta L w j z t (sym g ∙ r)) (copy x j l h) in
      let f : N 1 (L j z) ≡ L 1 (L j z) = old_one (L j z) (old_link j z) m in cc

  dangle_backward : (j z : ℕ) → 3 ≤ j → N 1 (N j z) ≡ N j (N 0 z)
  dangle_backward j z l = by_age z (N 1 (N j z)) (N j (N 0 z))
      (λ x h e. let a : N j (star x) ≡ tip (L j (L 0 x)) = s.along x j h l in let b : N 1 (tip (L j (L 0 x))) ≡ L j (L 0 x) = one_tip (L j (L 0 x)) (copy x j l h) in
      let c : N 0 (star x) ≡ L 0 x = zero_star x (inl h) in let f : N j (L 0 x) ≡ L j (L 0 x) = old_high j (L 0 x) (omega arith) (old_link 0 x) in cc)
      (λ x h e. let a : N j (tip x) ≡ star (L j (L 0 x)) = s.along_tip x j h l in let b : N 1 (star (L j (L 0 x))) ≡ tip (L j (L 0 x)) = one_star (L j (L 0 x)) (copy x j l h) in
      let c : N 0 (tip x) ≡ star x = zero_tip x (inl h) in let f : N j (star x) ≡ tip (L j (L 0 x)) = s.along x j h l in cc)
      (λ o. by_cases (InBetaCorner L d z) (N 1 (N j z)) (N j (N 0 z)) (λ h. backward_in j z l h) (λ n. backward_else j z l o n))

  high_old : (i j z : ℕ) → 2 ≤ i → i + 2 ≤ j → IsOld z → N i (N j z) ≡ N j (N i z)
  high_old i j z l m o =
      let a : N j z ≡ L j z = old_high j z (omega arith) o in let b : N i z ≡ L i z = old_high i z l o in
      let c : N i (L j z) ≡ L i (L j z) = old_high i (L j z) l (old_link j z) in
      let f : N j (L i z) ≡ L j (L i z) = old_high j (L i z) (omega arith) (old_link i z) in
      let g : L i (L j z) ≡ L j (L i z) = high_of L w i j z l m in cc

  high_new : (i j x : ℕ) → 2 ≤ i → i + 2 ≤ j → InBetaCorner L d x → (N i (N j (star x)) ≡ N j (N i (star x))) × (N i (N j (tip x)) ≡ N j (N i (tip x)))
  high_new i j x l m h =
      let lj : 3 ≤ j = omega arith in
      let a : N j (star x) ≡ tip (L j (L 0 x)) = s.along x j h lj in
      let a' : N j (tip x) ≡ star (L j (L 0 x)) = s.along_tip x j h lj in
      let oj : InOrNone (InBetaCorner L d) (L j (L 0 x)) = copy x j lj h in
      ⊎_elim
      (λ (e : i ≡ 2).
      let b : N 2 (tip (L j (L 0 x))) ≡ star (L j (L 0 x)) = two_tip (L j (L 0 x)) oj in
      let b' : N 2 (star (L j (L 0 x))) ≡ tip (L j (L 0 x)) = two_star (L j (L 0 x)) oj in
      let c : N 2 (star x) ≡ tip x = s.sides x h in let c' : N 2 (tip x) ≡ star x = s.sides_back x h in
      (cc, cc))
      (λ (n : i ≢ 2). let li : 3 ≤ i = omega arith in
      let oi : InOrNone (InBetaCorner L d) (L i (L 0 x)) = copy x i li h in
      let b : N i (tip (L j (L 0 x))) ≡ star (L i (L 0 (L j (L 0 x)))) = high_tip i (L j (L 0 x)) li oj in
      let b' : N i (star (L j (L 0 x))) ≡ tip (L i (L 0 (L j (L 0 x)))) = high_star i (L j (L 0 x)) li oj in
      let c : N i (star x) ≡ tip (L i (L 0 x)) = s.along x i h li in let c' : N i (tip x) ≡ star (L i (L 0 x)) = s.along_tip x i h li in
      let f : N j (tip (L i (L 0 x))) ≡ star (L j (L 0 (L i (L 0 x)))) = high_tip j (L i (L 0 x)) lj oi in
      let f' : N j (star (L i (L 0 x))) ≡ tip (L j (L 0 (L i (L 0 x)))) = high_star j (L i (L 0 x)) lj oi in
      let p : L i (L 0 (L j (L 0 x))) ≡ L i (L j x) = copy_back x i j lj h in
      let q : L j (L 0 (L i (L 0 x))) ≡ L j (L i x) = copy_back x j i li h in
      let g : L i (L j x) ≡ L j (L i x) = high_of L w i j x l m in (cc, cc))
      (same_or_not i 2)

  pub dangle_keeps : Laws beta N
  dangle_keeps = laws_from_parts N (record {
    nil = nil;
    turned = s.turned;
    back = dangle_back;
    apart = dangle_apart;
    onward = dangle_onward;
    backward = dangle_backward;
    high = λ i j z l m. by_age z (N i (N j z)) (N j (N i z)) (λ x h e. rw e (high_new i j x l m h).0) (λ x h e. rw e (high_new i j x l m h).1) (λ o. high_old i j z l m o);
  })
