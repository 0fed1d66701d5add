-- An edge in a face keeps the laws of a combinatorial map: its squares.
use Rattle.std.proofs.Common.{ℕ, ◌≡◌, ◌≢◌, ◌+◌, ◌≤◌, sym, ap, ⊎_elim, ◌∙◌, arith}
use Rattle.map_defs.specs.Kind.{beta}
use Rattle.map_defs.specs.Links.{Links}
use Rattle.map_defs.specs.Laws.{Laws}
use Rattle.map_defs.specs.Births.{IsFresh}
use Rattle.map_defs.specs.Insertion.{IsCut}
use Rattle.link_laws.proofs.Basics.{by_cases, same_or_not}
use Rattle.link_laws.proofs.LawFacts.{dart_of_link}
use Rattle.insert_laws.proofs.Fresh.{IsNew}
use Rattle.insert_laws.proofs.BetaParts.{laws_from_parts, onward_of, backward_of, high_of, back_of, apart_of, alike_backward}
use Rattle.insert_laws.proofs.BetaEdge.{IsTurning, IsCorner, before_copy, ComesBefore}
use Rattle.insert_laws.proofs.BetaEdge as edge

module _ (L : Links) (w : Laws beta L) (Turn : ℕ → ℕ → Type 0) (turn : IsTurning L Turn) (star : ℕ → ℕ) (fresh : IsFresh L (IsCorner Turn) star) (N : Links) (s : IsCut Turn star L N) where
  pub high_out : (t z : ℕ) → 2 ≤ t → (IsNew (IsCorner Turn) star z → ⊥) → N t z ≡ L t z
  high_out = edge.high_out L w Turn turn star fresh N s

  nil : (t : ℕ) → 1 ≤ t → N t 0 ≡ 0
  nil = edge.nil L w Turn turn star fresh N s

  pub not_link : (t z : ℕ) → IsNew (IsCorner Turn) star (L t z) → ⊥
  not_link = edge.not_link L w Turn turn star fresh N s

  copy_zero : (x j : ℕ) → x ≡ 0 → L j (L 0 x) ≡ 0
  copy_zero x j o = cc (w.nil 0, w.nil j)

  -- the links of the new dart of a corner's copy
  pub side_at : (x y j : ℕ) → Turn x y → 3 ≤ j → N 2 (star (L j (L 0 y))) ≡ star (L j (L 0 x))
  side_at x y j p l = ⊎_elim
      (λ (o : L j (L 0 y) ≡ 0). let a : L j (L 0 x) ≡ 0 = turn.even y x j (turn.both x y p) l o in let b : N 2 0 ≡ 0 = nil 2 (omega arith) in cc (fresh.nothing))
      (λ (n : L j (L 0 y) ≢ 0). s.sides (L j (L 0 y)) (L j (L 0 x)) (turn.across y x j (turn.both x y p) l n))
      (same_or_not (L j (L 0 y)) 0)

  pub along_at : (x y j t : ℕ) → Turn x y → 3 ≤ j → 3 ≤ t → N t (star (L j (L 0 y))) ≡ star (L t (L 0 (L j (L 0 x))))
  along_at x y j t p l m = ⊎_elim
      (λ (o : L j (L 0 y) ≡ 0). let a : L t (L 0 (L j (L 0 x))) ≡ 0 = copy_zero (L j (L 0 x)) t (turn.even y x j (turn.both x y p) l o) in
      let b : N t 0 ≡ 0 = nil t (omega arith) in cc (fresh.nothing))
      (λ (n : L j (L 0 y) ≢ 0). s.along (L j (L 0 y)) (L j (L 0 x)) t (turn.across y x j (turn.both x y p) l n) m)
      (same_or_not (L j (L 0 y)) 0)

  onward_at : (x y j : ℕ) → Turn x y → 3 ≤ j → N 1 (star (L j (L 0 y))) ≡ L j (L 0 x)
  onward_at x y j p l = ⊎_elim
      (λ (o : L j (L 0 y) ≡ 0). let a : L j (L 0 x) ≡ 0 = turn.even y x j (turn.both x y p) l o in let b : N 1 0 ≡ 0 = nil 1 (omega arith) in cc (fresh.nothing))
      (λ (n : L j (L 0 y) ≢ 0). s.onward (L j (L 0 y)) (L j (L 0 x)) (turn.across y x j (turn.both x y p) l n))
      (same_or_not (L j (L 0 y)) 0)

  zero_at : (x y j : ℕ) → Turn x y → 3 ≤ j → N 0 (star (L j (L 0 y))) ≡ L 0 (L j (L 0 y))
  zero_at x y j p l = ⊎_elim
      (λ (o : L j (L 0 y) ≡ 0). let b : N 0 0 ≡ 0 = s.turned.nothing in cc (fresh.nothing, w.nil 0))
      (λ (n : L j (L 0 y) ≢ 0). edge.zero_new L w Turn turn star fresh N s (L j (L 0 y)) (L j (L 0 x)) (turn.across y x j (turn.both x y p) l n))
      (same_or_not (L j (L 0 y)) 0)

  -- into a copy's end
  zero_copy : (x y j : ℕ) → Turn x y → 3 ≤ j → N 0 (L j (L 0 x)) ≡ star (L j (L 0 y))
  zero_copy x y j p l = ⊎_elim
      (λ (o : L j (L 0 x) ≡ 0). let a : L j (L 0 y) ≡ 0 = turn.even x y j p l o in let b : N 0 0 ≡ 0 = s.turned.nothing in cc (fresh.nothing))
      (λ (n : L j (L 0 x) ≢ 0). edge.zero_in L w Turn turn star fresh N s (L j (L 0 x)) (L j (L 0 y)) (turn.across x y j p l n))
      (same_or_not (L j (L 0 x)) 0)

  -- a copy of a copy
  copy_copy : (x i j : ℕ) → 3 ≤ j → L 0 x ≢ 0 → L i (L 0 (L j (L 0 x))) ≡ L i (L j x)
  copy_copy x i j l h = ap (L i) (before_copy L w j x l h)

  cut_back : (j z : ℕ) → 2 ≤ j → N j z ≢ 0 → N j (N j z) ≡ z
  cut_back j z l n = by_cases (IsNew (IsCorner Turn) star z) (N j (N j z)) z
      (λ (x, (y, p), e). ⊎_elim
      (λ (j2 : j ≡ 2). let a : N 2 (star x) ≡ star y = s.sides x y p in let b : N 2 (star y) ≡ star x = s.sides y x (turn.both x y p) in cc)
      (λ (j3 : j ≢ 2).
      let l3 : 3 ≤ j = omega arith in
      let a : N j (star x) ≡ star (L j (L 0 y)) = s.along x y j p l3 in
      let b : N j (star (L j (L 0 y))) ≡ star (L j (L 0 (L j (L 0 x)))) = along_at x y j j p l3 l3 in
      let q : L j (L 0 (L j (L 0 x))) ≡ L j (L j x) = copy_copy x j j l3 (turn.begins x y p) in
      let g : L j (L 0 y) ≢ 0 = λ o. n (cc (fresh.nothing)) in
      let h : L j (L 0 x) ≢ 0 = λ o. g (turn.even x y j p l3 o) in
      let hj : L j x ≢ 0 = λ o. h ((alike_backward L w j x l3 (turn.begins x y p)).0 o) in
      let r : L j (L j x) ≡ x = back_of L w j x l hj in cc)
      (same_or_not j 2))
      (λ old. let a : N j z ≡ L j z = high_out j z l old in
      let b : N j (L j z) ≡ L j (L j z) = high_out j (L j z) l (not_link j z) in
      let c : L j (L j z) ≡ z = back_of L w j z l (λ o. n (a ∙ o)) in cc)

  cut_apart : (j z : ℕ) → 2 ≤ j → z ≢ 0 → N j z ≢ z
  cut_apart j z l hz e =
      let old : IsNew (IsCorner Turn) star z → ⊥ = λ (x, (y, p), q). ⊎_elim
      (λ (j2 : j ≡ 2). let a : N 2 (star x) ≡ star y = s.sides x y p in
      turn.moves x y p (fresh.one y x (x, turn.both x y p) (y, p) (let g : star y ≡ star x = cc in g)))
      (λ (j3 : j ≢ 2). let l3 : 3 ≤ j = omega arith in
      let a : N j (star x) ≡ star (L j (L 0 y)) = s.along x y j p l3 in
      let g : star (L j (L 0 y)) ≡ star x = cc in
      ⊎_elim
      (λ (o : L j (L 0 y) ≡ 0). fresh.dart x (y, p) (sym g ∙ (ap star o ∙ fresh.nothing)))
      (λ (m : L j (L 0 y) ≢ 0). turn.moves_along x y j p l3
      (fresh.one (L j (L 0 y)) x (L j (L 0 x), turn.across y x j (turn.both x y p) l3 m) (y, p) g))
      (same_or_not (L j (L 0 y)) 0))
      (same_or_not j 2) in
      apart_of L w j z l hz (sym (high_out j z l old) ∙ e)

  one_out : (z : ℕ) → (IsNew (IsCorner Turn) star z → ⊥) → (ComesBefore L Turn z → ⊥) → N 1 z ≡ L 1 z
  one_out = edge.one_out L w Turn turn star fresh N s

  onward_new : (j x y : ℕ) → Turn x y → 3 ≤ j → N 0 (N j (star x)) ≡ N j (N 1 (star x))
  onward_new j x y p l =
      let a : N j (star x) ≡ star (L j (L 0 y)) = s.along x y j p l in
      let b : N 0 (star (L j (L 0 y))) ≡ L 0 (L j (L 0 y)) = zero_at x y j p l in
      let c : L 0 (L j (L 0 y)) ≡ L j y = before_copy L w j y l (turn.begins y x (turn.both x y p)) in
      let d : N 1 (star x) ≡ y = s.onward x y p in
      let e : N j y ≡ L j y = high_out j y (omega arith) (edge.not_corner L w Turn turn star fresh N s y x (turn.both x y p)) in cc

  onward_before : (j c y : ℕ) → Turn c y → 3 ≤ j → N 0 (N j (L 0 c)) ≡ N j (N 1 (L 0 c))
  onward_before j c y p l =
      let a : N j (L 0 c) ≡ L j (L 0 c) = high_out j (L 0 c) (omega arith) (not_link 0 c) in
      let b : N 0 (L j (L 0 c)) ≡ star (L j (L 0 y)) = zero_copy c y j p l in
      let d : N 1 (L 0 c) ≡ star c = s.into c y p in
      let e : N j (star c) ≡ star (L j (L 0 y)) = s.along c y j p l in cc

  onward_else : (j z : ℕ) → 3 ≤ j → (IsNew (IsCorner Turn) star z → ⊥) → (ComesBefore L Turn z → ⊥) → N 0 (N j z) ≡ N j (N 1 z)
  onward_else j z l old m =
      let a : N j z ≡ L j z = high_out j z (omega arith) old in
      let b : N 1 z ≡ L 1 z = one_out z old m in
      let c : N j (L 1 z) ≡ L j (L 1 z) = high_out j (L 1 z) (omega arith) (not_link 1 z) in
      let e : L 0 (L j z) ≡ L j (L 1 z) = onward_of L w j z l in
      let out : IsCorner Turn (L j z) → ⊥ = λ (y, p).
      let n : L j (L 1 z) ≢ 0 = λ o. turn.begins (L j z) y p (e ∙ o) in
      let n1 : L 1 z ≢ 0 = dart_of_link beta L w j (L 1 z) n in
      let g : L j (L 0 (L j z)) ≡ L 1 z = ap (L j) e ∙ back_of L w j (L 1 z) (omega arith) n in
      let q : Turn (L j (L 0 (L j z))) (L j (L 0 y)) = turn.across (L j z) y j p l (λ o. n1 (sym g ∙ o)) in
      m (L 1 z, L j (L 0 y), rw g at q, sym (w.back 1 z n1)) in
      let f : N 0 (L j z) ≡ L 0 (L j z) = edge.zero_out L w Turn turn star fresh N s (L j z) (not_link j z) out in cc

  cut_onward : (j z : ℕ) → 3 ≤ j → N 0 (N j z) ≡ N j (N 1 z)
  cut_onward j z l = by_cases (IsNew (IsCorner Turn) star z) (N 0 (N j z)) (N j (N 1 z))
      (λ (x, (y, p), e). rw e (onward_new j x y p l))
      (λ old. by_cases (ComesBefore L Turn z) (N 0 (N j z)) (N j (N 1 z))
      (λ (c, y, p, e). rw e (onward_before j c y p l))
      (λ m. onward_else j z l old m))

  backward_new : (j x y : ℕ) → Turn x y → 3 ≤ j → N 1 (N j (star x)) ≡ N j (N 0 (star x))
  backward_new j x y p l =
      let a : N j (star x) ≡ star (L j (L 0 y)) = s.along x y j p l in
      let b : N 1 (star (L j (L 0 y))) ≡ L j (L 0 x) = onward_at x y j p l in
      let c : N 0 (star x) ≡ L 0 x = edge.zero_new L w Turn turn star fresh N s x y p in
      let d : N j (L 0 x) ≡ L j (L 0 x) = high_out j (L 0 x) (omega arith) (not_link 0 x) in cc

  backward_in : (j z y : ℕ) → Turn z y → 3 ≤ j → N 1 (N j z) ≡ N j (N 0 z)
  backward_in j z y p l =
      let a : N 0 z ≡ star y = edge.zero_in L w Turn turn star fresh N s z y p in
      let b : N j (star y) ≡ star (L j (L 0 z)) = s.along y z j (turn.both z y p) l in
      let c : N j z ≡ L j z = high_out j z (omega arith) (edge.not_corner L w Turn turn star fresh N s z y p) in
      ⊎_elim
      (λ (o : L j (L 0 z) ≡ 0).
      let d : L j z ≡ 0 = (alike_backward L w j z l (turn.begins z y p)).1 o in
      let e : N 1 0 ≡ 0 = nil 1 (omega arith) in cc (fresh.nothing))
      (λ (n : L j (L 0 z) ≢ 0).
      let d : L 0 (L j (L 0 z)) ≡ L j z = before_copy L w j z l (turn.begins z y p) in
      let e : N 1 (L 0 (L j (L 0 z))) ≡ star (L j (L 0 z)) = s.into (L j (L 0 z)) (L j (L 0 y)) (turn.across z y j p l n) in cc)
      (same_or_not (L j (L 0 z)) 0)

  backward_else : (j z : ℕ) → 3 ≤ j → (IsNew (IsCorner Turn) star z → ⊥) → (IsCorner Turn z → ⊥) → N 1 (N j z) ≡ N j (N 0 z)
  backward_else j z l old out =
      let a : N 0 z ≡ L 0 z = edge.zero_out L w Turn turn star fresh N s z old out in
      let b : N j (L 0 z) ≡ L j (L 0 z) = high_out j (L 0 z) (omega arith) (not_link 0 z) in
      let c : N j z ≡ L j z = high_out j z (omega arith) old in
      let e : L 1 (L j z) ≡ L j (L 0 z) = backward_of L w j z l in
      let m : ComesBefore L Turn (L j z) → ⊥ = λ (c, y, p, g).
      let n : L j z ≢ 0 = λ o. turn.begins c y p (sym g ∙ o) in
      let h : L j (L 0 c) ≡ z = ap (L j) (sym g) ∙ back_of L w j z (omega arith) n in
      let q : Turn (L j (L 0 c)) (L j (L 0 y)) = turn.across c y j p l (λ o. dart_of_link beta L w j z n (sym h ∙ o)) in
      out (L j (L 0 y), rw h at q) in
      let f : N 1 (L j z) ≡ L 1 (L j z) = one_out (L j z) (not_link j z) m in cc

  cut_backward : (j z : ℕ) → 3 ≤ j → N 1 (N j z) ≡ N j (N 0 z)
  cut_backward j z l = by_cases (IsNew (IsCorner Turn) star z) (N 1 (N j z)) (N j (N 0 z))
      (λ (x, (y, p), e). rw e (backward_new j x y p l))
      (λ old. by_cases (IsCorner Turn z) (N 1 (N j z)) (N j (N 0 z))
      (λ (y, p). backward_in j z y p l)
      (λ out. backward_else j z l old out))

  high_new : (i j x y : ℕ) → Turn x y → 2 ≤ i → i + 2 ≤ j → N i (N j (star x)) ≡ N j (N i (star x))
  high_new i j x y p l m =
      let lj : 3 ≤ j = omega arith in
      let a : N j (star x) ≡ star (L j (L 0 y)) = s.along x y j p lj in
      ⊎_elim
      (λ (i2 : i ≡ 2).
      let b : N 2 (star (L j (L 0 y))) ≡ star (L j (L 0 x)) = side_at x y j p lj in
      let c : N 2 (star x) ≡ star y = s.sides x y p in
      let d : N j (star y) ≡ star (L j (L 0 x)) = s.along y x j (turn.both x y p) lj in cc)
      (λ (n : i ≢ 2).
      let li : 3 ≤ i = omega arith in
      let b : N i (star (L j (L 0 y))) ≡ star (L i (L 0 (L j (L 0 x)))) = along_at x y j i p lj li in
      let c : N i (star x) ≡ star (L i (L 0 y)) = s.along x y i p li in
      let d : N j (star (L i (L 0 y))) ≡ star (L j (L 0 (L i (L 0 x)))) = along_at x y i j p li lj in
      let e : L i (L 0 (L j (L 0 x))) ≡ L i (L j x) = copy_copy x i j lj (turn.begins x y p) in
      let f : L j (L 0 (L i (L 0 x))) ≡ L j (L i x) = copy_copy x j i li (turn.begins x y p) in
      let g : L i (L j x) ≡ L j (L i x) = high_of L w i j x l m in cc)
      (same_or_not i 2)

  cut_high : (i j z : ℕ) → 2 ≤ i → i + 2 ≤ j → N i (N j z) ≡ N j (N i z)
  cut_high i j z l m = by_cases (IsNew (IsCorner Turn) star z) (N i (N j z)) (N j (N i z))
      (λ (x, (y, p), e). rw e (high_new i j x y p l m))
      (λ old.
      let a : N j z ≡ L j z = high_out j z (omega arith) old in
      let b : N i z ≡ L i z = high_out i z l old in
      let c : N i (L j z) ≡ L i (L j z) = high_out i (L j z) l (not_link j z) in
      let d : N j (L i z) ≡ L j (L i z) = high_out j (L i z) (omega arith) (not_link i z) in
      let g : L i (L j z) ≡ L j (L i z) = high_of L w i j z l m in cc)

  pub cut_keeps : Laws beta N
  cut_keeps = laws_from_parts N (record {
    nil = nil;
    turned = s.turned;
    back = cut_back;
    apart = cut_apart;
    onward = cut_onward;
    backward = cut_backward;
    high = cut_high;
  })
