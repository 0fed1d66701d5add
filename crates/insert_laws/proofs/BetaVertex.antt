-- A vertex on an edge keeps the laws of a combinatorial map.
use Rattle.std.proofs.Common.{ℕ, ◌≡◌, ◌≢◌, ◌+◌, ◌≤◌, refl, sym, ap, inl, inr, ⊎_elim, ◌∙◌, arith}
use Rattle.map_defs.specs.Kind.{beta}
use Rattle.map_defs.specs.Links.{Links}
use Rattle.map_defs.specs.Laws.{Laws}
use Rattle.map_defs.specs.LinkWords.{one_link}
use Rattle.map_defs.specs.Cells.{onward, InCell}
use Rattle.map_defs.specs.Births.{IsFresh}
use Rattle.map_defs.specs.Insertion.{IsSplit}
use Rattle.link_laws.proofs.Basics.{by_cases, stable, same_or_not}
use Rattle.link_laws.proofs.LawFacts.{dart_of_link}
use Rattle.insert_laws.proofs.Fresh.{IsNew, InOrNone, fresh_link, fresh_none}
use Rattle.link_laws.proofs.Orbits.{orbit_dart}
use Rattle.insert_laws.proofs.BetaParts.{laws_from_parts, onward_of, backward_of, high_of, back_of, apart_of}

-- K is a set of darts that is closed under the links from 2 upwards
pub record IsEdgeSet (L : Links) (K : ℕ → Type 0) : Type 0 where
  pub dart : (x : ℕ) → K x → x ≢ 0
  pub on : (x j : ℕ) → K x → 2 ≤ j → L j x ≢ 0 → K (L j x)

pub edge_set : (L : Links) (d : ℕ) → d ≢ 0 → IsEdgeSet L (InCell beta L 1 d)
edge_set L d hd = record {
  dart = λ x h. orbit_dart _ (λ u v q. q.3) d x hd h;
  on = λ x j h l n. onward h (one_link j, inl (j, l, refl), refl, n);
}

module _ (L : Links) (w : Laws beta L) (K : ℕ → Type 0) (set : IsEdgeSet L K) (star : ℕ → ℕ) (fresh : IsFresh L K star) (N : Links) (s : IsSplit K star L N) where
  pub on_or_none : (x j : ℕ) → InOrNone K x → 2 ≤ j → InOrNone K (L j x)
  on_or_none x j (inl h) l = ⊎_elim (λ o. inr o) (λ n. inl (set.on x j h l n)) (same_or_not (L j x) 0)
  on_or_none x j (inr o) l = inr (ap (L j) o ∙ w.nil j)

  pub on_back : (x j : ℕ) → 2 ≤ j → K (L j x) → K x
  on_back x j l h =
      let n : L j x ≢ 0 = set.dart (L j x) h in
      let b : L j (L j x) ≡ x = back_of L w j x l n in
      rw b at (set.on (L j x) j h l (λ o. dart_of_link beta L w j x n (sym b ∙ o)))

  pub out : (t z : ℕ) → 1 ≤ t → (IsNew K star z → ⊥) → (K z → ⊥) → N t z ≡ L t z
  out t z l n m = s.kept z t l m (λ y h e. n (y, h, e))

  pub nil : (t : ℕ) → 1 ≤ t → N t 0 ≡ 0
  nil t l = out t 0 l (fresh_none beta L w K star fresh) (λ h. set.dart 0 h refl) ∙ w.nil t

  -- the same for a dart of K or none
  pub new_at : (j u : ℕ) → 2 ≤ j → InOrNone K u → N j u ≡ star (L j u)
  new_at j u l (inl h) = s.new u j h l
  new_at j u l (inr o) = let a : N j 0 ≡ 0 = nil j (omega arith) in cc (fresh.nothing, w.nil j)

  pub old_at : (j u : ℕ) → 2 ≤ j → InOrNone K u → N j (star u) ≡ L j u
  old_at j u l (inl h) = s.old u j h l
  old_at j u l (inr o) = let a : N j 0 ≡ 0 = nil j (omega arith) in cc (fresh.nothing, w.nil j)

  pub first_at : (u : ℕ) → InOrNone K u → N 1 u ≡ star u
  first_at u (inl h) = s.first u h
  first_at u (inr o) = let a : N 1 0 ≡ 0 = nil 1 (omega arith) in cc (fresh.nothing)

  pub second_at : (u : ℕ) → InOrNone K u → N 1 (star u) ≡ L 1 u
  second_at u (inl h) = s.second u h
  second_at u (inr o) = let a : N 1 0 ≡ 0 = nil 1 (omega arith) in cc (fresh.nothing, w.nil 1)

  -- link 0 of a new dart, and of an old one
  pub back_new : (u : ℕ) → InOrNone K u → N 0 (star u) ≡ u
  back_new u (inl h) = (s.turned.back u (star u) (set.dart u h) (fresh.dart u h)).0 (s.first u h)
  back_new u (inr o) = let a : N 0 0 ≡ 0 = s.turned.nothing in cc (fresh.nothing)

  pub back_in : (u : ℕ) → K (L 0 u) → N 0 u ≡ star (L 0 u)
  back_in u h =
      let n : L 0 u ≢ 0 = set.dart (L 0 u) h in
      let e : N 1 (star (L 0 u)) ≡ u = s.second (L 0 u) h ∙ w.back 0 u n in
      (s.turned.back (star (L 0 u)) u (fresh.dart (L 0 u) h) (dart_of_link beta L w 0 u n)).0 e

  -- no dart leads on to an old dart that none led to
  back_free : (u b : ℕ) → (IsNew K star u → ⊥) → L 0 u ≡ 0 → u ≢ 0 → b ≢ 0 → N 1 b ≡ u → ⊥
  back_free u b old z hu hb e =
      let led : (c : ℕ) → L 1 c ≡ u → c ≢ 0 → ⊥ = λ c g hc.
      let q : L 0 (L 1 c) ≡ c = w.back 1 c (λ o. hu (sym g ∙ o)) in hc (let r : L 0 u ≡ c = cc in sym r ∙ z) in
      let fresh_b : IsNew K star b → ⊥ = λ v. led v.0 (let q : N 1 (star v.0) ≡ L 1 v.0 = s.second v.0 v.1 in cc (v.2)) (set.dart v.0 v.1) in
      let out_b : K b → ⊥ = λ h. old (b, h, sym e ∙ s.first b h) in
      led b (sym (out 1 b (omega arith) fresh_b out_b) ∙ e) hb

  pub back_out : (u : ℕ) → (IsNew K star u → ⊥) → (K (L 0 u) → ⊥) → N 0 u ≡ L 0 u
  back_out u old far = ⊎_elim
      (λ (z : u ≡ 0). let a : N 0 0 ≡ 0 = s.turned.nothing in cc (w.nil 0))
      (λ (hu : u ≢ 0). ⊎_elim
      (λ (z : L 0 u ≡ 0). stable (N 0 u) 0 (λ n. back_free u (N 0 u) old z hu n ((s.turned.back (N 0 u) u n hu).1 refl)) ∙ sym z)
      (λ (n : L 0 u ≢ 0).
      let e : N 1 (L 0 u) ≡ L 1 (L 0 u) = out 1 (L 0 u) (omega arith) (fresh_link beta L w K star fresh 0 u) far in
      (s.turned.back (L 0 u) u n hu).0 (e ∙ w.back 0 u n))
      (same_or_not (L 0 u) 0))
      (same_or_not u 0)

  -- a claim on a dart may be proved for new darts, for those of K and for the others
  by_dart : (z a b : ℕ) → ((x : ℕ) → K x → z ≡ star x → a ≡ b) → (K z → (IsNew K star z → ⊥) → a ≡ b) → ((K z → ⊥) → (IsNew K star z → ⊥) → a ≡ b) → a ≡ b
  by_dart z a b f g h = by_cases (IsNew K star z) a b (λ v. f v.0 v.1 v.2) (λ n. by_cases (K z) a b (λ i. g i n) (λ o. h o n))

  onward_old : (j x : ℕ) → 3 ≤ j → N 0 (L j x) ≡ N j (L 1 x)
  onward_old j x l =
      let c : L 0 (L j x) ≡ L j (L 1 x) = onward_of L w j x l in
      let old : IsNew K star (L j x) → ⊥ = fresh_link beta L w K star fresh j x in
      by_cases (K (L 1 x)) (N 0 (L j x)) (N j (L 1 x))
      (λ h. let a : N j (L 1 x) ≡ star (L j (L 1 x)) = s.new (L 1 x) j h (omega arith) in
      ⊎_elim
      (λ (g : K (L j (L 1 x))). let b : N 0 (L j x) ≡ star (L 0 (L j x)) = back_in (L j x) (rw c g) in cc)
      (λ (o : L j (L 1 x) ≡ 0). let b : N 0 (L j x) ≡ L 0 (L j x) = back_out (L j x) old (λ g. set.dart (L 0 (L j x)) g (c ∙ o)) in cc (fresh.nothing))
      (on_or_none (L 1 x) j (inl h) (omega arith)))
      (λ n. let a : N j (L 1 x) ≡ L j (L 1 x) = out j (L 1 x) (omega arith) (fresh_link beta L w K star fresh 1 x) n in
      let b : N 0 (L j x) ≡ L 0 (L j x) = back_out (L j x) old (λ g. n (on_back (L 1 x) j (omega arith) (rw c at g))) in cc)

  backward_old : (j z : ℕ) → 2 ≤ j → (IsNew K star z → ⊥) → N j (N 0 z) ≡ L j (L 0 z)
  backward_old j z l old = by_cases (K (L 0 z)) (N j (N 0 z)) (L j (L 0 z))
      (λ h. let a : N 0 z ≡ star (L 0 z) = back_in z h in let b : N j (star (L 0 z)) ≡ L j (L 0 z) = s.old (L 0 z) j h l in cc)
      (λ n. let a : N 0 z ≡ L 0 z = back_out z old n in
      let b : N j (L 0 z) ≡ L j (L 0 z) = out j (L 0 z) (omega arith) (fresh_link beta L w K star fresh 0 z) n in cc)

  split_back : (j z : ℕ) → 2 ≤ j → N j z ≢ 0 → N j (N j z) ≡ z
  split_back j z l n = by_dart z (N j (N j z)) z
      (λ x h e. let a : N j (star x) ≡ L j x = s.old x j h l in
      let b : N j (L j x) ≡ star (L j (L j x)) = new_at j (L j x) l (on_or_none x j (inl h) l) in
      let c : L j (L j x) ≡ x = back_of L w j x l (λ o. n (cc)) in cc)
      (λ h old. let a : N j z ≡ star (L j z) = s.new z j h l in
      let b : N j (star (L j z)) ≡ L j (L j z) = old_at j (L j z) l (on_or_none z j (inl h) l) in
      let c : L j (L j z) ≡ z = back_of L w j z l (λ o. n (cc (fresh.nothing))) in cc)
      (λ o old. let a : N j z ≡ L j z = out j z (omega arith) old o in
      let b : N j (L j z) ≡ L j (L j z) = out j (L j z) (omega arith) (fresh_link beta L w K star fresh j z) (λ h. o (on_back z j l h)) in
      let c : L j (L j z) ≡ z = back_of L w j z l (λ o. n (cc)) in cc)

  split_apart : (j z : ℕ) → 2 ≤ j → z ≢ 0 → N j z ≢ z
  split_apart j z l hz e =
      let old : IsNew K star z → ⊥ = λ v. fresh_link beta L w K star fresh j v.0 (v.0, v.1, (let a : N j (star v.0) ≡ L j v.0 = s.old v.0 j v.1 l in cc (v.2))) in
      let outside : K z → ⊥ = λ h. let a : N j z ≡ star (L j z) = s.new z j h l in
      ⊎_elim (λ (g : K (L j z)). old (L j z, g, sym e ∙ a)) (λ (o : L j z ≡ 0). hz (cc (fresh.nothing))) (on_or_none z j (inl h) l) in
      apart_of L w j z l hz (sym (out j z (omega arith) old outside) ∙ e)

  split_onward : (j z : ℕ) → 3 ≤ j → N 0 (N j z) ≡ N j (N 1 z)
  split_onward j z l = by_dart z (N 0 (N j z)) (N j (N 1 z))
      (λ x h e. let a : N j (star x) ≡ L j x = s.old x j h (omega arith) in let b : N 1 (star x) ≡ L 1 x = s.second x h in
      let c : N 0 (L j x) ≡ N j (L 1 x) = onward_old j x l in cc)
      (λ h old. let a : N j z ≡ star (L j z) = s.new z j h (omega arith) in
      let b : N 0 (star (L j z)) ≡ L j z = back_new (L j z) (on_or_none z j (inl h) (omega arith)) in
      let c : N 1 z ≡ star z = s.first z h in let q : N j (star z) ≡ L j z = s.old z j h (omega arith) in cc)
      (λ o old. let a : N j z ≡ L j z = out j z (omega arith) old o in let b : N 1 z ≡ L 1 z = out 1 z (omega arith) old o in
      let c : N 0 (L j z) ≡ N j (L 1 z) = onward_old j z l in cc)

  split_backward : (j z : ℕ) → 3 ≤ j → N 1 (N j z) ≡ N j (N 0 z)
  split_backward j z l = by_dart z (N 1 (N j z)) (N j (N 0 z))
      (λ x h e. let a : N j (star x) ≡ L j x = s.old x j h (omega arith) in
      let b : N 1 (L j x) ≡ star (L j x) = first_at (L j x) (on_or_none x j (inl h) (omega arith)) in
      let c : N 0 (star x) ≡ x = back_new x (inl h) in let q : N j x ≡ star (L j x) = s.new x j h (omega arith) in cc)
      (λ h old. let a : N j z ≡ star (L j z) = s.new z j h (omega arith) in
      let b : N 1 (star (L j z)) ≡ L 1 (L j z) = second_at (L j z) (on_or_none z j (inl h) (omega arith)) in
      let c : N j (N 0 z) ≡ L j (L 0 z) = backward_old j z (omega arith) old in
      let q : L 1 (L j z) ≡ L j (L 0 z) = backward_of L w j z l in cc)
      (λ o old. let a : N j z ≡ L j z = out j z (omega arith) old o in
      let b : N 1 (L j z) ≡ L 1 (L j z) = out 1 (L j z) (omega arith) (fresh_link beta L w K star fresh j z) (λ h. o (on_back z j (omega arith) h)) in
      let c : N j (N 0 z) ≡ L j (L 0 z) = backward_old j z (omega arith) old in
      let q : L 1 (L j z) ≡ L j (L 0 z) = backward_of L w j z l in cc)

  split_high : (i j z : ℕ) → 2 ≤ i → i + 2 ≤ j → N i (N j z) ≡ N j (N i z)
  split_high i j z l m = let q : (x : ℕ) → L i (L j x) ≡ L j (L i x) = λ x. high_of L w i j x l m in
      by_dart z (N i (N j z)) (N j (N i z))
      (λ x h e. let a : N j (star x) ≡ L j x = s.old x j h (omega arith) in let b : N i (star x) ≡ L i x = s.old x i h l in
      let c : N i (L j x) ≡ star (L i (L j x)) = new_at i (L j x) l (on_or_none x j (inl h) (omega arith)) in
      let g : N j (L i x) ≡ star (L j (L i x)) = new_at j (L i x) (omega arith) (on_or_none x i (inl h) l) in cc (q x))
      (λ h old. let a : N j z ≡ star (L j z) = s.new z j h (omega arith) in let b : N i z ≡ star (L i z) = s.new z i h l in
      let c : N i (star (L j z)) ≡ L i (L j z) = old_at i (L j z) l (on_or_none z j (inl h) (omega arith)) in
      let g : N j (star (L i z)) ≡ L j (L i z) = old_at j (L i z) (omega arith) (on_or_none z i (inl h) l) in cc (q z))
      (λ o old. let a : N j z ≡ L j z = out j z (omega arith) old o in let b : N i z ≡ L i z = out i z (omega arith) old o in
      let c : N i (L j z) ≡ L i (L j z) = out i (L j z) (omega arith) (fresh_link beta L w K star fresh j z) (λ h. o (on_back z j (omega arith) h)) in
      let g : N j (L i z) ≡ L j (L i z) = out j (L i z) (omega arith) (fresh_link beta L w K star fresh i z) (λ h. o (on_back z i l h)) in cc (q z))

  pub split_keeps : Laws beta N
  split_keeps = laws_from_parts N (record {
    nil = nil;
    turned = s.turned;
    back = split_back;
    apart = split_apart;
    onward = split_onward;
    backward = split_backward;
    high = split_high;
  })
