-- Insertion in general keeps the squares of distant links, and so all laws of a map.
use Rattle.std.proofs.Common.{ℕ, ◌≡◌, ◌≢◌, sym, inl, inr, ⊎_elim, ◌∙◌}
use Rattle.map_defs.specs.Kind.{Kind, inverse, IsDistant}
use Rattle.map_defs.specs.Links.{Links}
use Rattle.map_defs.specs.Laws.{Laws}
use Rattle.map_defs.specs.Births.{IsFresh}
use Rattle.map_defs.specs.Insertion.{IsInsertable, IsInserted}
use Rattle.link_laws.proofs.Basics.{by_cases, same_or_not, inverse_twice, IsDistant-turned, IsDistant-inverse_right, IsDistant-apart}
use Rattle.link_laws.proofs.LawFacts.{dart_of_link}
use Rattle.insert_laws.proofs.Fresh.{IsNew, InOrNone, fresh_link, fresh_old}
use Rattle.insert_laws.proofs.Stands.{Square, stands_square}
use Rattle.insert_laws.proofs.InsertAny.{other_than_own, inserted_old, inserted_outside, inserted_nil, new_stands, by_stands, back_at, apart_at}

module _ (k : Kind) (i : ℕ) (K : ℕ → Type 0) (P : ℕ → ℕ → ℕ → Type 0) (star : ℕ → ℕ) (L : Links) (w : Laws k L) (can : IsInsertable k i K P L) (fresh : IsFresh L K star) (N : Links) (s : IsInserted k i K P star L N) where
  old_at : (t z : ℕ) → (IsNew K star z → ⊥) → t ≢ i → N t z ≡ L t z
  old_at = inserted_old k i K P star L w can fresh N s

  distant_other : (j : ℕ) → IsDistant k i j → inverse k j ≢ i
  distant_other j f e = IsDistant-apart k i (inverse k j) (IsDistant-inverse_right k i j f) (sym e)

  -- a dart of K, or none, and its new dart
  down : (u : ℕ) → InOrNone K u → N i (star u) ≡ u
  down u (inl h) = s.old u h
  down u (inr o) = rw (o, fresh.nothing) (inserted_nil k i K P star L w can fresh N s i)

  up : (u : ℕ) → InOrNone K u → N i u ≡ star u
  up u (inl h) = s.new u h
  up u (inr o) = rw (o, fresh.nothing) (inserted_nil k i K P star L w can fresh N s i)

  distant_in : (x j : ℕ) → K x → IsDistant k i j → InOrNone K (L j x)
  distant_in x j h f = ⊎_elim (λ z. inr z) (λ n. inl (can.carried x j h (inr f) n)) (same_or_not (L j x) 0)

  square_new : (j x : ℕ) → IsDistant k i j → K x → N i (N j (star x)) ≡ N (inverse k j) (N i (star x))
  square_new j x f h =
      let u : ℕ = L (inverse k j) x in
      let a : N j (star x) ≡ star u = s.along x j h f in
      let b : N i (star u) ≡ u = down u (distant_in x (inverse k j) h (IsDistant-inverse_right k i j f)) in
      let c : N i (star x) ≡ x = s.old x h in
      let d : N (inverse k j) x ≡ u = old_at (inverse k j) x (fresh_old k L w K star fresh x h) (distant_other j f) in cc

  square_in : (j z : ℕ) → IsDistant k i j → K z → N i (N j z) ≡ N (inverse k j) (N i z)
  square_in j z f h =
      let a : N j z ≡ L j z = old_at j z (fresh_old k L w K star fresh z h) (λ e. IsDistant-apart k i j f (sym e)) in
      let b : N i (L j z) ≡ star (L j z) = up (L j z) (distant_in z j h f) in
      let c : N i z ≡ star z = s.new z h in
      let d : N (inverse k j) (star z) ≡ star (L (inverse k (inverse k j)) z) = s.along z (inverse k j) h (IsDistant-inverse_right k i j f) in
      cc (inverse_twice k j)

  square_out : (j z : ℕ) → IsDistant k i j → (IsNew K star z → ⊥) → (K z → ⊥) → N i (N j z) ≡ N (inverse k j) (N i z)
  square_out j z f old out =
      let a : N j z ≡ L j z = old_at j z old (λ e. IsDistant-apart k i j f (sym e)) in
      let out' : K (L j z) → ⊥ = λ h.
      let n : L j z ≢ 0 = can.dart (L j z) h in
      let b : L (inverse k j) (L j z) ≡ z = w.back j z n in
      out (rw b at (can.carried (L j z) (inverse k j) h (inr (IsDistant-inverse_right k i j f)) (λ o. dart_of_link k L w j z n (sym b ∙ o)))) in
      let b : N i (L j z) ≡ L i (L j z) = inserted_outside k i K P star L w can fresh N s i (L j z) (fresh_link k L w K star fresh j z) out' in
      let c : N i z ≡ L i z = inserted_outside k i K P star L w can fresh N s i z old out in
      let d : N (inverse k j) (L i z) ≡ L (inverse k j) (L i z) = old_at (inverse k j) (L i z) (fresh_link k L w K star fresh i z) (distant_other j f) in
      let q : L (inverse k i) (L j z) ≡ L (inverse k j) (L i z) = w.square i j z f in cc (can.own)

  square_own : (j z : ℕ) → IsDistant k i j → N i (N j z) ≡ N (inverse k j) (N i z)
  square_own j z f = by_cases (IsNew K star z) (N i (N j z)) (N (inverse k j) (N i z))
      (λ v. rw v.2 (square_new j v.0 f v.1))
      (λ n. by_cases (K z) (N i (N j z)) (N (inverse k j) (N i z)) (λ h. square_in j z f h) (λ h. square_out j z f n h))

  square_stands : (t j x : ℕ) → IsDistant k t j → t ≢ i → j ≢ i → K x → N (inverse k t) (N j (star x)) ≡ N (inverse k j) (N t (star x))
  square_stands t j x f nt nj h =
      let lhs : ℕ = N (inverse k t) (N j (star x)) in
      let rhs : ℕ = N (inverse k j) (N t (star x)) in
      by_stands k i K P star L w can fresh N s t x lhs rhs h nt (λ y p.
      by_stands k i K P star L w can fresh N s j x lhs rhs h nj (λ z q.
      let a : N t (star x) ≡ star y = new_stands k i K P star L w can fresh N s t x y p in
      let b : N j (star x) ≡ star z = new_stands k i K P star L w can fresh N s j x z q in
      let r : Square k i K P L t j y z = stands_square k i K P L w can t j x y z f p q in
      let c : N (inverse k j) (star y) ≡ star r.0 = new_stands k i K P star L w can fresh N s (inverse k j) y r.0 r.1 in
      let d : N (inverse k t) (star z) ≡ star r.0 = new_stands k i K P star L w can fresh N s (inverse k t) z r.0 r.2 in cc))

  square_other : (t j z : ℕ) → IsDistant k t j → t ≢ i → j ≢ i → N (inverse k t) (N j z) ≡ N (inverse k j) (N t z)
  square_other t j z f nt nj = by_cases (IsNew K star z) (N (inverse k t) (N j z)) (N (inverse k j) (N t z))
      (λ v. rw v.2 (square_stands t j v.0 f nt nj v.1))
      (λ n.
      let a : N j z ≡ L j z = old_at j z n nj in
      let b : N t z ≡ L t z = old_at t z n nt in
      let c : N (inverse k t) (L j z) ≡ L (inverse k t) (L j z) = old_at (inverse k t) (L j z) (fresh_link k L w K star fresh j z) (other_than_own k i K P star L w can fresh t nt) in
      let d : N (inverse k j) (L t z) ≡ L (inverse k j) (L t z) = old_at (inverse k j) (L t z) (fresh_link k L w K star fresh t z) (other_than_own k i K P star L w can fresh j nj) in
      let q : L (inverse k t) (L j z) ≡ L (inverse k j) (L t z) = w.square t j z f in cc)

  square_at : (t j z : ℕ) → IsDistant k t j → N (inverse k t) (N j z) ≡ N (inverse k j) (N t z)
  square_at t j z f = ⊎_elim
      (λ (e : t ≡ i). let q : N i (N j z) ≡ N (inverse k j) (N i z) = square_own j z (rw e at f) in cc (can.own))
      (λ (nt : t ≢ i). ⊎_elim
      (λ (e : j ≡ i). let q : N i (N t z) ≡ N (inverse k t) (N i z) = square_own t z (rw e at (IsDistant-turned k t j f)) in cc (can.own))
      (λ (nj : j ≢ i). square_other t j z f nt nj)
      (same_or_not j i))
      (same_or_not t i)

  pub insertion_keeps : Laws k N
  insertion_keeps = record {
    nil = inserted_nil k i K P star L w can fresh N s;
    back = back_at k i K P star L w can fresh N s;
    apart = apart_at k i K P star L w can fresh N s;
    square = square_at;
  }
