-- The squares of distant links in the dual of a combinatorial map, and with them its laws.
use Rattle.std.proofs.Common.{ℕ, zero, suc, ◌≡◌, ◌≢◌, ◌⊎◌, ◌≤◌, ◌<◌, ◌-◌, ◌+◌, inl, inr, sym, ap, ◌∙◌, arith}
use Rattle.map_defs.specs.Kind.{beta, inverse, IsDistant}
use Rattle.map_defs.specs.Links.{Links, HasDimension}
use Rattle.map_defs.specs.Laws.{Laws}
use Rattle.map_defs.specs.Dual.{IsBetaDual}
use Rattle.link_laws.proofs.Basics.{inverse_own, inverse_twice, distant_high, distant_zero_is, distant_one_is, IsDistant-turned, IsDistant-inverse_right}
use Rattle.link_laws.proofs.InverseLinks.{turned_of_laws, turned_one}
use Rattle.dual_laws.proofs.DualAlpha.{low_or_high}
use Rattle.dual_laws.proofs.DualBeta.{IsAllLinked, IsClosedMap, link_case, next_linked, top_twice, top_turns, top_around, dual_zero, dual_free, dual_linked, nil, back, apart}

which : (t j : ℕ) → IsDistant beta (suc (suc t)) (suc (suc j)) → (t + 2 ≤ j) ⊎ (j + 2 ≤ t)
unfolding IsDistant
which t j (inl h) = inl (omega arith)
which t j (inr h) = inr (omega arith)

module _ (n : ℕ) (L N : Links) (c : IsClosedMap n L) (b : IsBetaDual n L N) where
  -- links l and m, two places apart, l the higher
  lower_square : (l m x : ℕ) → 1 ≤ m → m + 2 ≤ l → L l (L (inverse beta m) x) ≡ L m (L l x)
  lower_square l m x h g =
      let e = c.laws.square l (inverse beta m) x (IsDistant-inverse_right beta l m (IsDistant-turned beta m l (distant_high beta m l h g))) in
      cc (e, ap (λ s. L s (L (inverse beta m) x)) (inverse_own beta l (omega arith)), ap (λ s. L s (L l x)) (inverse_twice beta m))

  lower_square_back : (l m x : ℕ) → 1 ≤ m → m + 2 ≤ l → L l (L m x) ≡ L (inverse beta m) (L l x)
  lower_square_back l m x h g =
      let e = c.laws.square l m x (IsDistant-turned beta m l (distant_high beta m l h g)) in
      cc (e, ap (λ s. L s (L m x)) (inverse_own beta l (omega arith)))

  linked_one : (j x : ℕ) → IsAllLinked n L x → 3 ≤ j → N 0 (N j x) ≡ N j (N 1 x)
  linked_one j x l h = go (link_case j n)
    where
      first : N 1 x ≡ L (n - 1) (L n x)
      first = let g = c.high in b.reversed 1 x (omega arith) (omega arith)

      zero_at : 3 ≤ n → (y : ℕ) → IsAllLinked n L y → N 0 y ≡ L n (L (n - 1) y)
      zero_at g y k = dual_zero n L N c b y k ∙ ap (λ s. L n (L s y)) (inverse_own beta (n - 1) (omega arith))

      go : (j ≡ 0) ⊎ ((1 ≤ j) × (j < n)) ⊎ (j ≡ n) ⊎ (n < j) → N 0 (N j x) ≡ N j (N 1 x)
      go (inl e) = absurd (omega arith)
      go (inr (inl p)) =
          cc (
            b.reversed j x p.0 p.1,
            first,
            zero_at (omega arith) (L (n - j) (L n x)) (next_linked n L c (n - j) (L n x) (next_linked n L c n x l (omega arith)) (omega arith)),
            b.reversed j (L (n - 1) (L n x)) p.0 p.1,
            lower_square_back (n - 1) (n - j) (L n x) (omega arith) (omega arith),
            top_turns n L c (n - j) (L (n - 1) (L n x)) (omega arith) (omega arith),
          )
      go (inr (inr (inl e))) =
          cc (ap (λ s. N 0 (N s x)) e, ap (λ s. N s (N 1 x)) e, b.kept x, b.kept (N 1 x), first, zero_at (omega arith) (L n x) (next_linked n L c n x l (omega arith)))
      go (inr (inr (inr g))) = cc (b.above j x g, b.above j (N 1 x) g, nil n L N c b 0)

  linked_high : (t j x : ℕ) → IsAllLinked n L x → 2 ≤ t → t + 2 ≤ j → N t (N j x) ≡ N j (N t x)
  linked_high t j x l ht h = go (link_case j n)
    where
      go : (j ≡ 0) ⊎ ((1 ≤ j) × (j < n)) ⊎ (j ≡ n) ⊎ (n < j) → N t (N j x) ≡ N j (N t x)
      go (inl e) = absurd (omega arith)
      go (inr (inl p)) =
          cc (
            b.reversed j x p.0 p.1,
            b.reversed t x (omega arith) (omega arith),
            b.reversed t (L (n - j) (L n x)) (omega arith) (omega arith),
            b.reversed j (L (n - t) (L n x)) p.0 p.1,
            top_around n L c (n - j) x l (omega arith) (omega arith),
            top_around n L c (n - t) x l (omega arith) (omega arith),
            ap (λ s. L (n - j) (L s x)) (inverse_own beta (n - t) (omega arith)),
            lower_square (n - t) (n - j) x (omega arith) (omega arith),
          )
      go (inr (inr (inl e))) =
          cc (
            ap (λ s. N t (N s x)) e,
            ap (λ s. N s (N t x)) e,
            b.kept x,
            b.kept (N t x),
            b.reversed t x (omega arith) (omega arith),
            b.reversed t (L n x) (omega arith) (omega arith),
            top_twice n L c x l,
            top_around n L c (n - t) x l (omega arith) (omega arith),
            ap (λ s. L s x) (inverse_own beta (n - t) (omega arith)),
          )
      go (inr (inr (inr g))) = cc (b.above j x g, b.above j (N t x) g, nil n L N c b t)

  square_one : (j x : ℕ) → 3 ≤ j → N 0 (N j x) ≡ N j (N 1 x)
  square_one j x h = go (c.whole x)
    where
      go : IsAllLinked n L x ⊎ ((i : ℕ) → L i x ≡ 0) → N 0 (N j x) ≡ N j (N 1 x)
      go (inl l) = linked_one j x l h
      go (inr z) = cc (dual_free n L N c b x z j, dual_free n L N c b x z 1, nil n L N c b 0, nil n L N c b j)

  square_high : (t j x : ℕ) → 2 ≤ t → t + 2 ≤ j → N t (N j x) ≡ N j (N t x)
  square_high t j x ht h = go (c.whole x)
    where
      go : IsAllLinked n L x ⊎ ((i : ℕ) → L i x ≡ 0) → N t (N j x) ≡ N j (N t x)
      go (inl l) = linked_high t j x l ht h
      go (inr z) = cc (dual_free n L N c b x z j, dual_free n L N c b x z t, nil n L N c b t, nil n L N c b j)

  -- link 0 leads back what link 1 leads on
  linked_zero : (j x : ℕ) → IsAllLinked n L x → 3 ≤ j → j ≤ n → N 1 (N j x) ≡ N j (N 0 x)
  linked_zero j x l h k =
      let onward : N 1 (N 0 x) ≡ x = back n L N c b 0 x (dual_linked n L N c b x l 0 (omega arith)) in
      let e : N 0 (N j (N 0 x)) ≡ N j x = square_one j (N 0 x) h ∙ ap (N j) onward in
      let f : N 1 (N 0 (N j (N 0 x))) ≡ N j (N 0 x) = back n L N c b 0 (N j (N 0 x)) (λ z. dual_linked n L N c b x l j k (sym e ∙ z)) in
      ap (N 1) (sym e) ∙ f

  square_zero : (j x : ℕ) → 3 ≤ j → N 1 (N j x) ≡ N j (N 0 x)
  square_zero j x h = go (c.whole x) (low_or_high j n)
    where
      go : IsAllLinked n L x ⊎ ((i : ℕ) → L i x ≡ 0) → (j ≤ n) ⊎ (n < j) → N 1 (N j x) ≡ N j (N 0 x)
      go (inl l) (inl k) = linked_zero j x l h k
      go r (inr g) = cc (b.above j x g, b.above j (N 0 x) g, nil n L N c b 1)
      go (inr z) r = cc (dual_free n L N c b x z j, dual_free n L N c b x z 0, nil n L N c b 1, nil n L N c b j)

  turned_high : (t j x : ℕ) → IsDistant beta (suc (suc t)) (suc (suc j)) → N (suc (suc t)) (N (suc (suc j)) x) ≡ N (suc (suc j)) (N (suc (suc t)) x)
  turned_high t j x far = go (which t j far)
    where
      go : (t + 2 ≤ j) ⊎ (j + 2 ≤ t) → N (suc (suc t)) (N (suc (suc j)) x) ≡ N (suc (suc j)) (N (suc (suc t)) x)
      go (inl h) = square_high (suc (suc t)) (suc (suc j)) x (omega arith) (omega arith)
      go (inr h) = sym (square_high (suc (suc j)) (suc (suc t)) x (omega arith) (omega arith))

  square : (t j x : ℕ) → IsDistant beta t j → N (inverse beta t) (N j x) ≡ N (inverse beta j) (N t x)
  square zero j x far = square_zero j x (distant_zero_is j far) ∙ ap (λ s. N s (N 0 x)) (sym (inverse_own beta j (omega (arith, distant_zero_is j far))))
  square (suc zero) j x far = square_one j x (distant_one_is j far) ∙ ap (λ s. N s (N 1 x)) (sym (inverse_own beta j (omega (arith, distant_one_is j far))))
  square (suc (suc t)) zero x far = sym (square_zero (suc (suc t)) x (distant_zero_is (suc (suc t)) (IsDistant-turned beta (suc (suc t)) 0 far)))
  square (suc (suc t)) (suc zero) x far = sym (square_one (suc (suc t)) x (distant_one_is (suc (suc t)) (IsDistant-turned beta (suc (suc t)) 1 far)))
  square (suc (suc t)) (suc (suc j)) x far = turned_high t j x far

  pub beta_dual_laws : ((i d : ℕ) → IsAllLinked n L d → 2 ≤ i → i < n → L (n - i) (L n d) ≢ d) → Laws beta N
  beta_dual_laws moves = record { nil = nil n L N c b; back = back n L N c b; apart = apart n L N c b moves; square = square }

  -- the map is the dual of its dual
  pub beta_dual_back : HasDimension n L → IsBetaDual n N L
  beta_dual_back high = record {
    reversed = reversed;
    kept = λ d. sym (b.kept d);
    turned = turned_of_laws L c.laws;
    above = high;
  }
    where
      reversed : (i d : ℕ) → 1 ≤ i → i < n → L i d ≡ N (n - i) (N n d)
      reversed i d h g = go (c.whole d)
        where
          twice : n - (n - i) ≡ i
          twice = omega arith

          go : IsAllLinked n L d ⊎ ((t : ℕ) → L t d ≡ 0) → L i d ≡ N (n - i) (N n d)
          go (inl l) = cc (b.kept d, b.reversed (n - i) (L n d) (omega arith) (omega arith), ap (λ s. L s (L n (L n d))) twice, top_twice n L c d l)
          go (inr z) = cc (z i, dual_free n L N c b d z n, nil n L N c b (n - i))

-- the dual is told by the map, in every dimension
module _ (n : ℕ) (L N M : Links) (b : IsBetaDual n L N) (c : IsBetaDual n L M) where
  one_above : (i d : ℕ) → 1 ≤ i → N i d ≡ M i d
  one_above i d h = go (link_case i n)
    where
      go : (i ≡ 0) ⊎ ((1 ≤ i) × (i < n)) ⊎ (i ≡ n) ⊎ (n < i) → N i d ≡ M i d
      go (inl e) = absurd (omega arith)
      go (inr (inl p)) = b.reversed i d p.0 p.1 ∙ sym (c.reversed i d p.0 p.1)
      go (inr (inr (inl e))) = cc (e, b.kept d, c.kept d)
      go (inr (inr (inr g))) = b.above i d g ∙ sym (c.above i d g)

  pub beta_dual_one : (i d : ℕ) → N i d ≡ M i d
  beta_dual_one zero d = turned_one N M b.turned c.turned (λ x. one_above 1 x (omega arith)) d
  beta_dual_one (suc i) d = one_above (suc i) d (omega arith)
