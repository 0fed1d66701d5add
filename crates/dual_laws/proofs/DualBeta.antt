-- The dual of a combinatorial map obeys the laws.
use Rattle.std.proofs.Common.{ℕ, zero, suc, ◌≡◌, ◌≢◌, ◌⊎◌, ◌≤◌, ◌<◌, ◌-◌, ◌+◌, inl, inr, refl, sym, ap, subst, ◌∙◌, arith}
use Rattle.map_defs.specs.Kind.{beta, inverse}
use Rattle.map_defs.specs.Links.{Links}
use Rattle.map_defs.specs.Laws.{Laws}
use Rattle.map_defs.specs.Dual.{IsBetaDual}
use Rattle.link_laws.proofs.Basics.{stable, inverse_own, inverse_twice, inverse_within, distant_high, IsDistant-turned, IsDistant-inverse_right}
use Rattle.link_laws.proofs.LawFacts.{dart_of_link}

-- no link of x is free
abbrev pub IsAllLinked : ℕ → Links → ℕ → Type 0
IsAllLinked n L x = (i : ℕ) → i ≤ n → L i x ≢ 0

-- a map of dimension n in which each dart has all its links, but for the numbers that are no live darts
pub record IsClosedMap (n : ℕ) (L : Links) : Type 0 where
  pub laws : Laws beta L
  pub high : 2 ≤ n
  pub whole : (x : ℕ) → IsAllLinked n L x ⊎ ((i : ℕ) → L i x ≡ 0)

module _ (n : ℕ) (L : Links) (c : IsClosedMap n L) where
  pub back_own : (i x : ℕ) → 2 ≤ i → L i x ≢ 0 → L i (L i x) ≡ x
  back_own i x h m = subst (λ s. L s (L i x) ≡ x) (inverse_own beta i h) (c.laws.back i x m)

  pub inverse_low : (i : ℕ) → i ≤ n → inverse beta i ≤ n
  inverse_low i h = inverse_within beta n i c.high h

  pub next_linked : (i x : ℕ) → IsAllLinked n L x → i ≤ n → IsAllLinked n L (L i x)
  next_linked i x l h = go (c.whole (L i x))
    where
      go : IsAllLinked n L (L i x) ⊎ ((t : ℕ) → L t (L i x) ≡ 0) → IsAllLinked n L (L i x)
      go (inl m) = m
      go (inr z) = absurd (dart_of_link beta L c.laws i x (l i h) (sym (c.laws.back i x (l i h)) ∙ z (inverse beta i)))

  pub forth : (i x : ℕ) → IsAllLinked n L x → i ≤ n → L i (L (inverse beta i) x) ≡ x
  forth i x l h = subst (λ s. L s (L (inverse beta i) x) ≡ x) (inverse_twice beta i) (c.laws.back (inverse beta i) x (l (inverse beta i) (inverse_low i h)))

  pub top_twice : (x : ℕ) → IsAllLinked n L x → L n (L n x) ≡ x
  top_twice x l = back_own n x c.high (l n (omega arith))

  -- a link from 1 up to n - 2 is turned round by link n
  pub top_turns : (m x : ℕ) → 1 ≤ m → m + 2 ≤ n → L n (L (inverse beta m) x) ≡ L m (L n x)
  top_turns m x h g =
      let e = c.laws.square n (inverse beta m) x (IsDistant-inverse_right beta n m (IsDistant-turned beta m n (distant_high beta m n h g))) in
      cc (e, ap (λ s. L s (L (inverse beta m) x)) (inverse_own beta n c.high), ap (λ s. L s (L n x)) (inverse_twice beta m))

  pub top_around : (m x : ℕ) → IsAllLinked n L x → 1 ≤ m → m + 2 ≤ n → L n (L m (L n x)) ≡ L (inverse beta m) x
  top_around m x l h g = cc (top_turns m x h g, back_own n (L (inverse beta m) x) c.high (next_linked (inverse beta m) x l (inverse_low m (omega arith)) n (omega arith)))

-- where a link stands: it is link 0, between, link n or above
pub link_case : (t n : ℕ) → (t ≡ 0) ⊎ ((1 ≤ t) × (t < n)) ⊎ (t ≡ n) ⊎ (n < t)
link_case t n = grind arith

module _ (n : ℕ) (L N : Links) (c : IsClosedMap n L) (b : IsBetaDual n L N) where
  -- link 0 of the dual: n - 1 back, then n
  pub dual_zero : (x : ℕ) → IsAllLinked n L x → N 0 x ≡ L n (L (inverse beta (n - 1)) x)
  dual_zero x l =
      let h = c.high in
      let a : IsAllLinked n L (L (inverse beta (n - 1)) x) = next_linked n L c (inverse beta (n - 1)) x l (inverse_low n L c (n - 1) (omega arith)) in
      let e : N 1 (L n (L (inverse beta (n - 1)) x)) ≡ x = cc (b.reversed 1 (L n (L (inverse beta (n - 1)) x)) (omega arith) (omega arith), top_twice n L c (L (inverse beta (n - 1)) x) a, forth n L c (n - 1) x l (omega arith)) in
      (b.turned.back (L n (L (inverse beta (n - 1)) x)) x (a n (omega arith)) (dart_of_link beta L c.laws 0 x (l 0 (omega arith)))).0 e

  -- what has no links has none in the dual
  none_before : (x : ℕ) → ((i : ℕ) → L i x ≡ 0) → N 0 x ≡ 0
  none_before x z = stable _ _ (λ m.
      let there : x ≢ 0 = λ e. m (ap (N 0) e ∙ b.turned.nothing) in
      let h = c.high in
      let led : N 1 (N 0 x) ≡ x = (b.turned.back (N 0 x) x m there).1 refl in
      let is : L (n - 1) (L n (N 0 x)) ≡ x = sym (b.reversed 1 (N 0 x) (omega arith) (omega arith)) ∙ led in
      let k : L (n - 1) (L n (N 0 x)) ≢ 0 = λ e. there (sym is ∙ e) in
      dart_of_link beta L c.laws (n - 1) (L n (N 0 x)) k (cc (c.laws.back (n - 1) (L n (N 0 x)) k, is, z (inverse beta (n - 1)))))

  pub dual_free : (x : ℕ) → ((i : ℕ) → L i x ≡ 0) → (t : ℕ) → N t x ≡ 0
  dual_free x z t = go (link_case t n)
    where
      go : (t ≡ 0) ⊎ ((1 ≤ t) × (t < n)) ⊎ (t ≡ n) ⊎ (n < t) → N t x ≡ 0
      go (inl e) = ap (λ s. N s x) e ∙ none_before x z
      go (inr (inl p)) = cc (b.reversed t x p.0 p.1, z n, c.laws.nil (n - t))
      go (inr (inr (inl e))) = cc (e, b.kept x, z n)
      go (inr (inr (inr h))) = b.above t x h

  -- and what has all has all
  pub dual_linked : (x : ℕ) → IsAllLinked n L x → IsAllLinked n N x
  dual_linked x l t low = go (link_case t n)
    where
      go : (t ≡ 0) ⊎ ((1 ≤ t) × (t < n)) ⊎ (t ≡ n) ⊎ (n < t) → N t x ≢ 0
      go (inl e) z = let h = c.high in next_linked n L c (inverse beta (n - 1)) x l (inverse_low n L c (n - 1) (omega arith)) n (omega arith) (cc (dual_zero x l, e, z))
      go (inr (inl p)) z = next_linked n L c n x l (omega arith) (n - t) (omega arith) (cc (b.reversed t x p.0 p.1, z))
      go (inr (inr (inl e))) z = l n (omega arith) (cc (e, b.kept x, z))
      go (inr (inr (inr h))) z = omega arith

  pub nil : (t : ℕ) → N t 0 ≡ 0
  nil t = dual_free 0 c.laws.nil t

  -- two darts of a product of link n and another
  middle_twice : (t x : ℕ) → IsAllLinked n L x → 2 ≤ t → t < n → N t (N t x) ≡ x
  middle_twice t x l h g =
      cc (
        b.reversed t x (omega arith) g,
        b.reversed t (L (n - t) (L n x)) (omega arith) g,
        top_around n L c (n - t) x l (omega arith) (omega arith),
        forth n L c (n - t) x l (omega arith),
      )

  pub back : (t x : ℕ) → N t x ≢ 0 → N (inverse beta t) (N t x) ≡ x
  back t x m = all (c.whole x)
    where
      there : x ≢ 0
      there e = m (ap (N t) e ∙ nil t)

      high : IsAllLinked n L x → (t : ℕ) → N t x ≢ 0 → 2 ≤ t → N t (N t x) ≡ x
      high l t m h = go (link_case t n)
        where
          go : (t ≡ 0) ⊎ ((1 ≤ t) × (t < n)) ⊎ (t ≡ n) ⊎ (n < t) → N t (N t x) ≡ x
          go (inl e) = absurd (omega arith)
          go (inr (inl p)) = middle_twice t x l h p.1
          go (inr (inr (inl e))) = cc (ap (λ s. N s (N s x)) e, b.kept x, b.kept (L n x), top_twice n L c x l)
          go (inr (inr (inr g))) = absurd (m (b.above t x g))

      by_link : (t : ℕ) → N t x ≢ 0 → IsAllLinked n L x → N (inverse beta t) (N t x) ≡ x
      by_link zero m l = (b.turned.back (N 0 x) x m (dart_of_link beta L c.laws 0 x (l 0 (omega arith)))).1 refl
      by_link (suc zero) m l = (b.turned.back x (N 1 x) (dart_of_link beta L c.laws 0 x (l 0 (omega arith))) m).0 refl
      by_link (suc (suc t)) m l = high l (suc (suc t)) m (omega arith)

      all : IsAllLinked n L x ⊎ ((i : ℕ) → L i x ≡ 0) → N (inverse beta t) (N t x) ≡ x
      all (inl l) = by_link t m l
      all (inr z) = absurd (m (dual_free x z t))

  module _ (moves : (i d : ℕ) → IsAllLinked n L d → 2 ≤ i → i < n → L (n - i) (L n d) ≢ d) where
    apart_high : (t x : ℕ) → 2 ≤ t → x ≢ 0 → N t x ≢ x
    apart_high t x h m e = all (c.whole x)
      where
        all : IsAllLinked n L x ⊎ ((i : ℕ) → L i x ≡ 0) → ⊥
        all (inr z) = m (sym e ∙ dual_free x z t)
        all (inl l) = go (link_case t n)
          where
            go : (t ≡ 0) ⊎ ((1 ≤ t) × (t < n)) ⊎ (t ≡ n) ⊎ (n < t) → ⊥
            go (inl f) = omega arith
            go (inr (inl p)) = moves t x l h p.1 (sym (b.reversed t x p.0 p.1) ∙ e)
            go (inr (inr (inl f))) = c.laws.apart n x (inverse_own beta n c.high) m (cc (b.kept x, f, e))
            go (inr (inr (inr g))) = m (sym e ∙ b.above t x g)

    pub apart : (t x : ℕ) → inverse beta t ≡ t → x ≢ 0 → N t x ≢ x
    apart zero x own m e = omega arith
    apart (suc zero) x own m e = omega arith
    apart (suc (suc t)) x own m e = apart_high (suc (suc t)) x (omega arith) m e
