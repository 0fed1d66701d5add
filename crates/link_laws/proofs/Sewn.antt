-- Sewing with good pairs keeps the laws of a map.
use Rattle.std.proofs.Common.{ℕ, ◌≡◌, ◌≢◌, refl, sym, ap, inl, ⊎_elim, ◌∙◌}
use Rattle.map_defs.specs.Kind.{Kind, inverse, IsDistant}
use Rattle.map_defs.specs.Links.{Links}
use Rattle.map_defs.specs.Laws.{Laws}
use Rattle.map_defs.specs.Pairs.{seed, turned, across}
use Rattle.map_defs.specs.Sewing.{SewnPairs, IsSewable, IsSewn}
use Rattle.link_laws.proofs.Basics.{by_cases, same_or_not, inverse_twice, IsDistant-turned, IsDistant-inverses}
use Rattle.link_laws.proofs.LawFacts.{alike, dart_of_link}
use Rattle.link_laws.proofs.Relink.{IsEither, either_inverse, either_distant, either_distant_back, relinked}

-- what holds of each triple of a sewing
pub record IsSewnTriple (k : Kind) (L : Links) (i x y t : ℕ) : Type 0 where
  pub label : IsEither k i t
  pub first : x ≢ 0
  pub second : y ≢ 0
  pub free : L t x ≡ 0
  pub free_back : L (inverse k t) y ≡ 0

module _ (k : Kind) (L : Links) (w : Laws k L) (i d e : ℕ) (hd : d ≢ 0) (he : e ≢ 0) (can : IsSewable k L i d e) where
  pub sewn_triple : (x y t : ℕ) → SewnPairs k L i d e x y t → IsSewnTriple k L i x y t
  sewn_triple x y t (seed (a, b, c)) = record {
    label = inl c;
    first = λ z. hd (sym a ∙ z);
    second = λ z. he (sym b ∙ z);
    free = rw (a, c) can.near;
    free_back = rw (b, c) can.far;
  }
  sewn_triple x y t (turned {x = u} {y = v} {t = s} p) = let h = sewn_triple u v s p in record {
    label = either_inverse k i s h.label;
    first = h.second;
    second = h.first;
    free = h.free_back;
    free_back = rw (inverse_twice k s) h.free;
  }
  sewn_triple x y t (across {x = u} {y = v} {t = s} j far p hu hv) = let h = sewn_triple u v s p in
      let far' : IsDistant k j s = IsDistant-turned k s j (either_distant k i s j h.label far) in record {
        label = either_inverse k i s h.label;
        first = hu;
        second = hv;
        free = (alike k L w j s u far' hu).0 h.free;
        free_back = (alike k L w (inverse k j) (inverse k s) v (IsDistant-inverses k j s far') hv).0 h.free_back;
      }

  -- the pairs go along each link distant from their own
  pub sewn_across : (x y t j : ℕ) → SewnPairs k L i d e x y t → IsDistant k t j → L j x ≢ 0 → SewnPairs k L i d e (L j x) (L (inverse k j) y) (inverse k t)
  sewn_across x y t j p far h =
      let far' : IsDistant k i j = either_distant_back k i t j (sewn_triple x y t p).label far in
      across j far' p h (λ z. h ((can.good.even x y t j p far').1 z))

  -- and lead back along it
  sewn_back_across : (x z t j : ℕ) → SewnPairs k L i d e (L j x) z (inverse k t) → IsDistant k t j → SewnPairs k L i d e x (L (inverse k (inverse k j)) z) t
  sewn_back_across x z t j p far =
      let far' : IsDistant k (inverse k t) (inverse k j) = IsDistant-inverses k t j far in
      let h : L j x ≢ 0 = (sewn_triple (L j x) z (inverse k t) p).first in
      let b : L (inverse k j) (L j x) ≡ x = w.back j x h in
      let hx : x ≢ 0 = dart_of_link k L w j x h in
      let q : SewnPairs k L i d e (L (inverse k j) (L j x)) (L (inverse k (inverse k j)) z) (inverse k (inverse k t)) =
      sewn_across (L j x) z (inverse k t) (inverse k j) p far' (λ n. hx (sym b ∙ n)) in
      rw (b, inverse_twice k t) at q

  module _ (N : Links) (s : IsSewn k i d e L N) where
    sewn_nil : (t : ℕ) → N t 0 ≡ 0
    sewn_nil t = s.kept 0 t (λ y p. (sewn_triple 0 y t p).first refl) ∙ w.nil t

    sewn_back : (t x : ℕ) → N t x ≢ 0 → N (inverse k t) (N t x) ≡ x
    sewn_back t x h = by_cases ((y : ℕ) × SewnPairs k L i d e x y t) (N (inverse k t) (N t x)) x
        (λ p. let a : N t x ≡ p.0 = s.joined x p.0 t p.1 in
        let b : N (inverse k t) p.0 ≡ x = s.joined p.0 x (inverse k t) (turned p.1) in cc)
        (λ n. let a : N t x ≡ L t x = s.kept x t (λ y p. n (y, p)) in
        let hx : x ≢ 0 = λ z. h (ap (N t) z ∙ sewn_nil t) in
        let b : L (inverse k t) (L t x) ≡ x = w.back t x (λ z. h (a ∙ z)) in
        let c : N (inverse k t) (L t x) ≡ L (inverse k t) (L t x) = s.kept (L t x) (inverse k t)
        (λ y p. hx (sym b ∙ (sewn_triple (L t x) y (inverse k t) p).free)) in cc)

    sewn_square : (t j x : ℕ) → IsDistant k t j → N (inverse k t) (L j x) ≡ L (inverse k j) (N t x)
    sewn_square t j x far = by_cases ((y : ℕ) × SewnPairs k L i d e x y t) (N (inverse k t) (L j x)) (L (inverse k j) (N t x))
        (λ p. let a : N t x ≡ p.0 = s.joined x p.0 t p.1 in
        let far' : IsDistant k i j = either_distant_back k i t j (sewn_triple x p.0 t p.1).label far in
        ⊎_elim
        (λ (z : L j x ≡ 0). let b : L (inverse k j) p.0 ≡ 0 = (can.good.even x p.0 t j p.1 far').0 z in
        let c : N (inverse k t) 0 ≡ 0 = sewn_nil (inverse k t) in cc)
        (λ (h : L j x ≢ 0). let b : N (inverse k t) (L j x) ≡ L (inverse k j) p.0 = s.joined (L j x) (L (inverse k j) p.0) (inverse k t) (sewn_across x p.0 t j p.1 far h) in cc)
        (same_or_not (L j x) 0))
        (λ n. let a : N t x ≡ L t x = s.kept x t (λ y p. n (y, p)) in
        let b : N (inverse k t) (L j x) ≡ L (inverse k t) (L j x) = s.kept (L j x) (inverse k t)
        (λ z p. n (L (inverse k (inverse k j)) z, sewn_back_across x z t j p far)) in
        let c : L (inverse k t) (L j x) ≡ L (inverse k j) (L t x) = w.square t j x far in cc)

    sewn_apart : (t x : ℕ) → inverse k t ≡ t → x ≢ 0 → N t x ≢ x
    sewn_apart t x own hx h =
        let n : ((y : ℕ) × SewnPairs k L i d e x y t) → ⊥ = λ p. can.good.moves x p.0 t p.1 own (sym h ∙ s.joined x p.0 t p.1) in
        w.apart t x own hx (sym (s.kept x t (λ y p. n (y, p))) ∙ h)

    pub sewing_keeps : Laws k N
    sewing_keeps = relinked k i L N w (record {
      same = λ t x n. s.kept x t (λ y p. n (sewn_triple x y t p).label);
      nil = λ t e. sewn_nil t;
      back = λ t x e. sewn_back t x;
      apart = λ t x e. sewn_apart t x;
      square = λ t j x e. sewn_square t j x;
    })
