-- Pairs are the least set that is closed; what that says of other seeds and other links.
use Rattle.std.proofs.Common.{◌≡◌, ◌≢◌, ℕ, ◌↔◌, inl, inr}
use Rattle.map_defs.specs.Kind.{Kind, inverse}
use Rattle.map_defs.specs.Links.{Links}
use Rattle.map_defs.specs.Pairs.{InPairs, seed, turned, across, IsGood}
use Rattle.map_defs.specs.Rows.{Rows, links_of, IsLive, IsSound}
use Rattle.link_laws.proofs.Basics.{inverse_twice}
use Rattle.sewing.specs.PairSteps.{OrInverse, IsPairable}

-- a set of triples that holds each of its triples turned round, and goes along the links of J
pub record IsClosed (k : Kind) (L : Links) (J : ℕ → Type 0) (P : ℕ → ℕ → ℕ → Type 0) : Type 0 where
  pub turned : (x y t : ℕ) → P x y t → P y x (inverse k t)
  pub across : (x y t j : ℕ) → J j → P x y t → L j x ≢ 0 → L (inverse k j) y ≢ 0 → P (L j x) (L (inverse k j) y) (inverse k t)

-- the pairs lie in each closed set that holds the seeds
pub pairs-least : (k : Kind) (L : Links) (J : ℕ → Type 0) (Seed P : ℕ → ℕ → ℕ → Type 0) → ((x y t : ℕ) → Seed x y t → P x y t) → IsClosed k L J P
    → (x y t : ℕ) → InPairs k L J Seed x y t → P x y t
pairs-least k L J Seed P begun shut x y t (seed s) = begun x y t s
pairs-least k L J Seed P begun shut x y t (turned {x = u} {y = v} {t = s} p) =
    shut.turned u v s (pairs-least k L J Seed P begun shut u v s p)
pairs-least k L J Seed P begun shut x y t (across {x = u} {y = v} {t = s} j along p hu hv) =
    shut.across u v s j along (pairs-least k L J Seed P begun shut u v s p) hu hv

pub pairs-closed : (k : Kind) (L : Links) (J : ℕ → Type 0) (Seed : ℕ → ℕ → ℕ → Type 0) → IsClosed k L J (InPairs k L J Seed)
pairs-closed k L J Seed = record { turned = λ x y t p. turned p; across = λ x y t j along p hx hy. across j along p hx hy }

-- seeds that lie in the pairs of others have no other pairs
pub pairs-within : (k : Kind) (L : Links) (J : ℕ → Type 0) (Seed Other : ℕ → ℕ → ℕ → Type 0) → ((x y t : ℕ) → Seed x y t → InPairs k L J Other x y t)
    → (x y t : ℕ) → InPairs k L J Seed x y t → InPairs k L J Other x y t
pairs-within k L J Seed Other within = pairs-least k L J Seed (InPairs k L J Other) within (pairs-closed k L J Other)

-- fewer links, and seeds that lie in the pairs of others, have no other pairs
pub pairs-from : (k : Kind) (L : Links) (J I : ℕ → Type 0) (Seed Other : ℕ → ℕ → ℕ → Type 0) → ((j : ℕ) → I j → J j) → ((x y t : ℕ) → Other x y t → InPairs k L J Seed x y t)
    → (x y t : ℕ) → InPairs k L I Other x y t → InPairs k L J Seed x y t
pairs-from k L J I Seed Other along within = pairs-least k L I Other (InPairs k L J Seed) within (record {
  turned = λ x y t p. turned p;
  across = λ x y t j there p hx hy. across j (along j there) p hx hy;
})

-- and they can be joined where those can
pub pairable-from : (k : Kind) (L : Links) (J I : ℕ → Type 0) (Seed Other : ℕ → ℕ → ℕ → Type 0) → ((j : ℕ) → I j → J j) → ((x y t : ℕ) → Other x y t → InPairs k L J Seed x y t)
    → IsPairable k L J Seed → IsPairable k L I Other
pairable-from k L J I Seed Other along within good = record {
  one = λ x y z t p q. good.one x y z t (from x y t p) (from x z t q);
  moves = λ x y t p. good.moves x y t (from x y t p);
  even = λ x y t j p there. good.even x y t j (from x y t p) (along j there);
}
  where
    from : (x y t : ℕ) → InPairs k L I Other x y t → InPairs k L J Seed x y t
    from = pairs-from k L J I Seed Other along within

-- going along the inverses of the links too leads to no other pairs
pub pairs-inverse : (k : Kind) (L : Links) (J : ℕ → Type 0) (Seed : ℕ → ℕ → ℕ → Type 0) → (x y t : ℕ) → InPairs k L (OrInverse k J) Seed x y t → InPairs k L J Seed x y t
pairs-inverse k L J Seed = pairs-least k L (OrInverse k J) Seed (InPairs k L J Seed) (λ x y t s. seed s) (record { turned = λ x y t p. turned p; across = on })
  where
    on : (x y t j : ℕ) → OrInverse k J j → InPairs k L J Seed x y t → L j x ≢ 0 → L (inverse k j) y ≢ 0 → InPairs k L J Seed (L j x) (L (inverse k j) y) (inverse k t)
    on x y t j (inl there) p hx hy = across j there p hx hy
    on x y t j (inr there) p hx hy =
        let far : InPairs k L J Seed (L (inverse k j) y) (L (inverse k (inverse k j)) x) (inverse k (inverse k t)) = across (inverse k j) there (turned p) hy (rw (inverse_twice k j) hx) in
        let near : InPairs k L J Seed (L (inverse k (inverse k j)) x) (L (inverse k j) y) (inverse k (inverse k (inverse k t))) = turned far in
        rw (inverse_twice k j, inverse_twice k t) at near

pub pairable-inverse : (k : Kind) (L : Links) (J : ℕ → Type 0) (Seed : ℕ → ℕ → ℕ → Type 0) → IsPairable k L J Seed → IsPairable k L (OrInverse k J) Seed
pairable-inverse k L J Seed good = record {
  one = λ x y z t p q. good.one x y z t (pairs-inverse k L J Seed x y t p) (pairs-inverse k L J Seed x z t q);
  moves = λ x y t p. good.moves x y t (pairs-inverse k L J Seed x y t p);
  even = λ x y t j p there. even x y t j (pairs-inverse k L J Seed x y t p) there;
}
  where
    even : (x y t j : ℕ) → InPairs k L J Seed x y t → OrInverse k J j → (L j x ≡ 0) ↔ (L (inverse k j) y ≡ 0)
    even x y t j p (inl there) = good.even x y t j p there
    even x y t j p (inr there) =
        let back : (L (inverse k j) y ≡ 0) ↔ (L (inverse k (inverse k j)) x ≡ 0) = good.even y x (inverse k t) (inverse k j) (turned p) there in
        let same : (L (inverse k j) y ≡ 0) ↔ (L j x ≡ 0) = rw (inverse_twice k j) at back in
        (same.1, same.0)

-- the same pairs are good alike
pub good-same : (k : Kind) (L : Links) (J : ℕ → Type 0) (P Q : ℕ → ℕ → ℕ → Type 0) → ((x y t : ℕ) → Q x y t → P x y t) → IsGood k L J P → IsGood k L J Q
good-same k L J P Q within good = record {
  one = λ x y z t p q. good.one x y z t (within x y t p) (within x z t q);
  moves = λ x y t p. good.moves x y t (within x y t p);
  even = λ x y t j p. good.even x y t j (within x y t p);
}

-- links of another set that are free at all darts make no difference
pub pairs-along : (k : Kind) (L : Links) (J I : ℕ → Type 0) (Seed Other : ℕ → ℕ → ℕ → Type 0) → ((x y t : ℕ) → Seed x y t → Other x y t)
    → ((j x : ℕ) → J j → L j x ≢ 0 → I j) → (x y t : ℕ) → InPairs k L J Seed x y t → InPairs k L I Other x y t
pairs-along k L J I Seed Other begun along = pairs-least k L J Seed (InPairs k L I Other) (λ x y t s. seed (begun x y t s)) (record {
  turned = λ x y t p. turned p;
  across = λ x y t j there p hx hy. across j (along j x there hx) p hx hy;
})

-- the darts of the pairs live, where those of the seeds do
pub pairs-live : (k : Kind) (n : ℕ) (rows : Rows) → IsSound k n rows → (J : ℕ → Type 0) (Seed : ℕ → ℕ → ℕ → Type 0) → ((x y t : ℕ) → Seed x y t → IsLive rows x × IsLive rows y)
    → (x y t : ℕ) → InPairs k (links_of rows) J Seed x y t → IsLive rows x × IsLive rows y
pairs-live k n rows sound J Seed live = pairs-least k (links_of rows) J Seed (λ x y t. IsLive rows x × IsLive rows y) live (record {
  turned = λ x y t p. (p.1, p.0);
  across = λ x y t j along p hx hy. (sound.live j x hx, sound.live (inverse k j) y hy);
})
