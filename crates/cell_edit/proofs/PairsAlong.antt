-- Pairs along listed links, and from other words for the same seeds.
use Rattle.std.proofs.Common.{ℕ, ◌≡◌, ◌<◌, ◌≤◌, ◌⊎◌, ◌↔◌, List, Contains, inl, inr, arith}
use Rattle.std.proofs.lemmas.Bool.{cases_lt}
use Rattle.map_defs.specs.Kind.{Kind, inverse}
use Rattle.map_defs.specs.Links.{Links, HasDimension}
use Rattle.map_defs.specs.Pairs.{InPairs, IsGood}
use Rattle.link_laws.proofs.Basics.{inverse_own}
use Rattle.sewing.proofs.PairFacts.{pairs-along, good-same}
use Rattle.cell_edit.proofs.AlongLinks.{linked-within}

module _ (k : Kind) (L : Links) (n : ℕ) (dim : 2 ≤ n) (above : HasDimension n L) (J : ℕ → Type 0) (js : List ℕ) (listed : (j : ℕ) → Contains js j ↔ ((j ≤ n) × J j)) (Seed : ℕ → ℕ → ℕ → Type 0) where
  pub listed-pairs : (x y t : ℕ) → InPairs k L (Contains js) Seed x y t ↔ InPairs k L J Seed x y t
  listed-pairs x y t = (
    pairs-along k L (Contains js) J Seed Seed (λ u v s p. p) (λ j u has some. ((listed j).0 has).1) x y t,
    pairs-along k L J (Contains js) Seed Seed (λ u v s p. p) (λ j u among some. (listed j).1 (linked-within n L above j u some, among)) x y t,
  )

  pub listed-good : IsGood k L (Contains js) (InPairs k L (Contains js) Seed) → IsGood k L J (InPairs k L J Seed)
  listed-good good = record {
    one = λ x y z t p q. good.one x y z t ((listed-pairs x y t).1 p) ((listed-pairs x z t).1 q);
    moves = λ x y t p. good.moves x y t ((listed-pairs x y t).1 p);
    even = λ x y t j p among. even x y t j p among (cases_lt n j);
  }
    where
      even : (x y t j : ℕ) → InPairs k L J Seed x y t → J j → (n < j) ⊎ (j ≤ n) → (L j x ≡ 0) ↔ (L (inverse k j) y ≡ 0)
      even x y t j p among (inl high) =
          let own : inverse k j ≡ j = inverse_own k j (omega arith) in
          (λ _. rw own (above j y high), λ _. above j x high)
      even x y t j p among (inr low) = good.even x y t j ((listed-pairs x y t).1 p) ((listed j).1 (low, among))

  pub good-listed : IsGood k L J (InPairs k L J Seed) → IsGood k L (Contains js) (InPairs k L (Contains js) Seed)
  good-listed good = record {
    one = λ x y z t p q. good.one x y z t ((listed-pairs x y t).0 p) ((listed-pairs x z t).0 q);
    moves = λ x y t p. good.moves x y t ((listed-pairs x y t).0 p);
    even = λ x y t j p has. good.even x y t j ((listed-pairs x y t).0 p) ((listed j).0 has).1;
  }

-- ---- seeds told in two ways
module _ (k : Kind) (L : Links) (J : ℕ → Type 0) (Seed Other : ℕ → ℕ → ℕ → Type 0) (same : (x y t : ℕ) → Seed x y t ↔ Other x y t) where
  pub seeded-pairs : (x y t : ℕ) → InPairs k L J Seed x y t ↔ InPairs k L J Other x y t
  seeded-pairs x y t = (
    pairs-along k L J J Seed Other (λ u v s p. (same u v s).0 p) (λ j u among some. among) x y t,
    pairs-along k L J J Other Seed (λ u v s p. (same u v s).1 p) (λ j u among some. among) x y t,
  )

  pub seeded-good : IsGood k L J (InPairs k L J Seed) → IsGood k L J (InPairs k L J Other)
  seeded-good = good-same k L J (InPairs k L J Seed) (InPairs k L J Other) (λ x y t p. (seeded-pairs x y t).1 p)

  pub good-seeded : IsGood k L J (InPairs k L J Other) → IsGood k L J (InPairs k L J Seed)
  good-seeded = good-same k L J (InPairs k L J Other) (InPairs k L J Seed) (λ x y t p. (seeded-pairs x y t).0 p)
