-- Two series of new darts, the second numbered on after the first, are fresh and have no dart in common.
use Rattle.std.proofs.Common.{ℕ, ◌≢◌, ◌+◌, ◌<◌, ◌≤◌, arith, List, length}
use Rattle.map_defs.specs.Links.{Links}
use Rattle.map_defs.specs.Births.{IsFresh, IsNumbered}
use Rattle.insert_laws.proofs.Numbers.{numbered_above, numbered_upto, numbered_fresh}

module _ (K : ℕ → Type 0) (keys : List ℕ) (made : ℕ) (star tip : ℕ → ℕ) (first : IsNumbered K keys made star) (second : IsNumbered K keys (made + length keys) tip) where
  no_common : (x y : ℕ) → K x → K y → star x ≢ tip y
  no_common x y h g e =
      let a : star x ≤ made + length keys = numbered_upto K keys made star first x h in
      let b : made + length keys < tip y = numbered_above K keys (made + length keys) tip second y g in omega arith

  pub series_fresh : (L : Links) → ((x : ℕ) → K x → x ≤ made) → ((t x : ℕ) → L t x ≢ 0 → x ≤ made) → IsFresh L K star × IsFresh L K tip × ((x y : ℕ) → K x → K y → star x ≢ tip y)
  series_fresh L low bound = (
    numbered_fresh K keys made star first L low bound,
    numbered_fresh K keys (made + length keys) tip second L (λ x h. let a : x ≤ made = low x h in omega arith) (λ t x n. let a : x ≤ made = bound t x n in omega arith),
    no_common,
  )
