-- Darts that get new ones, numbered on from made: it is told which they are and which are new, and no dart from before is new.
use Rattle.std.proofs.Common.{ℕ, ◌≡◌, ◌≢◌, ◌+◌, ◌<◌, ◌≤◌, ◌⊎◌, subst, inl, inr, arith, List, length, slice_index, Contains}
use Rattle.map_defs.specs.Births.{IsNumbered, IsCounted}
use Rattle.map_defs.specs.Walks.{IsTold}
use Rattle.link_laws.proofs.Pigeonhole.{meets_or_not}
use Rattle.insert_laws.proofs.Fresh.{IsNew}
use Rattle.insert_laws.proofs.Numbers.{numbered_above, numbered_upto, numbered_all}
use Rattle.insert_laws.proofs.Paths.{held_at, held_is}

module _ (K : ℕ → Type 0) (keys : List ℕ) (made : ℕ) (star : ℕ → ℕ) (numbers : IsNumbered K keys made star) where
  -- a dart gets a new one or not
  pub gets-or-not : IsTold K
  gets-or-not x = from (meets_or_not (slice_index keys) x (length keys))
    where
      from : ((p : ℕ) × (p < length keys) × (slice_index keys p ≡ x)) ⊎ ((p : ℕ) → p < length keys → slice_index keys p ≢ x)
          → K x ⊎ (K x → ⊥)
      from (inl h) = inl ((numbers.members x).0 (subst (Contains keys) h.2 (held_at keys h.0 h.1)))
      from (inr none) = inr (λ h. let has : Contains keys x = (numbers.members x).1 h in none has.0 has.1 (held_is keys x has))

  -- a dart is new or not
  pub new-or-not : IsTold (IsNew K star)
  new-or-not z = from (low-or-high made) (low-or-high (made + length keys))
    where
      low-or-high : (b : ℕ) → (z ≤ b) ⊎ (b < z)
      low-or-high b = grind arith

      from : (z ≤ made) ⊎ (made < z) → (z ≤ made + length keys) ⊎ (made + length keys < z) → IsNew K star z ⊎ (IsNew K star z → ⊥)
      from (inl l) b = inr (λ (x, h, e). let a : made < star x = numbered_above K keys made star numbers x h in omega arith)
      from (inr l) (inl b) = inl (numbered_all K keys made star numbers z l b)
      from (inr l) (inr b) = inr (λ (x, h, e).
          let a : star x ≤ made + length keys = numbered_upto K keys made star numbers x h in omega arith)

  -- no dart from before is new
  pub low-apart : (x c : ℕ) → x ≤ made → K c → x ≢ star c
  low-apart x c l h e = let a : made < star c = numbered_above K keys made star numbers c h in omega arith

  -- so no live one is
  pub live-apart : (Live : ℕ → Type 0) → IsCounted made Live → (x c : ℕ) → Live x → K c → x ≢ star c
  live-apart Live counted x c l h = low-apart x c (counted x l).1 h
