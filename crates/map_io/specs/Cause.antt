-- How a count of faults goes with a call that may fail. This project's own.
use Rattle.std.specs.Prelude.{◌≡◌, ℕ, ◌+◌, ◌-◌, ◌^◌, ◌≤◌, min}
use Rattle.machine_defs.specs.Outside.{Rose}

-- a count never falls, and where the call failed it rose
pub record HasCause (before now : ℕ) (failed : Type 0) : Type 0 where
  pub later : before ≤ now
  pub rose : failed → Rose before now

-- one more is counted exactly where the call failed, until the count stands at the last number of 64 bits
pub record IsCounted (before now : ℕ) (failed : Type 0) : Type 0 where
  pub once : failed → now ≡ min (before + 1) (2 ^ 64 - 1)
  pub quiet : (failed → ⊥) → now ≡ before
