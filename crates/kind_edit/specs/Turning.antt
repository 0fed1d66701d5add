-- What the taking of the dual answers and leaves.
use Rattle.std.specs.Prelude.{ℕ, ◌≡◌, ◌↔◌, length, Result, Ok, Err}
use Rattle.map_kind.specs.declared.refusal.Refusal.TheVariants as told
use Rattle.map_kind.specs.declared.refusal.Refused.{Refused}
use Rattle.map_kind.specs.declared.refusal.Refused.TheVariants as why
use Rattle.map_defs.specs.Kind.{Kind}
use Rattle.map_defs.specs.Laws.{Laws}
use Rattle.map_defs.specs.Rows.{Rows, links_of, IsLive, IsSound}
use Rattle.map_defs.specs.Dual.{IsDualable, IsDual}

-- the links of the new rows are the dual of those of the old; the darts and their numbers stay, and the laws are kept
pub record AreRowsOfDual (k : Kind) (n : ℕ) (old new : Rows) : Type 0 where
  pub dualable : IsDualable k n (links_of old) (IsLive old)
  pub dual : IsDual k n (links_of old) (links_of new)
  pub live : (d : ℕ) → IsLive new d ↔ IsLive old d
  pub length : length new ≡ length old
  pub sound : IsSound k n new
  pub laws : Laws k (links_of new)

-- the dual was made, or the map has none, or memory lacked
abbrev pub TakesDual : Kind → ℕ → Rows → Rows → Result (Unit {0}) Refused → Type 0
TakesDual k n old new (Ok done) = AreRowsOfDual k n old new
TakesDual k n old new (Err (why.Line refusal)) =
    (refusal ≡ told.Boundary) × (IsDualable k n (links_of old) (IsLive old) → ⊥) × (new ≡ old)
TakesDual k n old new (Err why.NoMemory) = new ≡ old
