-- What the taking of the dual answers, and what it leaves of a map with its values.
use Rattle.std.specs.Prelude.{◌≡◌, false, None, Result, Ok, Err}
use Rattle.map_kind.specs.declared.refusal.Refusal.TheVariants as told
use Rattle.map_kind.specs.declared.refusal.Refused.{Refused}
use Rattle.map_kind.specs.declared.refusal.Refused.TheVariants as why
use Rattle.map_defs.specs.Rows.{links_of, IsLive}
use Rattle.map_defs.specs.Dual.{IsDualable}
use Rattle.machine_defs.specs.State.{Content}
use Rattle.machine_defs.specs.Dualling.{IsDualOf}
use Rattle.valued_map.specs.Told.{IsStep}

-- the dual was made, and no step is told; or the map has none, or memory lacked, and nothing has changed
abbrev pub BecomesDual : Content → Content → Result (Unit {0}) Refused → Type 0
BecomesDual old new (Ok done) = IsDualable old.kind old.dim (links_of old.rows) (IsLive old.rows) × IsDualOf old new × IsStep false old new None
BecomesDual old new (Err (why.Line refusal)) = (refusal ≡ told.Boundary) × (IsDualable old.kind old.dim (links_of old.rows) (IsLive old.rows) → ⊥) × (new ≡ old)
BecomesDual old new (Err why.NoMemory) = new ≡ old
