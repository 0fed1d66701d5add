-- What the call for the total of a dimension answers. Source: this project's.
use Rattle.std.specs.Prelude.{ℕ, ◌≡◌, ◌<◌, ◌≤◌, Result, Ok, Err}
use Rattle.map_kind.specs.declared.refusal.Refusal.TheVariants.{BadDim}
use Rattle.map_kind.specs.declared.refusal.Refused.{Refused}
use Rattle.map_kind.specs.declared.refusal.Refused.TheVariants as why
use Rattle.map_defs.specs.Values.{Value}
use Rattle.machine_defs.specs.State.{Content}
use Rattle.total_laws.specs.Totals.{HasTotal}

-- the total of a dimension, which is not above that of the content; else the refusal that it is
abbrev pub TellsTotal : Content → ℕ → Result Value Refused → Type 0
TellsTotal c dim (Ok total) = (dim ≤ c.dim) × HasTotal c dim total
TellsTotal c dim (Err (why.Line r)) = (r ≡ BadDim) × (c.dim < dim)
TellsTotal c dim (Err why.NoMemory) = Unit {0}
