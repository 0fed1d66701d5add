use Rattle.std.proofs.Common.{ℕ, ◌↔◌, ◌<◌, Contains}
use Rattle.map_defs.specs.Rows.{IsLive}
use Rattle.text_calls.proofs.transport_tests.live_darts.Given as goal

abbrev pub invariant-loop-number : goal.invariant-loop-number
invariant-loop-number g l = (d : ℕ) → Contains l.darts.items d ↔ ((d < l.number) × IsLive l.links.rows d)
