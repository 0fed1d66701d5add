use Rattle.std.proofs.Common.{◌≡◌, length}
use Rattle.std.specs.Prelude.{All}
use Rattle.map_defs.specs.Rows.{IsLive}
use Rattle.link_calls.proofs.alpha_edit_tests.face.Given as goal

abbrev pub invariant-loop-number : goal.invariant-loop-number
invariant-loop-number g l = All (IsLive l.links.rows) l.darts.items × (length l.darts.items ≡ l.number-index)
