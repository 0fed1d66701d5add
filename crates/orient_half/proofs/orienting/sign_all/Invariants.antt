use Rattle.std.proofs.Common.{◌+◌}
use Rattle.map_defs.specs.Rows.{links_of, IsLive}
use Rattle.orient_half.specs.Searches.{IsSurveyed}
use Rattle.orient_half.proofs.orienting.sign_all.Given as goal

abbrev pub invariant-loop-number : goal.invariant-loop-number
invariant-loop-number g l = IsSurveyed g.row.DIM (IsLive l.links.rows) (links_of l.links.rows) (l.number + 1) l.search.marks.items
