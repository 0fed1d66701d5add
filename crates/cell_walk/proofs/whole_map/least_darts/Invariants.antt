use Rattle.std.proofs.Common.{◌≤◌, length, Contains}
use Rattle.map_defs.specs.Cells.{Leads}
use Rattle.map_defs.specs.Rows.{links_of, IsLive}
use Rattle.cell_walk.specs.Surveys.{AreSurveyed}
use Rattle.cell_walk.proofs.whole_map.least_darts.Given as goal

abbrev pub invariant-loop-number : goal.invariant-loop-number
invariant-loop-number g l =
    (length l.links.rows ≤ length l.marks)
    × AreSurveyed (Leads (links_of l.links.rows) (Contains l.words)) (IsLive l.links.rows) l.number l.marks l.least.items
