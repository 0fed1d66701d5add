use Rattle.std.proofs.Common.{Contains, length}
use Rattle.map_defs.specs.Cells.{Leads}
use Rattle.map_defs.specs.Rows.{links_of, IsLive}
use Rattle.cell_walk.specs.Surveys.{IsSurveyed}
use Rattle.cell_walk.specs.CellLists.{AreOrbitsOf}
use Rattle.flat_lists.specs.Cutting.{cut, AreEnds}
use Rattle.cell_walk.proofs.whole_map.orbit_lists.Given as goal

abbrev pub invariant-loop-number : goal.invariant-loop-number
invariant-loop-number g l = record {
  surveyed : IsSurveyed (Leads (links_of l.links.rows) (Contains l.words)) (IsLive l.links.rows) l.number l.found l.least.items;
  ends : AreEnds 0 l.ends.items (length l.found);
  lists : AreOrbitsOf (Leads (links_of l.links.rows) (Contains l.words)) l.least.items (cut 0 l.found l.ends.items);
}
