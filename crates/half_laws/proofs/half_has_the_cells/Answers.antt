use Rattle.map_defs.specs.Rows.{IsLive}
use Rattle.half_laws.proofs.HalfCells.{half_cell}
use Rattle.half_laws.proofs.half_has_the_cells.Goals as goal

pub returns : goal.returns
returns c n rows L N signs origins w to dim o a h i r q one low = half_cell n (IsLive rows) L w to dim signs o origins a N h i r q one low
