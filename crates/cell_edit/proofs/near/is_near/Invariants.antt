use Rattle.map_defs.specs.Rows.{links_of}
use Rattle.map_defs.specs.Insertion.{AreOnOneSide}
use Rattle.cell_edit.proofs.near.is_near.Given as goal

abbrev pub invariant-loop-turn : goal.invariant-loop-turn
invariant-loop-turn g l = AreOnOneSide (links_of l.links.rows) l.one l.at
