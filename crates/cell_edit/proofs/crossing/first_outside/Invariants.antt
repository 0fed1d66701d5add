use Rattle.map_defs.specs.Rows.{links_of, IsLive}
use Rattle.cell_edit.specs.Bridging.{across}
use Rattle.cell_edit.proofs.WalkTurns.{IsOn}
use Rattle.cell_edit.proofs.crossing.first_outside.Given as goal

abbrev pub invariant-loop-turn : goal.invariant-loop-turn
invariant-loop-turn g l = IsOn l.cell (across g.K.Kind.kind (links_of l.links.rows) l.link l.beside) l.fn.from l._turn l.at × IsLive l.links.rows l.at
