use Rattle.map_defs.specs.Rows.{links_of}
use Rattle.cell_edit.proofs.WalkTurns.{IsOn}
use Rattle.beta_edit.specs.Crossing.{drawn_step}
use Rattle.beta_edit.proofs.crossing.walk_end.Given as goal

abbrev pub invariant-loop-turn : goal.invariant-loop-turn
invariant-loop-turn g l = IsOn l.cell (drawn_step (links_of l.links.rows) l.beside l.link) l.fn.from l._turn l.at
