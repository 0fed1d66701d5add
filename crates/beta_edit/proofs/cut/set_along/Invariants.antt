use Rattle.std.proofs.Common.{◌+◌}
use Rattle.cell_edit.specs.Stars.{star_of}
use Rattle.beta_edit.proofs.CutEntries.{IsSetTo}
use Rattle.beta_edit.proofs.cut.set_along.Given as goal

abbrev pub invariant-loop-link : goal.invariant-loop-link
invariant-loop-link g l = IsSetTo (star_of l.stars) l.from l.initial.row l.row (g.row.DIM + 1) l.link
