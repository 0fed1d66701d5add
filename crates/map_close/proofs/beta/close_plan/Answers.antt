use Rattle.std.proofs.Common.{lit<, arith}
use Rattle.map_defs.specs.Kind.{beta}
use Rattle.link_laws.proofs.Basics.{inverse_own}
use Rattle.map_close.proofs.beta.close_plan.Goals as goal

pub closing_edit-requires : goal.closing_edit-requires
closing_edit-requires g c = (lit< tt, (omega arith, (inverse_own beta _ (omega arith), c.requires.laws)))
