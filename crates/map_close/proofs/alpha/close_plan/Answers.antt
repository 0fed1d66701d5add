use Rattle.std.proofs.Common.{lit<, refl, arith}
use Rattle.map_close.proofs.alpha.close_plan.Goals as goal

pub closing_edit-requires : goal.closing_edit-requires
closing_edit-requires g c = (lit< tt, (omega arith, (refl, c.requires.laws)))
