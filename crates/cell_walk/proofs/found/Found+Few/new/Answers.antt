use Rattle.cell_walk.proofs.FoundDarts.{listed-none}
use Rattle.cell_walk.proofs.SeenDarts.{TellsRest}
use Rattle.cell_walk.proofs.found.Found+Few.new.Goals as goal

pub invariant_of-result : goal.invariant_of-result
invariant_of-result c = listed-none (TellsRest c.new-2.result.more.keys) c.new.result.items c.new-2.ensures c.new.ensures.items
