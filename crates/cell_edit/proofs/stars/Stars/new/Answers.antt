use Rattle.cell_edit.proofs.StarNumbers.{few_keys}
use Rattle.cell_edit.proofs.stars.Stars.new.Goals as goal

pub invariant_of-result : goal.invariant_of-result
invariant_of-result c = (c.requires.ascending, few_keys c.args.darts.items c.args.made c.requires.ascending c.requires.made, c.requires.few)
