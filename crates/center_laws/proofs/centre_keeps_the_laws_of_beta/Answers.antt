use Rattle.center_laws.proofs.BetaCentre.{centre_keeps}
use Rattle.center_laws.proofs.centre_keeps_the_laws_of_beta.Goals as goal

pub returns : goal.returns
returns c d star tip L N w hd fs ft two s = centre_keeps L w d hd star tip fs ft two N s
