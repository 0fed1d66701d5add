use Rattle.center_laws.proofs.BetaDangle.{dangle_keeps}
use Rattle.center_laws.proofs.dangling_keeps_the_laws_of_beta.Goals as goal

pub returns : goal.returns
returns c d star tip L N w linked fs ft two s = dangle_keeps L w d linked star tip fs ft two N s
