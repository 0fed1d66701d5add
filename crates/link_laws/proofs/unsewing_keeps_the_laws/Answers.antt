use Rattle.link_laws.proofs.Unsewn.{unsewing_keeps}
use Rattle.link_laws.proofs.unsewing_keeps_the_laws.Goals as goal

pub returns : goal.returns
returns c k i d L N w s = unsewing_keeps k L w i d N s
