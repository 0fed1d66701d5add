use Rattle.link_laws.proofs.Sewn.{sewing_keeps}
use Rattle.link_laws.proofs.sewing_keeps_the_laws.Goals as goal

pub returns : goal.returns
returns c k i d e L N w hd he can s = sewing_keeps k L w i d e hd he can N s
