use Rattle.remove_laws.proofs.Ends.{removal_found, contraction_found}
use Rattle.remove_laws.proofs.Smoothed.{run_found}
use Rattle.remove_laws.proofs.Removed.{vertex_smoothed}
use Rattle.std.proofs.Common.{◌+◌}
use Rattle.remove_laws.proofs.walks_end.Goals as goal

pub returns-clause-removal : goal.returns-clause-removal
returns-clause-removal c k made i d L w bound live = removal_found made d L bound live k i w

pub returns-clause-vertex : goal.returns-clause-vertex
returns-clause-vertex c made d L w bound live r = run_found (made + d) _ L (vertex_smoothed L w made d live bound r)

pub returns-clause-contraction : goal.returns-clause-contraction
returns-clause-contraction c k made i d L w bound live = contraction_found made d L bound live k i w
