use Rattle.loading_laws.proofs.MeshContent.{maps-kept}
use Rattle.loading_laws.proofs.mesh_maps_keep_the_laws.Goals as goal

pub returns : goal.returns
returns c k n mesh content flat sound is = maps-kept k n mesh content flat sound is
