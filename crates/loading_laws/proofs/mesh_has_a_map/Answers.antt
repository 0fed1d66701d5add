use Rattle.loading_laws.proofs.MeshContent.{has-map}
use Rattle.loading_laws.proofs.mesh_has_a_map.Goals as goal

pub returns : goal.returns
returns c k n mesh flat sound = has-map k n mesh flat sound
