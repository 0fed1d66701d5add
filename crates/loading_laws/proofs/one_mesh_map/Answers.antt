use Rattle.loading_laws.proofs.MeshOne.{mesh-content-one}
use Rattle.loading_laws.proofs.one_mesh_map.Goals as goal

pub returns : goal.returns
returns c k n mesh one other p q = mesh-content-one k n mesh one other p q
