use Rattle.map_defs.specs.MeshMap.{mesh_fault}
use Rattle.reading_laws.specs.MeshFaults.{IsMeshFault}
use Rattle.reading_laws.proofs.MeshMet.{found-is, is-found, mesh-told, one-mesh-fault}
use Rattle.reading_laws.proofs.found_fault_is_the_first.Goals as goal

pub returns : goal.returns
returns c k mesh fault =
    (is-found (IsMeshFault k mesh) (mesh_fault k mesh) (mesh-told k mesh) fault, found-is (IsMeshFault k mesh) (one-mesh-fault k mesh) (mesh_fault k mesh) (mesh-told k mesh) fault)
