use Rattle.map_defs.specs.MeshMap.{mesh_fault}
use Rattle.reading_laws.specs.MeshFaults.{IsMeshFault}
use Rattle.reading_laws.proofs.MeshMet.{none-found, nothing-found, mesh-told}
use Rattle.reading_laws.proofs.no_fault_is_found_where_none_is.Goals as goal

pub returns : goal.returns
returns c k mesh =
    (none-found (IsMeshFault k mesh) (mesh_fault k mesh) (mesh-told k mesh), nothing-found (IsMeshFault k mesh) (mesh_fault k mesh) (mesh-told k mesh))
