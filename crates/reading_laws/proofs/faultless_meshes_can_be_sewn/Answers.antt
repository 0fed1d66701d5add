use Rattle.map_defs.specs.MeshMap.{mesh_fault}
use Rattle.reading_laws.specs.MeshFaults.{IsMeshFault}
use Rattle.reading_laws.proofs.MeshMet.{none-found, nothing-found, mesh-told}
use Rattle.reading_laws.proofs.Unordered.{can-be-sewn, no-fault-there}
use Rattle.reading_laws.proofs.faultless_meshes_can_be_sewn.Goals as goal

pub returns : goal.returns
returns c k mesh =
    (λ none. can-be-sewn k mesh (none-found (IsMeshFault k mesh) (mesh_fault k mesh) (mesh-told k mesh) none), λ can. nothing-found (IsMeshFault k mesh) (mesh_fault k mesh) (mesh-told k mesh) (no-fault-there k mesh can))
