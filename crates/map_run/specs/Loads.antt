-- What loading a mesh answers, and the line that refuses one.
use Rattle.std.specs.Prelude.{ℕ, ◌≡◌, ◌⊎◌, List, [], Option, Some, None, Ok}
use Rattle.map_defs.specs.Kind.{Kind}
use Rattle.machine_defs.specs.Outside.{Appended}
use Rattle.map_defs.specs.Off.{Mesh, mesh_of}
use Rattle.map_defs.specs.MeshMap as built_mesh
use Rattle.machine_defs.specs.Loading.{refusal_line, text_fault_line, map_fault_line}
use Rattle.off_text.specs.Meanings.{meaning}
use Rattle.off_text.specs.declared.fault.OffFault.{OffFault}
use Rattle.off_text.specs.declared.fault.OffFault.TheVariants as off
use Rattle.mesh_build.specs.declared.fault.MeshFault.{MeshFault}
use Rattle.mesh_build.specs.declared.fault.MeshFault.TheVariants as built
use Rattle.map_run.specs.declared.mesh.LoadFault.{LoadFault}
use Rattle.map_run.specs.declared.mesh.LoadFault.TheVariants.{Text, Map}
use Rattle.map_run.specs.Ending.{IsLast}

-- the line that tells of a fault; want of memory has none
abbrev pub text_line : OffFault → Option (List ℕ)
text_line (off.Bad line what) = Some (text_fault_line (record { line = line; what = meaning what }))
text_line off.NoMemory = None

abbrev pub map_line : MeshFault → Option (List ℕ)
map_line (built.Full darts) = Some (map_fault_line (built_mesh.Full darts))
map_line (built.Repeated face) = Some (map_fault_line (built_mesh.Repeated face))
map_line (built.ThreeSides face) = Some (map_fault_line (built_mesh.ThreeSides face))
map_line (built.Turned face) = Some (map_fault_line (built_mesh.Turned face))
map_line built.NoMemory = None

abbrev pub fault_line : LoadFault → Option (List ℕ)
fault_line (Text fault) = text_line fault
fault_line (Map fault) = map_line fault

-- where the fault has a line, it is the one that refuses the text
abbrev pub Refuses : Kind → List ℕ → LoadFault → Type 0
Refuses k bytes fault = (line : List ℕ) → fault_line fault ≡ Some line → refusal_line k (mesh_of bytes) ≡ Some line

-- a mesh without a fault, told by a text
abbrev pub IsRead : Kind → List ℕ → Mesh → Type 0
IsRead k bytes mesh = (mesh_of bytes ≡ Ok mesh) × (built_mesh.mesh_fault k mesh ≡ None)

-- The line of a fault ended the program; or there was no memory for it.
pub record WritesFault (before after : Option (List ℕ)) (rose : Type 0) (fault : LoadFault) (result : ℕ) : Type 0 where
  pub piece : List ℕ
  pub appended : Appended before after piece
  pub is : ((result ≡ 7) × (piece ≡ [])) ⊎ ((line : List ℕ) × (fault_line fault ≡ Some line) × IsLast rose line 3 result piece)
