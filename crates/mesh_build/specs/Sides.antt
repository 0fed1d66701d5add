-- What the sides and the faults of the code stand for.
use Rattle.std.specs.Prelude.{◌≡◌, List, map, Some, None, Vec, Result, Ok, Err, Option}
use Rattle.std.specs.declared.alloc.Global.{Global}
use Rattle.map_defs.specs.MeshMap as mesh
use Rattle.mesh_build.specs.declared.side.Side.{Side}
use Rattle.mesh_build.specs.declared.fault.MeshFault.{MeshFault}
use Rattle.mesh_build.specs.declared.fault.MeshFault.TheVariants as told

abbrev pub side_view : Side → mesh.Side
side_view s = record { number = s.number; from = s.from; to = s.to; next = s.next; previous = s.previous }

abbrev pub views : List Side → List mesh.Side
views sides = map side_view sides

abbrev pub sides_view : Vec Side Global → List mesh.Side
sides_view sides = views sides.items

-- What a call failed with is this fault; where it did not fail there is none. Want of memory is free.
abbrev pub Fails : {A : Type 0} → Result A MeshFault → Option mesh.MapFault → Type 0
Fails (Ok x) fault = fault ≡ None
Fails (Err (told.Full darts)) fault = fault ≡ Some (mesh.Full darts)
Fails (Err (told.Repeated face)) fault = fault ≡ Some (mesh.Repeated face)
Fails (Err (told.ThreeSides face)) fault = fault ≡ Some (mesh.ThreeSides face)
Fails (Err (told.Turned face)) fault = fault ≡ Some (mesh.Turned face)
Fails (Err told.NoMemory) fault = Unit {0}
