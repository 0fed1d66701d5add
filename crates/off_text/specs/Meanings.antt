-- What the meshes and the faults of the code stand for.
use Rattle.std.specs.Prelude.{ℕ, ◌≡◌, List, map, Vec, Result, Ok, Err}
use Rattle.std.specs.declared.alloc.Global.{Global}
use Rattle.map_defs.specs.Off as off
use Rattle.off_text.specs.declared.mesh.Mesh.{Mesh}
use Rattle.off_text.specs.declared.fault.OffWhat.{OffWhat}
use Rattle.off_text.specs.declared.fault.OffWhat.TheVariants as told
use Rattle.off_text.specs.declared.fault.OffFault.{OffFault}
use Rattle.off_text.specs.declared.fault.OffFault.TheVariants as outcome

abbrev pub meaning : OffWhat → off.What
meaning told.NoHeader = off.NoHeader
meaning told.BadCounts = off.BadCounts
meaning told.Short = off.Short
meaning told.NotInteger = off.NotInteger
meaning told.OutOfRange = off.OutOfRange
meaning told.BadFace = off.BadFace
meaning told.BadIndex = off.BadIndex
meaning told.Extra = off.Extra
meaning told.NotText = off.NotText

abbrev pub items_of : Vec ℕ Global → List ℕ
items_of v = v.items

-- lists of lists, without where they lie in memory
abbrev pub lists_of : List (Vec ℕ Global) → List (List ℕ)
lists_of lists = map items_of lists

-- a mesh without where it lies in memory
abbrev pub mesh_view : Mesh → off.Mesh
mesh_view mesh = record { points = mesh.points.items; faces = mesh.faces }

-- Want of memory is free.
abbrev pub IsFault : {Y : Type 0} → OffFault → Result Y off.TextFault → Type 0
IsFault (outcome.Bad line what) read = read ≡ off.bad line (meaning what)
IsFault outcome.NoMemory read = Unit {0}

-- what a call returned, seen by view, is what reading gives
abbrev pub Gives : {X Y : Type 0} → (X → Y) → Result X OffFault → Result Y off.TextFault → Type 0
Gives view (Ok x) read = read ≡ Ok (view x)
Gives view (Err fault) read = IsFault fault read

-- the same of a line, before its number is told
abbrev pub Finds : {X Y : Type 0} → (X → Y) → Result X OffWhat → Result Y off.What → Type 0
Finds view (Ok x) read = read ≡ Ok (view x)
Finds view (Err what) read = read ≡ Err (meaning what)
