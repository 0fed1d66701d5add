-- Insertions, each with the removal that undoes it. Source: this project's.
use Rattle.std.specs.Prelude.{ℕ, ◌≤◌, length}
use Rattle.machine_defs.specs.Script as says
use Rattle.machine_defs.specs.Script.{Line}
use Rattle.map_laws.specs.declared.insert.Insertion.{Insertion}
use Rattle.map_laws.specs.declared.insert.Insertion.TheVariants.{Vertex, Edge, Face, Dangle}

-- the line of an insertion
abbrev pub insertion_line : Insertion → Line
insertion_line (Vertex d) = says.Vertex d
insertion_line (Edge d e) = says.Edge d e
insertion_line (Face path) = says.Face path.items
insertion_line (Dangle d) = says.Dangle d

-- the dimension of the cell that an insertion makes
abbrev pub new_dim : Insertion → ℕ
new_dim (Vertex d) = 0
new_dim (Edge d e) = 1
new_dim (Face path) = 2
new_dim (Dangle d) = 1

-- a face has from 1 to 4,096 sides
abbrev pub HasSides : Insertion → Type 0
HasSides (Face path) = (1 ≤ length path.items) × (length path.items ≤ 4096)
HasSides insertion = Unit {0}
