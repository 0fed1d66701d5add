-- Walks across a cell of a combinatorial map, and what they are asked before the cell is removed or contracted.
use Rattle.std.specs.Prelude.{ℕ, zero, suc, ◌≢◌, ◌↔◌, List, Contains, Option, Some, None}
use Rattle.map_defs.specs.Kind.{beta}
use Rattle.map_defs.specs.Links.{Links}
use Rattle.map_defs.specs.Cells.{InCell}
use Rattle.map_defs.specs.Walks.{Walk}

-- the way round a face: forward for link 1, and backward for all other links
abbrev pub side_of : ℕ → ℕ
side_of zero = 0
side_of (suc zero) = 1
side_of (suc (suc t)) = 0

-- One step of the walk by which link t is drawn across a cell: along the link beside and then along link t. With no link
-- beside, it goes from side to side of a face: for the links from 2 upwards too, since beyond such a link the way is backward.
abbrev pub drawn_step : Links → Option ℕ → ℕ → ℕ → ℕ
drawn_step L (Some a) t c = L t (L a c)
drawn_step L None t c = L (side_of t) c

-- from x the walk by which link t is drawn across these darts leads to y, 0 where it comes to a free link
abbrev pub DrawsTo : Links → Option ℕ → ℕ → List ℕ → ℕ → ℕ → Type 0
DrawsTo L beside t keys x y = Walk (Contains keys) (drawn_step L beside t) x y

-- link t leads from a remaining dart to the dart b, and is drawn back to that remaining dart
abbrev pub IsDrawnBack : Links → Option ℕ → ℕ → List ℕ → ℕ → Type 0
IsDrawnBack L beside t keys b = (L t b ≢ 0) × (Contains keys (L t b) → ⊥) × DrawsTo L beside t keys b (L t b)

-- these are the darts of the i-cell of the dart d
abbrev pub IsCellOf : Links → ℕ → List ℕ → ℕ → Type 0
IsCellOf L i keys d = (d ≢ 0) × ((x : ℕ) → Contains keys x ↔ InCell beta L i d x)

-- the link along which the walk across an i-cell that is contracted goes beside link i
abbrev pub beside_of : ℕ → ℕ
beside_of zero = 0
beside_of (suc zero) = 0
beside_of (suc (suc zero)) = 0
beside_of (suc (suc (suc i))) = suc (suc i)
