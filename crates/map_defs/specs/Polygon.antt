-- A polygon: one face with its sides in a circle. Source: CGAL's make_combinatorial_polygon.
use Rattle.std.specs.Prelude.{ℕ, ◌+◌, ◌-◌, ◌*◌, ◌==◌, List, [], ◌∷◌, replicate, if◌then◌else◌}
use Rattle.std.specs.List.{flat_map, range_with_len}
use Rattle.map_defs.specs.Kind.{Kind, alpha, beta}

-- the darts of one side of a face
abbrev pub per_side : Kind → ℕ
per_side alpha = 2
per_side beta = 1

-- the side after side s and the one before it, in a circle
abbrev pub next_side : ℕ → ℕ → ℕ
next_side sides s = if s + 1 == sides then 0 else s + 1

abbrev pub previous_side : ℕ → ℕ → ℕ
previous_side sides s = if s == 0 then sides - 1 else s - 1

-- the row of a dart that is linked by links 0 and 1 alone, in dimension n
abbrev pub row_of : ℕ → ℕ → ℕ → List ℕ
row_of n zeroth first = zeroth ∷ first ∷ replicate (n - 1) 0

-- The rows of side s. In a generalized map side s has the darts first + 2s and first + 2s + 1; link 0 pairs the two, and
-- link 1 pairs the second with the first dart of the next side. In a combinatorial map it has the dart first + s, and
-- link 1 leads to the dart of the next side.
abbrev pub side_rows : Kind → ℕ → ℕ → ℕ → ℕ → List (List ℕ)
side_rows alpha n first sides s =
    row_of n (first + 2 * s + 1) (first + 2 * previous_side sides s + 1)
    ∷ row_of n (first + 2 * s) (first + 2 * next_side sides s) ∷ []
side_rows beta n first sides s = row_of n (first + previous_side sides s) (first + next_side sides s) ∷ []

-- the rows of a polygon whose darts are numbered on from first, side by side
abbrev pub polygon_rows : Kind → ℕ → ℕ → ℕ → List (List ℕ)
polygon_rows k n first sides = flat_map (side_rows k n first sides) (range_with_len 0 sides)
