-- What OFF text tells of a map: its 0-cells as points, its 2-cells as faces. Source: the ASCII OFF format; the dart at which a
-- face begins and the order of the cells are this project's.
use Rattle.std.specs.Prelude.{ℕ, ◌≡◌, ◌≢◌, ◌<◌, ◌↔◌, ◌⊎◌, List, [], ◌∷◌, length, Option, Some, None, slice_index, Contains}
use Rattle.std.specs.List.{AllZip}
use Rattle.std.specs.List.Sorted.{IsStrictlyIncreasing}
use Rattle.map_defs.specs.Kind.{Kind, alpha, beta}
use Rattle.map_defs.specs.Links.{Links}
use Rattle.map_defs.specs.LinkWords.{LinkWord, one_link, two_links, through}
use Rattle.map_defs.specs.Rows.{Rows, IsLive, links_of}
use Rattle.map_defs.specs.Cells.{InOrbit, Leads, InCell, NamesCell}
use Rattle.map_defs.specs.Counts.{HasCount}
use Rattle.map_defs.specs.Values.{Value}
use Rattle.map_defs.specs.Refusal.{Refusal, NotClosed, NoPoint, ThinFace}

-- Points, faces, and how many edges there are. A face names its points by their places, from 0, in the order in which it
-- goes round.
pub record OffRows : Type 0 where
  pub points : List Value
  pub faces : List (List ℕ)
  pub edges : ℕ

-- The word that leads on round a 2-cell, from a side to the next: link 0 and then link 1, or link 1 alone in a combinatorial
-- map.
abbrev pub round_word : Kind → LinkWord
round_word alpha = two_links 0 1
round_word beta = one_link 1

abbrev pub next_round : Kind → Links → ℕ → ℕ
next_round k L x = through L (round_word k) x

-- From x the walk passes these darts, in this order, until it is at d. One that meets a free link is at 0, and stays there.
pub data Passes (Next : ℕ → ℕ) (d : ℕ) : ℕ → List ℕ → Type 0 where
  there : Passes Next d d []
  past : {x : ℕ} {darts : List ℕ} → x ≢ d → Passes Next d (Next x) darts → Passes Next d x (x ∷ darts)

-- the darts on the way round from d, d first, until the walk is at d again
abbrev pub IsRound : Kind → Links → ℕ → List ℕ → Type 0
IsRound k L d darts = (others : List ℕ) × Passes (next_round k L) d (next_round k L d) others × (darts ≡ d ∷ others)

-- the walk round from d meets a free link
abbrev pub IsOpen : Kind → Links → ℕ → Type 0
IsOpen k L d = (x : ℕ) × InOrbit (Leads L (λ w. w ≡ round_word k)) d x × (next_round k L x ≡ 0)

-- the way round from d has fewer than three darts
abbrev pub IsThin : Kind → Links → ℕ → Type 0
IsThin k L d = (darts : List ℕ) × IsRound k L d darts × (length darts < 3)

-- d names an i-cell of the map
abbrev pub IsCell : Kind → Rows → ℕ → ℕ → Type 0
IsCell k rows i d = IsLive rows d × NamesCell k (links_of rows) i d

-- the i-cells of the map, each by its least dart, ascending
pub record ListsCells (k : Kind) (rows : Rows) (i : ℕ) (cells : List ℕ) : Type 0 where
  pub members : (d : ℕ) → Contains cells d ↔ IsCell k rows i d
  pub ascending : IsStrictlyIncreasing cells

-- x lies in the 0-cell at this place of the list
abbrev pub LiesIn : Kind → Links → List ℕ → ℕ → ℕ → Type 0
LiesIn k L vertices x place = (place < length vertices) × InCell k L 0 (slice_index vertices place) x

-- the face of the 2-cell that d names: the places of the 0-cells of the darts on the way round from d
abbrev pub IsFaceOf : Kind → Links → List ℕ → ℕ → List ℕ → Type 0
IsFaceOf k L vertices d face = (darts : List ℕ) × IsRound k L d darts × AllZip (LiesIn k L vertices) darts face

-- These are the rows of the map, whose 0-cells have these values, each at its least dart.
pub record AreOffRows (k : Kind) (rows : Rows) (values : ℕ → Option Value) (off : OffRows) : Type 0 where
  pub vertices : List ℕ
  pub vertices_listed : ListsCells k rows 0 vertices
  -- a point for each 0-cell
  pub points : AllZip (λ d point. values d ≡ Some point) vertices off.points
  pub cells : List ℕ
  pub cells_listed : ListsCells k rows 2 cells
  -- a face for each 2-cell
  pub faces : AllZip (IsFaceOf k (links_of rows) vertices) cells off.faces
  -- and the number of 1-cells
  pub edges : HasCount (IsCell k rows 1) off.edges

-- the walk round some 2-cell meets a free link
abbrev pub HasOpenFace : Kind → Rows → Type 0
HasOpenFace k rows = (d : ℕ) × IsCell k rows 2 d × IsOpen k (links_of rows) d

-- some 0-cell has no value
abbrev pub LacksPoint : Kind → Rows → (ℕ → Option Value) → Type 0
LacksPoint k rows values = (d : ℕ) × IsCell k rows 0 d × (values d ≡ None)

-- the way round some 2-cell has fewer than three darts
abbrev pub HasThinFace : Kind → Rows → Type 0
HasThinFace k rows = (d : ℕ) × IsCell k rows 2 d × IsThin k (links_of rows) d

-- The map has OFF text: no 2-cell is open or thin, and each 0-cell has a point.
abbrev pub HasOffText : Kind → Rows → (ℕ → Option Value) → Type 0
HasOffText k rows values = (HasOpenFace k rows → ⊥) × (LacksPoint k rows values → ⊥) × (HasThinFace k rows → ⊥)

-- Why a map has none. Each reason is looked for in the whole map, and only where none before it was found.
abbrev pub LacksOffText : Kind → Rows → (ℕ → Option Value) → Refusal → Type 0
LacksOffText k rows values why =
    ((why ≡ NotClosed) × HasOpenFace k rows)
    ⊎ ((why ≡ NoPoint) × (HasOpenFace k rows → ⊥) × LacksPoint k rows values)
    ⊎ ((why ≡ ThinFace) × (HasOpenFace k rows → ⊥) × (LacksPoint k rows values → ⊥) × HasThinFace k rows)
