-- The map of a mesh: its sides, its links, its faults and its points. Source: the usual reading of a face list.
use Rattle.std.specs.Prelude.{ℕ, ◌≡◌, ◌≢◌, ◌+◌, ◌*◌, ◌≤◌, min, max, ◌==◌, nat_lt, ◌&&◌, ◌⊎◌, ◌↔◌, Bool, true, false, List, [], ◌∷◌, ◌++◌, length, map, filter, All, Contains, Option, Some, None, slice_index, slice_get, if◌then◌else◌}
use Rattle.std.specs.List.{AllPairs, list_any, range_with_len}
use Rattle.std.specs.List.Sorted.{IsStrictlyIncreasing}
use Rattle.map_defs.specs.Kind.{Kind, alpha, beta}
use Rattle.map_defs.specs.Links.{Links, HasDimension}
use Rattle.map_defs.specs.Laws.{Laws}
use Rattle.map_defs.specs.Rows.{links_of, IsLive, made_max}
use Rattle.map_defs.specs.Edits.{Edit, Fits, after_edit}
use Rattle.map_defs.specs.Cells.{InCell, NamesCell}
use Rattle.map_defs.specs.Polygon.{per_side, next_side, previous_side}
use Rattle.map_defs.specs.Values.{Value, Place}
use Rattle.map_defs.specs.Off.{Mesh}

-- A side of a face. It has a number, from 0, leads from a point to a point, and stands between two sides of its face.
pub record Side : Type 0 where
  pub number : ℕ
  pub from : ℕ
  pub to : ℕ
  pub next : ℕ
  pub previous : ℕ

-- side s of a face with these corners, where the face's sides are numbered on from base
abbrev pub side_at : ℕ → List ℕ → ℕ → Side
side_at base corners s = record {
  number = base + s;
  from = slice_index corners s;
  to = slice_index corners (next_side (length corners) s);
  next = base + next_side (length corners) s;
  previous = base + previous_side (length corners) s;
}

abbrev pub face_sides : ℕ → List ℕ → List Side
face_sides base corners = map (side_at base corners) (range_with_len 0 (length corners))

-- the sides of faces, one face after the other
abbrev pub sides_from : ℕ → List (List ℕ) → List Side
sides_from base [] = []
sides_from base (corners ∷ faces) = face_sides base corners ++ sides_from (base + length corners) faces

abbrev pub sides_of : List (List ℕ) → List Side
sides_of faces = sides_from 0 faces

-- The dart of side s that lies where the side starts. A side of a generalized map has a second dart, which lies where the
-- side ends.
abbrev pub start : Kind → ℕ → ℕ
start k s = per_side k * s + 1

abbrev pub finish : ℕ → ℕ
finish s = 2 * s + 2

-- dart d lies at point v
pub data LiesAt (k : Kind) (sides : List Side) (d v : ℕ) : Type 0 where
  first : (s : Side) → Contains sides s → d ≡ start k s.number → v ≡ s.from → LiesAt k sides d v
  second : (s : Side) → k ≡ alpha → Contains sides s → d ≡ finish s.number → v ≡ s.to → LiesAt k sides d v

-- the side lies between these two points
abbrev pub is_between : ℕ → ℕ → Side → Bool
is_between low high s = (min s.from s.to == low) && (max s.from s.to == high)

-- two sides have the same two points
abbrev pub has_ends : Side → Side → Bool
has_ends s t = is_between (min s.from s.to) (max s.from s.to) t

-- Links 0 and 1 lead along the face. In a generalized map link 0 joins the darts of a side, and link 1 its second dart with
-- the first dart of the next side. In a combinatorial map link 1 leads on to the next side, and link 0 back.
abbrev pub AreAlong : Kind → Links → Side → Type 0
AreAlong alpha L s =
    (L 0 (start alpha s.number) ≡ finish s.number) × (L 0 (finish s.number) ≡ start alpha s.number)
    × (L 1 (start alpha s.number) ≡ finish s.previous) × (L 1 (finish s.number) ≡ start alpha s.next)
AreAlong beta L s = (L 1 (start beta s.number) ≡ start beta s.next) × (L 0 (start beta s.number) ≡ start beta s.previous)

-- Link 2 joins the darts of two sides, in a generalized map those that lie at the same point.
abbrev pub AreJoined : Links → ℕ → ℕ → Type 0
AreJoined L d e = (L 2 d ≡ e) × (L 2 e ≡ d)

abbrev pub AreSewn : Kind → Links → Side → Side → Type 0
AreSewn alpha L s t =
    ((s.from ≡ t.from) × AreJoined L (start alpha s.number) (start alpha t.number) × AreJoined L (finish s.number) (finish t.number))
    ⊎ ((s.from ≢ t.from) × AreJoined L (start alpha s.number) (finish t.number) × AreJoined L (finish s.number) (start alpha t.number))
AreSewn beta L s t = (s.from ≢ t.from) × AreJoined L (start beta s.number) (start beta t.number)

-- link 2 of a side's darts is free
abbrev pub IsBorder : Kind → Links → Side → Type 0
IsBorder alpha L s = (L 2 (start alpha s.number) ≡ 0) × (L 2 (finish s.number) ≡ 0)
IsBorder beta L s = L 2 (start beta s.number) ≡ 0

-- the links of these sides, which are all links of their darts
pub record AreMeshLinks (k : Kind) (sides : List Side) (L : Links) : Type 0 where
  pub along : All (AreAlong k L) sides
  -- two sides with the same two points are sewn
  pub sewn : AllPairs (λ s t. has_ends s t ≡ true → AreSewn k L s t) sides
  -- a side that has its two points for itself is not
  pub border : All (λ s. All (λ t. has_ends s t ≡ true → s ≡ t) sides → IsBorder k L s) sides
  -- links from 3 upwards are free
  pub flat : HasDimension 2 L

-- The points of the 0-cells: each cell is named once, by its least dart, and has the point at which its darts lie.
pub record ArePlaces (k : Kind) (sides : List Side) (points : List Value) (Live : ℕ → Type 0) (L : Links) (places : List Place) : Type 0 where
  pub members : (d : ℕ) → Contains (map (λ place. place.dart) places) d ↔ (Live d × NamesCell k L 0 d)
  pub ascending : IsStrictlyIncreasing (map (λ place. place.dart) places)
  pub values : All (λ place. (d v : ℕ) → InCell k L 0 place.dart d → LiesAt k sides d v → slice_get points v ≡ Some place.value) places

-- an edit that makes the map of a mesh from nothing, and the points of its 0-cells
pub record MakesMesh (k : Kind) (n : ℕ) (mesh : Mesh) (edit : Edit) (places : List Place) : Type 0 where
  pub births : edit.births ≡ per_side k * length (sides_of mesh.faces)
  pub few : edit.births ≤ made_max
  pub deaths : edit.deaths ≡ []
  pub fits : Fits k n (None ∷ []) edit
  pub links : AreMeshLinks k (sides_of mesh.faces) (links_of (after_edit n edit (None ∷ [])))
  pub laws : Laws k (links_of (after_edit n edit (None ∷ [])))
  pub located : ArePlaces k (sides_of mesh.faces) mesh.points (IsLive (after_edit n edit (None ∷ []))) (links_of (after_edit n edit (None ∷ []))) places

-- why a mesh has no map: too many darts, or what is wrong with the face of this number, from 0
pub data MapFault : Type 0 where
  Full : ℕ → MapFault
  Repeated : ℕ → MapFault
  ThreeSides : ℕ → MapFault
  Turned : ℕ → MapFault

-- the first of two that there is
abbrev pub or_else : {A : Type 0} → Option A → Option A → Option A
or_else None other = other
or_else (Some x) other = Some x

-- a combinatorial map is oriented
abbrev pub is_oriented : Kind → Bool
is_oriented alpha = false
is_oriented beta = true

-- some corner stands among those before it
abbrev pub repeats : List ℕ → List ℕ → Bool
repeats before [] = false
repeats before (v ∷ corners) = if list_any (λ u. u == v) before then true else repeats (v ∷ before) corners

-- What is wrong with side s of a face, by the earlier sides with the same two points: there is one already that is sewn, or
-- the only one leads the same way in an oriented map.
abbrev pub side_fault : Kind → ℕ → Side → List Side → Option MapFault
side_fault k face s [] = None
side_fault k face s (t ∷ []) = if is_oriented k && (t.from == s.from) then Some (Turned face) else None
side_fault k face s (t ∷ u ∷ more) = Some (ThreeSides face)

-- what is wrong first with these sides of a face, behind earlier ones
abbrev pub sides_fault : Kind → ℕ → List Side → List Side → Option MapFault
sides_fault k face earlier [] = None
sides_fault k face earlier (s ∷ sides) = or_else (side_fault k face s (filter (has_ends s) earlier)) (sides_fault k face (earlier ++ s ∷ []) sides)

abbrev pub face_fault : Kind → ℕ → List Side → List ℕ → Option MapFault
face_fault k face earlier corners =
    if repeats [] corners then Some (Repeated face) else sides_fault k face earlier (face_sides (length earlier) corners)

-- what is wrong first with these faces, behind earlier sides
abbrev pub faces_fault : Kind → ℕ → List Side → List (List ℕ) → Option MapFault
faces_fault k face earlier [] = None
faces_fault k face earlier (corners ∷ faces) =
    or_else (face_fault k face earlier corners) (faces_fault k (face + 1) (earlier ++ face_sides (length earlier) corners) faces)

-- why a mesh has no map, if it has none
abbrev pub mesh_fault : Kind → Mesh → Option MapFault
mesh_fault k mesh =
    if nat_lt made_max (per_side k * length (sides_of mesh.faces)) then Some (Full (per_side k * length (sides_of mesh.faces)))
    else faces_fault k 0 [] mesh.faces
