-- What the book keeps of the sides so far.
use Rattle.std.specs.Prelude.{ℕ, Bool, true, ◌≡◌, ◌≢◌, ◌<◌, ◌&&◌, ◌==◌, List, [], ◌∷◌, length, filter, Option, Some, None}
use Rattle.std.specs.HashMap as hash
use Rattle.std.specs.HashMap.{HashMap}
use Rattle.std.specs.declared.hash.FoldHasher.{FoldHasher}
use Rattle.std.specs.declared.hash.BuildHasherDefault.{BuildHasherDefault}
use Rattle.map_defs.specs.MeshMap.{Side, is_between}
use Rattle.mesh_build.specs.Sides.{sides_view}
use Rattle.mesh_laws.specs.Sides.{side_of, partner_of}
use Rattle.mesh_build.specs.declared.book.Book.{Book}

abbrev pub Last : Type 0
Last = HashMap (ℕ × ℕ) ℕ (BuildHasherDefault FoldHasher)

abbrev pub pair_eq : ℕ × ℕ → ℕ × ℕ → Bool
pair_eq x y = (x.0 == y.0) && (x.1 == y.1)

abbrev pub last_at : Last → ℕ → ℕ → Option ℕ
last_at last low high = hash.get pair_eq last (low, high)

-- the partners of the sides between two points, and the last of them
abbrev pub KeepsEdge : Bool → List (Option ℕ) → Option ℕ → List Side → Type 0
KeepsEdge oriented partners last [] = last ≡ None
KeepsEdge oriented partners last (s ∷ []) = (last ≡ Some s.number) × (partner_of partners s.number ≡ None)
KeepsEdge oriented partners last (s ∷ t ∷ []) =
    (last ≡ Some t.number) × (partner_of partners s.number ≡ Some t.number) × (partner_of partners t.number ≡ Some s.number)
    × (s.number < t.number) × (oriented ≡ true → s.from ≢ t.from)
KeepsEdge oriented partners last (s ∷ t ∷ u ∷ more) = ⊥

pub record Keeps (oriented : Bool) (last : Last) (partners : List (Option ℕ)) (sides : List Side) : Type 0 where
  pub long : length partners ≡ length sides
  pub numbers : (s : ℕ) → s < length sides → (side_of sides s).number ≡ s
  pub edges : (low high : ℕ) → KeepsEdge oriented partners (last_at last low high) (filter (is_between low high) sides)

abbrev pub KeepsBook : Bool → Book → Type 0
KeepsBook oriented book = Keeps oriented book.last book.partners.items (sides_view book.sides)
