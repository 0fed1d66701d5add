-- How values are carried from the old cells of a dimension to the new ones. Source: the manual's merge and split
-- functions; the pieces and their order are this project's.
--
-- Old x y says that x and y lie in one old cell that has a value, New x y that they lie in one new cell; a dart lives if
-- it lives before and after. The value of a dart is that of its old cell.
use Rattle.std.specs.Prelude.{ℕ, ◌≡◌, ◌<◌, ◌≤◌, ◌↔◌, pos, List, [], ◌∷◌, length, Option, Some, None, IsSome, slice_index, slice_index_or, Contains}
use Rattle.std.specs.List.Sorted.{IsStrictlyIncreasing}
use Rattle.map_defs.specs.Kind.{Kind}
use Rattle.map_defs.specs.Links.{Links}
use Rattle.map_defs.specs.Cells.{InCell}
use Rattle.map_defs.specs.Touched.{IsAlike}
use Rattle.map_defs.specs.Values.{Value, Meaning}

-- the value so far, merged with that of the next piece, if it has one
abbrev pub merged_with : (Value → Value → Value) → Option Value → Option Value → Option Value
merged_with f None v = v
merged_with f (Some x) None = Some x
merged_with f (Some x) (Some y) = Some (f x y)

-- the values of the pieces merged from the left
abbrev pub merged_all : (Value → Value → Value) → Option Value → List (Option Value) → Option Value
merged_all f sofar [] = sofar
merged_all f sofar (v ∷ vs) = merged_all f (merged_with f sofar v) vs

-- m names a piece, the darts that live before and after and lie in one old valued cell and one new cell: it is the least
pub record NamesPiece (Live : ℕ → Type 0) (Old New : ℕ → ℕ → Type 0) (m : ℕ) : Type 0 where
  pub live : Live m
  pub valued : Old m m
  pub least : (x : ℕ) → Live x → Old m x → New m x → m ≤ x

-- the pieces that lie in Cell, by their names, ascending
pub record ArePieces (Live : ℕ → Type 0) (Old New : ℕ → ℕ → Type 0) (Cell : ℕ → Type 0) (pieces : List ℕ) : Type 0 where
  pub ascending : IsStrictlyIncreasing pieces
  pub members : (m : ℕ) → Contains pieces m ↔ (NamesPiece Live Old New m × Cell m)

-- the piece m gets this part of the value of its old cell, by its place among the pieces of that cell
pub record Gets (rule : Meaning) (value : ℕ → Value) (Live : ℕ → Type 0) (Old New : ℕ → ℕ → Type 0) (m : ℕ) (part : Option Value) : Type 0 where
  pub pieces : List ℕ
  pub are : ArePieces Live Old New (Old m) pieces
  pub at : ℕ
  pub within : at < length pieces
  pub named : slice_index pieces at ≡ m
  pub is : part ≡ rule.share (value m) (length pieces) at

-- the new cell of d has this value: the parts of its pieces, merged in their order
pub record IsCarried (rule : Meaning) (value : ℕ → Value) (Live : ℕ → Type 0) (Old New : ℕ → ℕ → Type 0) (d : ℕ) (result : Option Value) : Type 0 where
  pub pieces : List ℕ
  pub are : ArePieces Live Old New (New d) pieces
  pub parts : List (Option Value)
  pub even : length parts ≡ length pieces
  pub each : (at : ℕ) → at < length pieces → Gets rule value Live Old New (slice_index pieces at) (slice_index_or parts at None)
  pub is : result ≡ merged_all rule.merged None parts

-- a value, where there is one
abbrev pub known : Option Value → Value
known None = record { a = pos 0; b = pos 0; c = pos 0 }
known (Some v) = v

-- x and y lie in one cell of dimension i, and it has a value
abbrev pub IsValuedWith : Kind → ℕ → Links → (ℕ → Option Value) → ℕ → ℕ → Type 0
IsValuedWith k i L values x y = InCell k L i x y × IsSome (values x)

-- the darts of a cell of dimension i have one value, or none has one
abbrev pub AreEqualOnCells : Kind → ℕ → Links → (ℕ → Type 0) → (ℕ → Option Value) → Type 0
AreEqualOnCells k i L Live values = (x y : ℕ) → Live x → InCell k L i x y → values x ≡ values y

-- The values after a change of links are carried from those before, over the whole map, in dimension i.
abbrev pub AreCarried : Kind → ℕ → Meaning → Links → (ℕ → Type 0) → (ℕ → Option Value) → Links → (ℕ → Type 0) → (ℕ → Option Value) → Type 0
AreCarried k i rule L Live values N LiveAfter valuesAfter = (d : ℕ) → LiveAfter d → IsCarried rule (λ x. known (values x)) (λ x. Live x × LiveAfter x) (IsValuedWith k i L values) (InCell k N i) d (valuesAfter d)

-- the same, where labels tell the old valued cells, as an edit finds them
abbrev pub AreCarriedByLabel : Kind → ℕ → Meaning → (ℕ → Type 0) → (ℕ → Option ℕ) → (ℕ → Value) → Links → (ℕ → Type 0) → (ℕ → Option Value) → Type 0
AreCarriedByLabel k i rule Live label value N LiveAfter valuesAfter = (d : ℕ) → LiveAfter d → IsCarried rule value (λ x. Live x × LiveAfter x) (IsAlike label) (InCell k N i) d (valuesAfter d)
