-- The pieces of the touched cells of one dimension, and what each gets.
use Rattle.std.specs.Prelude.{ℕ, zero, suc, ◌≡◌, ◌+◌, ◌≤◌, ◌<◌, ◌↔◌, Bool, nat_eq, cond, List, [], ◌∷◌, ◌++◌, length, Option, Some, None, slice_index_or, set, Contains}
use Rattle.std.specs.List.Sorted.{IsStrictlyIncreasing}
use Rattle.map_defs.specs.Values.{Value, Meaning}
use Rattle.map_defs.specs.Carry.{merged_with, merged_all, known}
use Rattle.store_defs.specs.Stores.{Store, value_of}
use Rattle.store_defs.specs.Groups.{Group, group_at, least_of}
use Rattle.transport.specs.declared.pieces.Piece.{Piece}

abbrev pub no_piece : Piece
no_piece = record { dart = 0; id = 0; cell = 0 }

abbrev pub piece_at : List Piece → ℕ → Piece
piece_at pieces k = slice_index_or pieces k no_piece

-- the cells of one dimension, of which none has a value yet
pub record IsBareCell (Cell : ℕ → ℕ → Type 0) (i : ℕ) (touched : List ℕ) (g : Group) : Type 0 where
  pub dim : g.dim ≡ i
  pub bare : g.value ≡ None
  pub ascending : IsStrictlyIncreasing g.darts
  pub whole : (d x : ℕ) → Contains g.darts d → Contains g.darts x ↔ Cell d x
  pub reached : (t : ℕ) × Contains touched t × Contains g.darts t

-- just the cells that hold a touched dart, each once, ascending by least dart
pub record AreBareCells (Cell : ℕ → ℕ → Type 0) (i : ℕ) (touched : List ℕ) (cells : List Group) : Type 0 where
  pub each : (n : ℕ) → n < length cells → IsBareCell Cell i touched (group_at cells n)
  pub all : (t : ℕ) → Contains touched t → (n : ℕ) × (n < length cells) × Contains (group_at cells n).darts t
  pub rising : (m n : ℕ) → m < n → n < length cells → least_of (group_at cells m) < least_of (group_at cells n)

-- the piece is the least dart with its id in its cell
pub record IsPiece (label : ℕ → Option ℕ) (cells : List Group) (p : Piece) : Type 0 where
  pub placed : p.cell < length cells
  pub inside : Contains (group_at cells p.cell).darts p.dart
  pub labelled : label p.dart ≡ Some p.id
  pub least : (x : ℕ) → Contains (group_at cells p.cell).darts x → label x ≡ Some p.id → p.dart ≤ x

-- a piece for each id in each cell, ascending by dart
pub record AreAllPieces (label : ℕ → Option ℕ) (cells : List Group) (pieces : List Piece) : Type 0 where
  pub sound : (k : ℕ) → k < length pieces → IsPiece label cells (piece_at pieces k)
  pub whole : (n x id : ℕ) → n < length cells → Contains (group_at cells n).darts x → label x ≡ Some id → (k : ℕ) × (k < length pieces) × ((piece_at pieces k).cell ≡ n) × ((piece_at pieces k).id ≡ id)
  pub rising : (j k : ℕ) → j < k → k < length pieces → (piece_at pieces j).dart < (piece_at pieces k).dart

-- of the places below n, those that pass, in their order, as f tells them
abbrev pub picked : {X : Type 0} → (ℕ → Bool) → (ℕ → X) → ℕ → List X
picked passes f zero = []
picked passes f (suc n) = cond (passes n) (picked passes f n ++ f n ∷ []) (picked passes f n)

-- how many of the places below n pass
abbrev pub count_below : (ℕ → Bool) → ℕ → ℕ
count_below passes zero = 0
count_below passes (suc n) = cond (passes n) (count_below passes n + 1) (count_below passes n)

abbrev pub has_id : List Piece → ℕ → ℕ → Bool
has_id pieces id k = nat_eq (piece_at pieces k).id id

abbrev pub lies_in : List Piece → ℕ → ℕ → Bool
lies_in pieces n k = nat_eq (piece_at pieces k).cell n

-- what the piece at place k gets
abbrev pub part_at : Meaning → Store → List Piece → ℕ → Option Value
part_at rule pool pieces k =
    rule.share (known (value_of pool (piece_at pieces k).id)) (count_below (has_id pieces (piece_at pieces k).id) (length pieces)) (count_below (has_id pieces (piece_at pieces k).id) k)

-- the value of cell n after the pieces before place k
abbrev pub merged_before : Meaning → Store → List Piece → ℕ → ℕ → Option Value
merged_before rule pool pieces k n = merged_all rule.merged None (picked (lies_in pieces n) (part_at rule pool pieces) k)

-- The cell of the piece has a further value, of which the piece gets its share; all else is as it was.
pub record IsPieceMerged (rule : Meaning) (pool : Store) (p : Piece) (total before : ℕ) (old new : List Group) : Type 0 where
  pub value : Value
  pub held : value_of pool p.id ≡ Some value
  pub cell : Group
  pub at : new ≡ set old p.cell cell
  pub dim : cell.dim ≡ (group_at old p.cell).dim
  pub darts : cell.darts ≡ (group_at old p.cell).darts
  pub merged : cell.value ≡ merged_with rule.merged (group_at old p.cell).value (rule.share value total before)

-- The cells have their values after the pieces before place k, and are else what they were.
pub record AreMerged (rule : Meaning) (pool : Store) (pieces : List Piece) (k : ℕ) (old new : List Group) : Type 0 where
  pub size : length new ≡ length old
  pub dims : (n : ℕ) → (group_at new n).dim ≡ (group_at old n).dim
  pub darts : (n : ℕ) → (group_at new n).darts ≡ (group_at old n).darts
  pub values : (n : ℕ) → n < length old → (group_at new n).value ≡ merged_before rule pool pieces k n
