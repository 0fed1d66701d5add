-- What is gathered while the darts of the cells are looked at one after the other.
use Rattle.std.specs.Prelude.{ℕ, ◌≡◌, ◌≢◌, ◌≤◌, ◌+◌, ◌<◌, ◌⊎◌, Bool, true, false, cond, nat_eq, List, [], ◌∷◌, ◌++◌, length, take, drop, Option, Some, None, slice_index, Contains}
use Rattle.std.specs.List.{list_any}
use Rattle.std.specs.List.Sorted.{IsStrictlyIncreasing}
use Rattle.store_defs.specs.Groups.{Group, group_at}
use Rattle.transport.specs.Pieces.{piece_at, IsPiece}
use Rattle.transport.specs.Tallies.{told_of}
use Rattle.transport.specs.declared.pieces.Piece.{Piece}
use Rattle.transport.specs.declared.tally.LastMet.{LastMet}

-- the cells' darts ascend, and no dart lies in two of them
pub record AreApart (cells : List Group) : Type 0 where
  pub ascending : (n : ℕ) → n < length cells → IsStrictlyIncreasing (group_at cells n).darts
  pub one : (m n x : ℕ) → m < length cells → n < length cells → Contains (group_at cells m).darts x → Contains (group_at cells n).darts x → m ≡ n

-- some piece has this cell and this id
abbrev pub HasPiece : List Piece → ℕ → ℕ → Type 0
HasPiece pieces n id = (k : ℕ) × (k < length pieces) × ((piece_at pieces k).cell ≡ n) × ((piece_at pieces k).id ≡ id)

-- The cells before cell n are looked at, and the first t darts of cell n. For each id it is told in which cell it was met
-- last; what was met in the cells before n may be forgotten.
pub record AreGathered (label : ℕ → Option ℕ) (cells : List Group) (n t : ℕ) (met : ℕ → Option ℕ) (pieces : List Piece) : Type 0 where
  pub sound : (k : ℕ) → k < length pieces → IsPiece label cells (piece_at pieces k)
  pub passed : (m j id : ℕ) → m < length cells → j < length (group_at cells m).darts → (m < n) ⊎ ((m ≡ n) × (j < t)) → label (slice_index (group_at cells m).darts j) ≡ Some id → HasPiece pieces m id
  pub last : (id : ℕ) → met id ≡ Some n → HasPiece pieces n id
  pub known : (k : ℕ) → k < length pieces → (piece_at pieces k).cell ≡ n → met (piece_at pieces k).id ≡ Some n
  pub low : (k : ℕ) → k < length pieces → (piece_at pieces k).cell ≤ n
  pub apart : (j k : ℕ) → j < k → k < length pieces → (piece_at pieces j).dart ≢ (piece_at pieces k).dart

-- one of the first few pieces from a place on has the id
abbrev pub shown : List Piece → ℕ → ℕ → Bool
shown pieces start id = list_any (λ (p : Piece). nat_eq p.id id) (take 16 (drop start pieces))

-- In which cell each id was met last, where the pieces of cell n begin at a place: told by the first few of them, or else beside.
abbrev pub met_in : LastMet → List Piece → ℕ → ℕ → Option ℕ
met_in met pieces n id = cond (shown pieces met.start id) (Some n) (told_of met.cells id)

-- As long as the cell has few pieces, nothing is told beside them.
pub record IsReady (met : LastMet) (pieces : List Piece) : Type 0 where
  pub start : met.start ≤ length pieces
  pub none : length pieces < met.start + 16 → (id : ℕ) → told_of met.cells id ≡ None

-- the id was met in the cell
pub record IsMet (cell id : ℕ) (before after : ℕ → Option ℕ) : Type 0 where
  pub is : (other : ℕ) → after other ≡ cond (nat_eq id other) (Some cell) (before other)

-- The id was met last in the cell; or it was not, and it is met now as soon as its piece stands at the end.
abbrev pub IsMeeting : LastMet → LastMet → List Piece → ℕ → ℕ → Bool → Type 0
IsMeeting before after pieces n id true =
    (met_in before pieces n id ≡ Some n) × IsMet n id (met_in before pieces n) (met_in after pieces n) × IsReady after pieces
IsMeeting before after pieces n id false =
    (met_in before pieces n id ≡ Some n → ⊥)
    × ((dart : ℕ) → IsMet n id (met_in before pieces n) (met_in after (pieces ++ (record { dart = dart; id = id; cell = n }) ∷ []) n) × IsReady after (pieces ++ (record { dart = dart; id = id; cell = n }) ∷ []))

-- The dart has no id, or a piece of its cell has its id; or it has an id that was met last in its cell; or another, and then
-- its piece stands at the end now.
abbrev pub IsPieceAdded : (ℕ → Option ℕ) → ℕ → ℕ → (ℕ → Option ℕ) → (ℕ → Option ℕ) → List Piece → List Piece → Type 0
IsPieceAdded label cell d before after old new =
    (((id : ℕ) → label d ≡ Some id → HasPiece old cell id) × ((id : ℕ) → after id ≡ before id) × (new ≡ old))
    ⊎ ((id : ℕ) × (label d ≡ Some id) × IsMet cell id before after
    × (((before id ≡ Some cell) × (new ≡ old)) ⊎ ((before id ≡ Some cell → ⊥) × (new ≡ old ++ (record { dart = d; id = id; cell = cell }) ∷ []))))
