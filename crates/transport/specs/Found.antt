-- What is found while the wanted darts are looked at one after the other.
use Rattle.std.specs.Prelude.{ℕ, ◌≡◌, ◌≢◌, ◌+◌, ◌<◌, ◌≤◌, ◌↔◌, ◌⊎◌, List, [], ◌∷◌, ◌++◌, length, false, cond, None, slice_index, Contains}
use Rattle.std.specs.List.Sorted.{IsStrictlyIncreasing}
use Rattle.store_defs.specs.Groups.{Group, group_at, least_of}
use Rattle.transport.specs.Pieces.{IsBareCell}
use Rattle.transport.specs.Wanted.{Wanted, IsMarked}
use Rattle.transport.specs.Marks.{Marks, mark_at, IsMarkedAt, is_among}

-- some of the cells holds dart x
abbrev pub IsInSome : List Group → ℕ → Type 0
IsInSome cells x = (n : ℕ) × (n < length cells) × Contains (group_at cells n).darts x

-- The cells of the first so many of these darts are found, each once.
pub record AreHeld (Cell : ℕ → ℕ → Type 0) (i looked : ℕ) (darts : List ℕ) (cells : List Group) : Type 0 where
  pub each : (n : ℕ) → n < length cells → IsBareCell Cell i darts (group_at cells n)
  pub all : (place : ℕ) → place < looked → IsInSome cells (slice_index darts place)
  pub apart : (m n : ℕ) → m < n → n < length cells → least_of (group_at cells m) ≢ least_of (group_at cells n)

-- The cells of the first so many wanted darts are found, each once, and just the wanted darts in them are marked.
pub record AreFound (Cell : ℕ → ℕ → Type 0) (i looked : ℕ) (wanted : Wanted) (cells : List Group) : Type 0 where
  pub held : AreHeld Cell i looked wanted.darts cells
  pub marked : (place : ℕ) → place < length wanted.darts → IsMarked wanted place ↔ IsInSome cells (slice_index wanted.darts place)

-- the cell of dart d, which has no value yet
pub record IsCellOf (Cell : ℕ → ℕ → Type 0) (i d : ℕ) (g : Group) : Type 0 where
  pub dim : g.dim ≡ i
  pub bare : g.value ≡ None
  pub ascending : IsStrictlyIncreasing g.darts
  pub darts : (x : ℕ) → Contains g.darts x ↔ Cell d x

-- the dart lies in one of the cells, or its cell stands at the end now
abbrev pub IsCellThere : (ℕ → ℕ → Type 0) → ℕ → ℕ → List Group → List Group → Type 0
IsCellThere Cell i d old new =
    (IsInSome old d × (new ≡ old)) ⊎ ((IsInSome old d → ⊥) × ((g : Group) × (new ≡ old ++ g ∷ []) × IsCellOf Cell i d g))

-- the cell of the dart at a place, whose wanted darts are marked now too
pub record IsNewCell (Cell : ℕ → ℕ → Type 0) (i place : ℕ) (before after : Wanted) (g : Group) : Type 0 where
  pub unmarked : IsMarked before place → ⊥
  pub cell : IsCellOf Cell i (slice_index before.darts place) g
  pub same : after.darts ≡ before.darts
  pub marks : (p : ℕ) → p < length before.darts → IsMarked after p ↔ (IsMarked before p ⊎ Contains g.darts (slice_index before.darts p))

-- the dart is marked, or its cell stands at the end now
abbrev pub IsCellAdded : (ℕ → ℕ → Type 0) → ℕ → ℕ → Wanted → Wanted → List Group → List Group → Type 0
IsCellAdded Cell i place before after old new =
    (IsMarked before place × (after ≡ before) × (new ≡ old)) ⊎ ((g : Group) × (new ≡ old ++ g ∷ []) × IsNewCell Cell i place before after g)

-- The first so many places are looked at: the cells of the darts that were marked there are found, and no dart of a cell that
-- is found is marked.
pub record AreMarkedFound (Cell : ℕ → ℕ → Type 0) (i looked : ℕ) (darts : List ℕ) (marks : Marks) (cells : List Group) : Type 0 where
  pub each : (n : ℕ) → n < length cells → IsBareCell Cell i darts (group_at cells n)
  pub apart : (m n : ℕ) → m < n → n < length cells → least_of (group_at cells m) ≢ least_of (group_at cells n)
  pub marked : (place : ℕ) → IsMarkedAt marks place → Contains darts (place + marks.first) × (IsInSome cells (place + marks.first) → ⊥) × (looked ≤ place)
  pub all : (d : ℕ) → Contains darts d → IsInSome cells d ⊎ ((place : ℕ) × IsMarkedAt marks place × (place + marks.first ≡ d))

-- the cell of the dart at a place, whose darts are marked no more
pub record IsMarkedCell (Cell : ℕ → ℕ → Type 0) (i place : ℕ) (before after : Marks) (g : Group) : Type 0 where
  pub marked : IsMarkedAt before place
  pub cell : IsCellOf Cell i (place + before.first) g
  pub first : after.first ≡ before.first
  pub size : length after.marks ≡ length before.marks
  pub marks : (p : ℕ) → p < length before.marks → mark_at after p ≡ cond (is_among g.darts (p + before.first)) false (mark_at before p)

-- the dart is not marked, or its cell stands at the end now
abbrev pub IsCellAddedAt : (ℕ → ℕ → Type 0) → ℕ → ℕ → Marks → Marks → List Group → List Group → Type 0
IsCellAddedAt Cell i place before after old new =
    ((IsMarkedAt before place → ⊥) × (after ≡ before) × (new ≡ old)) ⊎ ((g : Group) × (new ≡ old ++ g ∷ []) × IsMarkedCell Cell i place before after g)
