-- What a contract sees of labels: for each dimension, the ids of the darts.
use Rattle.std.specs.Prelude.{ℕ, zero, suc, ◌≡◌, ◌≢◌, ◌⊎◌, ◌↔◌, ◌<◌, List, [], length, Option, Some, None, slice_index, slice_index_or, ◌==◌, if◌then◌else◌}

-- The labels are for the darts 1 to `made`. List i has the ids of dimension i, that of dart d at place d, and 0 where it
-- has none; it is empty where no place is made for ids.
pub record Labeling : Type 0 where
  pub made : ℕ
  pub columns : List (List ℕ)

-- an id, where 0 is none
abbrev pub as_id : ℕ → Option ℕ
as_id zero = None
as_id (suc n) = Some (suc n)

-- the id at a place of a list, if there is one
abbrev pub id_at : List ℕ → ℕ → Option ℕ
id_at column d = as_id (slice_index column d)

-- the ids of dimension i
abbrev pub column_of : Labeling → ℕ → List ℕ
column_of l i = slice_index_or l.columns i []

-- the id of dart d in dimension i, if it has one
abbrev pub id_of : Labeling → ℕ → ℕ → Option ℕ
id_of l i d = id_at (column_of l i) d

-- place is made for the ids of dimension i
abbrev pub HasPlaces : Labeling → ℕ → Type 0
HasPlaces l i = 0 < length (column_of l i)

-- each dart has the ids that it had
abbrev pub KeepsIds : Labeling → Labeling → Type 0
KeepsIds old new = (i d : ℕ) → id_of new i d ≡ id_of old i d

-- place is made for the same dimensions
abbrev pub KeepsPlaces : Labeling → Labeling → Type 0
KeepsPlaces old new = (i : ℕ) → HasPlaces new i ↔ HasPlaces old i

-- dart d has this id in dimension i, or none; no other dart and no other dimension has changed
pub record IsRelabelled (old new : Labeling) (i d : ℕ) (id : Option ℕ) : Type 0 where
  pub here : id_of new i d ≡ id
  pub others : (j e : ℕ) → (j ≢ i) ⊎ (e ≢ d) → id_of new j e ≡ id_of old j e

-- the dimension whose ids come to dimension i where those of one and other change places
abbrev pub exchanged : ℕ → ℕ → ℕ → ℕ
exchanged one other i = if i == one then other else (if i == other then one else i)
