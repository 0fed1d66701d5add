-- Marks, going back to one, and taking back what an undo did. Source: this project's.
use Rattle.std.specs.Prelude.{ℕ, ◌≡◌, ◌+◌, List, [], ◌∷◌, ◌++◌, length, take, drop, Some, slice_get}
use Rattle.machine_defs.specs.State.{Content, Mark, Undone, State}

-- mark k has this name
pub record IsMark (marks : List Mark) (name : List ℕ) (k : ℕ) (mark : Mark) : Type 0 where
  pub there : slice_get marks k ≡ Some mark
  pub named : mark.name ≡ name

-- some mark has this name
abbrev pub HasMark : List Mark → List ℕ → Type 0
HasMark marks name = (k : ℕ) × (mark : Mark) × IsMark marks name k mark

-- the state with one more mark, which is a whole copy of the present content
abbrev pub with_mark : State → List ℕ → State
with_mark s name = record { present = s.present; past = s.past; marks = s.marks ++ record { name = name; content = s.present; place = length s.past } ∷ []; undone = [] }

-- what an undo to this mark takes back: all that stands before it, kept under the mark's name
abbrev pub undone_to : State → Mark → Undone
undone_to s mark = record { name = mark.name; present = s.present; past = s.past; marks = s.marks }

-- The state after going back to mark k: the present content is the mark's copy, the past ends where it was set, and the
-- later marks are gone. What stood before comes behind all else that was undone.
abbrev pub back_to : State → ℕ → Mark → State
back_to s k mark = record {
  present = mark.content;
  past = take mark.place s.past;
  marks = take (k + 1) s.marks;
  undone = s.undone ++ undone_to s mark ∷ [];
}

-- the last undo that stands was one of this name, and took this back; these others stand before it
pub record IsLastUndone (undone : List Undone) (name : List ℕ) (others : List Undone) (last : Undone) : Type 0 where
  pub there : undone ≡ others ++ last ∷ []
  pub named : last.name ≡ name

-- the last undo that stands has this name
abbrev pub CanRedo : List Undone → List ℕ → Type 0
CanRedo undone name = (others : List Undone) × (last : Undone) × IsLastUndone undone name others last

-- the state with what the last undo took back, which is undone no longer
abbrev pub forth_to : List Undone → Undone → State
forth_to others last = record { present = last.present; past = last.past; marks = last.marks; undone = others }

-- the contents since a mark was set, the present one last
abbrev pub since : State → Mark → List Content
since s mark = drop mark.place s.past ++ s.present ∷ []
