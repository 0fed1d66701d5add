-- What a contract sees of a journal: steps and marks, how many of each stand, and the undos that can be taken back.
use Rattle.std.specs.Prelude.{ℕ, ◌≡◌, ◌≢◌, ◌+◌, ◌<◌, ◌≤◌, List, [], ◌∷◌, ◌++◌, length, take, drop, map, Some, true, All, AllPairs, slice_get, slice_index}
use Rattle.machine_defs.specs.Script.{is_name}
use Rattle.machine_defs.specs.Difference.{Difference}

-- a mark: its name, and how many steps stood when it was set
pub record Placed : Type 0 where
  pub name : List ℕ
  pub place : ℕ

-- an undo that can be taken back: the number of the mark that it went to, and how many steps and marks stood before it
pub record Ahead : Type 0 where
  pub mark : ℕ
  pub at : ℕ
  pub standing : ℕ

-- Steps, oldest first, of which the first `at` stand, and marks, oldest first, of which the first `standing` stand. What
-- lies behind these was taken back by the undos that are kept, oldest first. All this is kept until the next step or mark.
pub record Trail : Type 0 where
  pub steps : List Difference
  pub at : ℕ
  pub marks : List Placed
  pub standing : ℕ
  pub undone : List Ahead

-- a trail, and how many further steps can be noted without memory
pub record Book : Type 0 where
  pub trail : Trail
  pub room : ℕ

-- the trail without steps and marks
abbrev pub empty_trail : Trail
empty_trail = record { steps = []; at = 0; marks = []; standing = 0; undone = [] }

abbrev pub standing_steps : Trail → List Difference
standing_steps t = take t.at t.steps

abbrev pub standing_marks : Trail → List Placed
standing_marks t = take t.standing t.marks

-- the names of the standing marks
abbrev pub mark_names : Trail → List (List ℕ)
mark_names t = map (λ (m : Placed). m.name) (standing_marks t)

-- standing mark k has this name
abbrev pub IsMark : Trail → List ℕ → ℕ → Type 0
IsMark t name k = slice_get (mark_names t) k ≡ Some name

-- a standing mark has this name
abbrev pub HasMark : Trail → List ℕ → Type 0
HasMark t name = (k : ℕ) × IsMark t name k

-- how many steps stood when mark k was set
abbrev pub place_of : Trail → ℕ → ℕ
place_of t k = slice_index (map (λ (m : Placed). m.place) t.marks) k

-- the standing steps since mark k was set, oldest first
abbrev pub steps_since : Trail → ℕ → List Difference
steps_since t k = drop (place_of t k) (standing_steps t)

-- the trail with a further step; what was taken back is gone
abbrev pub noted : Trail → Difference → Trail
noted t s = record {
  steps = take t.at t.steps ++ s ∷ [];
  at = t.at + 1;
  marks = take t.standing t.marks;
  standing = t.standing;
  undone = [];
}

-- the trail with a further mark of this name; what was taken back is gone
abbrev pub marked : Trail → List ℕ → Trail
marked t name = record {
  steps = take t.at t.steps;
  at = t.at;
  marks = take t.standing t.marks ++ record { name = name; place = t.at } ∷ [];
  standing = t.standing + 1;
  undone = [];
}

-- what is kept of an undo to mark k
abbrev pub undo_at : Trail → ℕ → Ahead
undo_at t k = record { mark = k; at = t.at; standing = t.standing }

-- The trail as it stood when mark k was set. The steps since then and the later marks are kept behind those that stand.
abbrev pub back : Trail → ℕ → Trail
back t k = record {
  steps = t.steps;
  at = place_of t k;
  marks = t.marks;
  standing = k + 1;
  undone = t.undone ++ undo_at t k ∷ [];
}

-- mark k, which may stand or lie ahead, has this name
abbrev pub IsMarkOf : List Placed → List ℕ → ℕ → Type 0
IsMarkOf marks name k = slice_get (map (λ (m : Placed). m.name) marks) k ≡ Some name

-- the last undo that can be taken back went to a mark of this name; these others stand before it
pub record IsLastAhead (t : Trail) (name : List ℕ) (others : List Ahead) (last : Ahead) : Type 0 where
  pub there : t.undone ≡ others ++ last ∷ []
  pub named : IsMarkOf t.marks name last.mark

-- the last undo can be taken back under this name
abbrev pub CanGoForth : Trail → List ℕ → Type 0
CanGoForth t name = (others : List Ahead) × (last : Ahead) × IsLastAhead t name others last

-- the steps that an undo took back, oldest first
abbrev pub steps_ahead : Trail → Ahead → List Difference
steps_ahead t last = drop t.at (take last.at t.steps)

-- The trail as it stood before the last undo. What other undos took back is kept as before.
abbrev pub forth : Trail → List Ahead → Ahead → Trail
forth t others last = record { steps = t.steps; at = last.at; marks = t.marks; standing = last.standing; undone = others }

-- What holds of an undo that can be taken back, where so many of these steps stand: its mark stood before it; no fewer steps
-- stood then than stand now; and no mark that stood then has a place after the steps that stood then.
pub record IsAhead (steps : List Difference) (at : ℕ) (marks : List Placed) (u : Ahead) : Type 0 where
  pub mark : u.mark < u.standing
  pub standing : u.standing ≤ length marks
  pub more : at ≤ u.at
  pub within : u.at ≤ length steps
  pub placed : All (λ m. m.place ≤ u.at) (take u.standing marks)

-- What holds of every trail: so many steps and marks are there; marks have names of the grammar of lines, and no two have one; a
-- mark has no lesser place than one before it, and a standing mark has none after the steps that stand. A later undo went back
-- from no more steps than one before it, and only where a mark stands can an undo be taken back.
pub record IsOrdered (t : Trail) : Type 0 where
  pub at : t.at ≤ length t.steps
  pub standing : t.standing ≤ length t.marks
  pub named : All (λ m. is_name m.name ≡ true) t.marks
  pub names_differ : AllPairs (λ m n. m.name ≢ n.name) t.marks
  pub ascending : AllPairs (λ m n. m.place ≤ n.place) t.marks
  pub placed : All (λ m. m.place ≤ t.at) (standing_marks t)
  pub within : All (λ m. m.place ≤ length t.steps) t.marks
  pub ahead : All (IsAhead t.steps t.at t.marks) t.undone
  pub descending : AllPairs (λ u v. v.at ≤ u.at) t.undone
  pub begun : t.standing ≡ 0 → t.undone ≡ []
