-- What a contract sees of darts that stand side by side, each with a mark.
use Rattle.std.specs.Prelude.{ℕ, ◌≡◌, ◌+◌, List, Bool, false, nat_eq, slice_index_or, IsTrue}
use Rattle.std.specs.List.{list_any}

-- the number of the first dart, and the marks of that dart and those after it
pub record Marks : Type 0 where
  pub first : ℕ
  pub marks : List Bool

abbrev pub mark_at : Marks → ℕ → Bool
mark_at marks place = slice_index_or marks.marks place false

-- the dart at a place is marked
abbrev pub IsMarkedAt : Marks → ℕ → Type 0
IsMarkedAt marks place = IsTrue (mark_at marks place)

abbrev pub is_among : List ℕ → ℕ → Bool
is_among darts x = list_any (nat_eq x) darts
