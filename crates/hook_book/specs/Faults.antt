-- What the faults of a list of names stand for.
use Rattle.std.specs.Prelude.{ℕ, ◌≡◌, ◌<◌, true, false, List, [], length, take, slice_index_or, Option, Some, None}
use Rattle.map_defs.specs.Values.{is_among}
use Rattle.map_defs.specs.RuleNames.{IsFreeName}
use Rattle.hook_book.specs.Books.{AreFine}
use Rattle.hook_book.specs.declared.book.BookWhat.{BookWhat}
use Rattle.hook_book.specs.declared.book.BookWhat.TheVariants.{BadName, Twice}

-- A name behind these is not free; or it is free, and stands among them; or nothing is wrong with it.
abbrev pub IsFaultOf : List (List ℕ) → List ℕ → Option BookWhat → Type 0
IsFaultOf names name None = IsFreeName name × (is_among names name ≡ false)
IsFaultOf names name (Some BadName) = IsFreeName name → ⊥
IsFaultOf names name (Some Twice) = IsFreeName name × (is_among names name ≡ true)

-- the name at this place has this fault, and no earlier one has any
pub record IsFirstFault (names : List (List ℕ)) (place : ℕ) (what : BookWhat) : Type 0 where
  pub within : place < length names
  pub fine : AreFine names place
  pub here : IsFaultOf (take place names) (slice_index_or names place []) (Some what)

-- the first fault of all the names; none where they have none
abbrev pub FindsFault : List (List ℕ) → Option (BookWhat × ℕ) → Type 0
FindsFault names None = AreFine names (length names)
FindsFault names (Some found) = IsFirstFault names found.1 found.0
