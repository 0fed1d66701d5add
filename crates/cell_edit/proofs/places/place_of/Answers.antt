use Rattle.std.proofs.Common.{ℕ, ◌≡◌, ◌<◌, List, length, slice_index, Contains, Result, Ok, Err}
use Rattle.std.specs.Prelude.{MatchResult, IfNone}
use Rattle.std.specs.Result.{result_ok}
use Rattle.cell_edit.proofs.StarNumbers.{search-finds}
use Rattle.cell_edit.proofs.places.place_of.Goals as goal

missed : (xs : List ℕ) (x : ℕ) (s : Result ℕ ℕ) → MatchResult s (λ i. (i < length xs) × (slice_index xs i ≡ x)) (λ _. Contains xs x → ⊥) → IfNone (result_ok s) (Contains xs x → ⊥)
missed xs x (Ok i) h = tt
missed xs x (Err i) h = h

pub returns-then-darts-gt-FEW-clause-none : goal.returns-then-darts-gt-FEW-clause-none
returns-then-darts-gt-FEW-clause-none c = rw c.ok.ensures.value
    (missed c.args.darts.now c.args.dart c.binary_search.result (search-finds c.args.darts.now c.args.dart c.binary_search.result c.requires c.binary_search.ensures.position))
