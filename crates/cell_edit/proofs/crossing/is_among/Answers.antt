use Rattle.std.proofs.Common.{ℕ, ◌≡◌, List, length, slice_index, ◌<◌, ◌↔◌, Contains, Option, Some, None, is_some, true, refl, ◌∙◌}
use Rattle.std.specs.Prelude.{IfSome, IfNone}
use Rattle.std.proofs.lemmas.Bool.{false≢true}
use Rattle.std.proofs.lemmas.List.{get_or_default}
use Rattle.cell_edit.proofs.crossing.is_among.Goals as goal

found : (xs : List ℕ) (x : ℕ) (o : Option ℕ) → IfSome o (λ i. i < length xs) → IfSome o (λ i. slice_index xs i ≡ x) → IfNone o (Contains xs x → ⊥) → (is_some o ≡ true) ↔ Contains xs x
found xs x None low at none = ((λ e. absurd (false≢true e)), λ has. absurd (none has))
found xs x (Some i) low at none = ((λ _. (i, low, get_or_default xs i x 0 low ∙ at)), λ _. refl)

pub returns : goal.returns
returns c = rw c.is_some.ensures (found c.args.darts.now c.args.dart c.place_of.result c.place_of.ensures.within c.place_of.ensures.place c.place_of.ensures.none)
