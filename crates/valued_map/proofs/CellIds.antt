-- Whether a dart has an id.
use Rattle.std.proofs.Common.{ℕ, ◌≡◌, Bool, true, not, is_some, Option, Some, None, refl, sym, ap, ◌∙◌}
use Rattle.std.proofs.lemmas.Bool.{false≢true}

-- what is told to be none is none
pub none-of : (o : Option ℕ) (none : Bool) → is_some o ≡ not none → none ≡ true → o ≡ None
none-of None none told is = refl
none-of (Some c) none told is = absurd (false≢true (sym (told ∙ ap not is)))
