-- Where the first byte of a kind stands, or else where the text ends.
use Rattle.std.proofs.Common.{◌≡◌, ℕ, suc, ◌+◌, ◌≤◌, Bool, true, false, cond, not, nat_lt, List, [], ◌∷◌, length, Some, None, unwrap_or, refl, arith}
use Rattle.std.specs.List.{position, position_or_len}
use Rattle.std.proofs.lemmas.Bool.Decides.{nat_tests}

pub position_or_len-within : (p : ℕ → Bool) (xs : List ℕ) → position_or_len p xs ≤ length xs
position_or_len-within p [] = omega arith
position_or_len-within p (x ∷ xs) = at (p x) (position_or_len-within p xs)
  where
    at : (b : Bool) → position_or_len p xs ≤ length xs → cond (not b) (1 + position_or_len p xs) 0 ≤ suc (length xs)
    at true h = omega arith
    at false h = omega arith

pub unwrap_or-position : (p : ℕ → Bool) (xs : List ℕ) → unwrap_or (position p xs) (length xs) ≡ position_or_len p xs
unwrap_or-position p xs = at (nat_lt (position_or_len p xs) (length xs)) refl (position_or_len-within p xs)
  where
    at : (b : Bool) → nat_lt (position_or_len p xs) (length xs) ≡ b → position_or_len p xs ≤ length xs → unwrap_or (cond b (Some (position_or_len p xs)) None) (length xs) ≡ position_or_len p xs
    at true e h = refl
    at false e h = grind (arith, nat_tests)
