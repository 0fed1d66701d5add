-- How much of a text is left.
use Rattle.std.proofs.Common.{ℕ, suc, List, length, Option, Some, None}
use Rattle.std.specs.Borrow.{Bor}

abbrev pub rest_size : Option (Bor (List ℕ)) → ℕ
rest_size None = 0
rest_size (Some text) = suc (length text.now)
