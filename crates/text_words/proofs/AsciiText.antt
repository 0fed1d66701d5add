-- Bytes of ASCII are text.
use Rattle.std.proofs.Common.{◌≡◌, ℕ, zero, suc, ◌<◌, Bool, true, List, [], ◌∷◌, arith}
use Rattle.std.specs.List.{list_all}
use Rattle.std.specs.Str.{IsAscii, IsUtf8}
use Rattle.std.proofs.lemmas.Str.{IsUtf8-from_ascii}
use Rattle.std.proofs.lemmas.Bool.{and_parts}

-- a text is ASCII if all its bytes pass a test that only ASCII passes
IsAscii-all : (p : ℕ → Bool) → ((b : ℕ) → p b ≡ true → b < 128) → (text : List ℕ) → list_all p text ≡ true → IsAscii text
IsAscii-all p low [] all i = omega arith
IsAscii-all p low (b ∷ text) all zero = low b (and_parts (p b) (list_all p text) all).0
IsAscii-all p low (b ∷ text) all (suc i) = IsAscii-all p low text (and_parts (p b) (list_all p text) all).1 i

-- and then it is UTF-8
pub IsUtf8-all : (p : ℕ → Bool) → ((b : ℕ) → p b ≡ true → b < 128) → (text : List ℕ) → list_all p text ≡ true → IsUtf8 text
IsUtf8-all p low text all = IsUtf8-from_ascii text (IsAscii-all p low text all)
