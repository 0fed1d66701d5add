-- Names are text.
use Rattle.std.proofs.Common.{◌≡◌, ℕ, true, List, Some, Result, Ok, Err, MatchResult, ap, arith}
use Rattle.std.specs.List.{list_all}
use Rattle.std.specs.Option.{option_copied}
use Rattle.std.specs.Result.{result_ok}
use Rattle.std.specs.Borrow.{Bor}
use Rattle.std.specs.Str.{IsUtf8}
use Rattle.std.proofs.lemmas.Bool.Decides.{nat_tests}
use Rattle.machine_defs.specs.Script.{is_name_byte}
use Rattle.text_words.proofs.AsciiText.{IsUtf8-all}

pub IsUtf8-name : (word : List ℕ) → list_all is_name_byte word ≡ true → IsUtf8 word
IsUtf8-name word all = IsUtf8-all is_name_byte (λ b e. grind (arith, nat_tests)) word all

-- what is text is read as itself
pub read_whole : {E : Type 0} (word : List ℕ) (r : Result (Bor (List ℕ)) E) (P : E → Type 0) → MatchResult r (λ s. (s.now ≡ word) × IsUtf8 word) (λ e. (IsUtf8 word → ⊥) × P e) → IsUtf8 word → option_copied (result_ok r) ≡ Some word
read_whole word (Ok s) P h utf8 = ap Some h.0
read_whole word (Err e) P h utf8 = absurd (h.0 utf8)
