-- What a numeral is, and that its value fits.
use Rattle.std.proofs.Common.{◌≡◌, ℕ, ◌≤◌, ◌==◌, ◌&&◌, List, [], ◌∷◌, length, refl, sym, ◌∙◌, arith, suc, Bool, true, false, cond, nat_le}
use Rattle.std.specs.List.{list_all}
use Rattle.std.specs.Char.{is_ascii_digit}
use Rattle.std.proofs.lemmas.Bool.{and_parts, leb-true, eqb-true}
use Rattle.machine_defs.specs.Script.{is_numeral}
use Rattle.text_words.specs.Numerals.{may_be_numeral}

-- a numeral is a word of digits, of which there are not too many
pub numeral-parts : (word : List ℕ) → is_numeral word ≡ list_all is_ascii_digit word && may_be_numeral word
numeral-parts [] = refl
numeral-parts (first ∷ others) = refl

-- what may be a numeral has at most 19 bytes
pub numeral-short : (word : List ℕ) → may_be_numeral word ≡ true → length word ≤ 19
numeral-short [] h = omega arith
numeral-short (first ∷ others) h = at_most (first == 48) (length others) h
  where
    at_most : (b : Bool) (n : ℕ) → cond b (n == 0) (nat_le n 18) ≡ true → suc n ≤ 19
    at_most true n e = let z = eqb-true n 0 e in omega arith
    at_most false n e = let z = leb-true n 18 e in omega arith

-- a numeral consists of digits
pub numeral_digits : (word : List ℕ) → is_numeral word ≡ true → list_all is_ascii_digit word ≡ true
numeral_digits word h = (and_parts (list_all is_ascii_digit word) (may_be_numeral word) (sym (numeral-parts word) ∙ h)).0
