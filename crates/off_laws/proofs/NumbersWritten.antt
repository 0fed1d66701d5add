-- Numbers that are written are words of digits, which are read as the same numbers.
use Rattle.std.proofs.Common.{◌≡◌, ℕ, suc, ◌+◌, ◌-◌, ◌*◌, ◌^◌, ◌<◌, ◌==◌, ◌&&◌, nat_lt, nat_le, Bool, true, false, ℤ, pos, negsuc, List, [], ◌∷◌, length, fold, Some, Ok, refl, sym, ap, ◌∙◌, arith}
use Rattle.std.specs.Fmt.{decimal, signed_decimal}
use Rattle.std.specs.List.{list_all, before_first, after_first}
use Rattle.std.specs.Char.{is_ascii_digit}
use Rattle.std.specs.Str.{all_ascii_digits}
use Rattle.std.specs.Int.{w64}
use Rattle.std.specs.Prelude.{FitsSigned}
use Rattle.std.proofs.lemmas.Bool.{and_parts, and_from, lt-ltb, le-leb}
use Rattle.std.proofs.lemmas.Bool.Decides.{nat_tests}
use Rattle.std.proofs.lemmas.Fmt.{digits_decimal, digits_value-decimal, decimal_nonempty}
use Rattle.std.proofs.lemmas.Str.Parse.{FoldsDigits, IsNumeralModel, numerals_by_fold, tells_all_ascii_digits}
use Rattle.map_defs.specs.TextWords.{is_word, value_of}
use Rattle.map_defs.specs.Off.{is_natural, is_below, is_point, magnitude, whole, is_held, coordinate}
use Rattle.off_laws.proofs.BytesWritten.{all-before, none-behind}

-- the value of digits, behind a value
digits_on : ℕ → List ℕ → ℕ
digits_on value word = fold (λ value digit. 10 * value + (digit - 48)) value word

folds : FoldsDigits digits_on
unfolding digits_on
folds = record { empty = λ n. refl; more = λ n c cs h. ap (λ (m : ℕ). digits_on m cs) (omega arith) }

model : IsNumeralModel (λ (ds : List ℕ). all_ascii_digits ds ≡ true) (digits_on 0)
model = numerals_by_fold (λ (ds : List ℕ). all_ascii_digits ds ≡ true) tells_all_ascii_digits digits_on folds

all-same : (ds : List ℕ) → all_ascii_digits ds ≡ list_all is_ascii_digit ds
all-same [] = refl
all-same (d ∷ ds) = ap (λ (b : Bool). is_ascii_digit d && b) (all-same ds)

-- a number is written with digits, and is their value
pub decimal-digits : (n : ℕ) → n < 2 ^ 64 → list_all is_ascii_digit (decimal n) ≡ true
decimal-digits n small = sym (all-same (decimal n)) ∙ digits_decimal model n small

pub value-decimal : (n : ℕ) → n < 2 ^ 64 → value_of (decimal n) ≡ n
unfolding digits_on
value-decimal n small = digits_value-decimal model n small

-- a word has a byte
pub long-word : (word : List ℕ) → 0 < length word → is_word word ≡ true
long-word word some = let e : length word == 0 ≡ false = grind (arith, nat_tests) in rw e refl

decimal-natural : (n : ℕ) → n < 2 ^ 64 → is_natural (decimal n) ≡ true
decimal-natural n small =
    and_from (is_word (decimal n)) (list_all is_ascii_digit (decimal n)) (long-word (decimal n) (decimal_nonempty n small)) (decimal-digits n small)

pub decimal-below : (m n : ℕ) → n < 2 ^ 64 → n < m → is_below m (decimal n) ≡ true
decimal-below m n small low =
    and_from (is_natural (decimal n)) (nat_lt (value_of (decimal n)) m) (decimal-natural n small)
    (ap (λ (v : ℕ). nat_lt v m) (value-decimal n small) ∙ lt-ltb n m low)

-- a word of digits has no decimal point
digit-no_point : (b : ℕ) → is_ascii_digit b ≡ true → is_point b ≡ false
digit-no_point b digit = grind (arith, nat_tests)

decimal-magnitude : (n : ℕ) → n < 2 ^ 64 → magnitude (decimal n) ≡ Some n
decimal-magnitude n small =
    let digits = decimal-digits n small in
    let before : before_first is_point (decimal n) ≡ decimal n = all-before is_ascii_digit is_point digit-no_point (decimal n) digits in
    let behind : after_first is_point (decimal n) ≡ [] = none-behind is_ascii_digit is_point digit-no_point (decimal n) digits in
    let natural = decimal-natural n small in
    rw (before, behind, natural) (ap (λ (v : ℕ). Some v) (value-decimal n small))

-- a word of digits has no sign
no-sign : (word : List ℕ) (n : ℕ) → 0 < length word → list_all is_ascii_digit word ≡ true → magnitude word ≡ Some n → whole word ≡ Some (pos n)
no-sign [] n some digits is = absurd (omega arith)
no-sign (first ∷ others) n some digits is =
    let p = and_parts (is_ascii_digit first) (list_all is_ascii_digit others) digits in
    let digit = p.0 in
    let minus : (first == 45) ≡ false = grind (arith, nat_tests) in
    let plus : (first == 43) ≡ false = grind (arith, nat_tests) in
    rw (minus, plus, is) refl

signed-whole : (z : ℤ) → FitsSigned w64 z → whole (signed_decimal z) ≡ Some z
signed-whole (pos n) fits = let small : n < 2 ^ 64 = omega (arith, fits.sfits) in no-sign (decimal n) n (decimal_nonempty n small) (decimal-digits n small) (decimal-magnitude n small)
signed-whole (negsuc n) fits = let small : suc n < 2 ^ 64 = omega (arith, fits.sfits) in rw (decimal-magnitude (suc n) small) refl

fits-held : (z : ℤ) → FitsSigned w64 z → is_held z ≡ true
fits-held (pos n) fits = lt-ltb n (2 ^ 63) fits.sfits
fits-held (negsuc n) fits = and_from (nat_le n (2 ^ 63 - 1)) true (le-leb n (2 ^ 63 - 1) (omega (arith, fits.sfits))) refl

-- a number that 64 bits hold is read as itself
pub signed-coordinate : (z : ℤ) → FitsSigned w64 z → coordinate (signed_decimal z) ≡ Ok z
signed-coordinate z fits = rw (signed-whole z fits, fits-held z fits) refl
