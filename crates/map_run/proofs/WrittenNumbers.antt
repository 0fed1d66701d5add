-- Numbers that are written in digits are numerals.
use Rattle.std.proofs.Common.{◌≡◌, ◌≢◌, ◌⊎◌, inl, inr, ℕ, suc, ◌+◌, ◌-◌, ◌*◌, ◌^◌, ◌≤◌, ◌<◌, ◌==◌, ◌&&◌, nat_le, Bool, true, cond, List, [], ◌∷◌, length, fold, get_or, Some, None, refl, sym, ap, ap₂, ◌∙◌, subst, arith, lit<}
use Rattle.std.specs.Fmt.{decimal}
use Rattle.std.specs.List.{list_all}
use Rattle.std.specs.Char.{is_ascii_digit}
use Rattle.std.specs.Str.{all_ascii_digits}
use Rattle.std.proofs.lemmas.Bool.{cases_eq}
use Rattle.std.proofs.lemmas.Fmt.{decimal_digit, decimal_nonempty, first_decimal, length-decimal-le, digits_decimal, digits_value-decimal}
use Rattle.std.proofs.lemmas.Str.Parse.{FoldsDigits, IsNumeralModel, numerals_by_fold, tells_all_ascii_digits}
use Rattle.map_defs.specs.TextWords.{value_of}
use Rattle.machine_defs.specs.Script.{is_numeral, numeral}

digits_on : ℕ → List ℕ → ℕ
digits_on value word = fold (λ value digit. 10 * value + (digit - 48)) value word

folds : FoldsDigits digits_on
unfolding digits_on
folds = record { empty = λ n. refl; more = λ n c cs h. ap (λ (m : ℕ). digits_on m cs) (omega arith) }

model : IsNumeralModel (λ (ds : List ℕ). all_ascii_digits ds ≡ true) (digits_on 0)
model = numerals_by_fold (λ (ds : List ℕ). all_ascii_digits ds ≡ true) tells_all_ascii_digits digits_on folds

all-same : (ds : List ℕ) → all_ascii_digits ds ≡ list_all is_ascii_digit ds
all-same [] = refl
all-same (d ∷ ds) = ap (λ (b : Bool). is_ascii_digit d && b) (all-same ds)

-- a numeral, from its parts
numeral-made : (word : List ℕ) (n : ℕ) → is_numeral word ≡ true → value_of word ≡ n → numeral word ≡ Some n
numeral-made word n is value = rw (is, value) refl

pub numeral-of : (n : ℕ) → n < 2 ^ 32 → numeral (decimal n) ≡ Some n
unfolding digits_on
numeral-of n small = at (decimal n) refl
  where
    fits : n < 2 ^ 64
    fits = omega arith

    may : (first : ℕ) (others : List ℕ) → decimal n ≡ first ∷ others → (n ≡ 0) ⊎ (n ≢ 0) → cond (first == 48) (length others == 0) (nat_le (length others) 18) ≡ true
    may first others is (inl none) =
        let one : first ∷ others ≡ 48 ∷ [] = sym is ∙ ap decimal none ∙ decimal_digit 0 (lit< tt) in
        let head : first ≡ 48 = cc in
        let alone : others ≡ [] = cc in
        rw (head, alone) refl
    may first others is (inr some) =
        let high : 48 < first = subst (λ (ds : List ℕ). 48 < get_or ds 0 0) is (first_decimal n (omega arith) fits) in
        let long : suc (length others) ≤ 10 = subst (λ (ds : List ℕ). length ds ≤ 10) is (length-decimal-le 10 n (lit< tt) (omega arith) fits) in
        grind arith

    at : (ds : List ℕ) → decimal n ≡ ds → numeral (decimal n) ≡ Some n
    at [] is = absurd (let some = subst (λ (ds : List ℕ). 0 < length ds) is (decimal_nonempty n fits) in omega arith)
    at (first ∷ others) is =
        let digits : list_all is_ascii_digit (first ∷ others) ≡ true = sym (all-same (first ∷ others)) ∙ subst (λ (ds : List ℕ). all_ascii_digits ds ≡ true) is (digits_decimal model n fits) in
        let value : value_of (first ∷ others) ≡ n = subst (λ (ds : List ℕ). digits_on 0 ds ≡ n) is (digits_value-decimal model n fits) in
        let told : is_numeral (first ∷ others) ≡ true = ap₂ ◌&&◌ digits (may first others is (cases_eq n 0)) in
        rw is (numeral-made (first ∷ others) n told value)

-- a word that is no numeral writes no number
pub numeral-none : (word : List ℕ) (n : ℕ) → n < 2 ^ 32 → numeral word ≡ None → word ≡ decimal n → ⊥
numeral-none word n small none is = let some = numeral-of n small in absurd cc

-- a numeral writes one number
pub numeral-one : (word : List ℕ) (m n : ℕ) → n < 2 ^ 32 → numeral word ≡ Some m → word ≡ decimal n → m ≡ n
numeral-one word m n small some is = let other = numeral-of n small in cc
