-- The words of a line, from what they tell.
use Rattle.std.proofs.Common.{◌≡◌, ℕ, zero, suc, ◌+◌, ◌-◌, ◌*◌, ◌^◌, ◌≤◌, ◌==◌, ◌&&◌, not, nat_le, nat_lt, Bool, true, false, cond, codes, ℤ, pos, neg_ℤ, List, [], ◌∷◌, ◌++◌, length, fold, take, drop, unwrap_or, Option, Some, None, refl, sym, ap, ◌∙◌, subst, arith, append-nil}
use Rattle.std.specs.Fmt.{decimal, signed_decimal}
use Rattle.std.specs.List.{list_all, flat_map, starts_with, join_with_byte}
use Rattle.std.specs.Char.{is_ascii_digit}
use Rattle.std.specs.Str.{bytes_eq, all_ascii_digits}
use Rattle.std.proofs.Math.Nat.{pow-le-pow_right}
use Rattle.std.proofs.lemmas.Bool.{and_parts, leb-true, eqb-true, false≢true}
use Rattle.std.proofs.lemmas.List.{take-append-drop}
use Rattle.std.proofs.lemmas.Slice.Eq.{bytes_eq-Decides}
use Rattle.std.proofs.lemmas.Int.Digits.{digits_value-lt}
use Rattle.std.proofs.lemmas.Fmt.{decimal-digits_value}
use Rattle.std.proofs.lemmas.Str.Parse.{FoldsDigits, IsNumeralModel, numerals_by_fold, tells_all_ascii_digits}
use Rattle.map_defs.specs.TextWords.{value_of}
use Rattle.map_defs.specs.RuleNames.{merge_name, split_name, table_merge, table_split, listed_merge, listed_split}
use Rattle.map_defs.specs.Values.{Merge, First, Last, Sum, Min, Max, Mid, Split, Copied, Keep, Share, Host, Named}
use Rattle.machine_defs.specs.Script as script
use Rattle.machine_defs.specs.Script.{is_numeral, numeral, positive, negative, integer, is_name, name}
use Rattle.row_laws.proofs.RowsRead.{some, some_is, went_on_some}

digits_on : ℕ → List ℕ → ℕ
digits_on value word = fold (λ value digit. 10 * value + (digit - 48)) value word

folds : FoldsDigits digits_on
unfolding digits_on
folds = record { empty = λ n. refl; more = λ n c cs h. ap (λ (m : ℕ). digits_on m cs) (omega arith) }

model : IsNumeralModel (λ (ds : List ℕ). all_ascii_digits ds ≡ true) (digits_on 0)
model = numerals_by_fold (λ (ds : List ℕ). all_ascii_digits ds ≡ true) tells_all_ascii_digits digits_on folds

all-same : (ds : List ℕ) → all_ascii_digits ds ≡ list_all is_ascii_digit ds
all-same [] = refl
all-same (d ∷ ds) = ap (λ (b : Bool). is_ascii_digit d && b) (all-same ds)

-- a numeral is how its number is written
spelled : (word : List ℕ) → is_numeral word ≡ true → word ≡ decimal (value_of word)
unfolding digits_on
spelled [] e = absurd (false≢true e)
spelled (first ∷ others) e =
    let parts = and_parts (list_all is_ascii_digit (first ∷ others)) (cond (first == 48) (length others == 0) (nat_le (length others) 18)) e in
    let digits : all_ascii_digits (first ∷ others) ≡ true = all-same (first ∷ others) ∙ parts.0 in
    let short : length (first ∷ others) ≤ 19 = at_most (first == 48) (length others) parts.1 in
    let low = digits_value-lt 10 (first ∷ others) (model.to (first ∷ others) digits) in
    let bound : 10 ^ length (first ∷ others) ≤ 10 ^ 19 = pow-le-pow_right {n = 10} (omega arith) {i = length (first ∷ others)} {j = 19} short in
    let same = model.same (first ∷ others) (model.to (first ∷ others) digits) in
    sym (decimal-digits_value model (first ∷ others) digits (omega arith) (alone (first == 48) refl parts.1) (omega (arith, low, bound, same)))
  where
    at_most : (b : Bool) (n : ℕ) → cond b (n == 0) (nat_le n 18) ≡ true → suc n ≤ 19
    at_most true n e = let z = eqb-true n 0 e in omega arith
    at_most false n e = let z = leb-true n 18 e in omega arith

    alone : (b : Bool) → (first == 48) ≡ b → cond b (length others == 0) (nat_le (length others) 18) ≡ true → first ≡ 48 → suc (length others) ≡ 1
    alone true is e h = let z = eqb-true (length others) 0 e in omega arith
    alone false is e h = absurd (false≢true (sym is ∙ ap (λ (n : ℕ). n == 48) h))

pub numeral-is : (word : List ℕ) (n : ℕ) → numeral word ≡ Some n → word ≡ decimal n
numeral-is word n h = at (is_numeral word) refl h
  where
    at : (b : Bool) → is_numeral word ≡ b → cond b (some (value_of word)) None ≡ Some n → word ≡ decimal n
    at true e h = spelled word e ∙ ap decimal (some_is (value_of word) n h)
    at false e h = absurd cc

pub two-is : codes "2" ≡ decimal 2
two-is = numeral-is (codes "2") 2 refl

positive-is : (n : ℕ) (z : ℤ) → positive n ≡ Some z → z ≡ pos n
positive-is n z h = at (nat_lt n (2 ^ 63)) h
  where
    at : (b : Bool) → cond b (some (pos n)) None ≡ Some z → z ≡ pos n
    at true h = sym (some_is (pos n) z h)
    at false h = absurd cc

negative-is : (n : ℕ) (z : ℤ) → negative n ≡ Some z → signed_decimal z ≡ 45 ∷ decimal n
negative-is zero z h = absurd cc
negative-is (suc n) z h = at (not (suc n == 0) && nat_le (suc n) (2 ^ 63)) h
  where
    at : (b : Bool) → cond b (some (neg_ℤ (pos (suc n)))) None ≡ Some z → signed_decimal z ≡ 45 ∷ decimal (suc n)
    at true h = ap signed_decimal (sym (some_is (neg_ℤ (pos (suc n))) z h))
    at false h = absurd cc

-- an integer's word is how it is written
pub integer-is : (word : List ℕ) (z : ℤ) → integer word ≡ Some z → word ≡ signed_decimal z
integer-is [] z h = absurd cc
integer-is (first ∷ others) z h = at (first == 45) refl h
  where
    at : (b : Bool) → (first == 45) ≡ b → cond b (script.◌>>=◌ (numeral others) negative) (script.◌>>=◌ (numeral (first ∷ others)) positive) ≡ Some z → first ∷ others ≡ signed_decimal z
    at true is h =
        let n = went_on_some (numeral others) negative z h in
        let one : first ≡ 45 = eqb-true first 45 is in
        ap (λ (b : ℕ). b ∷ others) one ∙ (ap (λ (w : List ℕ). 45 ∷ w) (numeral-is others n.0 n.1) ∙ sym (negative-is n.0 z n.2))
    at false is h =
        let n = went_on_some (numeral (first ∷ others)) positive z h in
        numeral-is (first ∷ others) n.0 n.1 ∙ ap signed_decimal (sym (positive-is n.0 z n.2))

pub name-is : (word m : List ℕ) → name word ≡ Some m → word ≡ m
name-is word m h = at (is_name word) h
  where
    at : (b : Bool) → cond b (some word) None ≡ Some m → word ≡ m
    at true h = some_is word m h
    at false h = absurd cc

chain : {A : Type 0} (P : A → Type 0) (b : Bool) (x m : A) (rest : Option A) → (b ≡ true → P x) → (rest ≡ Some m → P m) → cond b (some x) rest ≡ Some m → P m
chain P true x m rest here later h = subst P (some_is x m h) (here refl)
chain P false x m rest here later h = later h

ends : {A : Type 0} (P : A → Type 0) (b : Bool) (x m : A) → (b ≡ true → P x) → cond b (some x) None ≡ Some m → P m
ends P true x m here h = subst P (some_is x m h) (here refl)
ends P false x m here h = absurd cc

pub same-bytes : (xs ys : List ℕ) → bytes_eq xs ys ≡ true → xs ≡ ys
same-bytes xs ys = (bytes_eq-Decides xs ys).0

merge-is : (word : List ℕ) (m : Merge) → table_merge word ≡ Some m → word ≡ merge_name m
merge-is word m h =
    chain P (bytes_eq word (codes "first")) First m _ (same-bytes word (codes "first"))
    (chain P (bytes_eq word (codes "last")) Last m _ (same-bytes word (codes "last"))
    (chain P (bytes_eq word (codes "sum")) Sum m _ (same-bytes word (codes "sum"))
    (chain P (bytes_eq word (codes "min")) Min m _ (same-bytes word (codes "min"))
    (chain P (bytes_eq word (codes "max")) Max m _ (same-bytes word (codes "max"))
    (chain P (bytes_eq word (codes "mid")) Mid m _ (same-bytes word (codes "mid"))
    (ends P (bytes_eq word (codes "host")) Host m (same-bytes word (codes "host")))))))) h
  where
    P : Merge → Type 0
    P m = word ≡ merge_name m

-- the merge that a word of a listing names is written so
pub listed-merge-is : (word : List ℕ) → word ≡ merge_name (listed_merge word)
listed-merge-is word = at (table_merge word) refl
  where
    at : (o : Option Merge) → table_merge word ≡ o → word ≡ merge_name (unwrap_or o (Named word))
    at None is = refl
    at (Some m) is = merge-is word m is

split-is : (word : List ℕ) (s : Split) → table_split word ≡ Some s → word ≡ split_name s
split-is word s h =
    chain P (bytes_eq word (codes "copy")) Copied s _ (same-bytes word (codes "copy"))
    (chain P (bytes_eq word (codes "keep")) Keep s _ (same-bytes word (codes "keep"))
    (chain P (bytes_eq word (codes "share")) Share s _ (same-bytes word (codes "share"))
    (ends P (bytes_eq word (codes "host")) Host s (same-bytes word (codes "host"))))) h
  where
    P : Split → Type 0
    P s = word ≡ split_name s

-- and the split
pub listed-split-is : (word : List ℕ) → word ≡ split_name (listed_split word)
listed-split-is word = at (table_split word) refl
  where
    at : (o : Option Split) → table_split word ≡ o → word ≡ split_name (unwrap_or o (Named word))
    at None is = refl
    at (Some s) is = split-is word s is

-- words behind a space each
abbrev pub behind_spaces : List (List ℕ) → List ℕ
behind_spaces words = flat_map (λ (word : List ℕ). 32 ∷ word) words

pub join-first : (word : List ℕ) (words : List (List ℕ)) → join_with_byte 32 (word ∷ words) ≡ word ++ behind_spaces words
join-first word [] = sym (append-nil word)
join-first word (next ∷ words) = ap (λ (text : List ℕ). word ++ 32 ∷ text) (join-first next words)

-- a text that begins so
pub begins-so : (front text : List ℕ) → starts_with ◌==◌ text front ≡ true → text ≡ front ++ drop (length front) text
begins-so front text h =
    let same : front ≡ take (length front) text = same-bytes front (take (length front) text) h in
    sym (take-append-drop (length front) text) ∙ ap (λ (xs : List ℕ). xs ++ drop (length front) text) (sym same)
