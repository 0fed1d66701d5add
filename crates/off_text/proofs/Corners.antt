-- Reading the corners of a face one after the other, as a loop does.
use Rattle.std.proofs.Common.{◌≡◌, ℕ, suc, ◌-◌, ◌+◌, ◌≤◌, ◌<◌, nat_lt, Bool, true, false, cond, ◌&&◌, List, [], ◌∷◌, ◌++◌, length, take, map, Result, Ok, Err, refl, sym, ap, ◌∙◌, append_assoc, arith}
use Rattle.std.specs.List.{list_all}
use Rattle.std.proofs.lemmas.Bool.Decides.{nat_tests}
use Rattle.std.proofs.lemmas.List.{append-nil}
use Rattle.map_defs.specs.TextWords.{value_of}
use Rattle.map_defs.specs.Off.{What, Short, BadIndex, ◌>>=◌, is_below, corners}
use Rattle.off_text.specs.Reading.{corner_of}

-- corners that were read before, and those that are still read
abbrev pub behind : List ℕ → Result (List ℕ) What → Result (List ℕ) What
behind front read = read >>= λ xs. Ok (front ++ xs)

regroup : (front : List ℕ) (x : ℕ) (read : Result (List ℕ) What) → behind front (read >>= λ xs. Ok (x ∷ xs)) ≡ behind (front ++ x ∷ []) read
regroup front x (Ok xs) = ap (λ (items : List ℕ). Ok items) (simp append_assoc)
regroup front x (Err what) = refl

nat_lt-suc : (m n : ℕ) → nat_lt (suc m) (suc n) ≡ nat_lt m n
nat_lt-suc m n = grind (arith, nat_tests)

-- what is read of a corner and of those behind it, by the tests of the first word and of the number of words
abbrev first_of : Bool → Bool → List ℕ → List (List ℕ) → Result (ℕ × List (List ℕ)) What
first_of below short word words = cond below (Ok (value_of word, words)) (cond short (Err Short) (Err BadIndex))

abbrev all_of : ℕ → Bool → Bool → ℕ → List ℕ → List (List ℕ) → Result (List ℕ) What
all_of points below short k word words =
    cond short (Err Short) (cond (below && list_all (is_below points) (take k words)) (Ok (value_of word ∷ map value_of (take k words))) (Err BadIndex))

-- where the first word is a corner, the others are read behind it
all_of-below : (points k : ℕ) (short every : Bool) (word : List ℕ) (words : List (List ℕ))
    → cond short (Err Short) (cond every (Ok (value_of word ∷ map value_of (take k words))) (Err BadIndex))
    ≡ (cond short (Err Short) (cond every (Ok (map value_of (take k words))) (Err BadIndex)) >>= λ xs. Ok (value_of word ∷ xs))
all_of-below points k true every word words = refl
all_of-below points k false true word words = refl
all_of-below points k false false word words = refl

corners-first : (points k : ℕ) (word : List ℕ) (words : List (List ℕ)) → corners points (suc k) (word ∷ words) ≡ all_of points (is_below points word) (nat_lt (length words) k) k word words
corners-first points k word words = rw (nat_lt-suc (length words) k) refl

corner_of-first : (points k : ℕ) (word : List ℕ) (words : List (List ℕ)) → corner_of points (suc k) (word ∷ words) ≡ first_of (is_below points word) (nat_lt (length words) k) word words
corner_of-first points k word words = let e : suc k - 1 ≡ k = omega arith in rw e refl

abbrev told : ℕ × List (List ℕ) → Result (ℕ × List (List ℕ)) What
told x = Ok x

ok-parts : (p q : ℕ × List (List ℕ)) → told p ≡ told q → p ≡ q
ok-parts p q h = cc

step-ok : (points k x : ℕ) (below short : Bool) (word : List ℕ) (words rest : List (List ℕ)) → nat_lt (length words) k ≡ short
    → first_of below short word words ≡ Ok (x, rest) → all_of points below short k word words ≡ (corners points k rest >>= λ xs. Ok (x ∷ xs))
step-ok points k x true short word words rest e h =
    let same = ok-parts (value_of word, words) (x, rest) h in
    let head : value_of word ≡ x = ap (λ (p : ℕ × List (List ℕ)). p.0) same in
    let tail : words ≡ rest = ap (λ (p : ℕ × List (List ℕ)). p.1) same in
    rw (← head, ← tail, e) (all_of-below points k short (list_all (is_below points) (take k words)) word words)
step-ok points k x false true word words rest e h = absurd (cc)
step-ok points k x false false word words rest e h = absurd (cc)

step-err : (points k : ℕ) (what : What) (below short : Bool) (word : List ℕ) (words : List (List ℕ)) → nat_lt (length words) k ≡ short
    → first_of below short word words ≡ Err what → all_of points below short k word words ≡ Err what
step-err points k what true short word words e h = absurd (cc)
step-err points k what false true word words e h = cc
step-err points k what false false word words e h = cc

corners-on : (points k x : ℕ) (words rest : List (List ℕ)) → corner_of points (suc k) words ≡ Ok (x, rest) → corners points (suc k) words ≡ (corners points k rest >>= λ xs. Ok (x ∷ xs))
corners-on points k x [] rest h = absurd (cc)
corners-on points k x (word ∷ words) rest h =
    corners-first points k word words ∙ step-ok points k x (is_below points word) (nat_lt (length words) k) word words rest refl (sym (corner_of-first points k word words) ∙ h)

corners-stop : (points k : ℕ) (what : What) (words : List (List ℕ)) → corner_of points (suc k) words ≡ Err what → corners points (suc k) words ≡ Err what
corners-stop points k what [] h =
    let short : nat_lt 0 (suc k) ≡ true = grind (arith, nat_tests) in
    let is : Short ≡ what = cc in
    rw short (ap (λ (w : What). Err w) is)
corners-stop points k what (word ∷ words) h =
    corners-first points k word words ∙ step-err points k what (is_below points word) (nat_lt (length words) k) word words refl (sym (corner_of-first points k word words) ∙ h)

-- A corner is read, and so the loop goes on.
pub goes_on : (front : List ℕ) (points count i x : ℕ) (words rest : List (List ℕ)) (total : Result (List ℕ) What) → i < count → corner_of points (count - i) words ≡ Ok (x, rest)
    → behind front (corners points (count - i) words) ≡ total → behind (front ++ x ∷ []) (corners points (count - (i + 1)) rest) ≡ total
goes_on front points count i x words rest total lt h so_far =
    let k : count - i ≡ suc (count - (i + 1)) = omega arith in
    let one : corner_of points (suc (count - (i + 1))) words ≡ Ok (x, rest) = rw (← k) h in
    let step : behind front (corners points (count - i) words) ≡ behind (front ++ x ∷ []) (corners points (count - (i + 1)) rest) =
    rw k (ap (behind front) (corners-on points (count - (i + 1)) x words rest one) ∙ regroup front x (corners points (count - (i + 1)) rest)) in
    sym step ∙ so_far

-- A corner is at fault, and so is the face.
pub ends : (front : List ℕ) (points count i : ℕ) (what : What) (words : List (List ℕ)) (total : Result (List ℕ) What) → i < count → corner_of points (count - i) words ≡ Err what
    → behind front (corners points (count - i) words) ≡ total → total ≡ Err what
ends front points count i what words total lt h so_far =
    let k : count - i ≡ suc (count - (i + 1)) = omega arith in
    let one : corner_of points (suc (count - (i + 1))) words ≡ Err what = rw (← k) h in
    let step : behind front (corners points (count - i) words) ≡ Err what = rw k (ap (behind front) (corners-stop points (count - (i + 1)) what words one)) in
    sym so_far ∙ step

-- All corners are read.
pub is_done : (front : List ℕ) (points count i : ℕ) (words : List (List ℕ)) (total : Result (List ℕ) What) → count ≤ i
    → behind front (corners points (count - i) words) ≡ total → total ≡ Ok front
is_done front points count i words total le so_far =
    let k : count - i ≡ 0 = omega arith in
    let long : nat_lt (length words) 0 ≡ false = grind (arith, nat_tests) in
    let step : behind front (corners points (count - i) words) ≡ Ok front = rw (k, long) (ap (λ (items : List ℕ). Ok items) (append-nil front)) in
    sym so_far ∙ step
