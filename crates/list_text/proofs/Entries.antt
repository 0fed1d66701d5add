-- Reading entries one after the other, as a loop does.
use Rattle.std.proofs.Common.{◌≡◌, ℕ, suc, ◌+◌, ◌-◌, ◌<◌, List, [], ◌∷◌, ◌++◌, Option, Some, None, refl, sym, ap, ◌∙◌, append_assoc, arith}
use Rattle.std.specs.Option.{option_map}
use Rattle.machine_defs.specs.Script.{◌>>=◌}
use Rattle.machine_defs.specs.Listing.{ListRow}
use Rattle.machine_defs.specs.ListingLines.{entries, entries_behind, row_of, words_between, is_colon, numeral_within}
use Rattle.std.specs.List.{before_first, after_first}
use Rattle.list_text.specs.Views.{first_entry}

-- what was read before, and what is still read
abbrev pub behind : List ℕ → Option (List ℕ) → Option (List ℕ)
behind known more = option_map (λ others. known ++ others) more

regroup : (known : List ℕ) (entry : ℕ) (more : Option (List ℕ)) → behind known (option_map (λ others. entry ∷ others) more) ≡ behind (known ++ entry ∷ []) more
regroup known entry (Some others) = ap (λ (es : List ℕ). Some es) (simp append_assoc)
regroup known entry None = refl

shape : (e : ℕ) (o : Option (List ℕ)) → (o >>= λ others. Some (e ∷ others)) ≡ option_map (λ others. e ∷ others) o
shape e (Some others) = refl
shape e None = refl

abbrev pair : ℕ → List (List ℕ) → ℕ × List (List ℕ)
pair e words = (e, words)

abbrev some : {A : Type 0} → A → Option A
some x = Some x

some_is : {A : Type 0} (x y : A) → some x ≡ some y → x ≡ y
some_is x y e = cc

pub entries-on : (made count i entry : ℕ) (known : List ℕ) (words after : List (List ℕ)) (total : Option (List ℕ)) → i < count → first_entry made words ≡ Some (entry, after)
    → behind known (entries made (count - i) words) ≡ total → behind (known ++ entry ∷ []) (entries made (count - (i + 1)) after) ≡ total
entries-on made count i entry known [] after total lt h so_far = absurd cc
entries-on made count i entry known (word ∷ words) after total lt h so_far = of_number (numeral_within 0 made word) refl h
  where
    of_number : (n : Option ℕ) → numeral_within 0 made word ≡ n → option_map {U = ℕ × List (List ℕ)} (λ e. (e, words)) n ≡ Some (entry, after) → behind (known ++ entry ∷ []) (entries made (count - (i + 1)) after) ≡ total
    of_number (Some e) is h =
        let k : count - i ≡ suc (count - (i + 1)) = omega arith in
        let both = some_is (pair e words) (pair entry after) h in
        let same : e ≡ entry = ap (λ (p : ℕ × List (List ℕ)). p.0) both in
        let rest : words ≡ after = ap (λ (p : ℕ × List (List ℕ)). p.1) both in
        let step : behind known (entries made (count - i) (word ∷ words)) ≡ behind known (option_map (λ others. e ∷ others) (entries made (count - (i + 1)) words)) = rw (k, is) (ap (behind known) (shape e (entries made (count - (i + 1)) words))) in
        rw (sym rest, sym same) (sym (regroup known e (entries made (count - (i + 1)) words)) ∙ (sym step ∙ so_far))
    of_number None is h = absurd cc

pub entries-none : (made count i : ℕ) (known : List ℕ) (words : List (List ℕ)) (total : Option (List ℕ)) → i < count → first_entry made words ≡ None
    → behind known (entries made (count - i) words) ≡ total → None ≡ total
entries-none made count i known [] total lt h so_far =
    let k : count - i ≡ suc (count - (i + 1)) = omega arith in
    let step : behind known (entries made (count - i) []) ≡ None = rw k refl in
    sym step ∙ so_far
entries-none made count i known (word ∷ words) total lt h so_far = of_number (numeral_within 0 made word) refl h
  where
    of_number : (n : Option ℕ) → numeral_within 0 made word ≡ n → option_map {U = ℕ × List (List ℕ)} (λ e. (e, words)) n ≡ None → None ≡ total
    of_number (Some e) is h = absurd cc
    of_number None is h =
        let k : count - i ≡ suc (count - (i + 1)) = omega arith in
        let step : behind known (entries made (count - i) (word ∷ words)) ≡ None = rw (k, is) refl in
        sym step ∙ so_far

-- without a colon a line is no row
pub row_of-none : (n made : ℕ) (line : List ℕ) → after_first is_colon line ≡ [] → row_of n made line ≡ None
row_of-none n made line h =
    let k : n + 1 ≡ suc n = omega arith in
    let none : entries_behind made (n + 1) (words_between (after_first is_colon line)) ≡ None = rw (h, k) refl in
    rw none (at (numeral_within 1 made (before_first is_colon line)))
  where
    at : (dart : Option ℕ) → ◌>>=◌ {B = ListRow} dart (λ d. None) ≡ None
    at (Some d) = refl
    at None = refl
