-- Lines with numbers alone behind the first word: their words are text, and no other line begins with the same word.
use Rattle.std.proofs.Common.{◌≡◌, ℕ, Bool, true, false, cond, ◌&&◌, List, [], ◌∷◌, Option, Some, None, codes, refl, sym, ap, ap₂, ◌∙◌, arith}
use Rattle.std.specs.List.{list_all}
use Rattle.std.specs.Option.{option_map, option_and_then}
use Rattle.std.specs.Str.{bytes_eq}
use Rattle.std.specs.Char.{is_ascii_digit, is_ascii_graphic}
use Rattle.std.proofs.lemmas.Bool.{and_parts}
use Rattle.std.proofs.lemmas.Bool.Decides.{nat_tests}
use Rattle.std.proofs.lemmas.Option.{none-some, cond_some, option_and_then_some}
use Rattle.std.proofs.lemmas.Slice.Eq.{bytes_eq-Decides}
use Rattle.map_defs.specs.TextWords.{is_text, value_of}
use Rattle.machine_defs.specs.Script.{Line, is_numeral, numeral, numerals, found, alone, with_one, with_two, with_three, numbers_line, line_of}
use Rattle.text_words.proofs.Digits.{numeral_digits}

-- digits are printed characters
digits-text : (word : List ℕ) → list_all is_ascii_digit word ≡ true → is_text word ≡ true
digits-text [] all = refl
digits-text (b ∷ word) all =
    let p = and_parts (is_ascii_digit b) (list_all is_ascii_digit word) all in
    let digit = p.0 in
    let printed : is_ascii_graphic b ≡ true = grind (arith, nat_tests) in
    ap₂ ◌&&◌ printed (digits-text word p.1)

-- numerals are text
pub numerals-text : (words : List (List ℕ)) (numbers : List ℕ) → numerals words ≡ Some numbers → list_all is_text words ≡ true
numerals-text [] numbers h = refl
numerals-text (word ∷ words) numbers h =
    option_and_then_some (λ n. option_and_then (λ ns. Some (n ∷ ns)) (numerals words)) (numeral word) numbers h (λ n first more.
    option_and_then_some (λ ns. Some (n ∷ ns)) (numerals words) numbers more (λ ns others _.
    let is = (cond_some (is_numeral word) (value_of word) n first).0 in
    ap₂ ◌&&◌ (digits-text word (numeral_digits word is)) (numerals-text words ns others)))

-- a word of none of the four tables has no line with numbers alone
without-row : (word : List ℕ) → found word alone ≡ None → found word with_one ≡ None → found word with_two ≡ None → found word with_three ≡ None → (numbers : List ℕ) → numbers_line word numbers ≡ None
without-row word none one two three [] = none
without-row word none one two three (a ∷ []) = ap (option_map (λ line. line a)) one
without-row word none one two three (a ∷ b ∷ []) = ap (option_map (λ line. line a b)) two
without-row word none one two three (a ∷ b ∷ c ∷ []) = ap (option_map (λ line. line a b c)) three
without-row word none one two three (a ∷ b ∷ c ∷ d ∷ more) = refl

-- what these words tell by numbers alone
abbrev pub by_numbers : List ℕ → List (List ℕ) → Option Line
by_numbers first words = option_and_then (numbers_line first) (numerals words)

-- the first word of a line with numbers alone is another
differs : (first word : List ℕ) (words : List (List ℕ)) (line : Line) → by_numbers first words ≡ Some line → ((numbers : List ℕ) → numbers_line word numbers ≡ None) → bytes_eq first word ≡ false
differs first word words line told none = at (bytes_eq first word) refl
  where
    at : (same : Bool) → bytes_eq first word ≡ same → same ≡ false
    at true e =
        let is = (bytes_eq-Decides first word).0 e in
        option_and_then_some (numbers_line first) (numerals words) line told (λ numbers _ found. absurd (none-some line (sym (none numbers) ∙ (ap (λ (w : List ℕ). numbers_line w numbers) (sym is) ∙ found))))
    at false e = refl

-- a word that a table has is text, if all words of the table are
row-text : {A : Type 0} (word : List ℕ) (rows : List (List ℕ × A)) (x : A) → list_all (λ row. is_text row.0) rows ≡ true → found word rows ≡ Some x → is_text word ≡ true
row-text word [] x all h = absurd (none-some x h)
row-text word (row ∷ rows) x all h =
    let p = and_parts (is_text row.0) (list_all (λ row. is_text row.0) rows) all in
    at (bytes_eq word row.0) refl p.0 (row-text word rows x p.1) h
  where
    at : (same : Bool) → bytes_eq word row.0 ≡ same → is_text row.0 ≡ true → (found word rows ≡ Some x → is_text word ≡ true)
        → cond same (Some row.1) (found word rows) ≡ Some x → is_text word ≡ true
    at true e first others f = ap is_text ((bytes_eq-Decides word row.0).0 e) ∙ first
    at false e first others f = others f

mapped-text : {A : Type 0} (word : List ℕ) (rows : List (List ℕ × A)) (f : A → Line) (line : Line) → list_all (λ row. is_text row.0) rows ≡ true → option_map f (found word rows) ≡ Some line → is_text word ≡ true
mapped-text {A = A} word rows f line all h = at (found word rows) refl h
  where
    at : (o : Option A) → found word rows ≡ o → option_map f o ≡ Some line → is_text word ≡ true
    at None e m = absurd (none-some line m)
    at (Some x) e m = row-text word rows x all e

-- the first word of a line with numbers alone is text
first-text : (first numbers : List ℕ) (line : Line) → numbers_line first numbers ≡ Some line → is_text first ≡ true
first-text first [] line h = row-text first alone line refl h
first-text first (a ∷ []) line h = mapped-text first with_one (λ l. l a) line refl h
first-text first (a ∷ b ∷ []) line h = mapped-text first with_two (λ l. l a b) line refl h
first-text first (a ∷ b ∷ c ∷ []) line h = mapped-text first with_three (λ l. l a b c) line refl h
first-text first (a ∷ b ∷ c ∷ d ∷ more) line h = absurd (none-some line h)

-- words that tell a line by numbers alone tell that line
pub told-by_numbers : (first : List ℕ) (words : List (List ℕ)) (line : Line) → by_numbers first words ≡ Some line → line_of (first ∷ words) ≡ Some line
told-by_numbers first words line told =
    let text : is_text first ≡ true = option_and_then_some (numbers_line first) (numerals words) line told (λ numbers _ found. first-text first numbers line found) in
    let others : list_all is_text words ≡ true = option_and_then_some (numbers_line first) (numerals words) line told (λ numbers are _. numerals-text words numbers are) in
    let face = differs first (codes "face") words line told (without-row (codes "face") refl refl refl refl) in
    let rule = differs first (codes "rule") words line told (without-row (codes "rule") refl refl refl refl) in
    let set = differs first (codes "set") words line told (without-row (codes "set") refl refl refl refl) in
    let mark = differs first (codes "mark") words line told (without-row (codes "mark") refl refl refl refl) in
    let undo = differs first (codes "undo") words line told (without-row (codes "undo") refl refl refl refl) in
    let redo = differs first (codes "redo") words line told (without-row (codes "redo") refl refl refl refl) in
    let log = differs first (codes "log") words line told (without-row (codes "log") refl refl refl refl) in
    rw (text, others, face, rule, set, mark, undo, redo, log) told
