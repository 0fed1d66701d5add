-- The first word of a line that may end with a comment.
use Rattle.std.proofs.Common.{◌≡◌, ℕ, zero, suc, nat_le, ◌+◌, ◌<◌, ◌≤◌, Bool, true, false, cond, not, ◌&&◌, ◌||◌, ◌==◌, List, [], ◌∷◌, length, take, drop, Option, Some, None, refl, sym, ap, ◌∙◌, arith}
use Rattle.std.specs.List.{position_or_len, list_all}
use Rattle.std.specs.Option.{option_map, option_and_then}
use Rattle.std.specs.Char.{is_ascii_digit}
use Rattle.std.proofs.lemmas.Bool.Decides.{nat_tests}
use Rattle.std.proofs.lemmas.Bool.{and_parts, false≢true}
use Rattle.std.proofs.lemmas.List.{length-take}
use Rattle.map_defs.specs.TextWords.{is_blank, is_comment_sign, uncommented, words_of, value_of}
use Rattle.machine_defs.specs.Script.{is_numeral, numerals}
use Rattle.text_words.specs.Numerals.{may_be_numeral}
use Rattle.script_text.specs.Fronts.{blanks, ends_word, is_behind_word, is_padded}
use Rattle.text_words.proofs.FirstPlaces.{position_or_len-within}
use Rattle.text_words.proofs.WordCuts.{take-next, words_in-first}
use Rattle.text_words.proofs.Digits.{numeral-parts, numeral-short}

drop-next : (n b : ℕ) (text : List ℕ) → drop (1 + n) (b ∷ text) ≡ drop n text
drop-next n b text = let e : 1 + n ≡ suc n = omega arith in rw e refl

-- where the first word ends
abbrev pub word_end : List ℕ → ℕ
word_end line = position_or_len ends_word line

-- what stands before a comment, cut where the first word ends
pub record IsCut (line : List ℕ) : Type 0 where
  pub place : position_or_len is_blank (uncommented line) ≡ word_end line
  pub front : take (word_end line) (uncommented line) ≡ take (word_end line) line
  pub back : drop (word_end line) (uncommented line) ≡ uncommented (drop (word_end line) line)

cut : (line : List ℕ) → IsCut line
cut [] = record { place = refl; front = refl; back = refl }
cut (b ∷ line) = let p = cut line in
    let parts = at (is_blank b) refl (is_comment_sign b) refl (word_end line) p.place p.front p.back in
    record { place = parts.0; front = parts.1; back = parts.2 }
  where
    -- up to its comment, the line goes on by a byte that begins none
    longer : (sign : Bool) → sign ≡ false → take (cond (not sign) (1 + position_or_len is_comment_sign line) 0) (b ∷ line) ≡ b ∷ uncommented line
    longer sign s = rw s (take-next (position_or_len is_comment_sign line) b line)

    at : (blank : Bool) → is_blank b ≡ blank → (sign : Bool) → is_comment_sign b ≡ sign → (e : ℕ)
        → position_or_len is_blank (uncommented line) ≡ e → take e (uncommented line) ≡ take e line → drop e (uncommented line) ≡ uncommented (drop e line)
        → (position_or_len is_blank (take (cond (not sign) (1 + position_or_len is_comment_sign line) 0) (b ∷ line)) ≡ cond (not (blank || sign)) (1 + e) 0)
        × (take (cond (not (blank || sign)) (1 + e) 0) (take (cond (not sign) (1 + position_or_len is_comment_sign line) 0) (b ∷ line)) ≡ take (cond (not (blank || sign)) (1 + e) 0) (b ∷ line))
        × (drop (cond (not (blank || sign)) (1 + e) 0) (take (cond (not sign) (1 + position_or_len is_comment_sign line) 0) (b ∷ line)) ≡ uncommented (drop (cond (not (blank || sign)) (1 + e) 0) (b ∷ line)))
    at true k true s e h f g = (refl, refl, rw s refl)
    at false k true s e h f g = (refl, refl, rw s refl)
    at true k false s e h f g = (rw (longer false refl, k) refl, refl, rw s refl)
    at false k false s e h f g = (
      rw (longer false refl, k, h) refl,
      ap (take (1 + e)) (longer false refl) ∙ (take-next e b (uncommented line) ∙ (ap (λ (xs : List ℕ). b ∷ xs) f ∙ sym (take-next e b line))),
      ap (drop (1 + e)) (longer false refl) ∙ (drop-next e b (uncommented line) ∙ (g ∙ ap uncommented (sym (drop-next e b line)))),
    )

-- a line that begins with a word is this word and the words behind it
pub words_of-first : (line : List ℕ) → 0 < word_end line → words_of line ≡ take (word_end line) line ∷ words_of (drop (word_end line) line)
words_of-first line h =
    let c = cut line in
    let starts : 0 < position_or_len is_blank (uncommented line) = omega (arith, c.place) in
    words_in-first (uncommented line) starts ∙ rw (c.place, c.front, c.back) refl

-- a line that begins with a comment, or with nothing, has no word
pub words_of-none : (line : List ℕ) → blanks line ≡ 0 → word_end line ≡ 0 → words_of line ≡ []
words_of-none [] h k = refl
words_of-none (b ∷ line) h k = at (is_blank b) refl (is_comment_sign b) refl (blanks line) (word_end line) h k
  where
    at : (blank : Bool) → is_blank b ≡ blank → (sign : Bool) → is_comment_sign b ≡ sign → (n e : ℕ) → cond (not (not blank)) (1 + n) 0 ≡ 0 → cond (not (blank || sign)) (1 + e) 0 ≡ 0 → words_of (b ∷ line) ≡ []
    at true p sign s n e h k = absurd (omega arith)
    at false p true s n e h k = rw s refl
    at false p false s n e h k = absurd (omega arith)

-- blanks at the front change no word
pub words_of-blanks : (line : List ℕ) → words_of line ≡ words_of (drop (blanks line) line)
words_of-blanks [] = refl
words_of-blanks (b ∷ line) = at (is_blank b) refl (is_comment_sign b) refl (blanks line) (words_of-blanks line)
  where
    at : (blank : Bool) → is_blank b ≡ blank → (sign : Bool) → is_comment_sign b ≡ sign → (n : ℕ) → words_of line ≡ words_of (drop n line)
        → words_of (b ∷ line) ≡ words_of (drop (cond (not (not blank)) (1 + n) 0) (b ∷ line))
    at true p true s n h = absurd (grind (arith, nat_tests))
    at true p false s n h = rw (s, take-next (position_or_len is_comment_sign line) b line, p) (h ∙ ap words_of (sym (drop-next n b line)))
    at false p sign s n h = refl

-- behind the blanks stands no blank
pub blanks-behind : (line : List ℕ) → blanks (drop (blanks line) line) ≡ 0
blanks-behind [] = refl
blanks-behind (b ∷ line) = at (is_blank b) refl (blanks line) (blanks-behind line)
  where
    at : (blank : Bool) → is_blank b ≡ blank → (n : ℕ) → blanks (drop n line) ≡ 0 → blanks (drop (cond (not (not blank)) (1 + n) 0) (b ∷ line)) ≡ 0
    at true p n h = rw (drop-next n b line) h
    at false p n h = rw p refl

-- no digit ends a word
digit-in_word : (b : ℕ) → is_ascii_digit b ≡ true → ends_word b ≡ false
digit-in_word b h = grind (arith, nat_tests)

-- the first word goes on at least as far as digits do
pub word_end-digits : (line : List ℕ) (n : ℕ) → n ≤ length line → list_all is_ascii_digit (take n line) ≡ true → n ≤ word_end line
word_end-digits line zero h all = omega arith
word_end-digits [] (suc n) h all = absurd (omega arith)
word_end-digits (b ∷ line) (suc n) h all =
    let p = and_parts (is_ascii_digit b) (list_all is_ascii_digit (take n line)) all in
    let more = word_end-digits line n (omega arith) p.1 in
    rw (digit-in_word b p.0) (omega arith)

-- and no farther, where it does not go on behind them
pub word_end-behind : (line : List ℕ) (n : ℕ) → n ≤ length line → list_all is_ascii_digit (take n line) ≡ true → is_behind_word (drop n line) ≡ true → word_end line ≡ n
word_end-behind [] zero h all behind = refl
word_end-behind (b ∷ line) zero h all behind = rw behind refl
word_end-behind [] (suc n) h all behind = absurd (omega arith)
word_end-behind (b ∷ line) (suc n) h all behind =
    let p = and_parts (is_ascii_digit b) (list_all is_ascii_digit (take n line)) all in
    let more = word_end-behind line n (omega arith) p.1 behind in
    rw (digit-in_word b p.0) (omega arith)

-- else it goes on by a byte
pub word_end-on : (line : List ℕ) (n : ℕ) → n ≤ length line → list_all is_ascii_digit (take n line) ≡ true → is_behind_word (drop n line) ≡ false → n < word_end line
word_end-on [] zero h all behind = absurd (false≢true (sym behind))
word_end-on (b ∷ line) zero h all behind = rw behind (omega arith)
word_end-on [] (suc n) h all behind = absurd (omega arith)
word_end-on (b ∷ line) (suc n) h all behind =
    let p = and_parts (is_ascii_digit b) (list_all is_ascii_digit (take n line)) all in
    let more = word_end-on line n (omega arith) p.1 behind in
    rw (digit-in_word b p.0) (omega arith)

-- a word with a byte that is no digit is no numeral
pub not-digits : (line : List ℕ) (n end : ℕ) → n < end → (b : ℕ) (others : List ℕ) → drop n line ≡ b ∷ others → is_ascii_digit b ≡ false → list_all is_ascii_digit (take end line) ≡ false
not-digits [] zero end h b others is other = absurd (cc)
not-digits [] (suc n) end h b others is other = absurd (cc)
not-digits (x ∷ line) zero (suc end) h b others is other = let same : x ≡ b = cc in rw (same, other) refl
not-digits (x ∷ line) n zero h b others is other = absurd (omega arith)
not-digits (x ∷ line) (suc n) (suc end) h b others is other =
    let more = not-digits line n end (omega arith) b others is other in
    rw more (and_false (is_ascii_digit x))
  where
    and_false : (p : Bool) → p && false ≡ false
    and_false true = refl
    and_false false = refl

-- a word that is no numeral
none-first : (word : List ℕ) (others : List (List ℕ)) → is_numeral word ≡ false → numerals (word ∷ others) ≡ None
none-first word others h = rw h refl

-- a word that is one
some-first : (word : List ℕ) (others : List (List ℕ)) → is_numeral word ≡ true → numerals (word ∷ others) ≡ option_map (λ numbers. value_of word ∷ numbers) (numerals others)
some-first word others h = rw h (onto (numerals others))
  where
    onto : (told : Option (List ℕ)) → option_and_then (λ numbers. Some (value_of word ∷ numbers)) told ≡ option_map (λ numbers. value_of word ∷ numbers) told
    onto None = refl
    onto (Some numbers) = refl

both-false : (p q : Bool) → q ≡ false → p && q ≡ false
both-false true q h = h
both-false false q h = refl

-- a line that begins with digits and goes on with another byte begins with no numeral
pub numerals-other : (line : List ℕ) (n : ℕ) → n ≤ length line → list_all is_ascii_digit (take n line) ≡ true → is_behind_word (drop n line) ≡ false
    → ((b : ℕ) (others : List ℕ) → drop n line ≡ b ∷ others → is_ascii_digit b ≡ false) → numerals (words_of line) ≡ None
numerals-other line n h all behind more = at (drop n line) refl behind
  where
    at : (rest : List ℕ) → drop n line ≡ rest → is_behind_word rest ≡ false → numerals (words_of line) ≡ None
    at [] is on = absurd (false≢true (sym on))
    at (b ∷ others) is on =
        let longer = word_end-on line n h all behind in
        let word : List ℕ = take (word_end line) line in
        let other = not-digits line n (word_end line) longer b others is (more b others is) in
        let none : is_numeral word ≡ false = numeral-parts word ∙ rw other refl in
        ap numerals (words_of-first line (omega arith)) ∙ none-first word (words_of (drop (word_end line) line)) none

-- a line that begins with too many digits begins with no numeral
pub numerals-long : (line : List ℕ) (n : ℕ) → 19 < n → n ≤ length line → list_all is_ascii_digit (take n line) ≡ true → numerals (words_of line) ≡ None
numerals-long line n big h all =
    let far = word_end-digits line n h all in
    let within = position_or_len-within ends_word line in
    let word : List ℕ = take (word_end line) line in
    let long : 19 < length word = omega (arith, length-take (word_end line) line) in
    ap numerals (words_of-first line (omega arith)) ∙ none-first word (words_of (drop (word_end line) line)) (numeral-parts word ∙ both-false (list_all is_ascii_digit word) (may_be_numeral word) (at (may_be_numeral word) refl long))
  where
    at : (b : Bool) → may_be_numeral (take (word_end line) line) ≡ b → 19 < length (take (word_end line) line) → b ≡ false
    at true e long = let short = numeral-short (take (word_end line) line) e in absurd (omega arith)
    at false e long = refl

-- a few digits may be a numeral unless a 0 has others behind it
may-be : (word : List ℕ) → length word == 0 ≡ false → length word ≤ 19 → may_be_numeral word ≡ not (is_padded word)
may-be [] some few = absurd (false≢true (sym some))
may-be (first ∷ []) some few = at (first == 48)
  where
    at : (b : Bool) → cond b true true ≡ true
    at true = refl
    at false = refl
may-be (first ∷ second ∷ others) some few = at (first == 48) (omega arith)
  where
    at : (b : Bool) → suc (length others) ≤ 18 → cond b (suc (length others) == 0) (nat_le (suc (length others)) 18) ≡ not b
    at true h = grind (arith, nat_tests)
    at false h = grind (arith, nat_tests)

-- a line that begins with digits and then with nothing of a word
module _ (line : List ℕ) (n : ℕ) (within : n ≤ length line) (all : list_all is_ascii_digit (take n line) ≡ true) (behind : is_behind_word (drop n line) ≡ true) where
  -- no word, where there is no digit
  pub numerals-end : blanks line ≡ 0 → length (take n line) == 0 ≡ true → numerals (words_of line) ≡ Some []
  numerals-end begins none =
      let few = length-take n line in
      let zero_digits : n ≡ 0 = grind (arith, nat_tests) in
      let end = word_end-behind line n within all behind in
      ap numerals (words_of-none line begins (omega arith))

  words-told : length (take n line) == 0 ≡ false → words_of line ≡ take n line ∷ words_of (drop n line)
  words-told some =
      let few = length-take n line in
      let long : 0 < n = grind (arith, nat_tests) in
      let end = word_end-behind line n within all behind in
      words_of-first line (omega arith) ∙ rw end refl

  may : length (take n line) == 0 ≡ false → n ≤ 19 → may_be_numeral (take n line) ≡ not (is_padded (take n line))
  may some few = may-be (take n line) some (omega (arith, length-take n line))

  -- a numeral
  pub numerals-told : length (take n line) == 0 ≡ false → n ≤ 19 → is_padded (take n line) ≡ false
      → numerals (words_of line) ≡ option_map (λ numbers. value_of (take n line) ∷ numbers) (numerals (words_of (drop n line)))
  numerals-told some few plain =
      let is : is_numeral (take n line) ≡ true = numeral-parts (take n line) ∙ rw (all, may some few, plain) refl in
      ap numerals (words-told some) ∙ some-first (take n line) (words_of (drop n line)) is

  -- digits that are none
  pub numerals-none : length (take n line) == 0 ≡ false → n ≤ 19 → is_padded (take n line) ≡ true → numerals (words_of line) ≡ None
  numerals-none some few padded =
      let none : is_numeral (take n line) ≡ false = numeral-parts (take n line) ∙ rw (all, may some few, padded) refl in
      ap numerals (words-told some) ∙ none-first (take n line) (words_of (drop n line)) none
