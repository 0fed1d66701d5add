-- The words of a text, cut off one after the other.
use Rattle.std.proofs.Common.{◌≡◌, ℕ, suc, ◌+◌, ◌<◌, Bool, true, false, cond, not, ◌&&◌, ◌||◌, ◌==◌, List, [], ◌∷◌, length, take, drop, filter, refl, sym, ap, ◌∙◌, arith}
use Rattle.std.specs.List.{position_or_len, slice_split, onto_first, list_all}
use Rattle.std.specs.Char.{is_ascii_graphic}
use Rattle.std.proofs.lemmas.Bool.Decides.{nat_tests}
use Rattle.std.proofs.lemmas.Bool.{eqb-true}
use Rattle.std.proofs.lemmas.List.{length-take, nil_from_length}
use Rattle.map_defs.specs.TextWords.{is_blank, is_word, is_text}
use Rattle.text_words.specs.Taking.{words_in, is_text_byte}
use Rattle.text_words.proofs.FirstPlaces.{position_or_len-within}

-- behind the first element
pub take-next : (n b : ℕ) (text : List ℕ) → take (1 + n) (b ∷ text) ≡ b ∷ take n text
take-next n b text = let e : 1 + n ≡ suc n = omega arith in rw e refl

drop-next : (n b : ℕ) (text : List ℕ) → drop (1 + n) (b ∷ text) ≡ drop n text
drop-next n b text = let e : 1 + n ≡ suc n = omega arith in rw e refl

-- the first part between blanks, and the words of the parts behind it
split-first : (text : List ℕ)
    → (tail : List (List ℕ)) × (slice_split is_blank text ≡ take (position_or_len is_blank text) text ∷ tail) × (filter is_word tail ≡ words_in (drop (position_or_len is_blank text) text))
split-first [] = ([], refl, refl)
split-first (b ∷ text) = at (is_blank b) refl (position_or_len is_blank text) (split-first text)
  where
    at : (blank : Bool) → is_blank b ≡ blank → (n : ℕ) → (tail : List (List ℕ)) × (slice_split is_blank text ≡ take n text ∷ tail) × (filter is_word tail ≡ words_in (drop n text))
        → (tail : List (List ℕ)) × (cond blank ([] ∷ slice_split is_blank text) (onto_first b (slice_split is_blank text)) ≡ take (cond (not blank) (1 + n) 0) (b ∷ text) ∷ tail)
        × (filter is_word tail ≡ words_in (drop (cond (not blank) (1 + n) 0) (b ∷ text)))
    at true e n h = (slice_split is_blank text, refl, rw e refl)
    at false e n h = (h.0, ap (onto_first b) h.1 ∙ ap (λ (first : List ℕ). first ∷ h.0) (sym (take-next n b text)), h.2 ∙ ap words_in (sym (drop-next n b text)))

is_word-long : (word : List ℕ) → 0 < length word → is_word word ≡ true
is_word-long [] h = absurd (omega arith)
is_word-long (b ∷ word) h = let e : length (b ∷ word) == 0 ≡ false = grind (arith, nat_tests) in rw e refl

filter-word : (word : List ℕ) (others : List (List ℕ)) → 0 < length word → filter is_word (word ∷ others) ≡ word ∷ filter is_word others
filter-word word others h = rw (is_word-long word h) refl

-- a text that begins with no blank begins with its first word
pub words_in-first : (text : List ℕ) → 0 < position_or_len is_blank text
    → words_in text ≡ take (position_or_len is_blank text) text ∷ words_in (drop (position_or_len is_blank text) text)
words_in-first text h =
    let s = split-first text in
    let within = position_or_len-within is_blank text in
    ap (filter is_word) s.1 ∙ (filter-word (take (position_or_len is_blank text) text) s.0 (omega (arith, length-take (position_or_len is_blank text) text)) ∙ ap (λ (words : List (List ℕ)). take (position_or_len is_blank text) text ∷ words) s.2)

-- how many blanks stand at the front
abbrev pub blanks : List ℕ → ℕ
blanks text = position_or_len (λ b. not (is_blank b)) text

-- blanks at the front change no word
pub words_in-blanks : (text : List ℕ) → words_in text ≡ words_in (drop (blanks text) text)
words_in-blanks [] = refl
words_in-blanks (b ∷ text) = at (is_blank b) refl (blanks text) (words_in-blanks text)
  where
    at : (blank : Bool) → is_blank b ≡ blank → (n : ℕ) → words_in text ≡ words_in (drop n text)
        → filter is_word (cond blank ([] ∷ slice_split is_blank text) (onto_first b (slice_split is_blank text))) ≡ words_in (drop (cond (not (not blank)) (1 + n) 0) (b ∷ text))
    at true e n h = h ∙ ap words_in (sym (drop-next n b text))
    at false e n h = rw e refl

-- behind them stands no blank
pub no_blank-first : (text : List ℕ) → 0 < length (drop (blanks text) text) → 0 < position_or_len is_blank (drop (blanks text) text)
no_blank-first [] h = absurd (omega arith)
no_blank-first (b ∷ text) h = at (is_blank b) refl (blanks text) (no_blank-first text) h
  where
    at : (blank : Bool) → is_blank b ≡ blank → (n : ℕ) → (0 < length (drop n text) → 0 < position_or_len is_blank (drop n text))
        → 0 < length (drop (cond (not (not blank)) (1 + n) 0) (b ∷ text)) → 0 < position_or_len is_blank (drop (cond (not (not blank)) (1 + n) 0) (b ∷ text))
    at true e n more h = rw (drop-next n b text) (more (rw (drop-next n b text) at h))
    at false e n more h = rw e (omega arith)

-- the words are text where each byte is a blank or is printed
pub words_in-text : (text : List ℕ) → list_all is_text (words_in text) ≡ list_all is_text_byte text
words_in-text text = of_filter (slice_split is_blank text) ∙ of_split text
  where
    of_filter : (parts : List (List ℕ)) → list_all is_text (filter is_word parts) ≡ list_all is_text parts
    of_filter [] = refl
    of_filter ([] ∷ parts) = of_filter parts
    of_filter ((b ∷ part) ∷ parts) = rw (filter-word (b ∷ part) parts (omega arith)) (ap (λ (rest : Bool). is_text (b ∷ part) && rest) (of_filter parts))

    regroup : (x y z : Bool) → x && y && z ≡ x && (y && z)
    regroup true y z = refl
    regroup false y z = refl

    of_onto : (b : ℕ) (parts : List (List ℕ)) → list_all is_text (onto_first b parts) ≡ is_ascii_graphic b && list_all is_text parts
    of_onto b [] = regroup (is_ascii_graphic b) true true
    of_onto b (part ∷ parts) = regroup (is_ascii_graphic b) (is_text part) (list_all is_text parts)

    of_split : (text : List ℕ) → list_all is_text (slice_split is_blank text) ≡ list_all is_text_byte text
    of_split [] = refl
    of_split (b ∷ text) = at (is_blank b) (of_split text)
      where
        at : (blank : Bool) → list_all is_text (slice_split is_blank text) ≡ list_all is_text_byte text
            → list_all is_text (cond blank ([] ∷ slice_split is_blank text) (onto_first b (slice_split is_blank text))) ≡ (blank || is_ascii_graphic b) && list_all is_text_byte text
        at true h = h
        at false h = of_onto b (slice_split is_blank text) ∙ ap (λ (rest : Bool). is_ascii_graphic b && rest) h

-- the first word of a text, and the words behind it
pub words_in-taken : (text rest front back : List ℕ) (end : ℕ) → rest ≡ drop (blanks text) text → length rest == 0 ≡ false → end ≡ position_or_len is_blank rest
    → front ≡ take end rest → back ≡ drop end rest → words_in text ≡ front ∷ words_in back
words_in-taken text rest front back end is some place before behind =
    let long : 0 < length rest = grind (arith, nat_tests) in
    let later : 0 < length (drop (blanks text) text) = rw is at long in
    let starts : 0 < position_or_len is_blank rest = rw is (no_blank-first text later) in
    words_in-blanks text ∙ (ap words_in (sym is) ∙ (words_in-first rest starts ∙ rw (before, behind, place) refl))

-- no word, where nothing is left behind the blanks
pub words_in-none : (text rest : List ℕ) → rest ≡ drop (blanks text) text → length rest == 0 ≡ true → words_in text ≡ []
words_in-none text rest is none =
    let nothing : rest ≡ [] = nil_from_length rest (eqb-true (length rest) 0 none) in
    words_in-blanks text ∙ ap words_in (sym is ∙ nothing)
