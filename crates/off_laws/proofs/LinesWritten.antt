-- The words of a line that is written with one space between them are read.
use Rattle.std.proofs.Common.{◌≡◌, ℕ, ◌==◌, ◌&&◌, ◌||◌, not, Bool, true, false, All, List, [], ◌∷◌, ◌++◌, filter, refl, sym, ap, ◌∙◌, arith, append-nil}
use Rattle.std.specs.List.{list_all, flat_map, slice_split}
use Rattle.std.specs.Char.{is_ascii_graphic}
use Rattle.std.proofs.lemmas.Bool.{and_parts, and_from, or_from}
use Rattle.std.proofs.lemmas.Bool.Decides.{nat_tests}
use Rattle.std.proofs.lemmas.List.Elements.{All-head, All-tail, All-cons}
use Rattle.std.proofs.lemmas.List.Splits.{slice_split_none, slice_split_at}
use Rattle.map_defs.specs.TextWords.{is_comment_sign, is_blank, is_word, is_text, words_of}
use Rattle.off_laws.proofs.BytesWritten.{all-before, all-uncut, all-weaker, all-both}

-- a printed character that begins no comment
abbrev pub is_plain : ℕ → Bool
is_plain b = is_ascii_graphic b && not (is_comment_sign b)

-- a word of such characters
pub record IsPlain (word : List ℕ) : Type 0 where
  pub some : is_word word ≡ true
  pub plain : list_all is_plain word ≡ true

-- a line: its first word, and the words behind it
pub record Words : Type 0 where
  pub first : List ℕ
  pub others : List (List ℕ)

pub record ArePlain (words : Words) : Type 0 where
  pub first : IsPlain words.first
  pub others : All IsPlain words.others

-- words behind a space each
abbrev pub behind_spaces : List (List ℕ) → List ℕ
behind_spaces words = flat_map (λ (word : List ℕ). 32 ∷ word) words

abbrev pub line_text : Words → List ℕ
line_text words = words.first ++ behind_spaces words.others

plain-blank : (b : ℕ) → is_plain b ≡ true → is_blank b ≡ false
plain-blank b plain =
    let graphic = (and_parts (is_ascii_graphic b) (not (is_comment_sign b)) plain).0 in
    let space : (b == 32) ≡ false = grind (arith, nat_tests) in
    let tab : (b == 9) ≡ false = grind (arith, nat_tests) in
    let return : (b == 13) ≡ false = grind (arith, nat_tests) in
    or_from ((b == 32) || (b == 9)) (b == 13) (or_from (b == 32) (b == 9) space tab) return

plain-graphic : (b : ℕ) → is_plain b ≡ true → is_ascii_graphic b ≡ true
plain-graphic b plain = (and_parts (is_ascii_graphic b) (not (is_comment_sign b)) plain).0

-- a byte within a line: it begins no comment, and ends no line
abbrev pub is_inner : ℕ → Bool
is_inner b = not (is_comment_sign b) && not (b == 10)

is-false : (b : Bool) → not b ≡ true → b ≡ false
is-false true e = sym e
is-false false e = refl

inner-comment : (b : ℕ) → is_inner b ≡ true → is_comment_sign b ≡ false
inner-comment b inner = is-false (is_comment_sign b) (and_parts (not (is_comment_sign b)) (not (b == 10)) inner).0

pub inner-feed : (b : ℕ) → is_inner b ≡ true → (b == 10) ≡ false
inner-feed b inner = is-false (b == 10) (and_parts (not (is_comment_sign b)) (not (b == 10)) inner).1

plain-inner : (b : ℕ) → is_plain b ≡ true → is_inner b ≡ true
plain-inner b plain =
    let p = and_parts (is_ascii_graphic b) (not (is_comment_sign b)) plain in
    let graphic = p.0 in
    let feed : (b == 10) ≡ false = grind (arith, nat_tests) in
    and_from (not (is_comment_sign b)) (not (b == 10)) p.1 (ap not feed)

word-inner : (word : List ℕ) → IsPlain word → list_all is_inner word ≡ true
word-inner word plain = all-weaker is_plain is_inner plain-inner word plain.plain

spaces-inner : (words : List (List ℕ)) → All IsPlain words → list_all is_inner (behind_spaces words) ≡ true
spaces-inner [] plain = refl
spaces-inner (word ∷ words) plain =
    all-both is_inner word (behind_spaces words) (word-inner word (All-head IsPlain word words plain)) (spaces-inner words (All-tail IsPlain word words plain))

pub line-inner : (words : Words) → ArePlain words → list_all is_inner (line_text words) ≡ true
line-inner words plain = all-both is_inner words.first (behind_spaces words.others) (word-inner words.first plain.first) (spaces-inner words.others plain.others)

-- a line is cut at its spaces
cut-words : (word : List ℕ) (words : List (List ℕ)) → IsPlain word → All IsPlain words → slice_split is_blank (word ++ behind_spaces words) ≡ word ∷ words
cut-words word [] one plain = ap (slice_split is_blank) (append-nil word) ∙ slice_split_none is_blank word (all-uncut is_plain is_blank plain-blank word one.plain)
cut-words word (next ∷ words) one plain =
    slice_split_at is_blank word 32 (next ++ behind_spaces words) (all-uncut is_plain is_blank plain-blank word one.plain) refl
    ∙ ap (λ (parts : List (List ℕ)). word ∷ parts) (cut-words next words (All-head IsPlain next words plain) (All-tail IsPlain next words plain))

all-words : (words : List (List ℕ)) → All IsPlain words → filter is_word words ≡ words
all-words [] plain = refl
all-words (word ∷ words) plain =
    let long = (All-head IsPlain word words plain).some in
    rw long (ap (λ (rest : List (List ℕ)). word ∷ rest) (all-words words (All-tail IsPlain word words plain)))

-- the words of a line are read
pub line-words : (words : Words) → ArePlain words → words_of (line_text words) ≡ words.first ∷ words.others
line-words words plain =
    ap (λ (line : List ℕ). filter is_word (slice_split is_blank line)) (all-before is_inner is_comment_sign inner-comment (line_text words) (line-inner words plain))
    ∙ ap (filter is_word) (cut-words words.first words.others plain.first plain.others)
    ∙ all-words (words.first ∷ words.others) (All-cons IsPlain words.first words.others plain.first plain.others)

all-text : (words : List (List ℕ)) → All IsPlain words → list_all is_text words ≡ true
all-text [] plain = refl
all-text (word ∷ words) plain =
    and_from (is_text word) (list_all is_text words) (all-weaker is_plain is_ascii_graphic plain-graphic word (All-head IsPlain word words plain).plain)
    (all-text words (All-tail IsPlain word words plain))

-- and they are text
pub words-text : (words : Words) → ArePlain words → list_all is_text (words.first ∷ words.others) ≡ true
words-text words plain = all-text (words.first ∷ words.others) (All-cons IsPlain words.first words.others plain.first plain.others)
