-- Lines that are plain: blanks and printed characters, without a comment.
use Rattle.std.proofs.Common.{◌≡◌, ℕ, suc, ◌+◌, ◌==◌, Bool, true, false, cond, not, List, [], ◌∷◌, take, refl, ap, ◌∙◌, subst, eqb-true, arith}
use Rattle.std.specs.List.{position_or_len, list_all}
use Rattle.std.specs.Prelude.{slice_index}
use Rattle.std.proofs.lemmas.Bool.{and_parts, false≢true}
use Rattle.map_defs.specs.TextWords.{uncommented, is_comment_sign}
use Rattle.text_words.specs.Taking.{is_text_byte}
use Rattle.text_words.proofs.WordCuts.{take-next}
use Rattle.off_text.specs.Reading.{is_line_feed, is_plain}

-- what stands before the first byte that is not plain
pub plain-front : (text : List ℕ) → list_all is_plain (take (position_or_len (λ b. not (is_plain b)) text) text) ≡ true
plain-front [] = refl
plain-front (b ∷ text) = at (is_plain b) refl (position_or_len (λ b. not (is_plain b)) text) (plain-front text)
  where
    at : (plain : Bool) → is_plain b ≡ plain → (n : ℕ) → list_all is_plain (take n text) ≡ true → list_all is_plain (take (cond (not (not plain)) (1 + n) 0) (b ∷ text)) ≡ true
    at true e n rest = rw (take-next n b text) (rw e rest)
    at false e n rest = refl

-- a line feed is not plain
no-feed : (b : ℕ) → is_plain b ≡ true → is_line_feed b ≡ false
no-feed b plain = at (b == 10) refl
  where
    at : (feed : Bool) → (b == 10) ≡ feed → feed ≡ false
    at true e = absurd (false≢true (subst (λ (x : ℕ). is_plain x ≡ true) (eqb-true b 10 e) plain))
    at false e = refl

-- where that is a line feed, it is the first one
pub feed-place : (text : List ℕ) → slice_index text (position_or_len (λ b. not (is_plain b)) text) ≡ 10
    → position_or_len is_line_feed text ≡ position_or_len (λ b. not (is_plain b)) text
feed-place [] feed = refl
feed-place (b ∷ text) feed = at (is_plain b) refl (position_or_len (λ b. not (is_plain b)) text) (feed-place text) feed
  where
    at : (plain : Bool) → is_plain b ≡ plain → (n : ℕ) → (slice_index text n ≡ 10 → position_or_len is_line_feed text ≡ n)
        → slice_index (b ∷ text) (cond (not (not plain)) (1 + n) 0) ≡ 10 → cond (not (is_line_feed b)) (1 + position_or_len is_line_feed text) 0 ≡ cond (not (not plain)) (1 + n) 0
    at true e n more here = rw (no-feed b e) (ap (λ (m : ℕ). 1 + m) (more (next here)))
      where
        next : slice_index (b ∷ text) (1 + n) ≡ 10 → slice_index text n ≡ 10
        next h = let s : 1 + n ≡ suc n = omega arith in rw s at h
    at false e n more here = rw here refl

-- a plain line has no comment
pub plain-whole : (line : List ℕ) → list_all is_plain line ≡ true → uncommented line ≡ line
plain-whole [] all = refl
plain-whole (b ∷ line) all =
    let both = and_parts (is_plain b) (list_all is_plain line) all in
    at (is_comment_sign b) (and_parts (is_text_byte b) (not (is_comment_sign b)) both.0).1 (position_or_len is_comment_sign line) (plain-whole line both.1)
  where
    at : (sign : Bool) → not sign ≡ true → (n : ℕ) → take n line ≡ line → take (cond (not sign) (1 + n) 0) (b ∷ line) ≡ b ∷ line
    at true e n rest = absurd (false≢true e)
    at false e n rest = take-next n b line ∙ ap (λ (bytes : List ℕ). b ∷ bytes) rest

-- and its bytes are those of text
pub plain-text : (line : List ℕ) → list_all is_plain line ≡ true → list_all is_text_byte line ≡ true
plain-text [] all = refl
plain-text (b ∷ line) all =
    let both = and_parts (is_plain b) (list_all is_plain line) all in
    let text : is_text_byte b ≡ true = (and_parts (is_text_byte b) (not (is_comment_sign b)) both.0).0 in
    rw text (plain-text line both.1)
