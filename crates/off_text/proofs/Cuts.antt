-- The lines of a text, cut off one after the other.
use Rattle.std.proofs.Common.{◌≡◌, ℕ, suc, ◌+◌, ◌<◌, Bool, true, false, cond, not, List, [], ◌∷◌, length, take, drop, refl, sym, ap, ap₂, ◌∙◌, arith}
use Rattle.std.specs.List.{position_or_len, onto_first}
use Rattle.map_defs.specs.Off.{lines_of}
use Rattle.text_words.proofs.WordCuts.{take-next}
use Rattle.off_text.specs.Reading.{is_line_feed}

drop-next-one : (n b : ℕ) (text : List ℕ) → drop (1 + n + 1) (b ∷ text) ≡ drop (n + 1) text
drop-next-one n b text = let e : 1 + n + 1 ≡ suc (n + 1) = omega arith in rw e refl

-- the first line ends at the first line feed
pub lines_of-first : (text : List ℕ) → 0 < length text
    → lines_of text ≡ take (position_or_len is_line_feed text) text ∷ lines_of (drop (position_or_len is_line_feed text + 1) text)
lines_of-first [] h = absurd (omega arith)
lines_of-first (b ∷ []) h = at (is_line_feed b)
  where
    at : (feed : Bool) → cond feed ([] ∷ []) ((b ∷ []) ∷ []) ≡ take (cond (not feed) (1 + 0) 0) (b ∷ []) ∷ lines_of (drop (cond (not feed) (1 + 0) 0 + 1) (b ∷ []))
    at true = refl
    at false = refl
lines_of-first (b ∷ c ∷ text) h = at (is_line_feed b) (position_or_len is_line_feed (c ∷ text)) (lines_of-first (c ∷ text) (omega arith))
  where
    at : (feed : Bool) (n : ℕ) → lines_of (c ∷ text) ≡ take n (c ∷ text) ∷ lines_of (drop (n + 1) (c ∷ text))
        → cond feed ([] ∷ lines_of (c ∷ text)) (onto_first b (lines_of (c ∷ text)))
        ≡ take (cond (not feed) (1 + n) 0) (b ∷ c ∷ text) ∷ lines_of (drop (cond (not feed) (1 + n) 0 + 1) (b ∷ c ∷ text))
    at true n more = refl
    at false n more = ap (onto_first b) more ∙ ap₂ ◌∷◌ (sym (take-next n b (c ∷ text))) (ap lines_of (sym (drop-next-one n b (c ∷ text))))
