-- A text that is cut at the first byte of a kind.
use Rattle.std.proofs.Common.{◌≡◌, ℕ, suc, ◌+◌, ◌≤◌, ◌<◌, Bool, true, false, cond, not, List, [], ◌∷◌, length, take, drop, refl, sym, ap, ap₂, ◌∙◌, arith}
use Rattle.std.specs.List.{position_or_len, slice_split, onto_first}
use Rattle.text_words.proofs.WordCuts.{take-next}

drop-next-one : (n b : ℕ) (text : List ℕ) → drop (1 + n + 1) (b ∷ text) ≡ drop (n + 1) text
drop-next-one n b text = let e : 1 + n + 1 ≡ suc (n + 1) = omega arith in rw e refl

-- the first part ends at the first such byte
pub split-at : (p : ℕ → Bool) (text : List ℕ) → position_or_len p text < length text
    → slice_split p text ≡ take (position_or_len p text) text ∷ slice_split p (drop (position_or_len p text + 1) text)
split-at p [] h = absurd (omega arith)
split-at p (b ∷ text) h = at (p b) (position_or_len p text) (split-at p text) h
  where
    at : (stops : Bool) (n : ℕ) → (n < length text → slice_split p text ≡ take n text ∷ slice_split p (drop (n + 1) text)) → cond (not stops) (1 + n) 0 < suc (length text)
        → cond stops ([] ∷ slice_split p text) (onto_first b (slice_split p text))
        ≡ take (cond (not stops) (1 + n) 0) (b ∷ text) ∷ slice_split p (drop (cond (not stops) (1 + n) 0 + 1) (b ∷ text))
    at true n more h = refl
    at false n more h =
        ap (onto_first b) (more (omega arith)) ∙ ap₂ ◌∷◌ (sym (take-next n b text)) (ap (slice_split p) (sym (drop-next-one n b text)))

-- where no such byte stands, the text is the one part
pub split-none : (p : ℕ → Bool) (text : List ℕ) → length text ≤ position_or_len p text → slice_split p text ≡ text ∷ []
split-none p [] h = refl
split-none p (b ∷ text) h = at (p b) (position_or_len p text) (split-none p text) h
  where
    at : (stops : Bool) (n : ℕ) → (length text ≤ n → slice_split p text ≡ text ∷ []) → suc (length text) ≤ cond (not stops) (1 + n) 0
        → cond stops ([] ∷ slice_split p text) (onto_first b (slice_split p text)) ≡ (b ∷ text) ∷ []
    at true n more h = absurd (omega arith)
    at false n more h = ap (onto_first b) (more (omega arith))

-- there is always a first part
pub has_parts : (p : ℕ → Bool) (text : List ℕ) → (first : List ℕ) × (others : List (List ℕ)) × (slice_split p text ≡ first ∷ others)
has_parts p [] = ([], [], refl)
has_parts p (b ∷ text) = at (p b) (slice_split p text)
  where
    at : (stops : Bool) (parts : List (List ℕ)) → (first : List ℕ) × (others : List (List ℕ)) × (cond stops ([] ∷ parts) (onto_first b parts) ≡ first ∷ others)
    at true parts = ([], parts, refl)
    at false [] = (b ∷ [], [], refl)
    at false (part ∷ parts) = (b ∷ part, parts, refl)
