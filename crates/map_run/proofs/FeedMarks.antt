-- The first line feed of a text, from the marks of many bytes at once.
use Rattle.std.proofs.Common.{◌≡◌, ℕ, ◌+◌, ◌*◌, ◌<◌, ◌≤◌, ◌%◌, ◌^◌, ◌==◌, eqb, Bool, true, false, not, cond, List, [], ◌∷◌, map, length, drop, refl, sym, ap, ap₂, ◌∙◌, arith}
use Rattle.std.proofs.lemmas.Simd.{chunk-drop, length-chunk, leading_from_mask_l, trailing_mask_l, mask_l-mod}
use Rattle.std.proofs.lemmas.List.{length-map}
use Rattle.std.proofs.lemmas.List.Folds.{prefix_len-append}
use Rattle.std.proofs.lemmas.List.Sums.{prefix_len-le-length}
use Rattle.std.proofs.lemmas.Bool.{eq-eqb, ne_eqb}
use Rattle.std.specs.List.{position_or_len}
use lib.Lanes.{chunk, mask_l, top}
use lib.Count.{count_trailing_zeros}

abbrev pub feed : ℕ → Bool
feed b = b == 10

-- what the comparison of a byte leaves in its lane
abbrev pub lane : ℕ → ℕ
lane b = cond (eqb b 10) 255 0

top-lane : (b : Bool) → top 7 (cond b 255 0) ≡ b
top-lane true = refl
top-lane false = refl

tops : (bytes : List ℕ) → map (top 7) (map lane bytes) ≡ map feed bytes
tops [] = refl
tops (b ∷ bytes) = ap₂ (λ (x : Bool) (xs : List Bool). x ∷ xs) (top-lane (b == 10)) (tops bytes)

-- the marks of at most 64 bytes that were compared
pub marked : (bytes lanes : List ℕ) → length bytes ≤ 64 → lanes ≡ map lane bytes → mask_l (map (top 7) lanes) % 2 ^ 64 ≡ mask_l (map feed bytes)
marked bytes lanes few are =
    ap (λ (l : List ℕ). mask_l (map (top 7) l) % 2 ^ 64) are ∙ (ap (λ (l : List Bool). mask_l l % 2 ^ 64) (tops bytes) ∙ mask_l-mod (map feed bytes) 64 (omega (arith, length-map bytes feed)))

none_fails : (b : Bool) (n l m : ℕ) → n ≤ l → cond (not b) (1 + n) 0 ≡ 1 + l → (n ≡ l → m ≡ 0) → cond b 1 0 + 2 * m ≡ 0
none_fails true n l m le e ih = absurd (omega arith)
none_fails false n l m le e ih = let z = ih (omega arith) in omega arith

unmarked : (bytes : List ℕ) → position_or_len feed bytes ≡ length bytes → mask_l (map feed bytes) ≡ 0
unmarked [] e = refl
unmarked (b ∷ bytes) e = none_fails (feed b) _ (length bytes) _ (prefix_len-le-length (λ y. not (feed y)) bytes) (omega arith) (unmarked bytes)

split : (text : List ℕ) (i n : ℕ) → position_or_len feed (drop i text) ≡ cond (eqb (position_or_len feed (chunk i n text)) (length (chunk i n text))) (length (chunk i n text) + position_or_len feed (drop (i + n) text)) (position_or_len feed (chunk i n text))
split text i n = ap (position_or_len feed) (chunk-drop i n text) ∙ prefix_len-append (λ y. not (feed y)) (chunk i n text) (drop (i + n) text)

-- no mark: the first line feed stands behind these bytes
pub goes_on : (text : List ℕ) (i n : ℕ) → i + n ≤ length text → mask_l (map feed (chunk i n text)) ≡ 0 → position_or_len feed (drop i text) ≡ n + position_or_len feed (drop (i + n) text)
goes_on text i n room none =
    let c = chunk i n text in
    split text i n ∙ (ap (λ b. cond b (length c + position_or_len feed (drop (i + n) text)) (position_or_len feed c)) (eq-eqb _ _ (leading_from_mask_l feed c none))
    ∙ ap (λ k. k + position_or_len feed (drop (i + n) text)) (length-chunk i n text room))

-- the lowest mark is the first line feed
pub ends : (text : List ℕ) (i n : ℕ) → i + n ≤ length text → n ≤ 64 → 0 < mask_l (map feed (chunk i n text)) → position_or_len feed (drop i text) ≡ count_trailing_zeros 64 (mask_l (map feed (chunk i n text)))
ends text i n room few some =
    let c = chunk i n text in
    split text i n ∙ (ap (λ b. cond b (length c + position_or_len feed (drop (i + n) text)) (position_or_len feed c)) (ne_eqb _ _ (λ (e : position_or_len feed c ≡ length c). omega (arith, unmarked c e)))
    ∙ sym (trailing_mask_l feed 64 c (omega (arith, length-chunk i n text room)) some))
