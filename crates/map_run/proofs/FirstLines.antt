-- The first line of a text, by the place of its line feed.
use Rattle.std.proofs.Common.{◌≡◌, ℕ, ◌+◌, ◌==◌, Bool, true, false, cond, List, [], ◌∷◌, length, take, drop, Some, None, ltb, refl, ◌∙◌, arith, add-one}
use Rattle.std.specs.List.{position, position_or_len}
use Rattle.std.proofs.lemmas.Bool.{ltb-true, ltb-false}
use Rattle.std.proofs.lemmas.List.Splits.{slice_split_first, slice_split_none}
use Rattle.std.proofs.lemmas.List.Sums.{fails_before_first}
use Rattle.machine_defs.specs.Script.{lines_of}

abbrev feed : ℕ → Bool
feed b = b == 10

found : (b : Bool) (n end : ℕ) → cond b (Some n) None ≡ Some end → (b ≡ true) × (n ≡ end)
found true n end e = (refl, cc)
found false n end e = absurd (cc)

missed : (b : Bool) (n : ℕ) → cond b (Some n) None ≡ None → b ≡ false
missed true n e = absurd (cc)
missed false n e = refl

pub split_at : (text : List ℕ) (end : ℕ) → position feed text ≡ Some end → lines_of text ≡ take end text ∷ lines_of (drop (end + 1) text)
split_at text end h =
    let n : ℕ = position_or_len feed text in
    let at = found (ltb n (length text)) n end h in
    let within = ltb-true n (length text) at.0 in
    let split = slice_split_first feed text 0 within in
    let same : position_or_len feed text ≡ end = at.1 in
    split ∙ rw (same, add-one) refl

pub split_none : (text : List ℕ) → position feed text ≡ None → lines_of text ≡ text ∷ []
split_none text h =
    let n : ℕ = position_or_len feed text in
    let none = missed (ltb n (length text)) n h in
    let beyond = ltb-false n (length text) none in
    slice_split_none feed text (λ k d within. fails_before_first feed text k d (omega arith))
