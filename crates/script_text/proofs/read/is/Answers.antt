use Rattle.std.proofs.Common.{◌≡◌, ℕ, ◌+◌, ◌<◌, List, length, drop, get_or, ◌∙◌, arith, rules}
use Rattle.std.specs.Str.{bytes_eq}
use Rattle.std.proofs.lemmas.List.{drop_more, drop_all}
use Rattle.script_text.proofs.read.is.Goals as goal

-- an equal byte leaves the question to the bytes behind it
equal-byte : (word name : List ℕ) (i : ℕ) → i < length word → i < length name → get_or word i 0 ≡ get_or name i 0
    → bytes_eq (drop i word) (drop i name) ≡ bytes_eq (drop (i + 1) word) (drop (i + 1) name)
equal-byte word name i in_word in_name same = rw (drop_more word i 0 in_word, drop_more name i 0 in_name, same) (search rules)

pub loop-place-preserved : goal.loop-place-preserved
loop-place-preserved c =
    c.loop-place.invariant ∙ equal-byte c.args.word.now c.args.name.now c.loop-place.place (omega (arith, c.if-word-name.false, c.loop-place-test.true)) c.loop-place-test.true c.if-word-place.false

pub returns : goal.returns
returns c = search (rules, drop_all)
