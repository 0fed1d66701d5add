use Rattle.std.proofs.Common.{◌^◌, ◌≤◌, sym, ◌∙◌, arith}
use Rattle.std.proofs.Math.Nat.{pow-le-pow_right}
use Rattle.text_words.proofs.Digits.{numeral-short}
use Rattle.text_words.proofs.spelled.read_numeral.Goals as goal

pub overflow_mul-value : goal.overflow_mul-value
overflow_mul-value c =
    let few = numeral-short c.args.word.now (sym c.may_be_numeral.ensures ∙ c.if-not-may_be_numeral.false) in
    let short : c.loop-byte.byte-index ≤ 18 = omega arith in
    let bound : 10 ^ c.loop-byte.byte-index ≤ 10 ^ 18 = pow-le-pow_right {n = 10} (omega arith) {i = c.loop-byte.byte-index} {j = 18} short in
    omega arith

pub overflow_add-value : goal.overflow_add-value
overflow_add-value c =
    let few = numeral-short c.args.word.now (sym c.may_be_numeral.ensures ∙ c.if-not-may_be_numeral.false) in
    let short : c.loop-byte.byte-index ≤ 18 = omega arith in
    let bound : 10 ^ c.loop-byte.byte-index ≤ 10 ^ 18 = pow-le-pow_right {n = 10} (omega arith) {i = c.loop-byte.byte-index} {j = 18} short in
    omega arith
