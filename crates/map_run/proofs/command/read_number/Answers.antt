use Rattle.std.proofs.Common.{◌≡◌, Some, None, sym, ap, ◌∙◌, arith}
use Rattle.machine_defs.specs.Script.{numeral}
use Rattle.row_laws.proofs.SpelledWords.{numeral-is}
use Rattle.map_run.proofs.WrittenNumbers.{numeral-none, numeral-one}
use Rattle.map_run.proofs.command.read_number.Goals as goal
use Rattle.map_run.proofs.command.read_number.Goals.{else-from-number-via-then-from-number+else-number-from, else-from-number-via-else-from-number}

pub returns-in_err-number : goal.returns-in_err-number
returns-in_err-number c =
    let none : numeral c.args.word.now ≡ None = sym (ap numeral c.as_bytes.ensures.value) ∙ sym c.in_err-number.ensures in
    rw c.from_residual.ensures (λ n low high is. numeral-none c.args.word.now n (omega (arith, high, c.ranges.high.fits)) none is)

pub returns-then-number-from : goal.returns-then-number-from
returns-then-number-from c =
    let some : numeral c.args.word.now ≡ Some c.in_ok-number.number = sym (ap numeral c.as_bytes.ensures.value) ∙ sym c.in_ok-number.ensures in
    (omega arith, omega arith, numeral-is c.args.word.now c.in_ok-number.number some)

pub returns-else-from-number : goal.returns-else-from-number
returns-else-from-number c = λ n low high is.
    let some : numeral c.args.word.now ≡ Some c.in_ok-number.number = sym (ap numeral c.as_bytes.ensures.value) ∙ sym c.in_ok-number.ensures in
    let one = numeral-one c.args.word.now c.in_ok-number.number n (omega (arith, high, c.ranges.high.fits)) some is in
    elim c.else-from-number.branch [
      | else-from-number-via-then-from-number+else-number-from w ↦ absurd (omega arith)
      | else-from-number-via-else-from-number w ↦ absurd (omega arith)
    ]
