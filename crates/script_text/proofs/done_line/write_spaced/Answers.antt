use Rattle.std.proofs.Common.{◌≡◌, ◌+◌, ◌-◌, arith, rules}
use Rattle.std.proofs.lemmas.Fmt.{length-decimal-le}
use Rattle.std.proofs.lemmas.List.{drop-set}
use Rattle.script_text.proofs.done_line.write_spaced.Goals as goal

pub write_digits-digits-requires : goal.write_digits-digits-requires
write_digits-digits-requires c = (omega (arith, length-decimal-le 10 c.args.number (omega arith) (omega arith) (omega (arith, c.ranges.number.fits))), search rules)

pub overflow_sub-line : goal.overflow_sub-line
overflow_sub-line c = omega (arith, length-decimal-le 10 c.args.number (omega arith) (omega arith) (omega (arith, c.ranges.number.fits)))

pub overflow_sub-result : goal.overflow_sub-result
overflow_sub-result c = omega (arith, length-decimal-le 10 c.args.number (omega arith) (omega arith) (omega (arith, c.ranges.number.fits)))

pub returns-clause-start : goal.returns-clause-start
returns-clause-start c = omega (arith, length-decimal-le 10 c.args.number (omega arith) (omega arith) (omega (arith, c.ranges.number.fits)))

pub returns-clause-written : goal.returns-clause-written
returns-clause-written c =
    let w = c.write_digits-digits in
    let long = length-decimal-le 10 c.args.number (omega arith) (omega arith) (omega (arith, c.ranges.number.fits)) in
    let e : w.result - 1 + 1 ≡ w.result = omega arith in
    rw (drop-set w.new.buf (w.result - 1) 32 (omega arith), e, w.ensures.written)
