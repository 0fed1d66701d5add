use Rattle.std.proofs.Common.{◌≡◌, ◌+◌, ◌^◌, ◌≤◌, true, take, arith}
use Rattle.std.specs.List.{list_all}
use Rattle.std.specs.Char.{is_ascii_digit}
use Rattle.std.proofs.lemmas.Grind.{common_steps}
use Rattle.std.proofs.Math.Nat.{pow-le-pow_right}
use Rattle.script_text.proofs.FrontCuts.{numerals-long}
use Rattle.script_text.proofs.front.number_at_front.Goals as goal

pub returns-then-digits-eq19 : goal.returns-then-digits-eq19
returns-then-digits-eq19 c =
    let all : list_all is_ascii_digit (take (c.loop-byte.byte-index + 1) c.args.line.now) ≡ true = grind (arith, common_steps) in
    numerals-long c.args.line.now (c.loop-byte.byte-index + 1) (omega arith) (omega arith) all

pub overflow_mul-value : goal.overflow_mul-value
overflow_mul-value c =
    let bound : 10 ^ c.loop-byte.byte-index ≤ 10 ^ 18 = pow-le-pow_right {n = 10} (omega arith) {i = c.loop-byte.byte-index} {j = 18} (omega arith) in
    omega arith

pub overflow_add-value : goal.overflow_add-value
overflow_add-value c =
    let bound : 10 ^ c.loop-byte.byte-index ≤ 10 ^ 18 = pow-le-pow_right {n = 10} (omega arith) {i = c.loop-byte.byte-index} {j = 18} (omega arith) in
    omega arith
