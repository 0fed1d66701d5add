use Rattle.std.proofs.Common.{◌≡◌, ◌+◌, ◌≤◌, length, Contains, sym, ap, ◌∙◌, arith}
use Rattle.cell_edit.specs.Stars.{star_of}
use Rattle.face_center.specs.Hanging.{tip_of}
use Rattle.cell_edit.proofs.Beyond.{none-unless}
use Rattle.face_center.proofs.Tips.{star-none, tip-none, tip-beyond, tip-small}
use Rattle.face_center.proofs.hanging.edge_numbers.Goals as goal

pub returns-in_default-clause-begin : goal.returns-in_default-clause-begin
returns-in_default-clause-begin c =
    let none : c.args.number ≡ 0 = c.new.ensures.zero.0 (none-unless c.new.result c.in_default.not-Some) in
    sym (ap (star_of c.args.stars.now) none ∙ star-none c.args.stars.now c.requires.pair)

pub returns-in_default-clause-end : goal.returns-in_default-clause-end
returns-in_default-clause-end c =
    let none : c.args.number ≡ 0 = c.new.ensures.zero.0 (none-unless c.new.result c.in_default.not-Some) in
    sym (ap (tip_of c.args.stars.now) none ∙ tip-none c.args.stars.now c.requires.pair)

pub tip-requires : goal.tip-requires
tip-requires c =
    let key : Contains c.args.stars.now.keys c.in-Some.dart = rw c.in-Some.ensures.same (c.requires.key (λ none. omega (arith, c.in-Some.ensures.same))) in
    let small : star_of c.args.stars.now c.in-Some.dart + length c.args.stars.now.keys ≤ 12582912 = tip-small c.args.stars.now c.requires.pair c.in-Some.dart key in
    omega (arith, c.begin_of-begin.ensures)

pub returns-clause-end : goal.returns-clause-end
returns-clause-end c =
    let key : Contains c.args.stars.now.keys c.in-Some.dart = rw c.in-Some.ensures.same (c.requires.key (λ none. omega (arith, c.in-Some.ensures.same))) in
    let beyond : tip_of c.args.stars.now c.in-Some.dart ≡ star_of c.args.stars.now c.in-Some.dart + length c.args.stars.now.keys = tip-beyond c.args.stars.now c.requires.pair c.in-Some.dart key in
    let end : c.number-2.result ≡ tip_of c.args.stars.now c.in-Some.dart = omega (arith, c.number-2.ensures.same, c.tip.ensures, c.begin_of-begin.ensures) in
    end ∙ ap (tip_of c.args.stars.now) c.in-Some.ensures.same
