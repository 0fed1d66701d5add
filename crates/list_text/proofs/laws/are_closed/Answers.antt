use Rattle.std.proofs.Common.{◌<◌, refl, arith}
use Rattle.list_text.proofs.LawParts.{closed-all}
use Rattle.list_text.proofs.laws.are_closed.Goals as goal

pub returns : goal.returns
returns g c =
    let past = c.loop-other-test.false in
    let high : c.args.dim < c.loop-other.other = omega arith in
    (λ _. closed-all g.K.Kind.kind c.args.dim c.args.table.now c.args.link c.args.dart c.args.to c.loop-other.other c.requires.each high c.loop-other.invariant, λ _. refl)
