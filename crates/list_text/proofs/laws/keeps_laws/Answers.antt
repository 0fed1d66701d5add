use Rattle.std.proofs.Common.{◌<◌, refl, arith}
use Rattle.list_text.proofs.LawParts.{lawful-all}
use Rattle.list_text.proofs.laws.keeps_laws.Goals as goal

pub returns : goal.returns
returns g c =
    let past = c.loop-link-test.false in
    let high : c.args.dim < c.loop-link.link = omega arith in
    (λ _. lawful-all g.K.Kind.kind c.args.dim c.args.table.now c.args.dart c.loop-link.link c.requires.each high c.loop-link.invariant, λ _. refl)
