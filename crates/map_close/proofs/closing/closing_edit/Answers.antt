use Rattle.std.proofs.Common.{◌<◌, subst, arith}
use Rattle.cell_edit.specs.Stars.{Stars}
use Rattle.map_close.specs.NewLinks.{IsClosedBelow}
use Rattle.map_close.proofs.ClosedLinks.{closing-plans}
use Rattle.map_close.proofs.ClosingRows.{closed-ends}
use Rattle.map_close.proofs.closing.closing_edit.Goals as goal

pub returns : goal.returns
returns g c =
    let k = g.K.Kind.kind in
    let rows = c.args.links.now.rows in
    let sound = c.made-number-end.ensures.sound in
    let stars : Stars = c.in_ok-stars.stars in
    let can = c.in_ok-stars.ensures in
    let past : stars.made < c.loop-number.number = omega (arith, can.made, c.made-number-end.ensures.made, c.loop-number-test.false) in
    let closed : IsClosedBelow k g.row.DIM rows c.args.link stars c.loop-number.number c.loop-number.born =
    subst (λ (s : Stars). IsClosedBelow k g.row.DIM rows c.args.link s c.loop-number.number c.loop-number.born) c.stars.view_is c.loop-number.invariant in
    rw (c.births-births.ensures, c.new-2.ensures.items, c.new-3.ensures.items)
    (closing-plans k g.row.DIM rows sound c.made-number-end.ensures.low c.args.link c.requires.link stars can _
    (closed-ends k g.row.DIM rows sound c.args.link stars can c.loop-number.number c.loop-number.born closed c.requires.link past))
