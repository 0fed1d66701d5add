use Rattle.std.proofs.Common.{◌≡◌, List, get_or, sym, ap, ◌∙◌, subst, arith}
use Rattle.sewing.specs.Triples.{Triple}
use Rattle.cell_edit.proofs.CornerList.{corners-none, corners-skip, corners-push, corners-all}
use Rattle.cell_edit.proofs.firsts.corners.Goals as goal

pub loop-pair-init : goal.loop-pair-init
loop-pair-init c = rw c.in_ok-corners.ensures.items (corners-none c.args.pairs.now)

pub loop-pair-preserved-then-pair-ne0 : goal.loop-pair-preserved-then-pair-ne0
loop-pair-preserved-then-pair-ne0 c =
    corners-skip c.args.pairs.now c.requires c.loop-pair.pair-index c.pair-item.result c.loop-pair.corners.items c.loop-pair-test.true c.pair-item.is c.loop-pair.invariant
    (λ zero. c.if-pair-ne0.true (ap (λ (p : Triple). p.t) c.pair.view_is ∙ zero))

pub loop-pair-preserved : goal.loop-pair-preserved
loop-pair-preserved c =
    let pairs : List Triple = c.args.pairs.now in
    let q : Triple = record { x = c.pair.inside.x; y = c.pair.inside.y; t = c.pair.inside.t } in
    let at : q ≡ get_or pairs c.loop-pair.pair-index q = subst (λ (p : Triple). p ≡ get_or pairs c.loop-pair.pair-index p) (sym c.pair.view_is) c.pair-item.is in
    rw c.in_ok-push.ensures.items (corners-push pairs c.requires c.loop-pair.pair-index q c.loop-pair.corners.items c.loop-pair-test.true at c.loop-pair.invariant c.if-pair-ne0.false)

pub returns-clause-members : goal.returns-clause-members
returns-clause-members c = (corners-all c.args.pairs.now c.loop-pair.pair-index c.loop-pair.corners.items (omega (arith, c.loop-pair-test.false)) c.loop-pair.invariant).members
