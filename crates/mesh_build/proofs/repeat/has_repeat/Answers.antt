use Rattle.std.proofs.Common.{◌≢◌, ℕ, ◌<◌, ◌∷◌, length, get_or, ◌∙◌, arith}
use Rattle.std.proofs.lemmas.List.{length-set, get_or_read}
use Rattle.mesh_build.proofs.Repeats.{repeats-on, marked-on, stamped-on}
use Rattle.mesh_build.proofs.repeat.has_repeat.Goals as goal

pub loop-point-preserved : goal.loop-point-preserved
loop-point-preserved c =
    let i : ℕ = c.loop-point.point-index in
    let p : ℕ = get_or c.args.corners.now i 0 in
    let inside : p < length c.loop-point.marks.items = omega (arith, c.requires.points i 0 c.loop-point-test.true) in
    let fresh : get_or c.loop-point.marks.items p 0 ≢ c.args.stamp = λ e. c.if-index-stamp.false (get_or_read c.loop-point.marks.items p c.index.result.now inside c.index.ensures 0 ∙ e) in
    record {
      seen = p ∷ c.loop-point.invariant.seen;
      rest = repeats-on c.loop-point.marks.items c.args.corners.now c.loop-point.invariant.seen c.args.stamp i c.loop-point-test.true inside fresh c.loop-point.invariant.marked ∙ c.loop-point.invariant.rest;
      marked = marked-on c.loop-point.marks.items c.loop-point.invariant.seen c.args.stamp p inside c.loop-point.invariant.marked;
      stamped = stamped-on c.loop-point.marks.items c.args.stamp p c.loop-point.invariant.stamped;
      long = length-set c.loop-point.marks.items p c.args.stamp ∙ c.loop-point.invariant.long;
    }
