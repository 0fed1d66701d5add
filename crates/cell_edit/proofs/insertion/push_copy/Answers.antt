use Rattle.std.proofs.Common.{◌≢◌, ◌<◌, arith}
use Rattle.cell_edit.specs.Stars.{star_of}
use Rattle.cell_edit.proofs.Beyond.{none-unless}
use Rattle.cell_edit.proofs.CopyEntries.{copy-none, copy-one}
use Rattle.cell_edit.proofs.insertion.push_copy.Goals as goal

pub returns-in_default-clause-copy : goal.returns-in_default-clause-copy
returns-in_default-clause-copy c = λ L free.
    copy-none L (star_of c.args.stars.now) c.args.new c.args.at c.args.number c.args.changes.now.items (c.new.ensures.zero.0 (none-unless c.new.result c.in_default.not-Some)) c.requires.nothing

pub returns-clause-copy : goal.returns-clause-copy
returns-clause-copy c = λ L free.
    let some : star_of c.args.stars.now c.in-Some.other ≢ 0 =
    let above : c.args.stars.now.made < star_of c.args.stars.now c.in-Some.other = rw c.star.ensures.star at c.star.ensures.above in omega (arith, above) in
    rw (c.push_reserved.ensures.items, c.joining.ensures, c.star.ensures.star, c.in-Some.ensures.same)
    (copy-one L (star_of c.args.stars.now) c.args.new c.args.at c.args.number c.args.changes.now.items (rw c.in-Some.ensures.same at some) free)
