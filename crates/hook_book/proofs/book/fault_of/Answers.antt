use Rattle.std.proofs.Common.{map, refl}
use Rattle.hook_book.proofs.Places.{among-at}
use Rattle.hook_book.proofs.book.fault_of.Goals as goal

pub returns-in-Some : goal.returns-in-Some
returns-in-Some g c =
    let found = c.in-Some.ensures in
    (c.if-not-is_free_name.ensures.0 refl, among-at (map g.R.Kept.called c.args.before.now) c.args.name.now c.in-Some.field-0 found.0 found.2)
