use Rattle.std.proofs.Common.{map, ◌∙◌}
use Rattle.hook_book.proofs.Places.{place-known}
use Rattle.hook_book.proofs.book.BookHook.knows.Goals as goal

pub returns : goal.returns
returns g c =
    rw c.deref.ensures.value at (c.is_some.ensures ∙ place-known (map g.R.Kept.called c.deref.result.now) c.args.name.now c.place_among.result c.place_among.ensures)
