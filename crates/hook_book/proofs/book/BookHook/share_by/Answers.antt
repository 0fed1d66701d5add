use Rattle.std.proofs.Common.{map, refl, sym, ap, ◌∙◌}
use Rattle.map_defs.specs.Values.{Meaning}
use Rattle.hook_book.proofs.Places.{meaning-at, among-at}
use Rattle.hook_book.proofs.book.BookHook.share_by.Goals as goal

pub returns-in-Some : goal.returns-in-Some
returns-in-Some g c =
    let found = rw (c.deref.ensures.value, c.as_str.ensures.same) at c.in-Some.ensures in
    rw (among-at (map g.R.Kept.called c.args.self.now.hooks.items) c.args.name c.in-Some.place found.0 found.2)
    (c.share.ensures ∙ ap (λ (m : Meaning). m.share c.args.value c.args.pieces c.args.piece)
    (sym (meaning-at g.R.Kept.called (g.H.Rule.meaning c.args.self.now.base) g.R.Kept.does c.args.self.now.hooks.items c.in-Some.place c.index.result.now c.args.name found.0 c.index.ensures found.1 found.2)))

pub returns-in-None : goal.returns-in-None
returns-in-None g c = rw (rw (c.deref.ensures.value, c.as_str.ensures.same) at c.in-None.ensures) refl
