use Rattle.std.proofs.Common.{append-nil}
use Rattle.cell_edit.proofs.EndingEdit.{ending-ends}
use Rattle.cell_edit.proofs.ending.ending_edit.Goals as goal

pub returns : goal.returns
returns g c =
    rw (c.none.ensures.rows, append-nil c.in_ok-changes.changes.items)
    (ending-ends g.K.Kind.kind g.row.DIM c.args.links.now.rows c.see_sound.ensures.sound c.requires.laws c.args.link c.requires.link c.args.beside c.args.darts.items c.requires.can
    c.in_ok-changes.changes.items (rw c.deref.ensures.value at c.in_ok-changes.ensures))
