use Rattle.std.proofs.lemmas.List.{append-nil}
use Rattle.beta_edit.proofs.DrawnEdit.{drawing-ends}
use Rattle.beta_edit.proofs.drawing.drawn_edit.Goals as goal

pub returns : goal.returns
returns g c =
    rw (c.none.ensures.rows, append-nil c.in_ok-changes.changes.items)
    (drawing-ends g.row.DIM c.see_sound.ensures.low c.args.links.now.rows c.see_sound.ensures.sound c.requires.laws c.args.beside c.args.darts.items c.requires.can
    c.in_ok-changes.changes.items (rw c.deref.ensures.value at c.in_ok-changes.ensures))
