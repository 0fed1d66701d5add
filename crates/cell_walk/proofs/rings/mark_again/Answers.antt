use Rattle.std.proofs.Common.{ℕ, set, true, subst, arith}
use Rattle.map_defs.specs.Rows.{links_of}
use Rattle.cell_walk.specs.Ways.{IsFollowed}
use Rattle.cell_walk.specs.Marks.{IsMarkedMore}
use Rattle.cell_walk.proofs.RowSteps.{live-low, live-real}
use Rattle.cell_walk.proofs.MarkedDarts.{round-marked}
use Rattle.cell_walk.proofs.rings.mark_again.Goals as goal

pub returns : goal.returns
returns g c =
    round-marked g.K.Kind.kind (links_of c.args.links.now.rows) c.args.forth c.args.forth c.args.back c.args.back
    c.args.dart c.args.marks.now c.mark_word.new.marks c.mark_word-2.new.marks
    (omega (arith, live-low c.args.links.now.rows c.args.dart c.requires.live, c.requires.places))
    (live-real g.K.Kind.kind g.row.DIM c.args.links.now.rows c.see_sound.ensures.sound c.args.dart c.requires.live) c.requires.turns
    (subst (λ (i : ℕ). IsMarkedMore (IsFollowed g.K.Kind.kind (links_of c.args.links.now.rows) c.args.forth c.args.forth c.args.dart) (set c.args.marks.now i true) c.mark_word.new.marks)
    c.number.ensures.same c.mark_word.ensures)
    c.mark_word-2.ensures
