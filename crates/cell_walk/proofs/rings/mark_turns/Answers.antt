use Rattle.std.proofs.Common.{ℕ, set, true, subst, arith}
use Rattle.map_defs.specs.LinkWords.{one_link}
use Rattle.map_defs.specs.Rows.{links_of}
use Rattle.cell_walk.specs.Ways.{IsFollowed}
use Rattle.cell_walk.specs.Marks.{IsMarkedMore}
use Rattle.cell_walk.proofs.RowSteps.{live-low, live-real}
use Rattle.cell_walk.proofs.MarkedDarts.{round-marked}
use Rattle.cell_walk.proofs.rings.mark_turns.Goals as goal

pub returns : goal.returns
returns g c =
    round-marked g.K.Kind.kind (links_of c.args.links.now.rows) (one_link c.args.forth.0) (one_link c.args.forth.1) (one_link c.args.back.0) (one_link c.args.back.1)
    c.args.dart c.args.marks.now c.mark_links.new.marks c.mark_links-2.new.marks
    (omega (arith, live-low c.args.links.now.rows c.args.dart c.requires.live, c.requires.places))
    (live-real g.K.Kind.kind g.row.DIM c.args.links.now.rows c.see_sound.ensures.sound c.args.dart c.requires.live) c.requires.turns
    (subst (λ (i : ℕ). IsMarkedMore (IsFollowed g.K.Kind.kind (links_of c.args.links.now.rows) (one_link c.args.forth.0) (one_link c.args.forth.1) c.args.dart) (set c.args.marks.now i true) c.mark_links.new.marks)
    c.number.ensures.same c.mark_links.ensures)
    c.mark_links-2.ensures
