use Rattle.map_defs.specs.LinkWords.{one_link}
use Rattle.cell_walk.proofs.MarkedDarts.{IsMarking, unmarked_count}
use Rattle.cell_walk.proofs.rings.mark_links.Given as goal

abbrev pub invariant-loop-middle : goal.invariant-loop-middle
invariant-loop-middle g l =
    IsMarking g.K.Kind.kind l.links.rows (one_link l.fn.one) (one_link l.fn.other) l.fn.dart l.fn.marks (one_link l.fn.one) (one_link l.fn.other) l.at l.marks

abbrev pub decreases-loop-middle : goal.decreases-loop-middle
decreases-loop-middle g l = unmarked_count l.marks
