use Rattle.cell_walk.proofs.MarkedDarts.{IsMarking, unmarked_count}
use Rattle.cell_walk.proofs.rings.mark_word.Given as goal

abbrev pub invariant-loop-reached : goal.invariant-loop-reached
invariant-loop-reached g l =
    IsMarking g.K.Kind.kind l.links.rows l.fn.word l.fn.word l.fn.dart l.fn.marks l.fn.word l.fn.word l.at l.marks

abbrev pub decreases-loop-reached : goal.decreases-loop-reached
decreases-loop-reached g l = unmarked_count l.marks
