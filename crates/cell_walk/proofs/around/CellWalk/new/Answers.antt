use Rattle.cell_walk.proofs.CellRounds.{course-along}
use Rattle.cell_walk.proofs.around.CellWalk.new.Goals as goal

pub invariant_of-result-2 : goal.invariant_of-result-2
invariant_of-result-2 g c =
    course-along g.K.Kind.kind g.row.DIM c.args.dim c.in_ok-words.words.items c.course_along.result
    (rw (← c.dimension-2.ensures.dimension) c.in_ok-words.ensures)
    (rw (← c.deref.ensures.value) c.course_along.ensures)
