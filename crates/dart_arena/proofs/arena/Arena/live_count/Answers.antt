use Rattle.std.proofs.Common.{arith}
use Rattle.dart_arena.proofs.Stages.{few-darts, live-few}
use Rattle.dart_arena.proofs.arena.Arena.live_count.Goals as goal

pub overflow_cast-result : goal.overflow_cast-result
overflow_cast-result g c =
    omega (arith, few-darts c.self.inside.places g.row.DIM c.self.inside.rows c.self.inside.count c.self.inside.spare c.self.inside.room c.self.invariant.1, live-few c.self.inside.places g.row.DIM c.self.inside.rows c.self.inside.count c.self.inside.spare c.self.inside.room c.self.invariant.1)
