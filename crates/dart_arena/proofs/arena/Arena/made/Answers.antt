use Rattle.std.proofs.Common.{refl, arith}
use Rattle.dart_arena.specs.Layout.{keys_of}
use Rattle.dart_arena.proofs.SlotLemmas.{rows-length}
use Rattle.dart_arena.proofs.Stages.{few-darts}
use Rattle.dart_arena.proofs.arena.Arena.made.Goals as goal

pub overflow_cast-result : goal.overflow_cast-result
overflow_cast-result g c = omega (arith, few-darts c.self.inside.places g.row.DIM c.self.inside.rows c.self.inside.count c.self.inside.spare c.self.inside.room c.self.invariant.1, c.made.ensures)

pub returns-clause-made : goal.returns-clause-made
returns-clause-made g c =
    let long = rows-length c.self.inside.rows (keys_of c.self.inside.places) in
    let read = c.made.ensures in
    rw (← c.self.view_is) (omega arith)

pub returns-clause-kept : goal.returns-clause-kept
returns-clause-kept g c =
    let long = rows-length c.self.inside.rows (keys_of c.self.inside.places) in
    let few = few-darts c.self.inside.places g.row.DIM c.self.inside.rows c.self.inside.count c.self.inside.spare c.self.inside.room c.self.invariant.1 in
    rw (← c.self.view_is) (record { begun = omega arith; nothing = refl; few = omega arith })
