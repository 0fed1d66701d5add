use Rattle.dart_arena.specs.Layout.{keys_of}
use Rattle.dart_arena.proofs.Freed.{looked-more}
use Rattle.dart_arena.proofs.slots.remove_dead.Goals as goal

pub loop-place-preserved : goal.loop-place-preserved
loop-place-preserved g c =
    let kept = c.loop-place.invariant in
    looked-more c.args.rows.now c.loop-place.rows c.remove_unless.new.rows (keys_of c.args.places.now) c.loop-place.place c.key.result c.key.ensures
    c.remove_unless.ensures.had c.remove_unless.ensures.dead kept.0 kept.1 kept.2 kept.3
