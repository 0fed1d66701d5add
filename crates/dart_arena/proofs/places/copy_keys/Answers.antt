use Rattle.std.proofs.Common.{arith}
use Rattle.dart_arena.proofs.KeyLemmas.{key-low}
use Rattle.dart_arena.proofs.places.copy_keys.Goals as goal

pub overflow_cast-key : goal.overflow_cast-key
overflow_cast-key c = omega (arith, key-low c.args.places.now c.loop-place.place c.requires.order, c.requires.few)
