use Rattle.std.proofs.Common.{arith}
use Rattle.dart_arena.proofs.Stages.{own-keys}
use Rattle.dart_arena.proofs.places.Places.live_key.Goals as goal

pub returns-then-self : goal.returns-then-self
returns-then-self c = omega (arith, own-keys c.args.self.now c.if-self.true c.args.place c.requires.lives)
