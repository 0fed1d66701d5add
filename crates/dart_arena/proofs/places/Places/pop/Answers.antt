use Rattle.std.proofs.Common.{◌≡◌, ◌-◌, length, arith}
use Rattle.dart_arena.specs.Layout.{keys_from}
use Rattle.dart_arena.proofs.KeyLemmas.{keys-length, keys-taken}
use Rattle.dart_arena.proofs.places.Places.pop.Goals as goal

pub returns-then-self-clause-keys : goal.returns-then-self-clause-keys
returns-then-self-clause-keys c =
    let less : length (keys_from 0 c.args.self.now.live.items) - 1 ≡ c.len.result - 1 =
    omega (arith, keys-length 0 c.args.self.now.live.items, c.args.self.now.live.ok.0, c.len.ensures) in
    rw (c.if-self.true, less, c.truncate.ensures.items) (keys-taken 0 (c.len.result - 1) c.args.self.now.live.items)
