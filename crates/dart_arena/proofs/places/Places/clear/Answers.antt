use Rattle.std.proofs.Common.{false, arith}
use Rattle.dart_arena.proofs.KeyLemmas.{keys-length, keys-set}
use Rattle.dart_arena.proofs.places.Places.clear.Goals as goal

pub index_mut-requires : goal.index_mut-requires
index_mut-requires c =
    let within = rw c.if-self.true at c.requires in
    omega (arith, keys-length 0 c.args.self.now.live.items, c.args.self.now.live.ok.0)

pub returns-then-self-clause-keys : goal.returns-then-self-clause-keys
returns-then-self-clause-keys c = rw c.if-self.true (keys-set 0 c.args.self.now.live.items c.args.place false)
