use Rattle.std.proofs.Common.{◌≡◌, suc, ◌+◌, true, refl, arith}
use Rattle.dart_arena.proofs.KeyLemmas.{keys-length, keys-set}
use Rattle.dart_arena.proofs.places.Places.fill.Goals as goal

pub index_mut-requires : goal.index_mut-requires
index_mut-requires c =
    let within = rw c.if-self.true at c.requires.place in
    omega (arith, keys-length 0 c.args.self.now.live.items, c.args.self.now.live.ok.0)

pub returns-then-self-clause-keys : goal.returns-then-self-clause-keys
returns-then-self-clause-keys c =
    let order = rw c.if-self.true at c.requires.order in
    let key = order refl in
    let e : c.args.key ≡ suc (0 + c.args.place) = omega arith in
    rw (c.if-self.true, e) (keys-set 0 c.args.self.now.live.items c.args.place true)
