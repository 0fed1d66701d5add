use Rattle.std.proofs.Common.{◌≡◌, suc, ◌+◌, length, refl, arith}
use Rattle.dart_arena.proofs.KeyLemmas.{keys-length, keys-pushed}
use Rattle.dart_arena.proofs.places.Places.push.Goals as goal

pub push_reserved-requires : goal.push_reserved-requires
push_reserved-requires c =
    let room = rw c.if-self.true at c.requires.room in
    omega (arith, keys-length 0 c.args.self.now.live.items, c.args.self.now.live.ok.0)

pub returns-then-self-clause-keys : goal.returns-then-self-clause-keys
returns-then-self-clause-keys c =
    let order = rw c.if-self.true at c.requires.order in
    let key = order refl in
    let e : c.args.key ≡ suc (0 + length c.args.self.now.live.items) = omega (arith, keys-length 0 c.args.self.now.live.items) in
    rw (c.if-self.true, e, c.push_reserved.ensures.items) (keys-pushed 0 c.args.self.now.live.items)
