use Rattle.std.proofs.Common.{refl, sym, arith}
use Rattle.std.proofs.lemmas.List.{append-nil}
use Rattle.dart_arena.proofs.KeyLemmas.{keys-length}
use Rattle.dart_arena.proofs.places.Places.push_in_order.Goals as goal

pub loop-birth-init : goal.loop-birth-init
loop-birth-init c =
    let live = c.args.self.now.live.items in
    let room = rw c.requires.order at c.requires.room in
    (c.requires.order, sym (append-nil live), refl, omega (arith, room, keys-length 0 live))
