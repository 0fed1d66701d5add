use Rattle.std.proofs.Common.{◌≡◌, length, sym, ◌∙◌}
use Rattle.std.specs.Prelude.{vec_len}
use Rattle.dart_arena.specs.Layout.{keys_from}
use Rattle.dart_arena.proofs.KeyLemmas.{keys-length}
use Rattle.dart_arena.proofs.places.Places.reserve.Goals as goal

pub returns-then-self-clause-room : goal.returns-then-self-clause-room
returns-then-self-clause-room c =
    let len : length (keys_from 0 c.args.self.now.live.items) ≡ vec_len c.args.self.now.live = keys-length 0 c.args.self.now.live.items ∙ sym c.args.self.now.live.ok.0 in
    rw (c.if-self.true, len, ← c.reserve.ensures.len) c.reserve.ensures.ok
