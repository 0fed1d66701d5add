use Rattle.std.proofs.Common.{sym, ◌∙◌}
use Rattle.dart_arena.proofs.KeyLemmas.{keys-length}
use Rattle.dart_arena.proofs.places.Places.made.Goals as goal

pub returns-then-self : goal.returns-then-self
returns-then-self c = rw c.if-self.true (c.len.ensures ∙ c.args.self.now.live.ok.0 ∙ sym (keys-length 0 c.args.self.now.live.items))
