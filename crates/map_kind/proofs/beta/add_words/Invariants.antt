use Rattle.map_kind.proofs.Around.{HasNear}
use Rattle.map_kind.proofs.beta.add_words.Given as goal

abbrev pub invariant-loop-near : goal.invariant-loop-near
invariant-loop-near l = HasNear l.initial.words.items l.far l.near l.words.items
