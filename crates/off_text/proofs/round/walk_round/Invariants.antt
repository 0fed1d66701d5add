use Rattle.std.specs.Prelude.{◌-◌, length}
use Rattle.map_defs.specs.Rows.{links_of}
use Rattle.off_text.proofs.Rounds.{IsOnTheWay}
use Rattle.off_text.proofs.round.walk_round.Given as goal

abbrev pub invariant-loop-first : goal.invariant-loop-first
invariant-loop-first g l = IsOnTheWay g.K.Kind.kind (links_of l.links.rows) l.first l.round.items l.dart

abbrev pub decreases-loop-first : goal.decreases-loop-first
decreases-loop-first g l = 9223372036854775808 - length l.round.items
