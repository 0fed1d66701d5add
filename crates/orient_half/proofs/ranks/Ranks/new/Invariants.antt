use Rattle.orient_half.proofs.RankFacts.{AreRankedUpTo}
use Rattle.orient_half.proofs.ranks.Ranks.new.Given as goal

abbrev pub invariant-loop-place : goal.invariant-loop-place
invariant-loop-place l = AreRankedUpTo l.dart-items l.made l.place l.table.items
