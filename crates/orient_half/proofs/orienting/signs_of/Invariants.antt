use Rattle.std.proofs.Common.{◌+◌}
use Rattle.orient_half.specs.SignLists.{IsListed}
use Rattle.orient_half.proofs.orienting.signs_of.Given as goal

abbrev pub invariant-loop-number : goal.invariant-loop-number
invariant-loop-number g l = IsListed l.search.marks.items (l.number + 1) l.signs.items
