use Rattle.std.proofs.Common.{◌-◌, length}
use Rattle.map_defs.specs.Rows.{links_of}
use Rattle.map_defs.specs.LinkWords.{IsWithin}
use Rattle.cell_walk.proofs.OnWays.{IsOnWay}
use Rattle.cell_walk.proofs.ways.follow_words.Given as goal

abbrev pub invariant-loop-next : goal.invariant-loop-next
invariant-loop-next g l =
    IsWithin g.row.DIM l.way.next × IsWithin g.row.DIM l.way.after
    × IsOnWay g.K.Kind.kind (links_of l.links.rows) l.fn.way.next l.fn.way.after l.fn.dart l.fn.found l.way.next l.way.after l.at l.found

abbrev pub decreases-loop-next : goal.decreases-loop-next
decreases-loop-next g l = 18446744073709551616 - length l.found
