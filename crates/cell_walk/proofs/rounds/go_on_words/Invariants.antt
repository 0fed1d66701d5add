use Rattle.std.proofs.Common.{◌-◌, length}
use Rattle.map_defs.specs.Rows.{links_of}
use Rattle.map_defs.specs.LinkWords.{IsWithin}
use Rattle.cell_walk.proofs.OnWays.{IsOnWay}
use Rattle.cell_walk.proofs.rounds.go_on_words.Given as goal

abbrev pub invariant-loop-next : goal.invariant-loop-next
invariant-loop-next g l =
    IsWithin g.row.DIM l.turn.0.now × IsWithin g.row.DIM l.turn.1.now
    × IsOnWay g.K.Kind.kind (links_of l.links.rows) l.fn.way.next l.fn.way.after l.fn.dart l.fn.darts.items l.turn.0.now l.turn.1.now l.at l.darts.items

abbrev pub decreases-loop-next : goal.decreases-loop-next
decreases-loop-next g l = 9223372036854775808 - length l.darts.items
