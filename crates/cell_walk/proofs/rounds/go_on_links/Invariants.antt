use Rattle.std.proofs.Common.{◌≡◌, ◌-◌, length}
use Rattle.map_defs.specs.Rows.{links_of}
use Rattle.map_defs.specs.LinkWords.{one_link}
use Rattle.cell_walk.proofs.OnWays.{IsOnWay}
use Rattle.cell_walk.proofs.rounds.go_on_links.Given as goal

abbrev pub invariant-loop-middle : goal.invariant-loop-middle
invariant-loop-middle g l =
    (l.number ≡ links_of l.links.rows l.fn.next l.at)
    × IsOnWay g.K.Kind.kind (links_of l.links.rows) (one_link l.fn.next) (one_link l.fn.after) l.fn.dart l.fn.darts.items (one_link l.fn.next) (one_link l.fn.after) l.at l.darts.items

abbrev pub decreases-loop-middle : goal.decreases-loop-middle
decreases-loop-middle g l = 9223372036854775808 - length l.darts.items
