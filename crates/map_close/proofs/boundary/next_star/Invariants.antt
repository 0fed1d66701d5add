use Rattle.std.proofs.Common.{◌≡◌, ◌≢◌, slice_index}
use Rattle.map_defs.specs.Kind.{inverse}
use Rattle.map_defs.specs.Rows.{links_of, IsLive}
use Rattle.cell_edit.specs.Stars.{star_of}
use Rattle.map_close.proofs.WalkSteps.{IsAlong}
use Rattle.map_close.proofs.Rounds.{IsCrossed, turn}
use Rattle.map_close.proofs.boundary.next_star.Given as goal

abbrev pub invariant-loop-turn : goal.invariant-loop-turn
invariant-loop-turn g l =
    IsAlong (IsCrossed (links_of l.links.rows) l.link) (turn g.K.Kind.kind l.link l.before (links_of l.links.rows)) (slice_index l.row (inverse g.K.Kind.kind l.before)) l._turn l.at
    × (star_of l.stars l.at ≡ 0) × (l.at ≢ 0 → IsLive l.links.rows l.at)
