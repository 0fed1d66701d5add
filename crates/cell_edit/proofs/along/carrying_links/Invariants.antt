use Rattle.std.proofs.Common.{ℕ, ◌<◌, ◌↔◌, Contains}
use Rattle.map_defs.specs.Insertion.{IsCarrying}
use Rattle.cell_edit.proofs.along.carrying_links.Given as goal

abbrev pub invariant-loop-other : goal.invariant-loop-other
invariant-loop-other g l = (j : ℕ) → Contains l.carrying.items j ↔ ((j < l.other) × IsCarrying g.K.Kind.kind l.link j)
