use Rattle.std.proofs.Common.{◌≡◌}
use Rattle.mesh_build.specs.Sides.{sides_view}
use Rattle.mesh_laws.specs.Sides.{kind_of}
use Rattle.mesh_build.proofs.DartChanges.{rows_below}
use Rattle.mesh_build.proofs.links.links_of.Given as goal

abbrev pub invariant-loop-number : goal.invariant-loop-number
invariant-loop-number g l =
    l.builder.rows ≡ rows_below (kind_of l.oriented) (sides_view l.sewn.sides) l.sewn.partners.items g.row.DIM l.darts l.number
