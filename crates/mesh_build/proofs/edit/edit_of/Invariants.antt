use Rattle.std.proofs.Common.{◌≡◌, ◌-◌}
use Rattle.std.specs.List.{flat_map, range_with_len}
use Rattle.mesh_build.specs.Sides.{sides_view}
use Rattle.mesh_laws.specs.Sides.{kind_of}
use Rattle.mesh_laws.specs.SideLinks.{mesh_changes}
use Rattle.mesh_build.proofs.edit.edit_of.Given as goal

abbrev pub invariant-loop-number : goal.invariant-loop-number
invariant-loop-number l =
    l.changes.items ≡ flat_map (mesh_changes (kind_of l.oriented) (sides_view l.sewn.sides) l.sewn.partners.items) (range_with_len 1 (l.number - 1))
