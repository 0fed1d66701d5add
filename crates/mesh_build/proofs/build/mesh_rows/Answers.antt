use Rattle.std.proofs.Common.{sym, subst}
use Rattle.map_defs.specs.Edits.{Edit}
use Rattle.map_defs.specs.MeshMap.{MakesMesh}
use Rattle.off_text.specs.Meanings.{mesh_view}
use Rattle.mesh_build.proofs.build.mesh_rows.Goals as goal

pub returns-clause-made : goal.returns-clause-made
returns-clause-made g c =
    subst (λ (e : Edit). MakesMesh g.K.Kind.kind g.row.DIM (mesh_view c.args.mesh.now) e c.in_ok-map.map.places.items) (sym c.in_ok-edit.ensures) c.in_ok-map.ensures.makes
