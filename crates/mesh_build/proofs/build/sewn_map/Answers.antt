use Rattle.std.proofs.Common.{◌≡◌, ℕ, List, length, get_or, sym, refl, subst, ◌∙◌}
use Rattle.std.specs.Prelude.{All}
use Rattle.std.proofs.lemmas.List.{length-map}
use Rattle.std.proofs.lemmas.List.Elements.{Contains-get_or}
use Rattle.map_defs.specs.Rows.{Rows}
use Rattle.map_defs.specs.Edits.{Edit}
use Rattle.map_defs.specs.MeshMap.{Side}
use Rattle.off_text.specs.Meanings.{mesh_view}
use Rattle.mesh_build.specs.Sides.{side_view, sides_view}
use Rattle.mesh_laws.specs.Sides.{kind_of}
use Rattle.mesh_laws.specs.SideLinks.{mesh_edit}
use Rattle.mesh_laws.proofs.LiveDarts.{live-low, live-high}
use Rattle.mesh_laws.proofs.MadeMesh.{Members, darts_of, makes}
use Rattle.mesh_laws.proofs.SidePoints.{IsBetween, sides-between, point-within}
use Rattle.mesh_build.proofs.build.sewn_map.Goals as goal

pub places_of-requires : goal.places_of-requires
places_of-requires g c =
    let o = c.args.oriented in
    let sides : List Side = sides_view c.args.sewn.now.sides in
    let m : ℕ = length c.args.mesh.now.points.items in
    let edit : Edit = mesh_edit (kind_of o) sides c.args.sewn.now.partners.items in
    let all : All (IsBetween m) sides = subst (All (IsBetween m)) (sym c.requires.sides) (sides-between m 0 (mesh_view c.args.mesh.now).faces c.requires.faces.points) in
    let members = subst (λ (rows : Rows). Members g.K.Kind.kind rows c.in_ok-cells.cells.least.items) c.in_ok-links.ensures.rows c.in_ok-cells.ensures.members in
    rw (c.deref-3.ensures.value, c.deref-2.ensures.value, c.deref.ensures.value, ← length-map c.args.sewn.now.sides.items side_view) (record {
      darts = λ n z low. (
          let d : ℕ = get_or c.in_ok-cells.cells.least.items n z in
          let live = ((members d).0 (Contains-get_or c.in_ok-cells.cells.least.items n z low)).0 in
          (live-low g.row.DIM edit d live, live-high g.row.DIM edit d live)
          );
      points = λ d low high. point-within o m sides all d low high;
    })

pub returns-clause-makes : goal.returns-clause-makes
returns-clause-makes g c =
    let o = c.args.oriented in
    let sides : List Side = sides_view c.args.sewn.now.sides in
    let edit : Edit = mesh_edit (kind_of o) sides c.args.sewn.now.partners.items in
    let darts : darts_of c.in_ok-places.places.items ≡ c.in_ok-cells.cells.least.items = c.in_ok-places.ensures.darts ∙ c.deref-3.ensures.value in
    let values = rw (c.deref-2.ensures.value, c.deref.ensures.value) at c.in_ok-places.ensures.values in
    let members = subst (λ (rows : Rows). Members g.K.Kind.kind rows c.in_ok-cells.cells.least.items) c.in_ok-links.ensures.rows c.in_ok-cells.ensures.members in
    makes o g.K.Kind.kind g.row.DIM (mesh_view c.args.mesh.now) sides c.args.sewn.now.partners.items edit c.in_ok-places.places.items
    c.requires.kind c.requires.low c.requires.sides c.requires.sewn refl (rw (length-map c.args.sewn.now.sides.items side_view) c.requires.few)
    (rw darts members) (rw darts c.in_ok-cells.ensures.ascending) values

pub returns-clause-cells : goal.returns-clause-cells
returns-clause-cells g c = rw (c.in_ok-places.ensures.darts, c.deref-3.ensures.value) c.in_ok-cells.ensures.darts
