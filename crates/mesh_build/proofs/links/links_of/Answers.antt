use Rattle.std.proofs.Common.{◌≡◌, ℕ, ◌*◌, List, [], ◌∷◌, length, Option, None, ap₂, ◌∙◌, arith, lit<}
use Rattle.std.proofs.lemmas.List.{length-map}
use Rattle.map_defs.specs.Edits.{after_edit}
use Rattle.map_defs.specs.MeshMap.{Side}
use Rattle.mesh_build.specs.Sides.{side_view, sides_view}
use Rattle.mesh_build.specs.EntriesView.{entries_view}
use Rattle.mesh_laws.specs.Sides.{kind_of}
use Rattle.mesh_laws.specs.SideLinks.{dart_count, mesh_edit}
use Rattle.mesh_build.proofs.DartChanges.{some-is, rows-more, rows-all, made-sound}
use Rattle.mesh_build.proofs.links.links_of.Goals as goal

pub loop-number-init : goal.loop-number-init
loop-number-init g c = c.in-Ok.ensures.rows

pub loop-number-preserved : goal.loop-number-preserved
loop-number-preserved g c =
    rows-more (kind_of c.args.oriented) (sides_view c.args.sewn.now.sides) c.args.sewn.now.partners.items g.row.DIM (c.per_side.result * c.len.result) c.loop-number.number
    c.unwrap.result (entries_view c.dart_entries.result) c.loop-number.builder.rows c.set_entries.new.builder.rows
    (omega arith) (some-is c.new-in-loop-number.result c.unwrap.result c.loop-number.number c.unwrap.ensures c.new-in-loop-number.ensures.same) c.dart_entries.ensures c.set_entries.ensures c.loop-number.invariant

pub finish-requires : goal.finish-requires
finish-requires g c =
    let o = c.args.oriented in
    let sides : List Side = sides_view c.args.sewn.now.sides in
    let partners : List (Option ℕ) = c.args.sewn.now.partners.items in
    let long : length sides ≡ length c.args.sewn.now.sides.items = length-map c.args.sewn.now.sides.items side_view in
    let darts : c.per_side.result * c.len.result ≡ dart_count (kind_of o) sides = ap₂ (λ m j. m * j) c.per_side.ensures (omega (arith, c.len.ensures, c.args.sewn.now.sides.ok.0, long)) in
    let is : c.loop-number.builder.rows ≡ after_edit g.row.DIM (mesh_edit (kind_of o) sides partners) (None ∷ []) =
    rows-all (kind_of o) sides partners g.row.DIM (c.per_side.result * c.len.result) c.loop-number.number c.loop-number.builder.rows darts (omega arith) c.loop-number.invariant in
    rw is (lit< tt, (lit< tt, made-sound o g.K.Kind.kind g.row.DIM sides partners c.requires.kind c.requires.low c.requires.sewn (rw long c.requires.few)))

pub returns-clause-rows : goal.returns-clause-rows
returns-clause-rows g c =
    let o = c.args.oriented in
    let sides : List Side = sides_view c.args.sewn.now.sides in
    let partners : List (Option ℕ) = c.args.sewn.now.partners.items in
    let long : length sides ≡ length c.args.sewn.now.sides.items = length-map c.args.sewn.now.sides.items side_view in
    let darts : c.per_side.result * c.len.result ≡ dart_count (kind_of o) sides = ap₂ (λ m j. m * j) c.per_side.ensures (omega (arith, c.len.ensures, c.args.sewn.now.sides.ok.0, long)) in
    c.finish.ensures
    ∙ rows-all (kind_of o) sides partners g.row.DIM (c.per_side.result * c.len.result) c.loop-number.number c.loop-number.builder.rows darts (omega arith) c.loop-number.invariant
