use Rattle.std.proofs.Common.{ℕ, ◌≢◌, List, [], Contains, lit<, arith}
use Rattle.std.specs.Prelude.{All}
use Rattle.std.proofs.lemmas.Result.{IfOk-weaker}
use Rattle.map_defs.specs.Kind.{alpha}
use Rattle.map_defs.specs.Rows.{links_of, IsLive}
use Rattle.map_defs.specs.Cells.{InCell}
use Rattle.map_defs.specs.Insertion.{NoPairs}
use Rattle.sewing.specs.Triples.{Lists}
use Rattle.cell_edit.proofs.Premises.{inserts-same, live-dart, all-live}
use Rattle.alpha_edit.proofs.VertexPlan.{no-pairs, none-ascending, none-of, edge-live, vertex-insertable}
use Rattle.alpha_edit.proofs.vertex.vertex_plan.Goals as goal

pub insertion_edit-requires : goal.insertion_edit-requires
insertion_edit-requires g c =
    let rows = c.args.links.now.rows in
    let keys : List ℕ = c.in_ok-edge_darts.field-0.items in
    let live : All (λ (d : ℕ). IsLive rows d) keys = all-live rows (InCell alpha (links_of rows) 1 c.args.dart) keys c.in_ok-edge_darts.ensures.members (edge-live g.row.DIM rows c.see_sound.ensures.sound c.args.dart c.requires.dart) in
    let dart : c.args.dart ≢ 0 = live-dart alpha g.row.DIM rows c.see_sound.ensures.sound c.args.dart c.requires.dart in
    (lit< tt, (omega (arith, c.see_sound.ensures.low), (c.in_ok-edge_darts.ensures.ascending, (live, (none-ascending, (none-of keys, (vertex-insertable (links_of rows) c.args.dart keys dart c.in_ok-edge_darts.ensures.members, c.requires.laws)))))))

pub returns : goal.returns
returns g c =
    let rows = c.args.links.now.rows in
    IfOk-weaker c.insertion_edit.result _ _
    (λ edit. inserts-same g.row.DIM rows (InCell alpha (links_of rows) 1 c.args.dart) (Contains c.in_ok-edge_darts.field-0.items) alpha 0 NoPairs (Lists []) edit c.in_ok-edge_darts.ensures.members no-pairs)
    c.insertion_edit.ensures
