use Rattle.std.proofs.Common.{ℕ, List, Contains, lit<}
use Rattle.std.proofs.lemmas.Result.{IfOk-weaker}
use Rattle.map_defs.specs.Kind.{beta}
use Rattle.map_defs.specs.Rows.{links_of}
use Rattle.map_defs.specs.Cells.{InCell}
use Rattle.cell_edit.specs.Stars.{Stars}
use Rattle.cell_edit.proofs.Premises.{all-made}
use Rattle.beta_edit.proofs.SplitEdit.{edit-splits}
use Rattle.beta_edit.proofs.VertexPlan.{vertex-live, vertex-whole, vertex-plans}
use Rattle.beta_edit.proofs.vertex.vertex_plan.Goals as goal

pub new-stars-requires-clause-made : goal.new-stars-requires-clause-made
new-stars-requires-clause-made g c =
    rw c.made.ensures.made (all-made beta g.row.DIM c.args.links.now.rows c.made.ensures.sound c.in_ok-darts.darts.items
    (vertex-live g.row.DIM c.args.links.now.rows c.made.ensures.sound c.args.dart c.requires.dart c.in_ok-darts.darts.items c.in_ok-darts.ensures.members))

pub split_edit-requires : goal.split_edit-requires
split_edit-requires g c =
    rw c.new-stars.ensures
    (lit< tt, (vertex-whole g.row.DIM c.args.links.now.rows c.made.ensures.sound c.args.dart c.requires.dart c.in_ok-darts.darts.items c.in_ok-darts.ensures.members c.made.result c.made.ensures.made c.in_ok-darts.ensures.ascending, c.requires.laws))

pub returns : goal.returns
returns g c =
    let rows = c.args.links.now.rows in
    let keys : List ℕ = c.in_ok-darts.darts.items in
    let stars : Stars = record { keys = keys; made = c.made.result } in
    IfOk-weaker c.split_edit.result _ _
    (λ edit grows. vertex-plans g.row.DIM rows (InCell beta (links_of rows) 1 c.args.dart) (Contains keys) edit c.in_ok-darts.ensures.members
    (edit-splits g.row.DIM rows c.made.ensures.sound c.made.ensures.low c.requires.laws stars
    (vertex-whole g.row.DIM rows c.made.ensures.sound c.args.dart c.requires.dart keys c.in_ok-darts.ensures.members c.made.result c.made.ensures.made c.in_ok-darts.ensures.ascending)
    edit grows))
    (rw c.new-stars.ensures at c.split_edit.ensures)
