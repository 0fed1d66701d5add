use Rattle.std.proofs.Common.{ℕ, ◌≢◌, ◌≤◌, ◌↔◌, Contains, sym, lit<}
use Rattle.std.proofs.lemmas.Bool.{false≢true}
use Rattle.std.proofs.lemmas.Result.{IfOk-weaker, on_ok_weaker}
use Rattle.map_defs.specs.Rows.{links_of}
use Rattle.link_laws.proofs.RowFacts.{rows_dimension}
use Rattle.cell_edit.proofs.AlongLinks.{listed-low}
use Rattle.beta_edit.proofs.EdgePlan.{edge-pairs, edge-good, good-edge}
use Rattle.beta_edit.proofs.edge.edge_pairs.Goals as goal

pub pair-requires : goal.pair-requires
pair-requires g c =
    let listed : (j : ℕ) → Contains c.in_ok-copying.copying.items j ↔ ((j ≤ g.row.DIM) × (3 ≤ j)) = rw c.dimension.ensures.dimension at c.in_ok-copying.ensures in
    rw c.deref.ensures.value (lit< tt, listed-low g.row.DIM (λ j. 3 ≤ j) c.in_ok-copying.copying.items listed)

pub returns-clause-members : goal.returns-clause-members
returns-clause-members g c =
    let rows = c.args.links.now.rows in
    let listed : (j : ℕ) → Contains c.in_ok-copying.copying.items j ↔ ((j ≤ g.row.DIM) × (3 ≤ j)) = rw c.dimension.ensures.dimension at c.in_ok-copying.ensures in
    IfOk-weaker c.pair.result _ _
    (λ pairs same. λ x y t. let edge = edge-pairs g.row.DIM c.see_sound.ensures.low (links_of rows) (rows_dimension g.row.DIM rows c.see_sound.ensures.sound.wide) c.in_ok-copying.copying.items listed c.args.one c.args.other x y t in
    (λ has. edge.0 ((same x y t).0 has), λ p. (same x y t).1 (edge.1 p)))
    (rw (c.deref.ensures.value, c.in-Some.ensures.linked, c.in-Some-link.ensures.linked) at c.pair.ensures.members)

pub returns-clause-paired : goal.returns-clause-paired
returns-clause-paired g c =
    let rows = c.args.links.now.rows in
    let listed : (j : ℕ) → Contains c.in_ok-copying.copying.items j ↔ ((j ≤ g.row.DIM) × (3 ≤ j)) = rw c.dimension.ensures.dimension at c.in_ok-copying.ensures in
    let near : links_of rows 0 c.args.one ≢ 0 = λ none. false≢true (sym (c.in-Some.ensures.free.1 none)) in
    let far : links_of rows 0 c.args.other ≢ 0 = λ none. false≢true (sym (c.in-Some-link.ensures.free.1 none)) in
    on_ok_weaker c.pair.result
    (λ good. record {
      near = near;
      far = far;
      good = edge-good g.row.DIM c.see_sound.ensures.low (links_of rows) (rows_dimension g.row.DIM rows c.see_sound.ensures.sound.wide) c.in_ok-copying.copying.items listed c.args.one c.args.other good;
    })
    (rw (c.deref.ensures.value, c.in-Some.ensures.linked, c.in-Some-link.ensures.linked) at c.pair.ensures.good)

pub returns-clause-unpaired : goal.returns-clause-unpaired
returns-clause-unpaired g c = λ is can.
    let rows = c.args.links.now.rows in
    let listed : (j : ℕ) → Contains c.in_ok-copying.copying.items j ↔ ((j ≤ g.row.DIM) × (3 ≤ j)) = rw c.dimension.ensures.dimension at c.in_ok-copying.ensures in
    (rw (c.deref.ensures.value, c.in-Some.ensures.linked, c.in-Some-link.ensures.linked) at c.pair.ensures.unpaired) is
    (good-edge g.row.DIM c.see_sound.ensures.low (links_of rows) (rows_dimension g.row.DIM rows c.see_sound.ensures.sound.wide) c.in_ok-copying.copying.items listed c.args.one c.args.other can.good)
