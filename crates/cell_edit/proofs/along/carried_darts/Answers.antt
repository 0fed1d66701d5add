use Rattle.std.proofs.Common.{ℕ, ◌≤◌, ◌↔◌, Contains, lit<}
use Rattle.std.proofs.lemmas.Result.{IfOk-weaker}
use Rattle.map_defs.specs.Rows.{links_of}
use Rattle.map_defs.specs.Insertion.{IsCarrying}
use Rattle.link_laws.proofs.RowFacts.{rows_dimension}
use Rattle.cell_edit.proofs.AlongLinks.{listed-orbit, listed-low}
use Rattle.cell_edit.proofs.along.carried_darts.Goals as goal

pub reached-requires : goal.reached-requires
reached-requires g c =
    let listed : (j : ℕ) → Contains c.in_ok-carrying.carrying.items j ↔ ((j ≤ g.row.DIM) × IsCarrying g.K.Kind.kind c.args.link j) = rw c.dimension.ensures.dimension at c.in_ok-carrying.ensures in
    rw c.deref.ensures.value (lit< tt, listed-low g.row.DIM (IsCarrying g.K.Kind.kind c.args.link) c.in_ok-carrying.carrying.items listed)

pub returns-clause-members : goal.returns-clause-members
returns-clause-members g c =
    let rows = c.args.links.now.rows in
    let listed : (j : ℕ) → Contains c.in_ok-carrying.carrying.items j ↔ ((j ≤ g.row.DIM) × IsCarrying g.K.Kind.kind c.args.link j) = rw c.dimension.ensures.dimension at c.in_ok-carrying.ensures in
    IfOk-weaker c.reached.result _ _
    (λ reached same. λ y. let orbit = listed-orbit g.row.DIM (links_of rows) (rows_dimension g.row.DIM rows c.dimension.ensures.sound.wide) (IsCarrying g.K.Kind.kind c.args.link) c.in_ok-carrying.carrying.items listed in
    (λ has. let from = (same y).0 has in (from.0, from.1, (orbit from.0 y).0 from.2), λ from. (same y).1 (from.0, from.1, (orbit from.0 y).1 from.2)))
    (rw c.deref.ensures.value at c.reached.ensures.members)
