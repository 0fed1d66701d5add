use Rattle.std.proofs.Common.{ℕ, ◌≢◌, ◌+◌, ◌≤◌, Contains, Some, None, arith}
use Rattle.map_defs.specs.Rows.{links_of, made}
use Rattle.map_defs.specs.Removal.{CommutesAt, IsFlatAt, JoinsNoDart}
use Rattle.link_laws.proofs.RowFacts.{rows_made, rows_dimension}
use Rattle.beta_edit.specs.Crossing.{drawn_step}
use Rattle.beta_edit.proofs.CellTold.{both-then, both-else, edge-removable, high-removable, vertex-removable}
use Rattle.beta_edit.proofs.removal.can_remove.Goals as goal

pub returns-then-are_flat : goal.returns-then-are_flat
returns-then-are_flat g c = rw c.in-0.is (λ d cell.
    vertex-removable (links_of c.args.links.now.rows) c.requires.laws (made c.args.links.now.rows) g.row.DIM d (rows_made c.args.links.now.rows)
    (rows_dimension g.row.DIM c.args.links.now.rows c.see_sound.ensures.sound.wide) c.args.darts.now cell c.sides_stay_apart.result
    (both-then ((b : ℕ) → Contains c.args.darts.now b → IsFlatAt (links_of c.args.links.now.rows) b)
    ((j : ℕ) → 2 ≤ j → j ≤ g.row.DIM → JoinsNoDart (links_of c.args.links.now.rows) j (Contains c.args.darts.now) (drawn_step (links_of c.args.links.now.rows) None j))
    c.are_flat.result c.sides_stay_apart.result c.if-are_flat.true c.are_flat.ensures c.sides_stay_apart.ensures))

pub returns-else-are_flat : goal.returns-else-are_flat
returns-else-are_flat g c = rw c.in-0.is (λ d cell.
    vertex-removable (links_of c.args.links.now.rows) c.requires.laws (made c.args.links.now.rows) g.row.DIM d (rows_made c.args.links.now.rows)
    (rows_dimension g.row.DIM c.args.links.now.rows c.see_sound.ensures.sound.wide) c.args.darts.now cell c.are_flat.result
    (both-else ((b : ℕ) → Contains c.args.darts.now b → IsFlatAt (links_of c.args.links.now.rows) b)
    ((j : ℕ) → 2 ≤ j → j ≤ g.row.DIM → JoinsNoDart (links_of c.args.links.now.rows) j (Contains c.args.darts.now) (drawn_step (links_of c.args.links.now.rows) None j))
    c.are_flat.result c.if-are_flat.false c.are_flat.ensures))

pub returns-in-1 : goal.returns-in-1
returns-in-1 g c = rw c.in-1.is (λ d cell. edge-removable (links_of c.args.links.now.rows) d c.args.darts.now c.are_commuting.result cell c.are_commuting.ensures)

pub returns-then-are_commuting : goal.returns-then-are_commuting
returns-then-are_commuting g c = λ d cell.
    let some : c.args.dim ≢ 0 = omega arith in
    let more : c.args.dim ≢ 1 = omega arith in
    high-removable (links_of c.args.links.now.rows) d c.args.darts.now c.stays_apart.result c.args.dim some more cell
    (both-then ((b : ℕ) → Contains c.args.darts.now b → CommutesAt (links_of c.args.links.now.rows) (c.args.dim + 1) (c.args.dim + 2) b)
    (JoinsNoDart (links_of c.args.links.now.rows) c.args.dim (Contains c.args.darts.now) (drawn_step (links_of c.args.links.now.rows) (Some (c.args.dim + 1)) c.args.dim))
    c.are_commuting-in_default.result c.stays_apart.result c.if-are_commuting.true c.are_commuting-in_default.ensures c.stays_apart.ensures)

pub returns-else-are_commuting : goal.returns-else-are_commuting
returns-else-are_commuting g c = λ d cell.
    let some : c.args.dim ≢ 0 = omega arith in
    let more : c.args.dim ≢ 1 = omega arith in
    high-removable (links_of c.args.links.now.rows) d c.args.darts.now c.are_commuting-in_default.result c.args.dim some more cell
    (both-else ((b : ℕ) → Contains c.args.darts.now b → CommutesAt (links_of c.args.links.now.rows) (c.args.dim + 1) (c.args.dim + 2) b)
    (JoinsNoDart (links_of c.args.links.now.rows) c.args.dim (Contains c.args.darts.now) (drawn_step (links_of c.args.links.now.rows) (Some (c.args.dim + 1)) c.args.dim))
    c.are_commuting-in_default.result c.if-are_commuting.false c.are_commuting-in_default.ensures)
