use Rattle.std.proofs.Common.{ℕ, ◌≡◌, ◌≢◌, ◌-◌, Contains, Some, refl, arith}
use Rattle.map_defs.specs.Rows.{links_of}
use Rattle.map_defs.specs.Removal.{CommutesAt, IsFlatAt, JoinsNoDart}
use Rattle.beta_edit.specs.Crossing.{drawn_step}
use Rattle.beta_edit.proofs.CellTold.{both-then, both-else, vertex-contractible, edge-contractible, face-contractible, volume-contractible, high-contractible}
use Rattle.beta_edit.proofs.contraction.can_contract.Goals as goal

pub returns-in-0 : goal.returns-in-0
returns-in-0 g c = rw c.in-0.is (λ d cell. vertex-contractible (links_of c.args.links.now.rows) d c.args.darts.now _ refl)

pub returns-in-1 : goal.returns-in-1
returns-in-1 g c = rw c.in-1.is (λ d cell. edge-contractible (links_of c.args.links.now.rows) d c.args.darts.now _ refl)

pub returns-then-are_two_sided : goal.returns-then-are_two_sided
returns-then-are_two_sided g c = rw c.in-2.is (λ d cell.
    face-contractible (links_of c.args.links.now.rows) d c.args.darts.now c.stays_apart.result cell
    (both-then ((b : ℕ) → Contains c.args.darts.now b → links_of c.args.links.now.rows 1 (links_of c.args.links.now.rows 1 b) ≡ b)
    (JoinsNoDart (links_of c.args.links.now.rows) 2 (Contains c.args.darts.now) (drawn_step (links_of c.args.links.now.rows) (Some 0) 2))
    c.are_two_sided.result c.stays_apart.result c.if-are_two_sided.true c.are_two_sided.ensures c.stays_apart.ensures))

pub returns-else-are_two_sided : goal.returns-else-are_two_sided
returns-else-are_two_sided g c = rw c.in-2.is (λ d cell.
    face-contractible (links_of c.args.links.now.rows) d c.args.darts.now c.are_two_sided.result cell
    (both-else ((b : ℕ) → Contains c.args.darts.now b → links_of c.args.links.now.rows 1 (links_of c.args.links.now.rows 1 b) ≡ b)
    (JoinsNoDart (links_of c.args.links.now.rows) 2 (Contains c.args.darts.now) (drawn_step (links_of c.args.links.now.rows) (Some 0) 2))
    c.are_two_sided.result c.if-are_two_sided.false c.are_two_sided.ensures))

pub returns-then-are_flat : goal.returns-then-are_flat
returns-then-are_flat g c = rw c.in-3.is (λ d cell.
    volume-contractible (links_of c.args.links.now.rows) d c.args.darts.now c.stays_apart-then-are_flat.result cell
    (both-then ((b : ℕ) → Contains c.args.darts.now b → IsFlatAt (links_of c.args.links.now.rows) b)
    (JoinsNoDart (links_of c.args.links.now.rows) 3 (Contains c.args.darts.now) (drawn_step (links_of c.args.links.now.rows) (Some 2) 3))
    c.are_flat.result c.stays_apart-then-are_flat.result c.if-are_flat.true c.are_flat.ensures c.stays_apart-then-are_flat.ensures))

pub returns-else-are_flat : goal.returns-else-are_flat
returns-else-are_flat g c = rw c.in-3.is (λ d cell.
    volume-contractible (links_of c.args.links.now.rows) d c.args.darts.now c.are_flat.result cell
    (both-else ((b : ℕ) → Contains c.args.darts.now b → IsFlatAt (links_of c.args.links.now.rows) b)
    (JoinsNoDart (links_of c.args.links.now.rows) 3 (Contains c.args.darts.now) (drawn_step (links_of c.args.links.now.rows) (Some 2) 3))
    c.are_flat.result c.if-are_flat.false c.are_flat.ensures))

pub returns-then-are_commuting : goal.returns-then-are_commuting
returns-then-are_commuting g c = λ d cell.
    let some : c.args.dim ≢ 0 = omega arith in
    let more : c.args.dim ≢ 1 = omega arith in
    let next : c.args.dim ≢ 2 = omega arith in
    let then : c.args.dim ≢ 3 = omega arith in
    high-contractible (links_of c.args.links.now.rows) d c.args.darts.now c.stays_apart-then-are_commuting.result c.args.dim some more next then cell
    (both-then ((b : ℕ) → Contains c.args.darts.now b → CommutesAt (links_of c.args.links.now.rows) (c.args.dim - 1) (c.args.dim - 2) b)
    (JoinsNoDart (links_of c.args.links.now.rows) c.args.dim (Contains c.args.darts.now) (drawn_step (links_of c.args.links.now.rows) (Some (c.args.dim - 1)) c.args.dim))
    c.are_commuting.result c.stays_apart-then-are_commuting.result c.if-are_commuting.true c.are_commuting.ensures c.stays_apart-then-are_commuting.ensures)

pub returns-else-are_commuting : goal.returns-else-are_commuting
returns-else-are_commuting g c = λ d cell.
    let some : c.args.dim ≢ 0 = omega arith in
    let more : c.args.dim ≢ 1 = omega arith in
    let next : c.args.dim ≢ 2 = omega arith in
    let then : c.args.dim ≢ 3 = omega arith in
    high-contractible (links_of c.args.links.now.rows) d c.args.darts.now c.are_commuting.result c.args.dim some more next then cell
    (both-else ((b : ℕ) → Contains c.args.darts.now b → CommutesAt (links_of c.args.links.now.rows) (c.args.dim - 1) (c.args.dim - 2) b)
    (JoinsNoDart (links_of c.args.links.now.rows) c.args.dim (Contains c.args.darts.now) (drawn_step (links_of c.args.links.now.rows) (Some (c.args.dim - 1)) c.args.dim))
    c.are_commuting.result c.if-are_commuting.false c.are_commuting.ensures)
