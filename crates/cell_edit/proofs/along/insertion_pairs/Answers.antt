use Rattle.std.proofs.Common.{ℕ, ◌≤◌, ◌↔◌, List, take, Contains, lit<}
use Rattle.std.proofs.lemmas.Result.{IfOk-weaker, on_ok_weaker}
use Rattle.map_defs.specs.Rows.{links_of}
use Rattle.map_defs.specs.Insertion.{IsPairing}
use Rattle.link_laws.proofs.RowFacts.{rows_dimension}
use Rattle.sewing.specs.Triples.{Lists}
use Rattle.cell_edit.proofs.AlongLinks.{listed-low}
use Rattle.cell_edit.proofs.PairsAlong.{listed-pairs, listed-good, good-listed}
use Rattle.cell_edit.proofs.along.insertion_pairs.Goals as goal

pub pair-requires : goal.pair-requires
pair-requires g c =
    let js : List ℕ = take c.pairing_links-count.result.1 c.pairing_links-count.result.0 in
    let listed : (j : ℕ) → Contains js j ↔ ((j ≤ g.row.DIM) × IsPairing c.args.link j) = rw c.dimension.ensures.dimension at c.pairing_links-count.ensures.pairing in
    (lit< tt, listed-low g.row.DIM (IsPairing c.args.link) js listed)

pub returns-clause-members : goal.returns-clause-members
returns-clause-members g c =
    let rows = c.args.links.now.rows in
    let js : List ℕ = take c.pairing_links-count.result.1 c.pairing_links-count.result.0 in
    let listed : (j : ℕ) → Contains js j ↔ ((j ≤ g.row.DIM) × IsPairing c.args.link j) = rw c.dimension.ensures.dimension at c.pairing_links-count.ensures.pairing in
    IfOk-weaker c.pair.result _ _
    (λ pairs same. λ x y t. let along = listed-pairs g.K.Kind.kind (links_of rows) g.row.DIM c.dimension.ensures.low (rows_dimension g.row.DIM rows c.dimension.ensures.sound.wide) (IsPairing c.args.link) js listed (Lists c.args.seeds.now) x y t in
    (λ has. along.0 ((same x y t).0 has), λ p. (same x y t).1 (along.1 p)))
    c.pair.ensures.members

pub returns-clause-good : goal.returns-clause-good
returns-clause-good g c =
    let rows = c.args.links.now.rows in
    let js : List ℕ = take c.pairing_links-count.result.1 c.pairing_links-count.result.0 in
    let listed : (j : ℕ) → Contains js j ↔ ((j ≤ g.row.DIM) × IsPairing c.args.link j) = rw c.dimension.ensures.dimension at c.pairing_links-count.ensures.pairing in
    on_ok_weaker c.pair.result
    (listed-good g.K.Kind.kind (links_of rows) g.row.DIM c.dimension.ensures.low (rows_dimension g.row.DIM rows c.dimension.ensures.sound.wide) (IsPairing c.args.link) js listed (Lists c.args.seeds.now))
    c.pair.ensures.good

pub returns-clause-unpaired : goal.returns-clause-unpaired
returns-clause-unpaired g c = λ is good.
    let rows = c.args.links.now.rows in
    let js : List ℕ = take c.pairing_links-count.result.1 c.pairing_links-count.result.0 in
    let listed : (j : ℕ) → Contains js j ↔ ((j ≤ g.row.DIM) × IsPairing c.args.link j) = rw c.dimension.ensures.dimension at c.pairing_links-count.ensures.pairing in
    c.pair.ensures.unpaired is
    (good-listed g.K.Kind.kind (links_of rows) g.row.DIM c.dimension.ensures.low (rows_dimension g.row.DIM rows c.dimension.ensures.sound.wide) (IsPairing c.args.link) js listed (Lists c.args.seeds.now) good)
