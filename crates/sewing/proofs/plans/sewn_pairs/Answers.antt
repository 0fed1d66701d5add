use Rattle.std.proofs.Common.{ℕ, ◌<◌, ◌≤◌, ◌↔◌, length, get_or, Contains, lit<, List, take}
use Rattle.std.proofs.lemmas.List.Elements.{Contains-get_or}
use Rattle.std.proofs.lemmas.Result.{IfOk-weaker, on_ok_weaker}
use Rattle.map_defs.specs.Kind.{IsDistant}
use Rattle.map_defs.specs.Rows.{links_of}
use Rattle.link_laws.proofs.RowFacts.{rows_dimension}
use Rattle.sewing.proofs.DistantPairs.{listed-sewn, good-sewn, sewn-good}
use Rattle.sewing.proofs.plans.sewn_pairs.Goals as goal

pub grown-requires : goal.grown-requires
grown-requires g c =
    let js : List ℕ = take c.distant_links-count.result.1 c.distant_links-count.result.0 in
    let low = λ (n d : ℕ) (h : n < length js). ((c.distant_links-count.ensures.distant (get_or js n d)).0 (Contains-get_or js n d h)).0 in
    (lit< tt, ((λ n d h. rw c.dimension.ensures.dimension at (low n d h)), c.dimension.ensures.sound))

pub returns-clause-members : goal.returns-clause-members
returns-clause-members g c =
    let js : List ℕ = take c.distant_links-count.result.1 c.distant_links-count.result.0 in
    let distant : (j : ℕ) → Contains js j ↔ ((j ≤ g.row.DIM) × IsDistant g.K.Kind.kind c.args.link j) = rw c.dimension.ensures.dimension at c.distant_links-count.ensures.distant in
    let above = rows_dimension g.row.DIM c.args.links.now.rows c.dimension.ensures.sound.wide in
    IfOk-weaker c.grown.result _ _
    (λ pairs members x y t.
    let sewn = listed-sewn g.K.Kind.kind (links_of c.args.links.now.rows) g.row.DIM c.args.link c.args.one c.args.other js c.dimension.ensures.low above distant x y t in
    let listed = members x y t in
    (λ has. sewn.0 (listed.0 has), λ p. listed.1 (sewn.1 p)))
    c.grown.ensures.members

pub returns-clause-good : goal.returns-clause-good
returns-clause-good g c =
    let js : List ℕ = take c.distant_links-count.result.1 c.distant_links-count.result.0 in
    let distant : (j : ℕ) → Contains js j ↔ ((j ≤ g.row.DIM) × IsDistant g.K.Kind.kind c.args.link j) = rw c.dimension.ensures.dimension at c.distant_links-count.ensures.distant in
    let above = rows_dimension g.row.DIM c.args.links.now.rows c.dimension.ensures.sound.wide in
    on_ok_weaker c.grown.result
    (good-sewn g.K.Kind.kind (links_of c.args.links.now.rows) g.row.DIM c.args.link c.args.one c.args.other js c.dimension.ensures.low above distant)
    c.grown.ensures.good

pub returns-clause-unpaired : goal.returns-clause-unpaired
returns-clause-unpaired g c = λ is good.
    let js : List ℕ = take c.distant_links-count.result.1 c.distant_links-count.result.0 in
    let distant : (j : ℕ) → Contains js j ↔ ((j ≤ g.row.DIM) × IsDistant g.K.Kind.kind c.args.link j) = rw c.dimension.ensures.dimension at c.distant_links-count.ensures.distant in
    let above = rows_dimension g.row.DIM c.args.links.now.rows c.dimension.ensures.sound.wide in
    c.grown.ensures.unpaired is (sewn-good g.K.Kind.kind (links_of c.args.links.now.rows) g.row.DIM c.args.link c.args.one c.args.other js c.dimension.ensures.low above distant good)
