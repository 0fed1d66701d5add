use Rattle.std.proofs.Common.{ℕ, ◌∙◌, arith, lit<}
use Rattle.map_defs.specs.Rows.{Rows, IsLive, links_of}
use Rattle.link_laws.proofs.RowFacts.{linked_live}
use Rattle.link_rows.specs.Turning.{HaveSameDarts}
use Rattle.link_rows.proofs.Exchanges.{same-at-first, same-written, pair-turned}
use Rattle.link_rows.proofs.dual.turn_pair.Goals as goal

pub exchange_between-requires : goal.exchange_between-requires
exchange_between-requires g c =
    let n : ℕ = g.row.DIM in
    let old : Rows = c.args.rows.now.rows in
    let one : ℕ = c.args.one in
    let other : ℕ = c.args.other in
    let darts : HaveSameDarts n old c.set_first-2.new.rows.rows =
    rw (c.set_first-2.ensures.rows, c.set_first.ensures.rows)
    (same-written n old _ other _ _ (same-written n old old one _ _ (same-at-first n old c.requires.nothing c.requires.wide))) in
    let here : IsLive old one = linked_live old n one (λ none. omega (arith, c.requires.there, none)) in
    let lives : IsLive old other = linked_live old n other (λ none. omega (arith, c.requires.back, none)) in
    (lit< tt, (c.requires.low, (darts.nothing, (darts.wide, (c.requires.apart, (darts.live one ∙ here, darts.live other ∙ lives))))))

pub returns-clause-turned : goal.returns-clause-turned
returns-clause-turned g c =
    let n : ℕ = g.row.DIM in
    let old : Rows = c.args.rows.now.rows in
    let one : ℕ = c.args.one in
    let other : ℕ = c.args.other in
    let here : IsLive old one = linked_live old n one (λ none. omega (arith, c.requires.there, none)) in
    let lives : IsLive old other = linked_live old n other (λ none. omega (arith, c.requires.back, none)) in
    pair-turned n old one other c.requires.low c.requires.wide c.requires.apart c.requires.there c.requires.back here lives
    (links_of c.exchange_between.new.rows.rows) (rw (c.set_first-2.ensures.rows, c.set_first.ensures.rows) at c.exchange_between.ensures.exchanged)
