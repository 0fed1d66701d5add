use Rattle.std.proofs.Common.{ℕ, ◌≡◌, ◌∙◌, sym}
use Rattle.std.proofs.lemmas.Bool.{false≢true}
use Rattle.map_defs.specs.Kind.{Kind, beta}
use Rattle.map_defs.specs.Links.{Links}
use Rattle.map_defs.specs.Rows.{links_of}
use Rattle.cell_edit.specs.Stars.{star_of}
use Rattle.face_center.specs.Hanging.{tip_of}
use Rattle.face_center.proofs.HungPushes.{combinatorial-zero, combinatorial-one, low-pushes}
use Rattle.face_center.proofs.KindFacts.{other-kind}
use Rattle.face_center.proofs.hanging.push_low.Goals as goal

pub returns-clause-entries : goal.returns-clause-entries
returns-clause-entries g c =
    let k : Kind = g.K.Kind.kind in
    let L : Links = links_of c.args.links.now.rows in
    let star : ℕ → ℕ = star_of c.args.stars.now in
    let tip : ℕ → ℕ = tip_of c.args.stars.now in
    let combinatorial : k ≡ beta = other-kind k (λ is. false≢true (sym c.if-is_generalized.false ∙ c.is_generalized.ensures.1 is)) in
    let begin : ℕ = c.args.edge.now.begin in
    let end : ℕ = c.args.edge.now.end in
    low-pushes k c.args.links.now.rows c.args.hanging c.args.stars.now c.requires.can c.args.dart c.requires.key begin end c.requires.begin c.requires.end
    c.before-2.result begin end c.args.dart c.side_links-begin_link.result.0 c.side_links-begin_link.result.1
    c.args.changes.now.items c.push_joined.new.changes.items c.push_joined-2.new.changes.items c.push_joined-3.new.changes.items c.push_joined-4.new.changes.items
    c.push_link.new.changes.items c.push_link-2.new.changes.items
    (combinatorial-zero k c.args.hanging L star tip c.args.dart c.before-2.result begin combinatorial c.before-2.ensures c.requires.begin)
    (combinatorial-one k c.args.hanging L star tip c.args.dart end combinatorial c.requires.end)
    (c.side_links-begin_link.ensures.begin, c.side_links-begin_link.ensures.end)
    c.push_joined.ensures.entry c.push_joined-2.ensures.entry c.push_joined-3.ensures.entry c.push_joined-4.ensures.entry c.push_link.ensures.entry c.push_link-2.ensures.entry
