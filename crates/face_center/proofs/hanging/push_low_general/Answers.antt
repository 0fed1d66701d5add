use Rattle.std.proofs.Common.{ℕ, ◌≡◌, ◌∙◌, slice_index}
use Rattle.map_defs.specs.Kind.{Kind}
use Rattle.map_defs.specs.Links.{Links}
use Rattle.map_defs.specs.Rows.{links_of}
use Rattle.cell_edit.specs.Stars.{star_of}
use Rattle.face_center.specs.Hanging.{tip_of}
use Rattle.face_center.proofs.HungNeighbours.{next-key}
use Rattle.face_center.proofs.HungPushes.{general-zero, general-one, general-two, low-pushes}
use Rattle.face_center.proofs.hanging.push_low_general.Goals as goal

pub edge_numbers-begin_link-requires-clause-key : goal.edge_numbers-begin_link-requires-clause-key
edge_numbers-begin_link-requires-clause-key g c =
    next-key g.K.Kind.kind c.args.links.now.rows c.args.hanging c.args.stars.now c.requires.can c.args.dart c.requires.key c.entry.result c.requires.general
    (c.entry.ensures ∙ c.requires.row 1)

pub returns-clause-entries : goal.returns-clause-entries
returns-clause-entries g c =
    let k : Kind = g.K.Kind.kind in
    let L : Links = links_of c.args.links.now.rows in
    let star : ℕ → ℕ = star_of c.args.stars.now in
    let tip : ℕ → ℕ = tip_of c.args.stars.now in
    let read : c.entry.result ≡ slice_index c.args.row.now 1 = c.entry.ensures in
    let next : c.entry.result ≡ L 1 c.args.dart = read ∙ c.requires.row 1 in
    let begin : ℕ = c.args.edge.now.begin in
    let end : ℕ = c.args.edge.now.end in
    low-pushes k c.args.links.now.rows c.args.hanging c.args.stars.now c.requires.can c.args.dart c.requires.key begin end c.requires.begin c.requires.end
    end begin c.args.dart c.turned_link-turned.result c.edge_numbers-begin_link.result.0 c.edge_numbers-begin_link.result.1
    c.args.changes.now.items c.push_joined.new.changes.items c.push_joined-2.new.changes.items c.push_joined-3.new.changes.items
    c.push_link.new.changes.items c.push_link-2.new.changes.items c.push_link-3.new.changes.items
    (general-zero k c.args.hanging L star tip c.args.dart end begin c.requires.general c.requires.end c.requires.begin)
    (general-one k c.args.hanging L star tip c.args.dart c.requires.general, c.turned_link-turned.ensures)
    (general-two k c.args.hanging L star tip c.args.dart c.entry.result c.edge_numbers-begin_link.result.0 c.edge_numbers-begin_link.result.1 c.requires.general next
    c.edge_numbers-begin_link.ensures.begin c.edge_numbers-begin_link.ensures.end)
    c.push_joined.ensures.entry c.push_joined-2.ensures.entry c.push_joined-3.ensures.entry c.push_link.ensures.entry c.push_link-2.ensures.entry c.push_link-3.ensures.entry
