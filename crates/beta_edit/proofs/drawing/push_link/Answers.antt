use Rattle.std.proofs.Common.{ℕ, refl, ◌≢◌, Contains, sym, ◌∙◌, subst, lit<}
use Rattle.std.proofs.lemmas.Bool.{false≢true}
use Rattle.std.proofs.lemmas.List.Elements.{All-contains}
use Rattle.map_defs.specs.Kind.{beta, inverse}
use Rattle.map_defs.specs.Rows.{links_of, IsLive}
use Rattle.cell_edit.proofs.Beyond.{none-unless}
use Rattle.cell_edit.proofs.Premises.{live-dart}
use Rattle.beta_edit.specs.Crossing.{DrawsTo}
use Rattle.beta_edit.proofs.DrawnEntries.{link-free, link-inner, link-outer, link-back}
use Rattle.beta_edit.proofs.drawing.push_link.Goals as goal

pub returns-in_default : goal.returns-in_default
returns-in_default g c =
    link-free (links_of c.args.links.now.rows) c.args.beside c.args.darts.now c.args.dart c.args.link c.args.changes.now.items
    (c.link.ensures.free.0 (none-unless c.link.result c.in_default.not-Some))

pub returns-then-is_among : goal.returns-then-is_among
returns-then-is_among g c =
    let linked : links_of c.args.links.now.rows c.args.link c.args.dart ≢ 0 = λ none. false≢true (sym (c.in-Some.ensures.free.1 none)) in
    link-inner (links_of c.args.links.now.rows) c.args.beside c.args.darts.now c.args.dart c.args.link c.in-Some.other c.args.changes.now.items c.push.new.self.items
    c.in-Some.ensures.linked linked (c.is_among.ensures.0 c.if-is_among.true) (rw (c.new.ensures, c.number.ensures.same) at c.in_ok-push.ensures.items)

pub walk_end_from_within-requires : goal.walk_end_from_within-requires
walk_end_from_within-requires g c =
    let nothing : Contains c.args.darts.now 0 → ⊥ = λ has. live-dart beta g.row.DIM c.args.links.now.rows c.in-Some.ensures.sound 0 (All-contains (λ (d : ℕ). IsLive c.args.links.now.rows d) c.args.darts.now 0 c.requires.can.live has) refl in
    (lit< tt, (c.requires.can.ascending, (nothing, c.requires.dart)))

pub unreachable-requires : goal.unreachable-requires
unreachable-requires g c =
    let linked : links_of c.args.links.now.rows c.args.link c.args.dart ≢ 0 = λ none. false≢true (sym (c.in-Some.ensures.free.1 none)) in
    let e = c.requires.can.ends c.in-Some.other (inverse beta c.args.link) (λ has. false≢true (sym c.if-is_among.false ∙ c.is_among.ensures.1 has)) in
    let back = link-back (links_of c.args.links.now.rows) c.requires.laws c.args.link c.args.dart c.in-Some.other c.in-Some.ensures.linked linked in
    (rw c.inverse-back.ensures at c.in_default-walk_end_from_within.ensures.endless) e.0
    (subst (λ x. DrawsTo (links_of c.args.links.now.rows) c.args.beside (inverse beta c.args.link) c.args.darts.now x e.0) back e.1)

pub returns : goal.returns
returns g c =
    let linked : links_of c.args.links.now.rows c.args.link c.args.dart ≢ 0 = λ none. false≢true (sym (c.in-Some.ensures.free.1 none)) in
    link-outer (links_of c.args.links.now.rows) c.args.beside c.args.darts.now c.args.dart c.args.link c.in-Some.other c.in-Some-walk_end_from_within.end c.args.changes.now.items c.push.new.self.items c.push-2.new.self.items
    c.in-Some.ensures.linked linked c.requires.dart (λ has. false≢true (sym c.if-is_among.false ∙ c.is_among.ensures.1 has))
    (link-back (links_of c.args.links.now.rows) c.requires.laws c.args.link c.args.dart c.in-Some.other c.in-Some.ensures.linked linked)
    (rw c.inverse-back.ensures at c.in-Some-walk_end_from_within.ensures.end) (rw (c.new.ensures, c.number.ensures.same) at c.in_ok-push.ensures.items) (rw (c.new-2.ensures, c.number-2.ensures.same, c.inverse-back.ensures) at c.in_ok-push-2.ensures.items)
