use Rattle.std.proofs.Common.{ℕ, ◌≡◌, sym, ap, ◌∙◌, subst, arith}
use Rattle.std.proofs.lemmas.Bool.{false≢true}
use Rattle.map_defs.specs.Kind.{inverse}
use Rattle.map_defs.specs.Rows.{links_of}
use Rattle.cell_edit.specs.Stars.{star_of}
use Rattle.map_close.specs.NewLinks.{IsNewLink}
use Rattle.map_close.proofs.NewLinkFacts.{own-link, far-link, next-link, around-link, else-below}
use Rattle.map_close.proofs.closing.new_link.Goals as goal

pub returns-then-at-link : goal.returns-then-at-link
returns-then-at-link g c =
    rw (c.if-at-link.true, c.number.ensures.same)
    (own-link g.K.Kind.kind c.args.link c.requires.can.own (links_of c.args.links.now.rows) (star_of c.args.stars.now) c.args.dart)

pub returns-then-at-link-2 : goal.returns-then-at-link-2
returns-then-at-link-2 g c =
    next-link g.K.Kind.kind c.args.link c.requires.can.own (links_of c.args.links.now.rows) (star_of c.args.stars.now) c.args.dart c.args.at (omega (arith, c.if-at-link-2.true))

pub returns-then-distant : goal.returns-then-distant
returns-then-distant g c =
    let k = g.K.Kind.kind in
    let L = links_of c.args.links.now.rows in
    let star : ℕ → ℕ = star_of c.args.stars.now in
    let is : c.number-then-distant.result ≡ star (L (inverse k c.args.at) c.args.dart) =
    c.number-then-distant.ensures ∙ ap star (c.entry.ensures ∙ c.requires.row c.inverse.result ∙ ap (λ (t : ℕ). L t c.args.dart) c.inverse.ensures) in
    subst (IsNewLink k c.args.link L star c.args.dart c.args.at) (sym is)
    (far-link k c.args.link c.requires.can.own L star c.args.dart c.args.at (c.distant.ensures.0 c.if-distant.true))

pub returns : goal.returns
returns g c =
    let k = g.K.Kind.kind in
    let L = links_of c.args.links.now.rows in
    let star : ℕ → ℕ = star_of c.args.stars.now in
    let round = c.next_star.ensures c.args.dart c.requires.key c.requires.row in
    let below = else-below k c.args.link c.args.at c.requires.can.own c.if-at-link.false c.if-at-link-2.false (λ far. false≢true (sym c.if-distant.false ∙ c.distant.ensures.1 far)) in
    subst (IsNewLink k c.args.link L star c.args.dart c.args.at) (sym round.2)
    (around-link k c.args.link c.requires.can.own L star c.args.dart c.args.at round.0 below round.1)
