use Rattle.std.proofs.Common.{ℕ, ◌≡◌, ◌≢◌, ◌≤◌, rules, sym, subst, ◌∙◌, lit<, IsSome}
use Rattle.map_defs.specs.Rows.{links_of, IsLive}
use Rattle.orient_half.proofs.MarkFacts.{some-or_none, at-some}
use Rattle.orient_half.proofs.WaysBack.{way-none, way-more, way-all}
use Rattle.orient_half.proofs.walk.walk_back.Goals as goal

pub loop-first-init : goal.loop-first-init
loop-first-init g c = way-none g.row.DIM (links_of c.args.links.now.rows) c.args.search.now.marks.items c.args.dart c.args.walk.now.items c.requires.reached

pub loop-first-preserved : goal.loop-first-preserved
loop-first-preserved g c =
    let apart : c.loop-first.here ≢ c.args.first = search rules in
    way-more g.row.DIM (IsLive c.args.links.now.rows) (links_of c.args.links.now.rows) c.args.search.now.marks.items c.args.first c.args.dart c.loop-first.here c.unwrap-here.result c.from-link.result c.unwrap.result c.args.walk.now.items c.loop-first.walk.items c.push.new.self.items
    c.requires.held c.requires.led (sym c.mark.ensures ∙ c.unwrap.ensures) apart c.from-link.ensures
    (at-some (λ (other : ℕ). other ≡ links_of c.args.links.now.rows c.from-link.result c.loop-first.here) c.link.result c.unwrap-here.result c.unwrap-here.ensures c.link.ensures.linked)
    c.in_ok-push.ensures.items c.loop-first.invariant

pub returns : goal.returns
returns g c =
    let is : c.loop-first.here ≡ c.args.first = search rules in
    way-all g.row.DIM (links_of c.args.links.now.rows) c.args.search.now.marks.items c.args.first c.args.dart c.loop-first.here c.args.walk.now.items c.loop-first.walk.items c.requires.led is c.loop-first.invariant

pub mark-requires : goal.mark-requires
mark-requires g c = c.requires.held.room c.loop-first.here (c.requires.held.live c.loop-first.here c.loop-first.invariant.2.reached)

pub unwrap-requires : goal.unwrap-requires
unwrap-requires g c = subst IsSome (sym c.mark.ensures) c.loop-first.invariant.2.reached

pub link-requires : goal.link-requires
link-requires g c =
    (lit< tt, subst (λ (link : ℕ). link ≤ g.row.DIM) (sym c.from-link.ensures) (c.requires.held.within c.loop-first.here c.unwrap.result (sym c.mark.ensures ∙ c.unwrap.ensures)))

pub unwrap-here-requires : goal.unwrap-here-requires
unwrap-here-requires g c =
    let within : c.from-link.result ≤ g.row.DIM = subst (λ (link : ℕ). link ≤ g.row.DIM) (sym c.from-link.ensures) (c.requires.held.within c.loop-first.here c.unwrap.result (sym c.mark.ensures ∙ c.unwrap.ensures)) in
    some-or_none c.link.result (λ none. c.requires.closed (c.loop-first.here, c.from-link.result, c.requires.held.live c.loop-first.here c.loop-first.invariant.2.reached, within, c.link.ensures.free.0 none))
