use Rattle.std.proofs.Common.{◌≡◌, List, append-nil}
use Rattle.map_defs.specs.Rows.{links_of}
use Rattle.map_defs.specs.Sewing.{IsSewable}
use Rattle.sewing.specs.Triples.{Triple}
use Rattle.sewing.specs.PairLists.{triples_of}
use Rattle.sewing.proofs.PlanChanges.{changes}
use Rattle.sewing.proofs.PlanLaws.{plan-sewn, plan-sewn-laws, plan-sewn-fits}
use Rattle.sewing.proofs.plans.sew_plan.Goals as goal

pub returns-in_ok-joining-in-Ok-clause-fits : goal.returns-in_ok-joining-in-Ok-clause-fits
returns-in_ok-joining-in-Ok-clause-fits g c =
    let pairs : List Triple = triples_of c.in-Ok.pairs in
    let list : c.in_ok-joining-in-Ok.field-0.items ≡ changes (λ p. 0) (λ p. p.y) pairs = rw c.triples.ensures at c.in_ok-joining-in-Ok.ensures in
    let free = c.are_free.ensures.0 c.if-not-are_free.false in
    let can : IsSewable g.K.Kind.kind (links_of c.args.links.now.rows) c.args.link c.args.one c.args.other = record { near = free.0; far = free.1; good = c.in-Ok.ensures.good } in
    rw (c.new.ensures.items, c.none.ensures.rows, append-nil c.in_ok-joining-in-Ok.field-0.items, list)
    (plan-sewn-fits g.K.Kind.kind g.row.DIM c.args.links.now.rows c.sewn_pairs.ensures.sound c.sewn_pairs.ensures.low c.requires.laws c.args.link c.requires.link c.args.one c.args.other
    c.requires.one c.requires.other can pairs c.in-Ok.ensures.apart c.in-Ok.ensures.members)

pub returns-in_ok-joining-in-Ok-clause-sewn : goal.returns-in_ok-joining-in-Ok-clause-sewn
returns-in_ok-joining-in-Ok-clause-sewn g c =
    let pairs : List Triple = triples_of c.in-Ok.pairs in
    let list : c.in_ok-joining-in-Ok.field-0.items ≡ changes (λ p. 0) (λ p. p.y) pairs = rw c.triples.ensures at c.in_ok-joining-in-Ok.ensures in
    let free = c.are_free.ensures.0 c.if-not-are_free.false in
    let can : IsSewable g.K.Kind.kind (links_of c.args.links.now.rows) c.args.link c.args.one c.args.other = record { near = free.0; far = free.1; good = c.in-Ok.ensures.good } in
    rw (c.new.ensures.items, c.none.ensures.rows, append-nil c.in_ok-joining-in-Ok.field-0.items, list)
    (plan-sewn g.K.Kind.kind g.row.DIM c.args.links.now.rows c.sewn_pairs.ensures.sound c.sewn_pairs.ensures.low c.requires.laws c.args.link c.requires.link c.args.one c.args.other
    c.requires.one c.requires.other can pairs c.in-Ok.ensures.apart c.in-Ok.ensures.members)

pub returns-in_ok-joining-in-Ok-clause-laws : goal.returns-in_ok-joining-in-Ok-clause-laws
returns-in_ok-joining-in-Ok-clause-laws g c =
    let pairs : List Triple = triples_of c.in-Ok.pairs in
    let list : c.in_ok-joining-in-Ok.field-0.items ≡ changes (λ p. 0) (λ p. p.y) pairs = rw c.triples.ensures at c.in_ok-joining-in-Ok.ensures in
    let free = c.are_free.ensures.0 c.if-not-are_free.false in
    let can : IsSewable g.K.Kind.kind (links_of c.args.links.now.rows) c.args.link c.args.one c.args.other = record { near = free.0; far = free.1; good = c.in-Ok.ensures.good } in
    rw (c.new.ensures.items, c.none.ensures.rows, append-nil c.in_ok-joining-in-Ok.field-0.items, list)
    (plan-sewn-laws g.K.Kind.kind g.row.DIM c.args.links.now.rows c.sewn_pairs.ensures.sound c.sewn_pairs.ensures.low c.requires.laws c.args.link c.requires.link c.args.one c.args.other
    c.requires.one c.requires.other can pairs c.in-Ok.ensures.apart c.in-Ok.ensures.members)
