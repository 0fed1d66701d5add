use Rattle.std.proofs.Common.{◌≡◌, ◌≢◌, List, Err, sym, ap, append-nil}
use Rattle.std.proofs.lemmas.Bool.{false≢true}
use Rattle.map_defs.specs.Rows.{links_of}
use Rattle.sewing.specs.Triples.{Triple}
use Rattle.sewing.proofs.PartedPairs.{parted-good}
use Rattle.sewing.specs.PairLists.{triples_of}
use Rattle.sewing.proofs.PlanChanges.{changes}
use Rattle.sewing.proofs.PlanLaws.{plan-unsewn, plan-unsewn-laws, plan-unsewn-fits}
use Rattle.sewing.proofs.plans.unsew_plan.Goals as goal

pub unreachable-requires : goal.unreachable-requires
unreachable-requires g c =
    let linked : links_of c.args.links.now.rows c.args.link c.args.dart ≢ 0 = λ e. false≢true (sym (c.in-Some.ensures.free.1 e)) in
    (rw c.in-Some.ensures.linked at c.in-Err-Unpaired.ensures.unpaired) (ap Err c.in-Err-Unpaired.field-0-is)
    (parted-good g.K.Kind.kind (links_of c.args.links.now.rows) c.requires.laws c.args.link c.args.dart linked)

pub returns-in_ok-parting-in-Ok-clause-fits : goal.returns-in_ok-parting-in-Ok-clause-fits
returns-in_ok-parting-in-Ok-clause-fits g c =
    let pairs : List Triple = triples_of c.in-Ok.pairs in
    let list : c.in_ok-parting-in-Ok.field-0.items ≡ changes (λ p. p.y) (λ p. 0) pairs = rw c.triples.ensures at c.in_ok-parting-in-Ok.ensures in
    let linked : links_of c.args.links.now.rows c.args.link c.args.dart ≢ 0 = λ e. false≢true (sym (c.in-Some.ensures.free.1 e)) in
    rw (c.new.ensures.items, c.none.ensures.rows, append-nil c.in_ok-parting-in-Ok.field-0.items, list)
    (plan-unsewn-fits g.K.Kind.kind g.row.DIM c.args.links.now.rows c.link.ensures.sound c.link.ensures.low c.requires.laws c.args.link c.requires.link c.args.dart linked
    pairs c.in-Ok.ensures.apart (rw c.in-Some.ensures.linked at c.in-Ok.ensures.members))

pub returns-in_ok-parting-in-Ok-clause-unsewn : goal.returns-in_ok-parting-in-Ok-clause-unsewn
returns-in_ok-parting-in-Ok-clause-unsewn g c =
    let pairs : List Triple = triples_of c.in-Ok.pairs in
    let list : c.in_ok-parting-in-Ok.field-0.items ≡ changes (λ p. p.y) (λ p. 0) pairs = rw c.triples.ensures at c.in_ok-parting-in-Ok.ensures in
    let linked : links_of c.args.links.now.rows c.args.link c.args.dart ≢ 0 = λ e. false≢true (sym (c.in-Some.ensures.free.1 e)) in
    rw (c.new.ensures.items, c.none.ensures.rows, append-nil c.in_ok-parting-in-Ok.field-0.items, list)
    (plan-unsewn g.K.Kind.kind g.row.DIM c.args.links.now.rows c.link.ensures.sound c.link.ensures.low c.requires.laws c.args.link c.requires.link c.args.dart linked
    pairs c.in-Ok.ensures.apart (rw c.in-Some.ensures.linked at c.in-Ok.ensures.members))

pub returns-in_ok-parting-in-Ok-clause-laws : goal.returns-in_ok-parting-in-Ok-clause-laws
returns-in_ok-parting-in-Ok-clause-laws g c =
    let pairs : List Triple = triples_of c.in-Ok.pairs in
    let list : c.in_ok-parting-in-Ok.field-0.items ≡ changes (λ p. p.y) (λ p. 0) pairs = rw c.triples.ensures at c.in_ok-parting-in-Ok.ensures in
    let linked : links_of c.args.links.now.rows c.args.link c.args.dart ≢ 0 = λ e. false≢true (sym (c.in-Some.ensures.free.1 e)) in
    rw (c.new.ensures.items, c.none.ensures.rows, append-nil c.in_ok-parting-in-Ok.field-0.items, list)
    (plan-unsewn-laws g.K.Kind.kind g.row.DIM c.args.links.now.rows c.link.ensures.sound c.link.ensures.low c.requires.laws c.args.link c.requires.link c.args.dart linked
    pairs c.in-Ok.ensures.apart (rw c.in-Some.ensures.linked at c.in-Ok.ensures.members))
