use Rattle.std.proofs.Common.{Vec, Global, sym, ◌∙◌}
use Rattle.std.proofs.lemmas.Bool.{false≢true}
use Rattle.map_defs.specs.Rows.{links_of, IsLive}
use Rattle.half_defs.specs.Orientation.{Sign}
use Rattle.orient_half.proofs.FaultFacts.{fold-told, signs-told, searched-told, searched-boundary, searched-folded}
use Rattle.orient_half.proofs.orienting.orient.Goals as goal

pub returns-in-Some-clause-folded : goal.returns-in-Some-clause-folded
returns-in-Some-clause-folded g c d i =
    fold-told g.row.DIM (IsLive c.args.links.now.rows) (links_of c.args.links.now.rows) c.in-Some.fold.dart c.in-Some.fold.link d i
    (λ has. false≢true (sym c.if-has_boundary.false ∙ c.has_boundary.ensures.1 has)) c.in-Some.ensures.first

pub returns-in-None-clause-boundary : goal.returns-in-None-clause-boundary
returns-in-None-clause-boundary g c =
    searched-boundary g.row.DIM (IsLive c.args.links.now.rows) (links_of c.args.links.now.rows)
    (λ has. false≢true (sym c.if-has_boundary.false ∙ c.has_boundary.ensures.1 has)) c.in-None.ensures.none c.sign_all.result c.sign_all.ensures.fault

pub returns-in-None-clause-folded : goal.returns-in-None-clause-folded
returns-in-None-clause-folded g c =
    searched-folded g.row.DIM (IsLive c.args.links.now.rows) (links_of c.args.links.now.rows)
    (λ has. false≢true (sym c.if-has_boundary.false ∙ c.has_boundary.ensures.1 has)) c.in-None.ensures.none c.sign_all.result c.sign_all.ensures.fault

pub returns-in-None-clause-fault : goal.returns-in-None-clause-fault
returns-in-None-clause-fault g c =
    searched-told g.row.DIM (IsLive c.args.links.now.rows) (links_of c.args.links.now.rows)
    (λ has. false≢true (sym c.if-has_boundary.false ∙ c.has_boundary.ensures.1 has)) c.in-None.ensures.none c.sign_all.result c.sign_all.ensures.fault

pub returns-in-None-clause-signs : goal.returns-in-None-clause-signs
returns-in-None-clause-signs g c =
    signs-told g.row.DIM (IsLive c.args.links.now.rows) (links_of c.args.links.now.rows)
    (λ has. false≢true (sym c.if-has_boundary.false ∙ c.has_boundary.ensures.1 has)) c.in-None.ensures.none c.sign_all.result (λ (signs : Vec Sign Global). signs.items) c.sign_all.ensures.signs
