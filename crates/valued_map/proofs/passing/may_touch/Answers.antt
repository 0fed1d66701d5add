use Rattle.std.proofs.Common.{◌≡◌, List, take, Contains, inr, refl, sym, ◌∙◌, subst, take_all, ⊎_elim}
use Rattle.std.proofs.lemmas.Bool.{false≢true}
use Rattle.map_defs.specs.Edits.{Change}
use Rattle.valued_map.specs.Changing.{MayReroute}
use Rattle.valued_map.proofs.Heads.{among-more, among-none}
use Rattle.valued_map.proofs.passing.may_touch.Goals as goal

pub loop-change-init : goal.loop-change-init
loop-change-init g c = λ b here may. among-none c.args.changes.now b here

pub loop-change-preserved : goal.loop-change-preserved
loop-change-preserved g c = λ b here may.
    ⊎_elim (λ before. c.loop-change.invariant b before may)
    (λ same. false≢true (sym c.if-may_reroute.false ∙ c.may_reroute.ensures.1
    (subst (MayReroute g.K.Kind.kind c.args.dim c.args.links.now.rows c.args.older) (sym same) may)))
    (among-more c.args.changes.now c.loop-change.change-index c.change-item.result b c.loop-change-test.true c.change-item.is here)

pub returns-then-may_reroute : goal.returns-then-may_reroute
returns-then-may_reroute g c =
    let here : Contains c.args.changes.now c.change-item.result = (c.loop-change.change-index, c.loop-change-test.true, sym c.change-item.is) in
    ((λ _. inr (inr (c.change-item.result, here, c.may_reroute.ensures.0 c.if-may_reroute.true))), (λ _. refl))

pub returns : goal.returns
returns g c =
    let changes : List Change = c.args.changes.now in
    let all : take c.loop-change.change-index changes ≡ changes = take_all c.loop-change.change-index changes c.loop-change-test.false in (
      (λ yes. absurd (false≢true yes)),
      (λ may. absurd (
          ⊎_elim (λ begun. false≢true (sym c.if-begin_by.false ∙ c.begin_by.ensures.1 begun))
          (⊎_elim (λ back. false≢true (sym c.if-leads_back_in.false ∙ c.leads_back_in.ensures.1 back))
          (λ (b, here, reroutes). c.loop-change.invariant b (subst (λ (bs : List Change). Contains bs b) (sym all) here) reroutes))
          may
          )),
    )
