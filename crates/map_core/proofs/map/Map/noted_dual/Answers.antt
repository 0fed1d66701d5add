use Rattle.std.proofs.Common.{refl, inr, lit<}
use Rattle.machine_laws.proofs.KnownRules.{rules-reversed}
use Rattle.map_core.proofs.Stepped.{told-asked, told-advanced, traced-same}
use Rattle.map_core.proofs.Holdings.{held-advanced, held-same}
use Rattle.map_core.proofs.map.Map.noted_dual.Goals as goal

pub invariant_of-self-in_err-step : goal.invariant_of-self-in_err-step
invariant_of-self-in_err-step g c =
    held-same (g.H.Hook.hook c.self.inside.hook.now) c.self.inside.present c.dual_by.new.self c.self.inside.journal.trail c.begin.new.journal.trail c.self.invariant c.dual_by.ensures.places_stay c.begin.ensures.trail c.in_err-step.ensures.err
    (traced-same c.self.inside.present.content c.dual_by.new.self.content c.self.inside.journal.trail c.self.invariant.traced c.begin.ensures.ordered c.begin.new.journal.trail c.begin.ensures.trail c.in_err-step.ensures.err)

pub dual_by-requires : goal.dual_by-requires
dual_by-requires g c =
    let plan = c.in_ok-edit.ensures in
    rw (← c.links.ensures.rows) (lit< tt, (plan.births, (plan.deaths, (plan.fits, (plan.laws, (plan.dualable, plan.dual))))))

pub finish-requires : goal.finish-requires
finish-requires g c = λ some. c.in_ok-noting.ensures.room (told-asked c.self.inside.present.content c.dual_by.new.self.content c.self.inside.journal.trail c.self.invariant.traced c.begin.ensures.ordered c.in_ok-noting.noting c.in_ok-noting.ensures.noting c.in_ok-step.step c.in_ok-step.ensures.step some)

pub invariant_of-self-2 : goal.invariant_of-self-2
invariant_of-self-2 g c =
    held-advanced (g.H.Hook.hook c.self.inside.hook.now) c.self.inside.present c.dual_by.new.self c.self.inside.journal.trail c.self.invariant c.begin.ensures.ordered c.dual_by.ensures.places_stay c.in_ok-step.ensures.room c.in_ok-noting.noting c.in_ok-noting.ensures.noting
    c.in_ok-step.step c.in_ok-step.ensures.step
    (rules-reversed (g.H.Hook.hook c.self.inside.hook.now) c.self.inside.present.content c.dual_by.new.self.content c.in_ok-step.ensures.dual.rules c.self.invariant.known.present)
    c.begin.new.journal.trail c.finish.new.journal.trail c.begin.ensures.trail c.finish.ensures

pub returns-clause-does : goal.returns-clause-does
returns-clause-does g c =
    let stepped = told-advanced c.self.inside.present.content c.dual_by.new.self.content c.self.inside.journal.trail c.self.invariant.traced c.begin.ensures.ordered c.in_ok-noting.noting c.in_ok-noting.ensures.noting c.in_ok-step.step c.in_ok-step.ensures.step c.begin.new.journal.trail c.finish.new.journal.trail c.begin.ensures.trail c.finish.ensures in
    let able = rw (← c.links.ensures.kind, ← c.links.ensures.dim, c.links.ensures.rows) at c.in_ok-edit.ensures.dualable in
    rw (← c.self.view_is)
    (inr (able, (c.dual_by.new.self.content, c.in_ok-step.ensures.dual, refl, stepped)))
