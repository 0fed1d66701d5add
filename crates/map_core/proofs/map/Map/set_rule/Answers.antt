use Rattle.std.proofs.Common.{ap, sym, subst, ◌∙◌}
use Rattle.std.proofs.lemmas.Result.{err_from_is_err_and}
use Rattle.machine_defs.specs.State.{State, steps_to}
use Rattle.trail_laws.specs.Told.{told}
use Rattle.machine_laws.proofs.KnownRules.{rule-set}
use Rattle.machine_defs.specs.Kept.{AreRulesKnown}
use Rattle.map_core.proofs.Stepped.{told-asked, told-advanced, traced-same, told-same}
use Rattle.map_core.proofs.Holdings.{held-advanced, held-same}
use Rattle.map_core.proofs.map.Map.set_rule.Goals as goal

pub invariant_of-self-in_err-step : goal.invariant_of-self-in_err-step
invariant_of-self-in_err-step g c =
    held-same (g.H.Hook.hook c.self.inside.hook.now) c.self.inside.present c.set_rule.new.self c.self.inside.journal.trail c.begin.new.journal.trail c.self.invariant c.set_rule.ensures.places_stay c.begin.ensures.trail c.in_err-step.ensures.err
    (traced-same c.self.inside.present.content c.set_rule.new.self.content c.self.inside.journal.trail c.self.invariant.traced c.begin.ensures.ordered c.begin.new.journal.trail c.begin.ensures.trail c.in_err-step.ensures.err)

pub returns-in_err-step-clause-err : goal.returns-in_err-step-clause-err
returns-in_err-step-clause-err g c =
    let same = told-same c.self.inside.present.content c.set_rule.new.self.content c.self.inside.journal.trail c.self.invariant.traced c.begin.ensures.ordered c.begin.new.journal.trail c.begin.ensures.trail c.in_err-step.ensures.err in
    let error = err_from_is_err_and c.from_residual-in_err-step.result c.from_residual-in_err-step.ensures.1 in
    rw (error.1, ← c.self.view_is) (ap (λ (s : State). record { state = s; hook = c.self.inside.hook.now }) same)

pub finish-requires : goal.finish-requires
finish-requires g c = λ some. c.in_ok-noting.ensures.room (told-asked c.self.inside.present.content c.set_rule.new.self.content c.self.inside.journal.trail c.self.invariant.traced c.begin.ensures.ordered c.in_ok-noting.noting c.in_ok-noting.ensures.noting c.in_ok-step.step c.in_ok-step.ensures.step some)

pub invariant_of-self-2 : goal.invariant_of-self-2
invariant_of-self-2 g c =
    held-advanced (g.H.Hook.hook c.self.inside.hook.now) c.self.inside.present c.set_rule.new.self c.self.inside.journal.trail c.self.invariant c.begin.ensures.ordered c.set_rule.ensures.places_stay c.in_ok-step.ensures.room c.in_ok-noting.noting c.in_ok-noting.ensures.noting
    c.in_ok-step.step c.in_ok-step.ensures.step
    (subst (AreRulesKnown (g.H.Hook.hook c.self.inside.hook.now)) (sym c.in_ok-step.ensures.set) (rule-set (g.H.Hook.hook c.self.inside.hook.now) c.self.inside.present.content c.args.dim c.args.rule (rw (← c.self.view_is) at c.requires.known) c.self.invariant.known.present))
    c.begin.new.journal.trail c.finish.new.journal.trail c.begin.ensures.trail c.finish.ensures

pub returns-clause-set : goal.returns-clause-set
returns-clause-set g c =
    let stepped = told-advanced c.self.inside.present.content c.set_rule.new.self.content c.self.inside.journal.trail c.self.invariant.traced c.begin.ensures.ordered c.in_ok-noting.noting c.in_ok-noting.ensures.noting c.in_ok-step.step c.in_ok-step.ensures.step c.begin.new.journal.trail c.finish.new.journal.trail c.begin.ensures.trail c.finish.ensures in
    rw (← c.self.view_is) (stepped ∙ ap (steps_to (told c.self.inside.present.content c.self.inside.journal.trail)) c.in_ok-step.ensures.set)
