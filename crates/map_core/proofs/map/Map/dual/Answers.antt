use Rattle.std.proofs.Common.{◌≡◌, ◌∙◌, Err, sym, ap, subst, refl, inl, inr, arith}
use Rattle.std.proofs.lemmas.Bool.{cases_eq, false≢true}
use Rattle.std.proofs.lemmas.Result.{err_from_is_err_and}
use Rattle.machine_defs.specs.State.{Content}
use Rattle.trail_laws.specs.Trails.{Trail}
use Rattle.trail_laws.specs.Told.{told, IsTraced}
use Rattle.machine_defs.specs.Kept.{KnowsRules}
use Rattle.machine_laws.proofs.KnownRules.{next-known, rules-reversed}
use Rattle.trail_laws.proofs.Noting.{told-unmarked, traced-unmarked}
use Rattle.map_core.proofs.DualSteps.{dual-unmade, dual-refused}
use Rattle.map_core.proofs.Holdings.{held-unmarked}
use Rattle.map_core.proofs.map.Map.dual.Goals as goal

pub invariant_of-self : goal.invariant_of-self
invariant_of-self g c =
    let t : Trail = c.self.inside.journal.trail in
    let none : t.standing ≡ 0 = elim (cases_eq t.standing 0) [ inl e ↦ e | inr some ↦ absurd (false≢true (sym c.if-is_noting.false ∙ c.is_noting.ensures.noting.1 (omega arith))) ] in
    held-unmarked (g.H.Hook.hook c.self.inside.hook.now) c.take_dual.new.self t none
    (subst (λ (present : Content). IsTraced present c.self.inside.journal.trail) (sym (dual-unmade c.self.inside.present.content c.take_dual.new.self.content c.in_err-take_dual.field-0.0 c.in_err-take_dual.ensures.becomes)) c.self.invariant.traced)
    (subst (λ (present : Content). KnowsRules (g.H.Hook.hook c.self.inside.hook.now) (told present t)) (sym (dual-unmade c.self.inside.present.content c.take_dual.new.self.content c.in_err-take_dual.field-0.0 c.in_err-take_dual.ensures.becomes)) c.self.invariant.known)

pub returns-in_err-take_dual-clause-does : goal.returns-in_err-take_dual-clause-does
returns-in_err-take_dual-clause-does g c =
    let p = err_from_is_err_and c.from_residual.result c.from_residual.ensures.1 in
    rw (← c.self.view_is)
    (dual-refused (g.H.Hook.hook c.args.self.now.hook) c.self.inside.present.content c.take_dual.new.self.content c.self.inside.journal.trail c.in_err-take_dual.field-0.0 c.in_err-take_dual.ensures.becomes c.from_residual.result (p.1 ∙ ap Err p.2))

pub invariant_of-self-2 : goal.invariant_of-self-2
invariant_of-self-2 g c =
    let t : Trail = c.self.inside.journal.trail in
    let none : t.standing ≡ 0 = elim (cases_eq t.standing 0) [ inl e ↦ e | inr some ↦ absurd (false≢true (sym c.if-is_noting.false ∙ c.is_noting.ensures.noting.1 (omega arith))) ] in
    held-unmarked (g.H.Hook.hook c.self.inside.hook.now) c.take_dual.new.self t none
    (traced-unmarked c.self.inside.present.content c.take_dual.new.self.content t c.self.invariant.traced c.is_noting.ensures.ordered none c.in_ok-take_dual.ensures.becomes.2.kept)
    (next-known (g.H.Hook.hook c.self.inside.hook.now) (told c.self.inside.present.content t) c.self.invariant.known c.take_dual.new.self.content (told c.take_dual.new.self.content t)
    (rules-reversed (g.H.Hook.hook c.self.inside.hook.now) c.self.inside.present.content c.take_dual.new.self.content c.in_ok-take_dual.ensures.becomes.1.rules c.self.invariant.known.present)
    (told-unmarked c.self.inside.present.content c.take_dual.new.self.content t c.self.invariant.traced c.is_noting.ensures.ordered none c.in_ok-take_dual.ensures.becomes.2.kept))

pub returns-clause-does : goal.returns-clause-does
returns-clause-does g c =
    let t : Trail = c.self.inside.journal.trail in
    let none : t.standing ≡ 0 = elim (cases_eq t.standing 0) [ inl e ↦ e | inr some ↦ absurd (false≢true (sym c.if-is_noting.false ∙ c.is_noting.ensures.noting.1 (omega arith))) ] in
    rw (← c.self.view_is)
    (inr (
      c.in_ok-take_dual.ensures.becomes.0,
      (
        c.take_dual.new.self.content,
        c.in_ok-take_dual.ensures.becomes.1,
        refl,
        told-unmarked c.self.inside.present.content c.take_dual.new.self.content t c.self.invariant.traced c.is_noting.ensures.ordered none c.in_ok-take_dual.ensures.becomes.2.kept,
      ),
    ))
