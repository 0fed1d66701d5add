use Rattle.std.proofs.Common.{Result, Err, refl, ap, sym, subst, ◌∙◌}
use Rattle.std.proofs.lemmas.Result.{err_from_is_err_and}
use Rattle.map_kind.specs.declared.refusal.Refusal.TheVariants as why
use Rattle.map_kind.specs.declared.refusal.Refused.{Refused}
use Rattle.machine_defs.specs.State.{Content}
use Rattle.machine_defs.specs.Script.{Mark}
use Rattle.trail_laws.specs.Trails.{Book, Trail, HasMark}
use Rattle.trail_laws.specs.Told.{told, IsTraced}
use Rattle.trail_laws.proofs.Marking.{traced-marked}
use Rattle.map_core.specs.Calls.{Does}
use Rattle.map_kind.specs.declared.done.Done.{Done}
use Rattle.map_core.proofs.Marks.{mark-refused, mark-obeyed}
use Rattle.map_core.proofs.Holdings.{held-marked}
use Rattle.map_core.proofs.map.Map.mark.Goals as goal

pub returns-in_err-mark-clause-does : goal.returns-in_err-mark-clause-does
returns-in_err-mark-clause-does g c =
    let now : Content = c.self.inside.present.content in
    let t : Trail = c.self.inside.journal.trail in
    let p = err_from_is_err_and c.from_residual.result c.from_residual.ensures.1 in
    let hook = g.H.Hook.hook c.self.inside.hook.now in
    let refused = mark-refused now t c.self.invariant.traced c.see_order.ensures hook c.args.name.now c.in_err-mark.field-0.0
    (λ refusal is. (c.in_err-mark.ensures.refused refusal).0 (ap Err is)) in
    let is = p.1 ∙ ap Err p.2 in
    let same = sym c.in_err-mark.ensures.err in
    let there = subst (λ (b : Book). Does hook (told now t) (Mark c.args.name.now) (Err c.in_err-mark.field-0.0) (told now b.trail)) same refused in
    rw (← c.self.view_is) (subst (λ (r : Result Done Refused). Does hook (told now t) (Mark c.args.name.now) r (told now c.mark.new.self.trail)) (sym is) there)

pub invariant_of-self-2 : goal.invariant_of-self-2
invariant_of-self-2 g c =
    let now : Content = c.self.inside.present.content in
    let t : Trail = c.self.inside.journal.trail in
    held-marked (g.H.Hook.hook c.self.inside.hook.now) c.self.inside.present t c.mark.new.self.trail c.args.name.now c.self.invariant c.see_order.ensures c.in_ok-mark.ensures.ok
    (subst (λ (u : Trail). IsTraced now u) (sym c.in_ok-mark.ensures.ok) (traced-marked now t c.args.name.now c.self.invariant.traced c.see_order.ensures))

pub returns-clause-does : goal.returns-clause-does
returns-clause-does g c =
    let now : Content = c.self.inside.present.content in
    let t : Trail = c.self.inside.journal.trail in
    let free : HasMark t c.args.name.now → ⊥ = λ has. (let taken = (c.in_ok-mark.ensures.refused why.MarkTaken).1 (refl, has) in cc) in
    rw (← c.self.view_is)
    (mark-obeyed now t c.self.invariant.traced c.see_order.ensures (g.H.Hook.hook c.self.inside.hook.now) c.args.name.now free c.mark.new.self.trail c.in_ok-mark.ensures.ok)
