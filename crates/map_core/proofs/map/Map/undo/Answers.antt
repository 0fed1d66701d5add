use Rattle.std.proofs.Common.{List, Result, Err, ap, ap₂, sym, subst, ◌∙◌, arith, lit<}
use Rattle.std.proofs.lemmas.Result.{err_from_is_err_and}
use Rattle.map_kind.specs.declared.done.Done.{Done}
use Rattle.map_kind.specs.declared.refusal.Refused.{Refused}
use Rattle.machine_defs.specs.State.{Content}
use Rattle.machine_defs.specs.Difference.{Difference}
use Rattle.machine_defs.specs.Script.{Undo}
use Rattle.trail_laws.specs.Trails.{Book, Trail}
use Rattle.trail_laws.specs.Told.{told}
use Rattle.journal_laws.specs.Following.{all_taken_back}
use Rattle.map_core.specs.Calls.{Does}
use Rattle.map_core.proofs.Stepped.{traced-same}
use Rattle.map_core.proofs.GoingBack.{gone-stands, gone-steps, gone-not, steps-lead, undo-not, undo-obeyed, undo-traced}
use Rattle.map_core.proofs.Holdings.{room-since, held-back, held-same}
use Rattle.map_core.proofs.map.Map.undo.Goals as goal

pub returns-in_err-back_to-clause-does : goal.returns-in_err-back_to-clause-does
returns-in_err-back_to-clause-does g c =
    let now : Content = c.self.inside.present.content in
    let t : Trail = c.self.inside.journal.trail in
    let p = err_from_is_err_and c.from_residual.result c.from_residual.ensures.1 in
    let hook = g.H.Hook.hook c.self.inside.hook.now in
    let refused = undo-not now t c.self.invariant.traced c.see_order.ensures hook c.args.name.now c.in_err-back_to.field-0.0
    (λ refusal is. (c.in_err-back_to.ensures.refused refusal).0 (ap Err is)) in
    let is = p.1 ∙ ap Err p.2 in
    let same = sym c.in_err-back_to.ensures.err in
    let there = subst (λ (b : Book). Does hook (told now t) (Undo c.args.name.now) (Err c.in_err-back_to.field-0.0) (told now b.trail)) same refused in
    rw (← c.self.view_is) (subst (λ (r : Result Done Refused). Does hook (told now t) (Undo c.args.name.now) r (told now c.back_to.new.self.trail)) (sym is) there)

pub take_ahead_back-requires : goal.take_ahead_back-requires
take_ahead_back-requires g c =
    let now : Content = c.self.inside.present.content in
    let t : Trail = c.self.inside.journal.trail in
    let u : Trail = c.back_to.new.self.trail in
    let o = c.see_order.ensures in
    let hook = g.H.Hook.hook c.self.inside.hook.now in
    let name = c.args.name.now in
    let back = c.in_ok-back_to.ensures.back in (
      lit< tt,
      (
        gone-stands t o name back.0 back.1 u back.2,
        (
          λ others last one. rw (gone-steps t o name back.0 back.1 u back.2 others last one) (steps-lead now t c.self.invariant.traced o hook name back.0 back.1),
          λ others last one. rw (gone-steps t o name back.0 back.1 u back.2 others last one) (room-since hook c.self.inside.present t c.self.invariant o name back.0 back.1),
        ),
      ),
    )

pub give_up-requires : goal.give_up-requires
give_up-requires g c =
    let back = c.in_ok-back_to.ensures.back in
    gone-stands c.self.inside.journal.trail c.see_order.ensures c.args.name.now back.0 back.1 c.back_to.new.self.trail back.2

pub invariant_of-self-in-Ok : goal.invariant_of-self-in-Ok
invariant_of-self-in-Ok g c =
    let now : Content = c.self.inside.present.content in
    let t : Trail = c.self.inside.journal.trail in
    let u : Trail = c.back_to.new.self.trail in
    let o = c.see_order.ensures in
    let hook = g.H.Hook.hook c.self.inside.hook.now in
    let name = c.args.name.now in
    let back = c.in_ok-back_to.ensures.back in
    let taken = c.in-Ok.ensures.back in
    let before = taken.3 ∙ ap (λ (ss : List Difference). all_taken_back ss now) (gone-steps t o name back.0 back.1 u back.2 taken.0 taken.1 taken.2) in
    held-back hook c.self.inside.present t c.self.invariant o name back.0 back.1 c.take_ahead_back.new.present u before c.take_ahead_back.ensures.places back.2
    (undo-traced now t c.self.invariant.traced o hook name back.0 back.1 c.take_ahead_back.new.present.content before u back.2)

pub returns-in-Ok-clause-does : goal.returns-in-Ok-clause-does
returns-in-Ok-clause-does g c =
    let now : Content = c.self.inside.present.content in
    let t : Trail = c.self.inside.journal.trail in
    let u : Trail = c.back_to.new.self.trail in
    let o = c.see_order.ensures in
    let hook = g.H.Hook.hook c.self.inside.hook.now in
    let name = c.args.name.now in
    let back = c.in_ok-back_to.ensures.back in
    let taken = c.in-Ok.ensures.back in
    let before = taken.3 ∙ ap (λ (ss : List Difference). all_taken_back ss now) (gone-steps t o name back.0 back.1 u back.2 taken.0 taken.1 taken.2) in
    rw (← c.self.view_is) (undo-obeyed now t c.self.invariant.traced o hook name back.0 back.1 c.take_ahead_back.new.present.content before u back.2)

pub invariant_of-self-in-Err : goal.invariant_of-self-in-Err
invariant_of-self-in-Err g c =
    let now : Content = c.self.inside.present.content in
    let t : Trail = c.self.inside.journal.trail in
    let u : Trail = c.back_to.new.self.trail in
    let o = c.see_order.ensures in
    let back = c.in_ok-back_to.ensures.back in
    let given = c.give_up.ensures in
    let v : Trail = c.give_up.new.journal.trail in
    let same = gone-not t o c.args.name.now back.0 back.1 u back.2 given.0 given.1 given.2 v given.3 in
    let places = c.take_ahead_back.ensures.places in
    held-same (g.H.Hook.hook c.self.inside.hook.now) c.self.inside.present c.take_ahead_back.new.present t v c.self.invariant (omega arith) same c.in-Err.ensures.err
    (traced-same now c.take_ahead_back.new.present.content t c.self.invariant.traced o v same c.in-Err.ensures.err)

pub returns-in-Err-clause-does : goal.returns-in-Err-clause-does
returns-in-Err-clause-does g c =
    let now : Content = c.self.inside.present.content in
    let t : Trail = c.self.inside.journal.trail in
    let u : Trail = c.back_to.new.self.trail in
    let back = c.in_ok-back_to.ensures.back in
    let given = c.give_up.ensures in
    let v : Trail = c.give_up.new.journal.trail in
    let same = gone-not t c.see_order.ensures c.args.name.now back.0 back.1 u back.2 given.0 given.1 given.2 v given.3 in
    rw (← c.self.view_is) (ap₂ told c.in-Err.ensures.err same)
