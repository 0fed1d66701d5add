use Rattle.std.proofs.Common.{refl}
use Rattle.machine_defs.specs.State.{Content}
use Rattle.trail_laws.specs.Trails.{Trail}
use Rattle.map_core.proofs.Marks.{log-answered, log-refused, log-back, log-forward}
use Rattle.map_core.proofs.map.Map.log.Goals as goal

pub returns-in-Ok-clause-answers : goal.returns-in-Ok-clause-answers
returns-in-Ok-clause-answers g c =
    let now : Content = c.self.inside.present.content in
    let t : Trail = c.self.inside.journal.trail in
    let since = c.in-Ok.ensures.since in
    rw (← c.self.view_is)
    (log-answered now t c.self.invariant.traced c.see_order.ensures (g.H.Hook.hook c.self.inside.hook.now) c.args.name.now since.0 since.1 c.in-Ok.steps.now since.2)

pub returns-in-Ok-clause-back : goal.returns-in-Ok-clause-back
returns-in-Ok-clause-back g c =
    let now : Content = c.self.inside.present.content in
    let t : Trail = c.self.inside.journal.trail in
    let since = c.in-Ok.ensures.since in
    rw (← c.self.view_is)
    (log-back now t c.self.invariant.traced c.see_order.ensures (g.H.Hook.hook c.self.inside.hook.now) c.args.name.now since.0 since.1 c.in-Ok.steps.now since.2)

pub returns-in-Ok-clause-forward : goal.returns-in-Ok-clause-forward
returns-in-Ok-clause-forward g c =
    let now : Content = c.self.inside.present.content in
    let t : Trail = c.self.inside.journal.trail in
    let since = c.in-Ok.ensures.since in
    rw (← c.self.view_is)
    (log-forward now t c.self.invariant.traced c.see_order.ensures (g.H.Hook.hook c.self.inside.hook.now) c.args.name.now since.0 since.1 c.in-Ok.steps.now since.2)

pub returns-in-Err-clause-answers : goal.returns-in-Err-clause-answers
returns-in-Err-clause-answers g c =
    let now : Content = c.self.inside.present.content in
    let t : Trail = c.self.inside.journal.trail in
    rw (c.in-Err.ensures.refused, ← c.self.view_is)
    (log-refused now t c.self.invariant.traced c.see_order.ensures (g.H.Hook.hook c.self.inside.hook.now) c.args.name.now (c.in-Err.ensures.unmarked.0 refl))
