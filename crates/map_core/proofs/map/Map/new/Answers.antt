use Rattle.std.proofs.Common.{ap, sym, subst, []}
use Rattle.machine_defs.specs.State.{Content, State}
use Rattle.trail_laws.specs.Trails.{Trail}
use Rattle.trail_laws.specs.Told.{IsTraced}
use Rattle.trail_laws.proofs.Noting.{traced-begun}
use Rattle.machine_defs.specs.Kept.{AreRulesKnown}
use Rattle.machine_laws.proofs.KnownRules.{empty-known}
use Rattle.map_core.proofs.Holdings.{held-begun}
use Rattle.map_core.proofs.map.Map.new.Goals as goal

pub invariant_of-result : goal.invariant_of-result
invariant_of-result g c =
    held-begun (g.H.Hook.hook c.args.hook.now) c.new.result c.new-2.result.trail c.new-2.ensures.trail
    (subst (λ (t : Trail). IsTraced c.new.result.content t) (sym c.new-2.ensures.trail) (traced-begun c.new.result.content c.new.ensures.lawful))
    (subst (AreRulesKnown (g.H.Hook.hook c.args.hook.now)) (sym c.new.ensures.empty) (empty-known (g.H.Hook.hook c.args.hook.now) g.K.Kind.kind g.row.DIM).present)

pub returns-clause-state : goal.returns-clause-state
returns-clause-state g c =
    rw c.new-2.ensures.trail
    (ap (λ (x : Content). let s : State = record { present = x; past = []; marks = []; undone = [] } in s) c.new.ensures.empty)
