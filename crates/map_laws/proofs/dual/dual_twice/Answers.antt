use Rattle.map_kind.specs.Refusals.{meaning}
use Rattle.map_laws.proofs.DualTwice.{dual-accepted, dual-back}
use Rattle.map_laws.proofs.Outcomes.{dual-both}
use Rattle.map_laws.proofs.dual.dual_twice.Goals as goal

pub unreachable-requires : goal.unreachable-requires
unreachable-requires g c =
    dual-accepted (g.H.Hook.hook c.args.map.now.hook) c.args.map.now.state c.dual.new.self.state c.see_kept.ensures
    c.in-Ok.field-0.first c.in-Ok.field-0.count c.in-Ok.ensures.does (meaning c.in-Err-Line.field-0-0) c.dual-2.new.self.state
    (rw c.in-Err-Line.field-0-is at c.in-Err-Line.ensures.does)

pub returns-in-Ok-dual-clause-both : goal.returns-in-Ok-dual-clause-both
returns-in-Ok-dual-clause-both g c =
    dual-both (g.H.Hook.hook c.args.map.now.hook) c.args.map.now.state c.dual.new.self.state c.dual-2.new.self.state
    c.in-Ok.field-0 c.in-Ok-dual.field-0 c.in-Ok.ensures.does c.in-Ok-dual.ensures.does

pub returns-in-Ok-dual-clause-back : goal.returns-in-Ok-dual-clause-back
returns-in-Ok-dual-clause-back g c =
    dual-back (g.H.Hook.hook c.args.map.now.hook) c.args.map.now.state c.dual.new.self.state c.see_kept.ensures
    c.in-Ok.field-0.first c.in-Ok.field-0.count c.in-Ok.ensures.does c.in-Ok-dual.field-0.first c.in-Ok-dual.field-0.count c.dual-2.new.self.state
    c.in-Ok-dual.ensures.does
