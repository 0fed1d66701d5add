use Rattle.map_kind.specs.Refusals.{meaning}
use Rattle.machine_defs.specs.Script.{Sew}
use Rattle.map_laws.proofs.SewnTwice.{unsewing-accepted, unsewing-back}
use Rattle.map_laws.proofs.Outcomes.{second-fails}
use Rattle.map_laws.proofs.sew.sew_then_unsew.Goals as goal

pub unreachable-requires : goal.unreachable-requires
unreachable-requires g c =
    unsewing-accepted (g.H.Hook.hook c.args.map.now.hook) c.args.map.now.state c.sew.new.self.state c.see_kept.ensures c.args.link c.args.dart c.args.other
    c.in-Ok.field-0.first c.in-Ok.field-0.count c.in-Ok.ensures.does (meaning c.in-Err-Line.field-0-0) c.unsew.new.self.state
    (rw (c.in-Err-Line.field-0-is, c.sew.ensures.hook) at c.in-Err-Line.ensures.does)

pub returns-in-Ok-unsew-clause-back : goal.returns-in-Ok-unsew-clause-back
returns-in-Ok-unsew-clause-back g c =
    unsewing-back (g.H.Hook.hook c.args.map.now.hook) c.args.map.now.state c.sew.new.self.state c.see_kept.ensures c.args.link c.args.dart c.args.other
    c.in-Ok.field-0.first c.in-Ok.field-0.count c.in-Ok.ensures.does c.in-Ok-unsew.field-0.first c.in-Ok-unsew.field-0.count c.unsew.new.self.state
    (rw c.sew.ensures.hook at c.in-Ok-unsew.ensures.does)

pub returns-in-Err-NoMemory-clause-fault : goal.returns-in-Err-NoMemory-clause-fault
returns-in-Err-NoMemory-clause-fault g c =
    second-fails (g.H.Hook.hook c.args.map.now.hook) c.args.map.now.state (Sew c.args.link c.args.dart c.args.other) c.in-Ok.field-0 c.sew.new.self.state c.unsew.new.self.state
    c.in-Ok.ensures.does (rw c.in-Err-NoMemory.field-0-is at c.in-Err-NoMemory.ensures.does)
