use Rattle.map_kind.specs.Refusals.{meaning}
use Rattle.map_laws.specs.Insertions.{insertion_line, new_dim}
use Rattle.map_laws.proofs.InsertTwice.{removal-accepted, removal-back}
use Rattle.map_laws.proofs.Outcomes.{first-fails, inserted-both, inserts}
use Rattle.map_laws.proofs.insert.insert_then_remove.Goals as goal

pub returns-in-Err-clause-fault : goal.returns-in-Err-clause-fault
returns-in-Err-clause-fault g c =
    first-fails (g.H.Hook.hook c.args.map.now.hook) c.args.map.now.state (insertion_line c.args.insertion.now) c.in-Err.refused c.insert.new.map.state c.in-Err.ensures.does

pub unreachable-requires : goal.unreachable-requires
unreachable-requires g c =
    let hook = g.H.Hook.hook c.args.map.now.hook in
    let s = c.args.map.now.state in
    let mid = c.insert.new.map.state in
    let first = c.in-Ok.done.first in
    let count = c.in-Ok.done.count in
    removal-accepted hook s mid c.see_kept.ensures.begun (new_dim c.args.insertion.now) first count
    (inserts hook s mid c.see_kept.ensures first count c.args.insertion.now c.requires.sides c.in-Ok.ensures.does)
    (meaning c.in-Err-Line.field-0-0) c.remove.new.self.state
    (rw (c.in-Err-Line.field-0-is, c.from.ensures, c.inserted_dimension.ensures, c.insert.ensures.hook) at c.in-Err-Line.ensures.does)

pub returns-in-Ok-remove-clause-both : goal.returns-in-Ok-remove-clause-both
returns-in-Ok-remove-clause-both g c =
    inserted-both (g.H.Hook.hook c.args.map.now.hook) c.args.map.now.state c.insert.new.map.state c.remove.new.self.state c.in-Ok.done c.in-Ok-remove.field-0
    (insertion_line c.args.insertion.now) (new_dim c.args.insertion.now) c.in-Ok.ensures.does
    (rw (c.from.ensures, c.inserted_dimension.ensures, c.insert.ensures.hook) at c.in-Ok-remove.ensures.does)

pub returns-in-Ok-remove-clause-back : goal.returns-in-Ok-remove-clause-back
returns-in-Ok-remove-clause-back g c =
    let hook = g.H.Hook.hook c.args.map.now.hook in
    let s = c.args.map.now.state in
    let mid = c.insert.new.map.state in
    let first = c.in-Ok.done.first in
    let count = c.in-Ok.done.count in
    removal-back hook s mid c.see_kept.ensures.begun (new_dim c.args.insertion.now) first count
    (inserts hook s mid c.see_kept.ensures first count c.args.insertion.now c.requires.sides c.in-Ok.ensures.does)
    c.in-Ok-remove.field-0.first c.in-Ok-remove.field-0.count c.remove.new.self.state
    (rw (c.from.ensures, c.inserted_dimension.ensures, c.insert.ensures.hook) at c.in-Ok-remove.ensures.does)
