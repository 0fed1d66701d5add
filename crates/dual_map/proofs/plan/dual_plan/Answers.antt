use Rattle.std.proofs.Common.{append-nil}
use Rattle.dual_map.proofs.DualEdit.{dual-differ, dual-is, dual-lawful, dual-fits}
use Rattle.dual_map.proofs.plan.dual_plan.Goals as goal

pub returns-clause-differ : goal.returns-clause-differ
returns-clause-differ g c =
    rw (c.none.ensures.rows, append-nil c.in_ok-dual_changes.field-0.items, c.in_ok-dual_changes.ensures.changes)
    (dual-differ g.K.Kind.kind g.row.DIM c.args.links.now.rows c.in_ok-dual_changes.ensures.low c.in_ok-dual_changes.ensures.sound c.requires)

pub returns-clause-fits : goal.returns-clause-fits
returns-clause-fits g c =
    rw (c.new.ensures.items, c.none.ensures.rows, append-nil c.in_ok-dual_changes.field-0.items, c.in_ok-dual_changes.ensures.changes)
    (dual-fits g.K.Kind.kind g.row.DIM c.args.links.now.rows c.in_ok-dual_changes.ensures.low c.in_ok-dual_changes.ensures.sound c.requires (c.dualable.ensures.0 c.if-not-dualable.false))

pub returns-clause-dual : goal.returns-clause-dual
returns-clause-dual g c =
    rw (c.new.ensures.items, c.none.ensures.rows, append-nil c.in_ok-dual_changes.field-0.items, c.in_ok-dual_changes.ensures.changes)
    (dual-is g.K.Kind.kind g.row.DIM c.args.links.now.rows c.in_ok-dual_changes.ensures.low c.in_ok-dual_changes.ensures.sound c.requires)

pub returns-clause-laws : goal.returns-clause-laws
returns-clause-laws g c =
    rw (c.new.ensures.items, c.none.ensures.rows, append-nil c.in_ok-dual_changes.field-0.items, c.in_ok-dual_changes.ensures.changes)
    (dual-lawful g.K.Kind.kind g.row.DIM c.args.links.now.rows c.in_ok-dual_changes.ensures.low c.in_ok-dual_changes.ensures.sound c.requires (c.dualable.ensures.0 c.if-not-dualable.false))
