use Rattle.std.proofs.Common.{drop}
use Rattle.cell_walk.specs.Marks.{IsMarked}
use Rattle.cell_walk.proofs.SinceDarts.{since-once, since-members, since-ascending}
use Rattle.cell_walk.proofs.found.Found+Marks.sort_since.Goals as goal

pub invariant_of-self : goal.invariant_of-self
invariant_of-self c =
    since-once (IsMarked c.self.inside.seen.marks.items) c.self.inside.darts.items c.sort_behind.new.darts.items c.args.place
    c.sort_behind.ensures.before c.sort_behind.ensures.same c.self.invariant

pub returns-clause-members : goal.returns-clause-members
returns-clause-members c =
    rw (← c.self.view_is) (since-members _ c.self.inside.darts.items (drop c.args.place c.sort_behind.new.darts.items) c.args.place c.self.invariant c.sort_behind.ensures.same)

pub returns-clause-ascending : goal.returns-clause-ascending
returns-clause-ascending c =
    since-ascending _ c.self.inside.darts.items (drop c.args.place c.sort_behind.new.darts.items) c.args.place c.self.invariant c.sort_behind.ensures.same c.sort_behind.ensures.sorted
