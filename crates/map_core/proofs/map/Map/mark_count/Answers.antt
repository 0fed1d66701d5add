use Rattle.std.proofs.Common.{sym, ◌∙◌}
use Rattle.machine_defs.specs.State.{Content}
use Rattle.trail_laws.specs.Trails.{Trail}
use Rattle.trail_laws.proofs.Naming.{marks-long, all-kept}
use Rattle.map_core.proofs.Marks.{told-traced}
use Rattle.map_core.proofs.map.Map.mark_count.Goals as goal

pub returns-clause-count : goal.returns-clause-count
returns-clause-count g c =
    let now : Content = c.self.inside.present.content in
    let t : Trail = c.self.inside.journal.trail in
    rw (← c.self.view_is) (c.mark_count.ensures.standing ∙ sym (marks-long now t c.mark_count.ensures.ordered))

pub returns-clause-kept : goal.returns-clause-kept
returns-clause-kept g c =
    let now : Content = c.self.inside.present.content in
    let t : Trail = c.self.inside.journal.trail in
    rw (← c.self.view_is) (all-kept now t c.mark_count.ensures.ordered c.self.invariant.traced)

pub returns-clause-traced : goal.returns-clause-traced
returns-clause-traced g c =
    let now : Content = c.self.inside.present.content in
    let t : Trail = c.self.inside.journal.trail in
    rw (← c.self.view_is) (told-traced now t c.self.invariant.traced c.mark_count.ensures.ordered)

pub returns-clause-rules : goal.returns-clause-rules
returns-clause-rules g c = rw (← c.self.view_is) c.self.invariant.known
