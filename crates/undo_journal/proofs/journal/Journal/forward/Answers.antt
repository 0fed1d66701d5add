use Rattle.std.proofs.Common.{◌∙◌, sym, ap, subst, arith}
use Rattle.trail_laws.specs.Trails.{Book, Ahead, IsLastAhead, IsOrdered}
use Rattle.trail_laws.proofs.TrailFacts.{ordered-forth}
use Rattle.undo_journal.specs.Entries.{trail_of}
use Rattle.undo_journal.proofs.EntryFacts.{forth_is}
use Rattle.undo_journal.proofs.journal.Journal.forward.Goals as goal

pub invariant_of-self : goal.invariant_of-self
invariant_of-self c =
    let inside = c.self.inside in
    let t = trail_of inside.steps.items inside.at inside.marks inside.standing inside.undone.items in
    let one = c.in-Some.ensures.last in
    let last = c.in-Some.last in
    let is : IsLastAhead t c.args.name.now one.0 last = subst (λ (b : Book). IsLastAhead b.trail c.args.name.now one.0 last) (sym c.self.view_is) one.1 in
    let now = forth_is inside.steps.items inside.at inside.marks inside.standing inside.undone.items c.args.name.now one.0 last is c.truncate.new.self.items c.saturating_sub.result c.truncate.ensures.items (omega (arith, inside.undone.ok.0)) in
    let here = ap (λ (u : Ahead). trail_of inside.steps.items u.at inside.marks u.standing c.truncate.new.self.items) c.last.view_is in
    subst IsOrdered (sym (here ∙ now)) (ordered-forth t one.0 last c.self.invariant is.there)
