use Rattle.std.proofs.Common.{◌≡◌, ◌≤◌, ◌-◌, ◌∙◌, take, drop, sym, ap, subst}
use Rattle.trail_laws.specs.Trails.{Book, Ahead, steps_ahead}
use Rattle.trail_laws.proofs.TrailFacts.{taken_since}
use Rattle.undo_journal.specs.Entries.{trail_of}
use Rattle.undo_journal.proofs.journal.Journal.steps_ahead.Goals as goal

pub returns-in-Some-clause-ahead : goal.returns-in-Some-clause-ahead
returns-in-Some-clause-ahead c =
    let inside = c.self.inside in
    let t = trail_of inside.steps.items inside.at inside.marks inside.standing inside.undone.items in
    let last = c.in-Some.last in
    let one = c.in-Some.ensures.last in
    let more : inside.at ≤ last.at = subst (λ (b : Book). b.trail.at ≤ last.at) (sym c.self.view_is) c.in-Some.ensures.ahead.more in
    let taken : take (last.at - inside.at) (drop inside.at c.deref.result.now) ≡ steps_ahead t last = rw c.deref.ensures.value (taken_since inside.steps.items inside.at last.at more) in
    let shown = ap (λ (u : Ahead). take (u.at - inside.at) (drop inside.at c.deref.result.now)) c.last.view_is ∙ taken ∙ ap (λ (b : Book). steps_ahead b.trail last) c.self.view_is in
    (one.0, last, one.1, shown)
