use Rattle.std.proofs.Common.{◌≡◌, ◌≤◌, ◌-◌, take, drop, subst}
use Rattle.trail_laws.specs.Trails.{Book, place_of, steps_since}
use Rattle.undo_journal.specs.Entries.{trail_of}
use Rattle.trail_laws.proofs.TrailFacts.{taken_since}
use Rattle.undo_journal.proofs.journal.Journal.entries_since.Goals as goal

pub returns-in-Some-clause-since : goal.returns-in-Some-clause-since
returns-in-Some-clause-since c =
    let inside = c.self.inside in
    let t = trail_of inside.steps.items inside.at inside.marks inside.standing inside.undone.items in
    let within : c.place.result ≤ inside.at = rw (← c.self.view_is) at c.place.ensures.within in
    let here : c.place.result ≡ place_of t c.in-Some.k = rw (← c.self.view_is) at c.place.ensures.place in
    let shown : take (inside.at - c.place.result) (drop c.place.result c.deref.result.now) ≡ steps_since t c.in-Some.k = rw (c.deref.ensures.value, ← here) (taken_since inside.steps.items c.place.result inside.at within) in
    (c.in-Some.k, c.in-Some.ensures.found, subst (λ (b : Book). take (inside.at - c.place.result) (drop c.place.result c.deref.result.now) ≡ steps_since b.trail c.in-Some.k) c.self.view_is shown)
