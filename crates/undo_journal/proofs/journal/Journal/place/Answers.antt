use Rattle.std.proofs.Common.{◌≡◌, ◌≤◌, ◌<◌, subst}
use Rattle.trail_laws.specs.Trails.{Book, place_of}
use Rattle.undo_journal.specs.Entries.{trail_of}
use Rattle.undo_journal.proofs.EntryFacts.{place_listed}
use Rattle.trail_laws.proofs.TrailFacts.{place_within}
use Rattle.undo_journal.proofs.journal.Journal.place.Goals as goal

pub returns-clause-place : goal.returns-clause-place
returns-clause-place c = rw (← c.self.view_is) (place_listed c.self.inside.marks c.args.mark c.place_of.result c.place_of.ensures.place)

pub returns-clause-within : goal.returns-clause-within
returns-clause-within c =
    let inside = c.self.inside in
    let t = trail_of inside.steps.items inside.at inside.marks inside.standing inside.undone.items in
    let read : c.place_of.result ≡ place_of t c.args.mark = place_listed inside.marks c.args.mark c.place_of.result c.place_of.ensures.place in
    subst (λ (b : Book). c.args.mark < b.trail.standing → c.place_of.result ≤ b.trail.at) c.self.view_is
    (λ h. rw read (place_within t c.args.mark c.self.invariant h))
    c.requires
