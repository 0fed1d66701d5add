use Rattle.std.proofs.Common.{◌≡◌, ◌∙◌, ◌<◌, ◌++◌, ◌∷◌, [], List, sym, ap, subst}
use Rattle.trail_laws.specs.Trails.{Ahead, IsOrdered, place_of, undo_at}
use Rattle.undo_journal.specs.Entries.{trail_of}
use Rattle.trail_laws.proofs.TrailFacts.{ordered-back}
use Rattle.undo_journal.proofs.EntryFacts.{back_is}
use Rattle.undo_journal.proofs.journal.Journal.back_to.Goals as goal

pub invariant_of-self-2 : goal.invariant_of-self-2
invariant_of-self-2 c =
    let inside = c.self.inside in
    let t = trail_of inside.steps.items inside.at inside.marks inside.standing inside.undone.items in
    let below : c.in-Some.k < inside.standing = rw (← c.self.view_is) at c.in-Some.ensures.within in
    let here : c.place-place.result ≡ place_of t c.in-Some.k = rw (← c.self.view_is) at c.place-place.ensures.place in
    let kept : c.push_reserved.new.self.items ≡ inside.undone.items ++ undo_at t c.in-Some.k ∷ [] =
    c.push_reserved.ensures.items ∙ ap (λ (us : List Ahead). us ++ undo_at t c.in-Some.k ∷ []) c.in_ok-reserve.ensures.items in
    subst IsOrdered (sym (back_is inside.steps.items inside.at inside.marks inside.standing inside.undone.items c.push_reserved.new.self.items c.in-Some.k c.place-place.result here kept))
    (ordered-back t c.in-Some.k c.self.invariant below)
