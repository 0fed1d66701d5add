use Rattle.std.proofs.Common.{◌≡◌, ◌+◌, ◌∙◌, ◌++◌, ◌∷◌, [], take, arith, sym, ap, subst}
use Rattle.trail_laws.specs.Trails.{Book, IsOrdered, noted}
use Rattle.undo_journal.specs.Entries.{trail_of}
use Rattle.undo_journal.proofs.EntryFacts.{noted_is}
use Rattle.trail_laws.proofs.TrailFacts.{ordered-noted}
use Rattle.undo_journal.proofs.journal.Journal.note.Goals as goal

pub invariant_of-self : goal.invariant_of-self
invariant_of-self c =
    let inside = c.self.inside in
    let t = trail_of inside.steps.items inside.at inside.marks inside.standing inside.undone.items in
    let more : c.push_reserved.new.self.items ≡ take inside.at inside.steps.items ++ c.args.step ∷ [] = c.push_reserved.ensures.items ∙ ap (λ xs. xs ++ c.args.step ∷ []) c.truncate.ensures.items in
    let further : c.len-self-inside.result ≡ inside.at + 1 = omega (arith, c.self.invariant.at, inside.steps.ok.0) in
    let now = noted_is inside.steps.items c.push_reserved.new.self.items inside.at c.len-self-inside.result inside.marks c.truncate-2.new.self inside.standing inside.undone.items c.truncate-3.new.self.items c.args.step more further c.truncate-2.ensures c.truncate-3.ensures.items in
    subst IsOrdered (sym now) (ordered-noted t c.args.step c.self.invariant)

pub returns-clause-trail : goal.returns-clause-trail
returns-clause-trail c =
    let inside = c.self.inside in
    let more : c.push_reserved.new.self.items ≡ take inside.at inside.steps.items ++ c.args.step ∷ [] = c.push_reserved.ensures.items ∙ ap (λ xs. xs ++ c.args.step ∷ []) c.truncate.ensures.items in
    let further : c.len-self-inside.result ≡ inside.at + 1 = omega (arith, c.self.invariant.at, inside.steps.ok.0) in
    let now = noted_is inside.steps.items c.push_reserved.new.self.items inside.at c.len-self-inside.result inside.marks c.truncate-2.new.self inside.standing inside.undone.items c.truncate-3.new.self.items c.args.step more further c.truncate-2.ensures c.truncate-3.ensures.items in
    now ∙ ap (λ (b : Book). noted b.trail c.args.step) c.self.view_is
