use Rattle.std.proofs.Common.{◌≡◌, ◌+◌, ◌∙◌, ◌++◌, ◌∷◌, [], take, length, arith, sym, ap, subst}
use Rattle.std.proofs.lemmas.List.{length-take-le, length_push}
use Rattle.trail_laws.specs.Trails.{Book, Placed, HasMark, IsOrdered, marked}
use Rattle.undo_journal.specs.Entries.{trail_of}
use Rattle.undo_journal.proofs.EntryFacts.{marked_is}
use Rattle.trail_laws.proofs.TrailFacts.{ordered-marked}
use Rattle.undo_journal.proofs.journal.Journal.mark.Goals as goal

pub invariant_of-self-2 : goal.invariant_of-self-2
invariant_of-self-2 c =
    let inside = c.self.inside in
    let t = trail_of inside.steps.items inside.at inside.marks inside.standing inside.undone.items in
    let unmarked : HasMark c.args.self.now.trail c.args.name.now → ⊥ = c.standing_mark.ensures.none.0 (sym c.is_some.ensures ∙ c.if-is_some.false) in
    let free : HasMark t c.args.name.now → ⊥ = subst (λ (b : Book). HasMark b.trail c.args.name.now → ⊥) (sym c.self.view_is) unmarked in
    let new : Placed = record { name = c.args.name.now; place = inside.at } in
    let more : c.replace_behind.new.self ≡ take inside.standing inside.marks ++ new ∷ [] = c.in_ok-replace_behind.ensures.marks in
    let further : c.len-self-inside.result ≡ inside.standing + 1 =
    omega (arith, c.len-self-inside.ensures, ap length more, length_push (take inside.standing inside.marks) new, length-take-le inside.standing inside.marks c.self.invariant.standing) in
    let now = marked_is inside.steps.items c.truncate.new.self.items inside.at inside.marks c.replace_behind.new.self inside.standing c.len-self-inside.result inside.undone.items c.clear.new.self.items c.args.name.now c.truncate.ensures.items more further c.clear.ensures.items in
    subst IsOrdered (sym now) (ordered-marked t c.args.name.now c.self.invariant c.requires free)

pub returns-clause-ok : goal.returns-clause-ok
returns-clause-ok c =
    let inside = c.self.inside in
    let new : Placed = record { name = c.args.name.now; place = inside.at } in
    let more : c.replace_behind.new.self ≡ take inside.standing inside.marks ++ new ∷ [] = c.in_ok-replace_behind.ensures.marks in
    let further : c.len-self-inside.result ≡ inside.standing + 1 =
    omega (arith, c.len-self-inside.ensures, ap length more, length_push (take inside.standing inside.marks) new, length-take-le inside.standing inside.marks c.self.invariant.standing) in
    let now = marked_is inside.steps.items c.truncate.new.self.items inside.at inside.marks c.replace_behind.new.self inside.standing c.len-self-inside.result inside.undone.items c.clear.new.self.items c.args.name.now c.truncate.ensures.items more further c.clear.ensures.items in
    now ∙ ap (λ (b : Book). marked b.trail c.args.name.now) c.self.view_is

pub replace_behind-requires-clause-new : goal.replace_behind-requires-clause-new
replace_behind-requires-clause-new c = λ k is.
    let unmarked : HasMark c.args.self.now.trail c.args.name.now → ⊥ = c.standing_mark.ensures.none.0 (sym c.is_some.ensures ∙ c.if-is_some.false) in
    subst (λ (b : Book). HasMark b.trail c.args.name.now → ⊥) (sym c.self.view_is) unmarked (k, is)
