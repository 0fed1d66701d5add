use Rattle.std.proofs.Common.{◌≡◌, refl, arith, sym, subst}
use Rattle.std.proofs.lemmas.Bool.{false≢true}
use Rattle.std.proofs.lemmas.Option.{none-some, same_Some}
use Rattle.trail_laws.specs.Trails.{Book, IsMark, HasMark}
use Rattle.undo_journal.proofs.EntryFacts.{mark_found, found_mark}
use Rattle.undo_journal.proofs.journal.Journal.standing_mark.Goals as goal

pub returns-in_err-k-clause-none : goal.returns-in_err-k-clause-none
returns-in_err-k-clause-none c =
    let inside = c.self.inside in
    let none = λ (m : HasMark c.args.self.now.trail c.args.name.now). (
    let shown = subst (λ (b : Book). HasMark b.trail c.args.name.now) (sym c.self.view_is) m in
    let found = found_mark inside.steps.items inside.at inside.marks inside.standing inside.undone.items c.args.name.now shown in
    let no : ⊥ = none-some found.0 ((c.in_err-k.ensures.number found.0).1 found.1) in no) in
    (λ _. none, λ _. rw c.from_residual.ensures refl)

pub returns-then-k-self-clause-found : goal.returns-then-k-self-clause-found
returns-then-k-self-clause-found c =
    let inside = c.self.inside in
    let here = mark_found inside.steps.items inside.at inside.marks inside.standing inside.undone.items c.args.name.now c.in_ok-k.k ((c.in_ok-k.ensures.number c.in_ok-k.k).0 refl) c.if-k-self.true in
    subst (λ (b : Book). IsMark b.trail c.args.name.now c.in_ok-k.k) c.self.view_is here

pub returns-then-k-self-clause-none : goal.returns-then-k-self-clause-none
returns-then-k-self-clause-none c =
    let inside = c.self.inside in
    let here = mark_found inside.steps.items inside.at inside.marks inside.standing inside.undone.items c.args.name.now c.in_ok-k.k ((c.in_ok-k.ensures.number c.in_ok-k.k).0 refl) c.if-k-self.true in
    (λ e. absurd (false≢true (sym e)), λ none. absurd (none (c.in_ok-k.k, subst (λ (b : Book). IsMark b.trail c.args.name.now c.in_ok-k.k) c.self.view_is here)))

pub returns-else-k-self-clause-none : goal.returns-else-k-self-clause-none
returns-else-k-self-clause-none c =
    let inside = c.self.inside in
    let none = λ (m : HasMark c.args.self.now.trail c.args.name.now). (
    let shown = subst (λ (b : Book). HasMark b.trail c.args.name.now) (sym c.self.view_is) m in
    let found = found_mark inside.steps.items inside.at inside.marks inside.standing inside.undone.items c.args.name.now shown in
    let same : c.in_ok-k.k ≡ found.0 = same_Some c.in_ok-k.k found.0 ((c.in_ok-k.ensures.number found.0).1 found.1) in
    let high = c.if-k-self.false in
    let no : ⊥ = absurd (omega (arith, found.2)) in no) in
    (λ _. none, λ _. refl)
