use Rattle.std.proofs.Common.{◌≡◌, ◌∙◌, ◌-◌, slice_get, take, refl, sym, ap, subst, arith, rules}
use Rattle.std.proofs.lemmas.Bool.{false≢true}
use Rattle.std.proofs.lemmas.Slice.Eq.{bytes_eq-Decides}
use Rattle.trail_laws.specs.Trails.{Book, Ahead, IsMarkOf, IsLastAhead, CanGoForth}
use Rattle.undo_journal.proofs.EntryFacts.{names_of, last_found, last_other}
use Rattle.undo_journal.proofs.journal.Journal.last_undo.Goals as goal

pub returns-then-eq-clause-last : goal.returns-then-eq-clause-last
returns-then-eq-clause-last c =
    let inside = c.self.inside in
    let known : IsMarkOf inside.marks c.in_ok-known.known.now c.index-last.result.now.mark =
    ap (λ (u : Ahead). slice_get (names_of inside.marks) u.mark) (sym c.last.view_is) ∙ sym c.in_ok-known.ensures.name in
    let named : c.in_ok-known.known.now ≡ c.args.name.now = search rules in
    let found = last_found inside.steps.items inside.at inside.marks inside.standing inside.undone.items c.len-count.result c.index-last.result.now (omega (arith, inside.undone.ok.0)) c.if-count-eq0.false c.index-last.ensures c.in_ok-known.known.now known c.args.name.now named in
    (take (c.len-count.result - 1) inside.undone.items, subst (λ (b : Book). IsLastAhead b.trail c.args.name.now (take (c.len-count.result - 1) inside.undone.items) c.index-last.result.now) c.self.view_is found)

pub returns-then-eq-clause-none : goal.returns-then-eq-clause-none
returns-then-eq-clause-none c =
    let inside = c.self.inside in
    let known : IsMarkOf inside.marks c.in_ok-known.known.now c.index-last.result.now.mark =
    ap (λ (u : Ahead). slice_get (names_of inside.marks) u.mark) (sym c.last.view_is) ∙ sym c.in_ok-known.ensures.name in
    let named : c.in_ok-known.known.now ≡ c.args.name.now = search rules in
    let found = last_found inside.steps.items inside.at inside.marks inside.standing inside.undone.items c.len-count.result c.index-last.result.now (omega (arith, inside.undone.ok.0)) c.if-count-eq0.false c.index-last.ensures c.in_ok-known.known.now known c.args.name.now named in
    let can : CanGoForth c.args.self.now.trail c.args.name.now = subst (λ (b : Book). CanGoForth b.trail c.args.name.now) c.self.view_is (take (c.len-count.result - 1) inside.undone.items, c.index-last.result.now, found) in
    (λ e. absurd (false≢true (sym e)), λ none. absurd (none can))

pub returns-else-eq-clause-none : goal.returns-else-eq-clause-none
returns-else-eq-clause-none c =
    let inside = c.self.inside in
    let known : IsMarkOf inside.marks c.in_ok-known.known.now c.index-last.result.now.mark =
    ap (λ (u : Ahead). slice_get (names_of inside.marks) u.mark) (sym c.last.view_is) ∙ sym c.in_ok-known.ensures.name in
    let other : c.in_ok-known.known.now ≡ c.args.name.now → ⊥ = λ same. false≢true (c.if-eq.ensures ∙ (bytes_eq-Decides c.in_ok-known.known.now c.args.name.now).1 same) in
    let not_last = last_other inside.steps.items inside.at inside.marks inside.standing inside.undone.items c.len-count.result c.index-last.result.now (omega (arith, inside.undone.ok.0)) c.if-count-eq0.false c.index-last.ensures c.in_ok-known.known.now known c.args.name.now other in
    let none : CanGoForth c.args.self.now.trail c.args.name.now → ⊥ = subst (λ (b : Book). CanGoForth b.trail c.args.name.now → ⊥) c.self.view_is not_last in
    (λ _. none, λ _. refl)
