use Rattle.std.proofs.Common.{ℕ, List, [], ◌≤◌, ◌<◌, All, length, subst, arith}
use Rattle.std.proofs.lemmas.List.{take_all}
use Rattle.std.proofs.lemmas.List.Elements.{All-more}
use Rattle.off_text.proofs.round.refuse_thin.Goals as goal

pub loop-place-preserved : goal.loop-place-preserved
loop-place-preserved c =
    let low : c.loop-place.place < length c.args.rounds.now = omega (arith, c.len-place-end.ensures, c.loop-place-test.true) in
    let long : 3 ≤ length c.list.result.now = omega (arith, c.if-list-lt3.false) in
    All-more (λ (round : List ℕ). 3 ≤ length round) c.args.rounds.now c.loop-place.place [] low c.loop-place.invariant
    (subst (λ (round : List ℕ). 3 ≤ length round) c.list.ensures long)

pub returns-clause-thick : goal.returns-clause-thick
returns-clause-thick c =
    subst (All (λ (round : List ℕ). 3 ≤ length round)) (take_all c.loop-place.place c.args.rounds.now (omega (arith, c.len-place-end.ensures, c.loop-place-test.false))) c.loop-place.invariant
