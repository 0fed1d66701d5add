use Rattle.std.proofs.Common.{sym, subst, Contains, arith}
use Rattle.std.proofs.lemmas.Int.{ints}
use Rattle.std.proofs.lemmas.List.Elements.{Contains-get_or}
use Rattle.map_soak.proofs.TotalFacts.{total-next}
use Rattle.map_soak.proofs.squares.total.Goals as goal

pub loop-value-preserved : goal.loop-value-preserved
loop-value-preserved c =
    let (same, low, high) = c.loop-value.invariant in
    let v = c.value-item.result in
    let held = subst (Contains c.args.values.now) (sym c.value-item.is) (Contains-get_or c.args.values.now c.loop-value.value-index v c.loop-value-test.true) in
    let next = total-next c.args.values.now c.loop-value.value-index v c.loop-value-test.true c.value-item.is (c.requires v held) in
    (omega (arith, ints, same, next, low, high), omega (arith, ints, low, high), omega (arith, ints, low, high))
