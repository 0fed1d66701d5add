use Rattle.std.proofs.Common.{ap, sym, subst, Contains, arith}
use Rattle.std.proofs.lemmas.Int.{ints}
use Rattle.std.proofs.lemmas.List.Elements.{Contains-get_or}
use Rattle.map_defs.specs.Values.{Value}
use Rattle.map_laws.proofs.TotalFacts.{total-next}
use Rattle.map_laws.proofs.totals.sum.Goals as goal

pub loop-value-preserved : goal.loop-value-preserved
loop-value-preserved c =
    let (same, first, second, third) = c.loop-value.invariant in
    let v = c.value-item.result in
    let held = subst (Contains c.args.values.now) (sym c.value-item.is) (Contains-get_or c.args.values.now c.loop-value.value-index v c.loop-value-test.true) in (
      λ i all.
          let next = total-next i c.args.values.now c.loop-value.value-index v c.loop-value-test.true c.value-item.is (all v held) in
          let so = same i all in
          (omega (arith, ints, so.0, ap (λ (x : Value). x.a) next), omega (arith, ints, so.1, ap (λ (x : Value). x.b) next), omega (arith, ints, so.2, ap (λ (x : Value). x.c) next)),
      (omega (arith, ints, first.0, first.1), omega (arith, ints, first.0, first.1)),
      (omega (arith, ints, second.0, second.1), omega (arith, ints, second.0, second.1)),
      (omega (arith, ints, third.0, third.1), omega (arith, ints, third.0, third.1)),
    )
