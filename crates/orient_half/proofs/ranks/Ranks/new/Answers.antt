use Rattle.std.proofs.Common.{◌≡◌, ℕ, ◌≤◌, List, length, sym, ap, subst, ◌∙◌, arith}
use Rattle.std.specs.List.Sorted.{IsStrictlyIncreasing}
use Rattle.std.proofs.lemmas.List.{get_or_default}
use Rattle.orient_half.proofs.RankFacts.{AreMade, AreRankedUpTo, ranked-more, ranked-all, few-darts}
use Rattle.orient_half.proofs.ranks.Ranks.new.Goals as goal

pub overflow_cast-place : goal.overflow_cast-place
overflow_cast-place c =
    let few : length c.args.darts.items ≤ c.args.made = few-darts c.args.darts.items c.args.made c.requires.ascending c.requires.within in
    omega (arith, few, c.loop-place-test.true, ap length c.deref-dart-items.ensures.value)

pub overflow_add-place : goal.overflow_add-place
overflow_add-place c =
    let few : length c.args.darts.items ≤ c.args.made = few-darts c.args.darts.items c.args.made c.requires.ascending c.requires.within in
    omega (arith, few, c.loop-place-test.true, ap length c.deref-dart-items.ensures.value)

pub loop-place-preserved : goal.loop-place-preserved
loop-place-preserved c =
    let darts : List ℕ = c.deref-dart-items.result.now in
    let value : c.args.darts.items ≡ darts = sym c.deref-dart-items.ensures.value in
    ranked-more darts c.args.made (subst IsStrictlyIncreasing value c.requires.ascending) (subst (AreMade c.args.made) value c.requires.within)
    c.loop-place.place c.number.result c.loop-place.table.items c.loop-place-test.true
    (c.number.ensures.same ∙ c.dart-item.is ∙ get_or_default darts c.loop-place.place c.dart-item.result 0 c.loop-place-test.true)
    c.loop-place.invariant

pub invariant_of-result : goal.invariant_of-result
invariant_of-result c =
    let few : length c.args.darts.items ≤ c.args.made = few-darts c.args.darts.items c.args.made c.requires.ascending c.requires.within in (
      omega (arith, few),
      ranked-all c.args.darts.items c.args.made c.requires.ascending c.requires.within c.loop-place.place c.loop-place.table.items
          (omega (arith, c.loop-place-test.false, c.loop-place.auto.place-end, ap length c.deref-dart-items.ensures.value))
          (subst (λ (xs : List ℕ). AreRankedUpTo xs c.args.made c.loop-place.place c.loop-place.table.items) c.deref-dart-items.ensures.value c.loop-place.invariant),
    )
