use Rattle.std.proofs.Common.{ℕ, List, sym}
use Rattle.machine_defs.specs.Difference.{ValueChange}
use Rattle.label_laws.proofs.Loops.{item-dart}
use Rattle.valued_map.specs.Told.{old_value}
use Rattle.valued_map.proofs.ListedValues.{map-more, map-all}
use Rattle.valued_map.proofs.told.add_values.Goals as goal

pub loop-dart-preserved : goal.loop-dart-preserved
loop-dart-preserved g c = λ before same.
    let f : ℕ → ValueChange = old_value before c.args.pool.now c.args.dim in
    let xs : List ℕ = c.args.darts.now in
    let k : ℕ = c.loop-dart.dart-index in
    rw (c.in_ok-push.ensures.items, c.value_before-old.ensures before (same c.dart-item.result (k, c.loop-dart-test.true, sym c.dart-item.is)))
    (map-more f xs k c.dart-item.result c.args.values.now.items c.loop-dart.values.items c.loop-dart-test.true (item-dart xs k c.dart-item.result c.loop-dart-test.true c.dart-item.is) (c.loop-dart.invariant before same))

pub returns : goal.returns
returns g c = λ before same.
    map-all (old_value before c.args.pool.now c.args.dim) c.args.darts.now c.loop-dart.dart-index c.args.values.now.items c.loop-dart.values.items c.loop-dart-test.false (c.loop-dart.invariant before same)
