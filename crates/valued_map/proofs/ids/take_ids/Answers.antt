use Rattle.std.proofs.Common.{◌≡◌, ℕ, List, Contains, sym, subst, lit<, arith, take_all}
use Rattle.label_laws.specs.Changing.{AreTaken}
use Rattle.label_laws.proofs.Loops.{taken-darts-begun, taken-darts, item-dart}
use Rattle.valued_map.proofs.ids.take_ids.Goals as goal

pub take_id-requires : goal.take_id-requires
take_id-requires g c =
    let here : Contains c.args.darts.now c.dart-item.result = (c.loop-dart.dart-index, c.loop-dart-test.true, sym c.dart-item.is) in
    (lit< tt, (c.requires.dim, omega (arith, c.requires.darts c.dart-item.result here, c.loop-dart.invariant.made)))

pub loop-dart-init : goal.loop-dart-init
loop-dart-init g c = taken-darts-begun c.args.dim c.args.darts.now c.args.labels.now c.args.pool.now

pub loop-dart-preserved : goal.loop-dart-preserved
loop-dart-preserved g c =
    let xs : List ℕ = c.args.darts.now in
    let k : ℕ = c.loop-dart.dart-index in
    taken-darts c.args.dim k xs c.args.labels.now c.loop-dart.labels c.take_id.new.labels c.args.pool.now c.loop-dart.pool c.take_id.new.pool
    c.loop-dart-test.true c.loop-dart.invariant
    (subst (λ (x : ℕ). AreTaken (λ j d. (j ≡ c.args.dim) × (d ≡ x)) c.loop-dart.labels c.take_id.new.labels c.loop-dart.pool c.take_id.new.pool)
    (item-dart xs k c.dart-item.result c.loop-dart-test.true c.dart-item.is) c.take_id.ensures)

pub returns : goal.returns
returns g c =
    subst (λ (xs : List ℕ). AreTaken (λ j d. (j ≡ c.args.dim) × Contains xs d) c.args.labels.now c.loop-dart.labels c.args.pool.now c.loop-dart.pool)
    (take_all c.loop-dart.dart-index c.args.darts.now c.loop-dart-test.false) c.loop-dart.invariant
