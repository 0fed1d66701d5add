use Rattle.std.proofs.Common.{ℕ, List, Contains, Some, sym, subst, lit<, arith, take_all}
use Rattle.store_defs.specs.Labelings.{IsRelabelled}
use Rattle.label_laws.specs.Changing.{HaveId}
use Rattle.label_laws.proofs.Loops.{have-begun, have-more, item-dart}
use Rattle.valued_map.proofs.ids.give_id.Goals as goal

pub put-requires : goal.put-requires
put-requires g c =
    let here : Contains c.args.darts.now c.dart-item.result = (c.loop-dart.dart-index, c.loop-dart-test.true, sym c.dart-item.is) in
    (lit< tt, (c.requires.dim, (omega (arith, c.requires.darts c.dart-item.result here, c.loop-dart.invariant.made), (c.loop-dart.invariant.places c.args.dim).1 c.requires.places)))

pub loop-dart-init : goal.loop-dart-init
loop-dart-init g c = have-begun c.args.dim c.make-id.result c.args.darts.now c.args.labels.now

pub loop-dart-preserved : goal.loop-dart-preserved
loop-dart-preserved g c =
    let xs : List ℕ = c.args.darts.now in
    let k : ℕ = c.loop-dart.dart-index in
    have-more c.args.dim c.make-id.result k xs c.args.labels.now c.loop-dart.labels c.put.new.self c.loop-dart-test.true c.loop-dart.invariant
    (subst (λ (x : ℕ). IsRelabelled c.loop-dart.labels c.put.new.self c.args.dim x (Some c.make-id.result))
    (item-dart xs k c.dart-item.result c.loop-dart-test.true c.dart-item.is) c.put.ensures.after)
    c.put.ensures.made c.put.ensures.places

pub returns-clause-given : goal.returns-clause-given
returns-clause-given g c =
    let have =
    subst (λ (xs : List ℕ). HaveId c.args.dim (Contains xs) c.make-id.result c.args.labels.now c.loop-dart.labels)
    (take_all c.loop-dart.dart-index c.args.darts.now c.loop-dart-test.false) c.loop-dart.invariant in
    record {
      id = c.make-id.result;
      fresh = c.make-id.ensures.fresh;
      value_is = c.make-id.ensures.made.here;
      values = c.make-id.ensures.made.others;
      each = have.each;
      made = have.made;
      places = have.places;
    }
