use Rattle.std.proofs.Common.{◌≡◌, ℕ, ◌+◌, Option, arith}
use Rattle.map_defs.specs.Values.{Value}
use Rattle.label_laws.specs.Stored.{stored_value}
use Rattle.valued_map.specs.Told.{IsPlaceBelow, turned_value}
use Rattle.valued_map.proofs.ListedValues.{IsTurnedPlace, differing-as, differing-more, turned-none, turned-more, turned-before, turned-all}
use Rattle.valued_map.proofs.dual.add_turned_values.Goals as goal

pub loop-number-init : goal.loop-number-init
loop-number-init g c =
    differing-as (IsPlaceBelow c.args.dim c.args.made) (IsTurnedPlace c.args.dim c.args.made 0) (stored_value c.args.pool.now c.args.labels.now) (turned_value g.row.DIM c.args.labels.now c.args.pool.now) c.args.values.now.items
    (turned-none c.args.dim c.args.made) c.requires.values

pub loop-number-preserved : goal.loop-number-preserved
loop-number-preserved g c =
    let old : ℕ → ℕ → Option Value = stored_value c.args.pool.now c.args.labels.now in
    let new : ℕ → ℕ → Option Value = turned_value g.row.DIM c.args.labels.now c.args.pool.now in
    let m : ℕ = c.args.dim in
    let number : ℕ = c.loop-number.number in
    let dart : c.unwrap.result ≡ number + 1 = rw c.unwrap.ensures at c.new.ensures.same in
    let added = rw (c.in_ok-add_turned_value.was, dart) at c.add_turned_value.ensures in
    differing-as _ (IsTurnedPlace m c.args.made (number + 1)) old new _ (turned-more m c.args.made number)
    (differing-more (IsTurnedPlace m c.args.made number) old new m (number + 1) c.loop-number.values.items c.add_turned_value.new.values.items (turned-before m c.args.made number) c.loop-number.invariant added)

pub returns : goal.returns
returns g c =
    differing-as (IsTurnedPlace c.args.dim c.args.made c.loop-number.number) (IsPlaceBelow (c.args.dim + 1) c.args.made) (stored_value c.args.pool.now c.args.labels.now) (turned_value g.row.DIM c.args.labels.now c.args.pool.now) c.loop-number.values.items
    (λ i d. turned-all c.args.dim c.args.made c.loop-number.number i d (omega (arith, c.loop-number-test.false))) c.loop-number.invariant
