use Rattle.std.proofs.Common.{◌≡◌, ℕ, ◌+◌, ◌<◌, List, arith, subst}
use Rattle.valued_map.specs.Told.{AreOldValues, IsRelabelledPlace}
use Rattle.valued_map.proofs.GroupedDarts.{IsPlaceIn, place-more, place-all}
use Rattle.valued_map.proofs.ListedValues.{no-olds, olds-as, olds-more}
use Rattle.valued_map.proofs.told.old_values.Goals as goal

pub loop-dim-init : goal.loop-dim-init
loop-dim-init g c = λ before same.
    rw c.new-values.ensures.items (no-olds (IsPlaceIn c.args.renewed.now c.args.groups.now 0) before c.args.pool.now (λ i d place. absurd (let low : i < 0 = place.0 in omega arith)))

pub loop-dim-preserved : goal.loop-dim-preserved
loop-dim-preserved g c = λ before same.
    let renewed : List ℕ = c.args.renewed.now in
    let darts : List ℕ = c.in_ok-darts.darts.items in
    let all = rw (c.in_ok-add_values.was, c.deref.ensures.value) at c.add_values.ensures in
    let added = all before (λ d _. same c.loop-dim.dim d) in
    rw added
    (olds-as _ (IsPlaceIn renewed c.args.groups.now (c.loop-dim.dim + 1)) before c.args.pool.now _ (place-more renewed c.args.groups.now c.loop-dim.dim darts c.in_ok-darts.ensures.members)
    (olds-more (IsPlaceIn renewed c.args.groups.now c.loop-dim.dim) before c.args.pool.now c.loop-dim.dim c.loop-dim.values.items darts (λ j x place. place.0) c.in_ok-darts.ensures.ascending (c.loop-dim.invariant before same)))

pub returns : goal.returns
returns g c = λ before same.
    let n : ℕ = g.row.DIM in
    let whole : c.loop-dim.dim ≡ n + 1 = omega (arith, c.loop-dim-test.false) in
    olds-as (IsPlaceIn c.args.renewed.now c.args.groups.now (n + 1)) (IsRelabelledPlace n c.args.renewed.now c.args.groups.now) before c.args.pool.now c.loop-dim.values.items
    (place-all n c.args.renewed.now c.args.groups.now c.requires.groups)
    (subst (λ (m : ℕ). AreOldValues (IsPlaceIn c.args.renewed.now c.args.groups.now m) before c.args.pool.now c.loop-dim.values.items) whole (c.loop-dim.invariant before same))
