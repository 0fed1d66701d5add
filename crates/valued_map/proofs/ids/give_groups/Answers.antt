use Rattle.std.proofs.Common.{◌≡◌, ℕ, List, length, sym, subst, lit<, arith, ◌+◌, suc}
use Rattle.store_defs.specs.Groups.{Group, group_at}
use Rattle.label_laws.specs.Changing.{AreGroupsGiven, IsGroupGiven}
use Rattle.label_laws.proofs.Giving.{groups-places}
use Rattle.label_laws.proofs.Loops.{item-group}
use Rattle.label_laws.specs.Touching.{CanLabel}
use Rattle.valued_map.proofs.Labelling.{can-label-kept}
use Rattle.valued_map.proofs.ids.give_groups.Goals as goal

pub give_value-requires : goal.give_value-requires
give_value-requires g c =
    let groups : List Group = c.args.groups.now in
    let k : ℕ = c.loop-group.group-index in
    let kept = groups-places groups k c.args.labels.now c.loop-group.labels c.args.pool.now c.loop-group.pool c.loop-group.invariant.0 in
    let can = can-label-kept g.row.DIM c.args.labels.now c.loop-group.labels (group_at groups k) kept.0 kept.1 (c.requires.groups k c.loop-group-test.true) in
    let here = subst (λ (x : Group). CanLabel g.row.DIM c.loop-group.labels x) (sym (item-group groups k c.group-item.result c.loop-group-test.true c.group-item.is)) can in
    (lit< tt, (here, omega (arith, c.requires.room, c.loop-group.invariant.1)))

pub loop-group-preserved : goal.loop-group-preserved
loop-group-preserved g c =
    let groups : List Group = c.args.groups.now in
    let k : ℕ = c.loop-group.group-index in
    let given = subst (λ (x : Group). IsGroupGiven x c.loop-group.labels c.give_value.new.labels c.loop-group.pool c.give_value.new.pool)
    (item-group groups k c.group-item.result c.loop-group-test.true c.group-item.is) c.give_value.ensures.given in
    let more : AreGroupsGiven groups (suc k) c.args.labels.now c.give_value.new.labels c.args.pool.now c.give_value.new.pool =
    (c.loop-group.labels, c.loop-group.pool, c.loop-group.invariant.0, given) in (
      subst (λ (h : ℕ). AreGroupsGiven groups h c.args.labels.now c.give_value.new.labels c.args.pool.now c.give_value.new.pool) (let e : suc k ≡ k + 1 = omega arith in e) more,
      omega (arith, c.loop-group.invariant.1, c.give_value.ensures.spare),
    )

pub returns : goal.returns
returns g c =
    subst (λ (k : ℕ). AreGroupsGiven c.args.groups.now k c.args.labels.now c.loop-group.labels c.args.pool.now c.loop-group.pool)
    (let e : c.loop-group.group-index ≡ length c.args.groups.now = omega arith in e) c.loop-group.invariant.0
