use Rattle.std.proofs.Common.{◌≡◌, ℕ, List, length, Contains, sym, subst, ◌∙◌, lit<, arith}
use Rattle.store_defs.specs.Groups.{Group, group_at}
use Rattle.label_laws.specs.Changing.{AreTaken, IsGroupedBelow}
use Rattle.label_laws.proofs.Loops.{taken-groups-begun, taken-groups, item-group}
use Rattle.label_laws.specs.Touching.{CanLabel}
use Rattle.valued_map.proofs.Labelling.{can-label-kept}
use Rattle.valued_map.proofs.ids.clear_groups.Goals as goal

pub take_ids-requires : goal.take_ids-requires
take_ids-requires g c =
    let groups : List Group = c.args.groups.now in
    let k : ℕ = c.loop-group.group-index in
    let is : group_at groups k ≡ record { dim = c.group.inside.dim; darts = c.group.inside.darts.items; value = c.group.inside.value } =
    sym (c.group.view_is ∙ item-group groups k c.group-item.result c.loop-group-test.true c.group-item.is) in
    let can = can-label-kept g.row.DIM c.args.labels.now c.loop-group.labels (group_at groups k) c.loop-group.invariant.made c.loop-group.invariant.places (c.requires k c.loop-group-test.true) in
    let here = subst (λ (x : Group). CanLabel g.row.DIM c.loop-group.labels x) is can in
    rw c.deref.ensures.value (lit< tt, (here.low, here.darts_in))

pub loop-group-init : goal.loop-group-init
loop-group-init g c = taken-groups-begun c.args.groups.now c.args.labels.now c.args.pool.now

pub loop-group-preserved : goal.loop-group-preserved
loop-group-preserved g c =
    let groups : List Group = c.args.groups.now in
    let k : ℕ = c.loop-group.group-index in
    let is : record { dim = c.group.inside.dim; darts = c.group.inside.darts.items; value = c.group.inside.value } ≡ group_at groups k =
    c.group.view_is ∙ item-group groups k c.group-item.result c.loop-group-test.true c.group-item.is in
    let taken = rw c.deref.ensures.value at c.take_ids.ensures in
    taken-groups groups k c.args.labels.now c.loop-group.labels c.take_ids.new.labels c.args.pool.now c.loop-group.pool c.take_ids.new.pool c.loop-group.invariant
    (subst (λ (x : Group). AreTaken (λ j d. (j ≡ x.dim) × Contains x.darts d) c.loop-group.labels c.take_ids.new.labels c.loop-group.pool c.take_ids.new.pool) is taken)

pub returns : goal.returns
returns g c =
    subst (λ (k : ℕ). AreTaken (IsGroupedBelow k c.args.groups.now) c.args.labels.now c.loop-group.labels c.args.pool.now c.loop-group.pool)
    (let e : c.loop-group.group-index ≡ length c.args.groups.now = omega arith in e) c.loop-group.invariant
