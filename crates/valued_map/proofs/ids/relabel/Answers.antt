use Rattle.std.proofs.Common.{◌<◌, length, Contains, lit<, arith, ◌+◌}
use Rattle.store_defs.specs.Groups.{group_at}
use Rattle.label_laws.specs.Changing.{IsGroupedBelow}
use Rattle.label_laws.proofs.Taking.{taken-then}
use Rattle.valued_map.proofs.Labelling.{can-label-kept}
use Rattle.valued_map.proofs.ids.relabel.Goals as goal

pub clear_groups-requires : goal.clear_groups-requires
clear_groups-requires g c =
    (lit< tt, λ n lt. can-label-kept g.row.DIM c.args.labels.now c.end_ids.new.labels (group_at c.args.groups.now n) c.end_ids.ensures.made c.end_ids.ensures.places (c.requires.groups n lt))

pub give_groups-requires : goal.give_groups-requires
give_groups-requires g c =
    let a = taken-then (λ i d. (i < g.row.DIM + 1) × Contains c.args.ended.now d) (IsGroupedBelow (length c.args.groups.now) c.args.groups.now)
    c.args.labels.now c.end_ids.new.labels c.clear_groups.new.labels c.args.pool.now c.end_ids.new.pool c.clear_groups.new.pool c.end_ids.ensures c.clear_groups.ensures in (
      lit< tt,
      (
        λ n lt. can-label-kept g.row.DIM c.args.labels.now c.clear_groups.new.labels (group_at c.args.groups.now n) a.made a.places (c.requires.groups n lt),
        omega (arith, c.requires.room, a.spare),
      ),
    )

pub returns : goal.returns
returns g c = (
  c.clear_groups.new.labels,
  c.clear_groups.new.pool,
  taken-then (λ i d. (i < g.row.DIM + 1) × Contains c.args.ended.now d) (IsGroupedBelow (length c.args.groups.now) c.args.groups.now)
      c.args.labels.now c.end_ids.new.labels c.clear_groups.new.labels c.args.pool.now c.end_ids.new.pool c.clear_groups.new.pool c.end_ids.ensures c.clear_groups.ensures,
  c.give_groups.ensures,
)
