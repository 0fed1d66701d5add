use Rattle.std.proofs.Common.{◌<◌, [], length, arith, add-one, rules}
use Rattle.std.proofs.lemmas.List.{get_or_default}
use Rattle.attr_pool.proofs.ColumnFacts.{grown_more, grown_all, at}
use Rattle.attr_pool.proofs.labels.Labels.grow.Goals as goal

pub loop-column-preserved : goal.loop-column-preserved
loop-column-preserved g c =
    let nine = c.self.invariant.1.all in
    let size = c.loop-column.invariant.size in
    let within : c.loop-column.column-index < length c.loop-column.column-items = omega arith in
    let same = get_or_default c.loop-column.column-items c.loop-column.column-index c.column-item.result [] within in
    let kept = rw same at c.grow.ensures.kept in
    let none = rw same at c.grow.ensures.none in
    let long : 0 < length (at c.loop-column.column-items c.loop-column.column-index) → c.args.made < length c.grow.new.self = rw (← same) (search rules) in
    rw add-one (grown_more _ _ _ _ _ c.loop-column.invariant within kept long none)

pub invariant_of-self-2 : goal.invariant_of-self-2
invariant_of-self-2 g c =
    let more = c.if-made-self.false in
    (c.self.invariant.0, grown_all c.self.inside.columns c.loop-column.column-items c.self.inside.made c.args.made c.loop-column.column-index c.self.invariant.1 c.loop-column.invariant (omega arith) (omega arith))
