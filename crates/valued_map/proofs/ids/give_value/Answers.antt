use Rattle.std.proofs.Common.{lit<, sym, subst}
use Rattle.store_defs.specs.Groups.{Group}
use Rattle.label_laws.specs.Touching.{CanLabel}
use Rattle.valued_map.proofs.ids.give_value.Goals as goal

pub give_id-requires : goal.give_id-requires
give_id-requires g c =
    let here = subst (λ (x : Group). CanLabel g.row.DIM c.args.labels.now x) (sym c.group.view_is) c.requires.group in
    rw c.deref.ensures.value (lit< tt, (here.low, (here.darts_in, (here.places, c.requires.room))))
