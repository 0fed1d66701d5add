use Rattle.std.proofs.Common.{◌<◌}
use Rattle.map_defs.specs.Rows.{IsLive, links_of}
use Rattle.store_defs.specs.Labelings.{id_of}
use Rattle.store_defs.specs.Groups.{darts_in}
use Rattle.transport.specs.Joined.{IsCarriedCell, IsWanted, AreAllOf}
use Rattle.transport.proofs.carrying.carry.Given as goal

abbrev pub invariant-loop-dim : goal.invariant-loop-dim
invariant-loop-dim g l =
    AreAllOf (IsCarriedCell g.K.Kind.kind (links_of l.links.rows) (IsLive l.links.rows) (id_of l.labels) l.pool (g.H.Hook.hook l.hook) l.rules (darts_in l.touched))
    (IsWanted l.rules (darts_in l.touched)) (λ i. i < l.dim) l.groups.items
