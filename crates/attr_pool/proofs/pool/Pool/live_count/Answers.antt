use Rattle.map_defs.specs.Values.{IsRepresentable}
use Rattle.attr_pool.proofs.PairedLists.{held-slots}
use Rattle.attr_pool.proofs.pool.Pool.live_count.Goals as goal

pub returns-clause-held : goal.returns-clause-held
returns-clause-held c = rw (← c.self.view_is) (held-slots IsRepresentable c.self.inside.values.items c.self.inside.lives.items c.self.invariant.held)
