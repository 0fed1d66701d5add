use Rattle.map_defs.specs.Values.{IsRepresentable}
use Rattle.attr_pool.proofs.PairedLists.{held-slots}
use Rattle.attr_pool.proofs.pool.Pool.reserve.Goals as goal

pub returns-then-wanted-self-clause-held : goal.returns-then-wanted-self-clause-held
returns-then-wanted-self-clause-held c = rw (← c.self.view_is) (held-slots IsRepresentable c.self.inside.values.items c.self.inside.lives.items c.self.invariant.held)

pub returns-in_err-reserve-clause-held : goal.returns-in_err-reserve-clause-held
returns-in_err-reserve-clause-held c = rw (← c.self.view_is) (held-slots IsRepresentable c.self.inside.values.items c.self.inside.lives.items c.self.invariant.held)

pub returns-in_err-reserve-2-clause-held : goal.returns-in_err-reserve-2-clause-held
returns-in_err-reserve-2-clause-held c = rw (← c.self.view_is) (held-slots IsRepresentable c.self.inside.values.items c.self.inside.lives.items c.self.invariant.held)

pub returns-clause-held : goal.returns-clause-held
returns-clause-held c = rw (← c.self.view_is) (held-slots IsRepresentable c.self.inside.values.items c.self.inside.lives.items c.self.invariant.held)
