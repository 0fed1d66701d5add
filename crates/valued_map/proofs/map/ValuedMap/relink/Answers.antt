use Rattle.std.proofs.Common.{Bool, None, sym, subst}
use Rattle.map_defs.specs.Rows.{made}
use Rattle.valued_map.specs.Told.{IsBegun}
use Rattle.valued_map.proofs.map.ValuedMap.relink.Goals as goal

pub returns-then-not-asked-clause-step : goal.returns-then-not-asked-clause-step
returns-then-not-asked-clause-step g c =
    c.in_ok-put_links.ensures.told None (subst (λ (asked : Bool). IsBegun asked (made c.args.self.now.content.rows) c.args.edit.now None) (sym c.if-not-asked.true) tt)
