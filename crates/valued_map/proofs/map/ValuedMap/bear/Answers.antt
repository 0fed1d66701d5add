use Rattle.std.proofs.Common.{Bool, false, None, sym, subst}
use Rattle.valued_map.specs.Told.{IsStep}
use Rattle.valued_map.proofs.map.ValuedMap.bear.Goals as goal

pub returns-then-not-asked-clause-step : goal.returns-then-not-asked-clause-step
returns-then-not-asked-clause-step g c =
    subst (λ (asked : Bool). IsStep asked c.args.self.now.content c.put_born.new.self.content None) (sym c.if-not-asked.true) (c.in_ok-put_born.ensures.told false None tt)
