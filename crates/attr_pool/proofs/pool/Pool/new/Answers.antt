use Rattle.std.proofs.Common.{[], ◌∷◌, ◌≡◌, List, None, get_or, refl, sym, subst, rules, arith}
use Rattle.map_defs.specs.Values.{Value}
use Rattle.attr_pool.specs.Pools.{slots_of}
use Rattle.attr_pool.proofs.PoolSteps.{kept_none, bare_none}
use Rattle.attr_pool.proofs.pool.Pool.new.Goals as goal

pub invariant_of-result : goal.invariant_of-result
invariant_of-result c = record {
  places = [];
  kept = rw (c.new.ensures.items, c.new-2.ensures.items) kept_none;
  held = rw c.new.ensures.items (λ i d h. absurd (omega arith));
  placed = search rules;
  values_room = search rules;
  lives_room = search rules;
  few = search rules;
}

pub returns-clause-values : goal.returns-clause-values
returns-clause-values c id = subst (λ (vs : List Value). get_or (None ∷ slots_of vs c.new-2.result.items) id None ≡ None) (sym c.new.ensures.items) (bare_none id)

pub returns-clause-count : goal.returns-clause-count
returns-clause-count c = rw c.new.ensures.items refl
