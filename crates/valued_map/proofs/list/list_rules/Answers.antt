use Rattle.std.proofs.Common.{◌≡◌, ◌∙◌, ℕ, ◌<◌, List, Option, None, get_or, length, refl, arith}
use Rattle.std.proofs.lemmas.List.{get_or_default}
use Rattle.map_defs.specs.Values.{Rule}
use Rattle.valued_map.proofs.ListingRules.{rules-more}
use Rattle.valued_map.proofs.list.list_rules.Goals as goal

pub loop-dim-preserved : goal.loop-dim-preserved
loop-dim-preserved c =
    let rules : List (Option Rule) = c.args.rules.now in
    let k : ℕ = c.loop-dim.dim in
    let within : k < length rules = rw (← c.rules.view_is) (omega (arith, c.len-dim-end.ensures)) in
    let here : c.index.result.now ≡ get_or rules k None = rw (← c.rules.view_is) (c.index.ensures ∙ get_or_default c.rules.inside.rules.items k c.index.result.now None (omega (arith, c.len-dim-end.ensures))) in
    rw (rules-more rules k within, c.in_ok-list_rule.ensures, c.loop-dim.invariant, here) refl
