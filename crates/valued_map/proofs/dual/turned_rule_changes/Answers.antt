use Rattle.std.proofs.Common.{◌≡◌, ◌≤◌, ℕ, ◌-◌, List, length, reverse, Option, None, sym, subst, arith, rules}
use Rattle.std.proofs.lemmas.List.{get_or-reverse}
use Rattle.map_defs.specs.Values.{Rule}
use Rattle.store_defs.specs.Groups.{rule_at}
use Rattle.valued_map.specs.Told.{AreRuleChanges, IsRuleAdded}
use Rattle.valued_map.proofs.ListedValues.{no-rule-changes, rule-changes-more}
use Rattle.valued_map.proofs.dual.turned_rule_changes.Goals as goal

pub loop-dim-init : goal.loop-dim-init
loop-dim-init c = rw c.new-changes.ensures.items (no-rule-changes c.args.rules.now (reverse c.args.rules.now))

pub loop-dim-preserved : goal.loop-dim-preserved
loop-dim-preserved c =
    let rows : List (Option Rule) = c.args.rules.now in
    let m : ℕ = c.loop-dim.dim in
    let long : c.len-dim-end.result ≡ length rows = search rules in
    let turned : rule_at (reverse rows) m ≡ rule_at rows (length rows - 1 - m) = get_or-reverse rows m None (omega (arith, long, c.loop-dim-test.true)) in
    let added = rw (c.in_ok-add_turned_rule.was) at c.add_turned_rule.ensures in
    rule-changes-more m rows (reverse rows) c.loop-dim.changes.items c.add_turned_rule.new.changes.items c.loop-dim.invariant
    (subst (λ (o : Option Rule). IsRuleAdded (record { dim = m; old = rule_at rows m; new = o }) c.loop-dim.changes.items c.add_turned_rule.new.changes.items) (sym turned) added)

pub returns : goal.returns
returns c = λ some.
    let rows : List (Option Rule) = c.args.rules.now in
    let long : c.len-dim-end.result ≡ length rows = search rules in
    let low : c.loop-dim.dim ≤ c.len-dim-end.result = c.loop-dim.auto.dim-end in
    let whole : c.loop-dim.dim ≡ length rows = omega (arith, long, low, c.loop-dim-test.false) in
    subst (λ (m : ℕ). AreRuleChanges m rows (reverse rows) c.loop-dim.changes.items) whole c.loop-dim.invariant
