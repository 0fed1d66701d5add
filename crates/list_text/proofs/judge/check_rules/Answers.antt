use Rattle.std.proofs.Common.{◌≡◌, ap, ◌≤◌, ◌<◌, arith, rules}
use Rattle.std.proofs.lemmas.List.{take_all}
use Rattle.machine_defs.specs.Listing.{ListRule}
use Rattle.machine_defs.specs.ListingFaults.{IsRuleOf}
use Rattle.list_text.specs.Views.{told_view}
use Rattle.list_text.proofs.LawParts.{first-at, more-have}
use Rattle.list_text.proofs.judge.check_rules.Goals as goal

pub returns-then-rule-from-clause-fault : goal.returns-then-rule-from-clause-fault
returns-then-rule-from-clause-fault c =
    let value = c.deref-rule-items.ensures.value in
    let dim : c.rule.inside.dim ≡ c.rule-item.result.dim = ap (λ (r : ListRule). r.dim) c.rule.view_is in
    let above : c.args.told.now.header.dim < c.rule-item.result.dim = omega (arith, c.if-rule-from.true, c.from.ensures, dim) in (
      c.loop-place.place,
      first-at (IsRuleOf (told_view c.args.told.now).listing) c.args.told.now.rules.items c.loop-place.place c.rule-item.result (rw value at c.loop-place-test.true) (rw value at c.rule-item.is) c.loop-place.invariant
          (λ within. omega (arith, above, within)),
      search rules,
    )

pub loop-place-preserved : goal.loop-place-preserved
loop-place-preserved c =
    let value = c.deref-rule-items.ensures.value in
    let dim : c.rule.inside.dim ≡ c.rule-item.result.dim = ap (λ (r : ListRule). r.dim) c.rule.view_is in
    let within : c.rule-item.result.dim ≤ c.args.told.now.header.dim = omega (arith, c.if-rule-from.false, c.from.ensures, dim) in
    more-have (IsRuleOf (told_view c.args.told.now).listing) c.args.told.now.rules.items c.loop-place.place c.rule-item.result (rw value at c.loop-place-test.true) (rw value at c.rule-item.is) c.loop-place.invariant within

pub returns-clause-ok : goal.returns-clause-ok
returns-clause-ok c =
    rw (take_all c.loop-place.place c.args.told.now.rules.items (rw c.deref-rule-items.ensures.value at c.loop-place-test.false)) at c.loop-place.invariant
