use Rattle.std.proofs.Common.{◌≡◌, ◌⊎◌, ◌↔◌, ℕ, List, length, Contains, ◌∙◌, subst, sym, arith}
use Rattle.std.proofs.lemmas.List.{get_or_default}
use Rattle.std.proofs.lemmas.Result.{IfOk-weaker}
use Rattle.store_defs.specs.Groups.{no_group}
use Rattle.valued_map.proofs.GroupedDarts.{InGroups, in-none, in-more}
use Rattle.valued_map.proofs.told.darts_in.Goals as goal

pub loop-group-init : goal.loop-group-init
loop-group-init c =
    rw c.in_ok-darts.ensures.items (in-none c.args.dim c.args.groups.now c.args.renewed.now)

pub loop-group-preserved : goal.loop-group-preserved
loop-group-preserved c =
    let added = rw c.in_ok-add_group.was at c.add_group.ensures in
    in-more c.args.dim c.args.groups.now c.args.renewed.now c.loop-group.group-index c.group-item.result c.loop-group.darts.items c.add_group.new.darts.items
    c.loop-group-test.true (c.group-item.is ∙ get_or_default c.args.groups.now c.loop-group.group-index c.group-item.result no_group c.loop-group-test.true) added c.loop-group.invariant

pub returns-clause-members : goal.returns-clause-members
returns-clause-members c =
    let whole : c.loop-group.group-index ≡ length c.args.groups.now = omega (arith, c.loop-group-test.false) in
    let are = subst (λ (k : ℕ). (d : ℕ) → Contains c.loop-group.darts.items d ↔ (Contains c.args.renewed.now d ⊎ InGroups c.args.dim c.args.groups.now k d)) whole c.loop-group.invariant in
    IfOk-weaker c.ascending.result _ _
    (λ darts members. λ d. (
      λ h. (are d).0 (subst (λ (xs : List ℕ). Contains xs d) c.deref.ensures.value ((members d).0 h)),
      λ h. (members d).1 (subst (λ (xs : List ℕ). Contains xs d) (sym c.deref.ensures.value) ((are d).1 h)),
    ))
    c.ascending.ensures.members
