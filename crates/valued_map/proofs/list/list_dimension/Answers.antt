use Rattle.std.proofs.Common.{◌≡◌, ℕ, List, [], Option, Some, None, IsSome, refl, get_or, sym, subst, ◌++◌, append-nil, lit<, arith, take_all}
use Rattle.map_defs.specs.Values.{Rule}
use Rattle.store_defs.specs.Groups.{rule_at}
use Rattle.label_laws.specs.Stored.{stored_value}
use Rattle.label_laws.specs.Lists.{AreListed, listed}
use Rattle.label_laws.proofs.ListedValues.{IsSoFar, listed-bare, cells-begun, cells-more, cells-all}
use Rattle.label_laws.proofs.Loops.{item-dart}
use Rattle.valued_map.proofs.list.list_dimension.Goals as goal

none-unless-some : (o : Option Rule) → (IsSome o → ⊥) → o ≡ None
none-unless-some None h = refl
none-unless-some (Some r) h = absurd (h refl)

pub returns-then-not-has_rule : goal.returns-then-not-has_rule
returns-then-not-has_rule g c =
    let none : rule_at c.args.rules.now c.args.dim ≡ None =
    none-unless-some (rule_at c.args.rules.now c.args.dim) (λ some. let there = c.has_rule.ensures.1 some in let out = c.if-not-has_rule.true in cc) in
    ([], sym (append-nil c.args.values.now.items), listed-bare g.K.Kind.kind c.args.links.now.rows c.args.labels.now c.args.pool.now c.args.dim (λ d. c.requires.bare d none))

pub list_value-requires : goal.list_value-requires
list_value-requires g c = (lit< tt, omega (arith, c.requires.dim, c.requires.high))

pub loop-dart-init : goal.loop-dart-init
loop-dart-init g c = cells-begun c.args.labels.now c.args.pool.now c.args.dim c.deref-dart-items.result.now c.args.values.now.items

pub loop-dart-preserved : goal.loop-dart-preserved
loop-dart-preserved g c =
    let cells : List ℕ = c.deref-dart-items.result.now in
    let at : ℕ = c.loop-dart.dart-index in
    let up = rw (← c.deref-dart-items.ensures.value) at c.in_ok-cells.ensures.ascending in
    let item : c.dart-item.result ≡ get_or cells at 0 = item-dart cells at c.dart-item.result c.loop-dart-test.true c.dart-item.is in
    let is = subst (λ (d : ℕ). c.list_value.new.values.items ≡ c.loop-dart.values.items ++ listed c.args.dim d (stored_value c.args.pool.now c.args.labels.now c.args.dim d)) item c.in_ok-list_value.ensures in
    cells-more c.args.labels.now c.args.pool.now c.args.dim cells at c.args.values.now.items c.loop-dart.values.items c.list_value.new.values.items up c.loop-dart-test.true c.loop-dart.invariant is

pub returns : goal.returns
returns g c =
    let cells : List ℕ = c.deref-dart-items.result.now in
    let are = rw (← c.deref-dart-items.ensures.value) at c.in_ok-cells.ensures.members in
    let all = c.loop-dart.invariant in (
      all.behind,
      all.is,
      cells-all g.K.Kind.kind c.args.links.now.rows c.args.labels.now c.args.pool.now c.args.dim cells all.behind are
          (subst (λ (xs : List ℕ). AreListed c.args.labels.now c.args.pool.now (IsSoFar c.args.dim xs) all.behind) (take_all c.loop-dart.dart-index cells c.loop-dart-test.false) all.listed),
    )
