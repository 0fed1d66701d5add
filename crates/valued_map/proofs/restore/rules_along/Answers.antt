use Rattle.std.proofs.Common.{ℕ, ◌+◌, ◌<◌, ◌∙◌, List, length, get_or, drop, Option, Contains, sym, ap, subst, arith}
use Rattle.map_defs.specs.Values.{Rule}
use Rattle.machine_defs.specs.Difference.{Difference, RuleChange}
use Rattle.label_laws.specs.Contents.{all_rules}
use Rattle.valued_map.specs.Ways.{in_turn, with_rules, rules_along}
use Rattle.valued_map.proofs.Turns.{turn-is, turn-end}
use Rattle.valued_map.proofs.restore.rules_along.Goals as goal

pub put_changes-requires-clause-low : goal.put_changes-requires-clause-low
put_changes-requires-clause-low c = λ d here.
    let xs : List Difference = c.args.steps.now in
    let j : ℕ = c.place-index.result in
    let within : j < length xs = omega arith in
    let s : Difference = c.index-steps-index.result in
    let rules = c.deref-in-loop-passed.ensures.value ∙ ap (λ (x : Difference). x.rules) c.step.view_is in
    c.requires.low s d (j, within, sym c.index-steps-index.is) (subst (λ (cs : List RuleChange). Contains cs d) rules here)

pub loop-passed-preserved : goal.loop-passed-preserved
loop-passed-preserved c =
    let xs : List Difference = c.args.steps.now in
    let k : ℕ = c.loop-passed.passed in
    let s : Difference = c.index-steps-index.result in
    let before : List (Option Rule) = all_rules c.args.dimension c.loop-passed.after in
    let turn = turn-is c.args.way xs k s c.loop-passed-test.true (c.index-steps-index.is ∙ ap (λ (j : ℕ). get_or xs j s) c.place-index.ensures.place) in
    let rules = c.deref-in-loop-passed.ensures.value ∙ ap (λ (x : Difference). x.rules) c.step.view_is in (
      c.in_ok-put_changes.ensures.long,
      ap (rules_along c.args.way (drop (k + 1) (in_turn c.args.way xs))) (c.in_ok-put_changes.ensures.rules ∙ ap (λ (cs : List RuleChange). with_rules c.args.way (in_turn c.args.way cs) before) rules)
          ∙ ap (λ (ss : List Difference). rules_along c.args.way ss before) (sym turn) ∙ c.loop-passed.invariant.1,
    )

pub returns-clause-rules : goal.returns-clause-rules
returns-clause-rules c =
    ap (λ (ss : List Difference). rules_along c.args.way ss (all_rules c.args.dimension c.loop-passed.after)) (sym (turn-end c.args.way c.args.steps.now c.loop-passed.passed c.loop-passed-test.false))
    ∙ c.loop-passed.invariant.1
