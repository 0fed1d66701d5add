use Rattle.std.proofs.Common.{ℕ, ◌≡◌, ◌+◌, ◌<◌, ◌∙◌, List, length, get_or, drop, Option, sym, ap, arith}
use Rattle.std.specs.Prelude.{slice_set}
use Rattle.std.proofs.lemmas.List.{length-set}
use Rattle.map_defs.specs.Values.{Rule}
use Rattle.machine_defs.specs.Difference.{RuleChange}
use Rattle.valued_map.specs.Ways.{in_turn, with_rules}
use Rattle.valued_map.proofs.Turns.{turn-is, turn-end}
use Rattle.valued_map.proofs.restore.put_rules.Goals as goal

pub index_mut-requires : goal.index_mut-requires
index_mut-requires c =
    let xs : List RuleChange = c.args.changes.now in
    let j : ℕ = c.place-index.result in
    let within : j < length xs = omega arith in
    let d : RuleChange = c.index-changes-index.result in
    let low = c.requires d (j, within, sym c.index-changes-index.is) in
    let long = c.loop-passed.invariant.1 in
    let dim : c.change.inside.dim ≡ d.dim = ap (λ (x : RuleChange). x.dim) c.change.view_is in
    omega arith

pub loop-passed-preserved : goal.loop-passed-preserved
loop-passed-preserved c =
    let xs : List RuleChange = c.args.changes.now in
    let k : ℕ = c.loop-passed.passed in
    let items : List (Option Rule) = c.loop-passed.rules-inside.rules.items in
    let d : RuleChange = c.index-changes-index.result in
    let turn = turn-is c.args.way xs k d c.loop-passed-test.true (c.index-changes-index.is ∙ ap (λ (j : ℕ). get_or xs j d) c.place-index.ensures.place) in
    let dim : c.change.inside.dim ≡ d.dim = ap (λ (x : RuleChange). x.dim) c.change.view_is in (
      ap (with_rules c.args.way (drop (k + 1) (in_turn c.args.way xs))) (ap (λ (i : ℕ). slice_set items i c.rule.result) dim ∙ ap (slice_set items d.dim) c.rule.ensures)
          ∙ ap (λ (cs : List RuleChange). with_rules c.args.way cs items) (sym turn) ∙ c.loop-passed.invariant.0,
      length-set items c.change.inside.dim c.rule.result ∙ c.loop-passed.invariant.1,
    )

pub returns : goal.returns
returns c =
    ap (λ (cs : List RuleChange). with_rules c.args.way cs c.loop-passed.rules-inside.rules.items) (sym (turn-end c.args.way c.args.changes.now c.loop-passed.passed c.loop-passed-test.false))
    ∙ c.loop-passed.invariant.0
