use Rattle.std.proofs.Common.{ℕ, ◌+◌, ◌∙◌, List, get_or, drop, Option, sym, ap}
use Rattle.std.specs.Prelude.{unwrap_or}
use Rattle.std.specs.Ordering.{nat_cmp}
use Rattle.std.specs.BTreeMap as tree
use Rattle.map_defs.specs.Values.{Value}
use Rattle.machine_defs.specs.Difference.{Difference, ValueChange}
use Rattle.valued_map.specs.Ways.{in_turn, value_among, value_along}
use Rattle.valued_map.proofs.Turns.{turn-is, turn-end}
use Rattle.valued_map.proofs.restored_cells.values_along.Goals as goal

pub loop-passed-preserved : goal.loop-passed-preserved
loop-passed-preserved c = λ d value.
    let xs : List Difference = c.args.steps.now in
    let k : ℕ = c.loop-passed.passed in
    let i : ℕ = c.args.dim in
    let s : Difference = c.index-steps-index.result in
    let before : Option Value = unwrap_or (tree.get nat_cmp c.loop-passed.values d) value in
    let turn = turn-is c.args.way xs k s c.loop-passed-test.true (c.index-steps-index.is ∙ ap (λ (j : ℕ). get_or xs j s) c.place-index.ensures.place) in
    let values = c.deref.ensures.value ∙ ap (λ (x : Difference). x.values) c.step.view_is in
    ap (value_along c.args.way (drop (k + 1) (in_turn c.args.way xs)) i d) (c.in_ok-put_values.ensures d value ∙ ap (λ (cs : List ValueChange). value_among c.args.way cs i d before) values)
    ∙ ap (λ (ss : List Difference). value_along c.args.way ss i d before) (sym turn) ∙ c.loop-passed.invariant d value

pub returns : goal.returns
returns c = λ d value.
    ap (λ (ss : List Difference). value_along c.args.way ss c.args.dim d (unwrap_or (tree.get nat_cmp c.loop-passed.values d) value))
    (sym (turn-end c.args.way c.args.steps.now c.loop-passed.passed c.loop-passed-test.false))
    ∙ c.loop-passed.invariant d value
