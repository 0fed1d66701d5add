use Rattle.std.proofs.Common.{ℕ, ◌∙◌, List, length, Option, inr, ap, arith}
use Rattle.map_defs.specs.Values.{Rule}
use Rattle.machine_defs.specs.Difference.{RuleChange}
use Rattle.label_laws.specs.Contents.{all_rules}
use Rattle.valued_map.specs.Ways.{in_turn, with_rules}
use Rattle.valued_map.proofs.RulesPut.{placed-long, placed-is, with-long, all-is}
use Rattle.valued_map.proofs.restore.put_changes.Goals as goal

pub put_rules-requires : goal.put_rules-requires
put_rules-requires c = λ d here.
    let long = placed-long c.args.dimension c.args.rules.now c.make_places.new.rules c.requires.long c.in_ok-make_places.ensures.made in
    let low = c.requires.low d here in
    omega arith

pub returns-clause-long : goal.returns-clause-long
returns-clause-long c =
    let turned : List RuleChange = in_turn c.args.way c.args.changes.now in
    let long = placed-long c.args.dimension c.args.rules.now c.make_places.new.rules c.requires.long c.in_ok-make_places.ensures.made in
    inr (ap (λ (rs : List (Option Rule)). length rs) c.put_rules.ensures ∙ with-long c.args.way turned c.make_places.new.rules ∙ long)

pub returns-clause-rules : goal.returns-clause-rules
returns-clause-rules c =
    let n : ℕ = c.args.dimension in
    let turned : List RuleChange = in_turn c.args.way c.args.changes.now in
    let long = placed-long n c.args.rules.now c.make_places.new.rules c.requires.long c.in_ok-make_places.ensures.made in
    ap (all_rules n) c.put_rules.ensures
    ∙ all-is n (with_rules c.args.way turned c.make_places.new.rules) (with-long c.args.way turned c.make_places.new.rules ∙ long)
    ∙ ap (with_rules c.args.way turned) (placed-is n c.args.rules.now c.make_places.new.rules c.requires.long c.in_ok-make_places.ensures.made)
