use Rattle.std.proofs.Common.{◌∙◌}
use Rattle.attr_rules.proofs.NameFacts.{name-good, kept-name}
use Rattle.attr_rules.proofs.name.RuleName.new.Goals as goal

pub invariant_of-result : goal.invariant_of-result
invariant_of-result c =
    let good = name-good c.args.text.now c.in_ok-name.name.now (rw (c.in_ok-name.was, c.as_bytes.ensures.value) at c.read_name.ensures) in
    kept-name c.in_ok-name.name.now good c.copy_from_slice.new.self (c.copy_from_slice.ensures.after ∙ c.as_bytes-2.ensures.value)
