use Rattle.std.proofs.Common.{rules}
use Rattle.text_calls.proofs.attr_rules_tests.share.Goals as goal

pub new-hook-requires : goal.new-hook-requires
new-hook-requires c = record {
  merge = λ x y hx hy. search rules;
  merged = λ x y r hx hy ran. search rules;
  share = λ v k p hv hk hp. search rules;
  shared = λ v k p r hv hk hp ran. search rules;
}
