use Rattle.std.proofs.Common.{rules}
use Rattle.attr_rules.specs.Tables.{merge_back-merge_of, split_back-split_of}
use Rattle.attr_rules.proofs.table.TableRulePartialEq.eq.Goals as goal

pub returns : goal.returns
returns c = let m = merge_back-merge_of in let s = split_back-split_of in grind (rules)
