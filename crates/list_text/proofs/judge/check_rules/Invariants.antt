use Rattle.std.proofs.Common.{take}
use Rattle.std.specs.Prelude.{All}
use Rattle.machine_defs.specs.ListingFaults.{IsRuleOf}
use Rattle.list_text.specs.Views.{told_view}
use Rattle.list_text.proofs.judge.check_rules.Given as goal

abbrev pub invariant-loop-place : goal.invariant-loop-place
invariant-loop-place l = All (IsRuleOf (told_view l.told).listing) (take l.place l.told.rules.items)
