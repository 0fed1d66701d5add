use Rattle.std.proofs.Common.{◌≡◌, take}
use Rattle.machine_defs.specs.Listing.{rules_from}
use Rattle.valued_map.proofs.list.list_rules.Given as goal

abbrev pub invariant-loop-dim : goal.invariant-loop-dim
invariant-loop-dim l = l.listed.items ≡ rules_from 0 (take l.dim l.rules)
