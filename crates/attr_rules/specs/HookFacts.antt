-- What hooks keep.
use Rattle.std.proofs.Common.{arith}
use Rattle.map_defs.specs.Values.{Meaning, KeepsWhole}
use Rattle.map_defs.specs.RuleNames.{IsHook}
use Rattle.attr_rules.specs.Stored.{nameless}

pub nameless-lawful : (says : Meaning) → KeepsWhole says → IsHook (nameless says)
nameless-lawful says whole = record {
  whole = record { host = whole; named = λ name known. whole };
  free = λ k z h. absurd (omega arith);
}
