use Rattle.std.proofs.Common.{take, Contains}
use Rattle.map_defs.specs.Edits.{Change}
use Rattle.valued_map.specs.Changing.{MayReroute}
use Rattle.valued_map.proofs.passing.may_touch.Given as goal

-- none of the changes that were looked at may reroute a dart
abbrev pub invariant-loop-change : goal.invariant-loop-change
invariant-loop-change g l = (c : Change) → Contains (take l.change-index l.changes) c → MayReroute g.K.Kind.kind l.dim l.links.rows l.older c → ⊥
