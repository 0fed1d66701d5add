use Rattle.std.proofs.Common.{◌≡◌, take, Contains}
use Rattle.map_defs.specs.LinkWords.{LinkWord}
use Rattle.valued_map.specs.Changing.{IsLowerAlong}
use Rattle.valued_map.proofs.changed.graft.Given as goal

-- none of the words that were tried leads to a lesser dart, and so nothing was done
abbrev pub invariant-loop-index : goal.invariant-loop-index
invariant-loop-index g l =
    (l.labels ≡ l.fn.labels) × (l.touched.items ≡ l.fn.touched.items)
    × ((w : LinkWord) → Contains (take l.index l.words) w → IsLowerAlong l.links.rows w l.dart → ⊥)
