use Rattle.std.proofs.Common.{take, Contains}
use Rattle.map_defs.specs.LinkWords.{LinkWord}
use Rattle.valued_map.specs.Changing.{IsApartAlong}
use Rattle.valued_map.proofs.changed.leads_apart.Given as goal

-- none of the words that were tried leads to a lesser dart with another id
abbrev pub invariant-loop-word : goal.invariant-loop-word
invariant-loop-word g l = (w : LinkWord) → Contains (take l.word-index l.words) w → IsApartAlong l.links.rows l.labels l.dim w l.dart → ⊥
