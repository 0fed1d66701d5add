use Rattle.std.proofs.Common.{◌≡◌, ◌≢◌, take, Contains, None}
use Rattle.map_defs.specs.LinkWords.{LinkWord, through}
use Rattle.map_defs.specs.Rows.{links_of}
use Rattle.store_defs.specs.Labelings.{id_of}
use Rattle.valued_map.proofs.changed.id_beside.Given as goal

-- none of the words that were tried leads to a dart with an id
abbrev pub invariant-loop-word : goal.invariant-loop-word
invariant-loop-word g l = (w : LinkWord) → Contains (take l.word-index l.words) w → through (links_of l.links.rows) w l.dart ≢ 0 → id_of l.labels l.dim (through (links_of l.links.rows) w l.dart) ≡ None
