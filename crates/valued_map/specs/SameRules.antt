-- Rules that are told apart: by where they come from, and by their names.
use Rattle.std.specs.Prelude.{Bool, true, false}
use Rattle.map_defs.specs.Values.{Merge, Split, Named}

-- the merge is one that a caller hands in under a name
abbrev pub is_named_merge : Merge → Bool
is_named_merge (Named name) = true
is_named_merge merge = false

-- the split is one that a caller hands in under a name
abbrev pub is_named_split : Split → Bool
is_named_split (Named name) = true
is_named_split split = false
