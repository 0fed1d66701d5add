use Rattle.std.proofs.Common.{ℕ, ◌<◌, slice_index}
use Rattle.map_defs.specs.Rows.{links_of}
use Rattle.map_defs.specs.Removal.{CommutesAt}
use Rattle.cell_edit.proofs.crossing.are_commuting.Given as goal

abbrev pub invariant-loop-dart : goal.invariant-loop-dart
invariant-loop-dart g l = (p : ℕ) → p < l.dart-index → CommutesAt (links_of l.links.rows) l.one l.other (slice_index l.darts p)
