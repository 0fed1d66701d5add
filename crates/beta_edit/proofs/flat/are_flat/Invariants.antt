use Rattle.std.proofs.Common.{ℕ, ◌<◌, slice_index}
use Rattle.map_defs.specs.Rows.{links_of}
use Rattle.map_defs.specs.Removal.{IsFlatAt}
use Rattle.beta_edit.proofs.flat.are_flat.Given as goal

abbrev pub invariant-loop-dart : goal.invariant-loop-dart
invariant-loop-dart g l = (p : ℕ) → p < l.dart-index → IsFlatAt (links_of l.links.rows) (slice_index l.darts p)
