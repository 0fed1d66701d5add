use Rattle.std.proofs.Common.{ℕ, ◌<◌, slice_index}
use Rattle.map_defs.specs.Rows.{links_of}
use Rattle.beta_edit.specs.Crossing.{IsDrawnBack}
use Rattle.beta_edit.proofs.apart.stays_apart.Given as goal

abbrev pub invariant-loop-dart : goal.invariant-loop-dart
invariant-loop-dart g l = (p : ℕ) → p < l.dart-index → IsDrawnBack (links_of l.links.rows) l.beside l.link l.darts (slice_index l.darts p) → ⊥
