use Rattle.std.proofs.Common.{ℕ, ◌≢◌, ◌<◌, slice_index}
use Rattle.map_defs.specs.Rows.{links_of}
use Rattle.face_center.proofs.center.are_closed.Given as goal

abbrev pub invariant-loop-dart : goal.invariant-loop-dart
invariant-loop-dart g l = (p : ℕ) → p < l.dart-index → (links_of l.links.rows 0 (slice_index l.darts p) ≢ 0) × (links_of l.links.rows 1 (slice_index l.darts p) ≢ 0)
