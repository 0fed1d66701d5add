use Rattle.std.proofs.Common.{ℕ, ◌<◌, Contains, slice_index}
use Rattle.cell_edit.proofs.path.is_on_one_volume.Given as goal

abbrev pub invariant-loop-dart : goal.invariant-loop-dart
invariant-loop-dart g l = (p : ℕ) → p < l.dart-index → Contains l.volume.items (slice_index l.path p)
