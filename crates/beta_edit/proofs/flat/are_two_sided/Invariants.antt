use Rattle.std.proofs.Common.{ℕ, ◌≡◌, ◌<◌, slice_index}
use Rattle.map_defs.specs.Rows.{links_of}
use Rattle.beta_edit.proofs.flat.are_two_sided.Given as goal

abbrev pub invariant-loop-dart : goal.invariant-loop-dart
invariant-loop-dart g l = (p : ℕ) → p < l.dart-index → links_of l.links.rows 1 (links_of l.links.rows 1 (slice_index l.darts p)) ≡ slice_index l.darts p
