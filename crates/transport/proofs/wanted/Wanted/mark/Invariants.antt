use Rattle.std.proofs.Common.{◌≡◌, ℕ, ◌<◌, ◌↔◌, ◌⊎◌, length, slice_index, take, Contains}
use Rattle.transport.specs.Wanted.{IsMarked}
use Rattle.transport.proofs.wanted.Wanted.mark.Given as goal

abbrev pub invariant-loop-dart : goal.invariant-loop-dart
invariant-loop-dart l = record {
  darts : l.self.darts ≡ l.initial.self.darts;
  marks : (place : ℕ) → place < length l.initial.self.darts → IsMarked l.self place ↔ (IsMarked l.initial.self place ⊎ Contains (take l.dart-index l.cell) (slice_index l.initial.self.darts place));
}
