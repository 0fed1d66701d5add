use Rattle.std.proofs.Common.{◌≡◌, ℕ, ◌+◌, ◌<◌, length, take, cond}
use Rattle.transport.specs.Marks.{mark_at, is_among}
use Rattle.transport.proofs.marks.Marks.put_all.Given as goal

abbrev pub invariant-loop-dart : goal.invariant-loop-dart
invariant-loop-dart l = record {
  first : l.self.first ≡ l.initial.self.first;
  size : length l.self.marks ≡ length l.initial.self.marks;
  marks : (place : ℕ) → place < length l.initial.self.marks → mark_at l.self place ≡ cond (is_among (take l.dart-index l.darts) (place + l.initial.self.first)) l.mark (mark_at l.initial.self place);
}
