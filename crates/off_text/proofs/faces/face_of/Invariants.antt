use Rattle.std.specs.Prelude.{◌≡◌, map, take, slice_index}
use Rattle.off_text.proofs.faces.face_of.Given as goal

abbrev pub invariant-loop-dart : goal.invariant-loop-dart
invariant-loop-dart l = l.corners.items ≡ map (slice_index l.places) (take l.dart-index l.round)
