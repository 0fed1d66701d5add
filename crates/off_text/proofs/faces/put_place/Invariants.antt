use Rattle.std.specs.Prelude.{take}
use Rattle.off_text.proofs.Putting.{IsPut}
use Rattle.off_text.proofs.faces.put_place.Given as goal

abbrev pub invariant-loop-dart : goal.invariant-loop-dart
invariant-loop-dart l = IsPut l.fn.places.items (take l.dart-index l.darts) l.place l.places.items
