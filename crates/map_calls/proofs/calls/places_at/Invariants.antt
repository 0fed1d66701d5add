use Rattle.std.proofs.Common.{◌≡◌, map, take}
use Rattle.map_calls.proofs.calls.places_at.Given as goal

abbrev pub invariant-loop-dart : goal.invariant-loop-dart
invariant-loop-dart l = map (λ place. place.dart) l.places.items ≡ take l.dart-index l.darts
