use Rattle.std.proofs.Common.{◌≡◌, List, [], map, take}
use Rattle.machine_defs.specs.Listing.{ListValue}
use Rattle.label_laws.proofs.ListedValues.{AreBehind}
use Rattle.valued_map.proofs.MeshPoints.{place_of}
use Rattle.valued_map.proofs.off.points.Given as goal

-- the places are those of the values of the cells so far
abbrev pub invariant-loop-dart : goal.invariant-loop-dart
invariant-loop-dart g l = (values : List ListValue) × AreBehind l.labels l.pool 0 (take l.dart-index l.dart-items) [] values × (l.places.items ≡ map place_of values)
