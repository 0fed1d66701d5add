use Rattle.std.proofs.Common.{◌≡◌, Some, take, map}
use Rattle.std.specs.Prelude.{All, slice_get}
use Rattle.mesh_build.specs.Sides.{views}
use Rattle.mesh_laws.specs.Sides.{kind_of}
use Rattle.mesh_laws.specs.SideLinks.{point_of}
use Rattle.mesh_build.proofs.places.places_of.Given as goal

abbrev pub invariant-loop-dart : goal.invariant-loop-dart
invariant-loop-dart l = record {
  darts : map (λ place. place.dart) l.places.items ≡ take l.dart-index l.darts;
  values : All (λ place. slice_get l.points (point_of (kind_of l.oriented) (views l.sides) place.dart) ≡ Some place.value) l.places.items;
}
