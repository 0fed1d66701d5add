use Rattle.std.proofs.Common.{ℕ, ◌<◌, ◌≤◌, ◌*◌, length, refl, sym, ap, subst, ◌∙◌, arith}
use Rattle.std.proofs.lemmas.List.{take_all}
use Rattle.map_defs.specs.Polygon.{per_side}
use Rattle.mesh_build.specs.Sides.{views}
use Rattle.mesh_laws.specs.Sides.{kind_of}
use Rattle.mesh_laws.proofs.MadeMesh.{darts_of, places-on}
use Rattle.mesh_build.proofs.places.places_of.Goals as goal

pub loop-dart-init : goal.loop-dart-init
loop-dart-init c = record {
  darts = ap darts_of c.in_ok-places.ensures.items;
  values = λ k z h. absurd (omega (arith, ap length c.in_ok-places.ensures.items));
}

pub point_of-point-requires : goal.point_of-point-requires
point_of-point-requires c =
    let own : (1 ≤ c.dart-item.result) × (c.dart-item.result ≤ per_side (kind_of c.args.oriented) * length c.args.sides.now) =
    subst (λ (d : ℕ). (1 ≤ d) × (d ≤ per_side (kind_of c.args.oriented) * length c.args.sides.now)) (sym c.dart-item.is) (c.requires.darts c.loop-dart.dart-index c.dart-item.result c.loop-dart-test.true) in
    own.1

pub bounds-points-point : goal.bounds-points-point
bounds-points-point c =
    let own : (1 ≤ c.dart-item.result) × (c.dart-item.result ≤ per_side (kind_of c.args.oriented) * length c.args.sides.now) =
    subst (λ (d : ℕ). (1 ≤ d) × (d ≤ per_side (kind_of c.args.oriented) * length c.args.sides.now)) (sym c.dart-item.is) (c.requires.darts c.loop-dart.dart-index c.dart-item.result c.loop-dart-test.true) in
    rw c.point_of-point.ensures (c.requires.points c.dart-item.result own.0 own.1)

pub loop-dart-preserved : goal.loop-dart-preserved
loop-dart-preserved c =
    let own : (1 ≤ c.dart-item.result) × (c.dart-item.result ≤ per_side (kind_of c.args.oriented) * length c.args.sides.now) =
    subst (λ (d : ℕ). (1 ≤ d) × (d ≤ per_side (kind_of c.args.oriented) * length c.args.sides.now)) (sym c.dart-item.is) (c.requires.darts c.loop-dart.dart-index c.dart-item.result c.loop-dart-test.true) in
    let inside : c.point_of-point.result < length c.args.points.now = rw c.point_of-point.ensures (c.requires.points c.dart-item.result own.0 own.1) in
    let both = places-on (kind_of c.args.oriented) (views c.args.sides.now) c.args.points.now c.loop-dart.places.items c.push.new.self.items _ c.args.darts.now c.loop-dart.dart-index c.dart-item.result c.point_of-point.result
    c.in_ok-push.ensures.items refl c.dart-item.is c.loop-dart-test.true c.point_of-point.ensures inside c.index-points-point.is c.loop-dart.invariant.darts c.loop-dart.invariant.values in
    record { darts = both.0; values = both.1 }

pub returns-clause-darts : goal.returns-clause-darts
returns-clause-darts c = c.loop-dart.invariant.darts ∙ take_all c.loop-dart.dart-index c.args.darts.now c.loop-dart-test.false
