use Rattle.std.proofs.Common.{◌≡◌, ℕ, ◌∙◌, ◌++◌, List, [], map, get_or, refl, sym, ap, subst, take_all}
use Rattle.std.proofs.lemmas.List.{map-append}
use Rattle.std.specs.List.Sorted.{IsStrictlyIncreasing}
use Rattle.map_defs.specs.Values.{Place}
use Rattle.machine_defs.specs.Listing.{ListValue}
use Rattle.label_laws.specs.Stored.{stored_value}
use Rattle.label_laws.specs.Lists.{AreListed, listed}
use Rattle.label_laws.proofs.ListedValues.{IsSoFar, cells-begun, cells-more, cells-all}
use Rattle.label_laws.proofs.Loops.{item-dart}
use Rattle.off_text.specs.MapViews.{placed}
use Rattle.valued_map.proofs.MeshPoints.{place_of, points-rise, points-placed}
use Rattle.valued_map.proofs.off.points.Goals as goal

pub loop-dart-init : goal.loop-dart-init
loop-dart-init g c = ([], cells-begun c.args.labels.now c.args.pool.now 0 c.deref-dart-items.result.now [], c.new-places.ensures.items)

pub loop-dart-preserved : goal.loop-dart-preserved
loop-dart-preserved g c =
    let cells : List ℕ = c.deref-dart-items.result.now in
    let at : ℕ = c.loop-dart.dart-index in
    let (values, so_far, are) = c.loop-dart.invariant in
    let up = rw (← c.deref-dart-items.ensures.value) at c.in_ok-cells.ensures.ascending in
    let item : c.dart-item.result ≡ get_or cells at 0 = item-dart cells at c.dart-item.result c.loop-dart-test.true c.dart-item.is in
    let next : List ListValue = listed 0 (get_or cells at 0) (stored_value c.args.pool.now c.args.labels.now 0 (get_or cells at 0)) in
    let is = subst (λ (d : ℕ). c.add_place.new.places.items ≡ c.loop-dart.places.items ++ map place_of (listed 0 d (stored_value c.args.pool.now c.args.labels.now 0 d))) item c.in_ok-add_place.ensures in (
      values ++ next,
      cells-more c.args.labels.now c.args.pool.now 0 cells at [] values (values ++ next) up c.loop-dart-test.true so_far refl,
      is ∙ ap (λ (front : List Place). front ++ map place_of next) are ∙ sym (map-append place_of values next),
    )

pub returns-clause-ascending : goal.returns-clause-ascending
returns-clause-ascending g c =
    let cells : List ℕ = c.deref-dart-items.result.now in
    let (values, so_far, are) = c.loop-dart.invariant in
    let members = rw (← c.deref-dart-items.ensures.value) at c.in_ok-cells.ensures.members in
    let all = cells-all g.K.Kind.kind c.args.links.now.rows c.args.labels.now c.args.pool.now 0 cells so_far.behind members
    (subst (λ (xs : List ℕ). AreListed c.args.labels.now c.args.pool.now (IsSoFar 0 xs) so_far.behind) (take_all c.loop-dart.dart-index cells c.loop-dart-test.false) so_far.listed) in
    subst (λ (xs : List Place). IsStrictlyIncreasing (map (λ (place : Place). place.dart) xs)) (sym (are ∙ ap (map place_of) so_far.is))
    (points-rise g.K.Kind.kind c.args.links.now.rows c.args.labels.now c.args.pool.now so_far.behind all)

pub returns-clause-values : goal.returns-clause-values
returns-clause-values g c =
    let cells : List ℕ = c.deref-dart-items.result.now in
    let (values, so_far, are) = c.loop-dart.invariant in
    let members = rw (← c.deref-dart-items.ensures.value) at c.in_ok-cells.ensures.members in
    let all = cells-all g.K.Kind.kind c.args.links.now.rows c.args.labels.now c.args.pool.now 0 cells so_far.behind members
    (subst (λ (xs : List ℕ). AreListed c.args.labels.now c.args.pool.now (IsSoFar 0 xs) so_far.behind) (take_all c.loop-dart.dart-index cells c.loop-dart-test.false) so_far.listed) in
    λ d cell. subst (λ (xs : List Place). placed xs d ≡ stored_value c.args.pool.now c.args.labels.now 0 d) (sym (are ∙ ap (map place_of) so_far.is))
    (points-placed g.K.Kind.kind c.args.links.now.rows c.args.labels.now c.args.pool.now so_far.behind all d cell)
