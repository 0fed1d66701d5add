use Rattle.std.proofs.Common.{◌≡◌, ◌<◌, ◌≤◌, ℕ, List, [], length, get_or, Contains, sym, ap, subst, ◌∙◌, lit<, arith, ◌+◌, suc}
use Rattle.std.proofs.lemmas.List.{get_or_default}
use Rattle.map_defs.specs.Values.{Place, Value}
use Rattle.store_defs.specs.Groups.{Group}
use Rattle.label_laws.specs.Changing.{AreGiven, AreGroupsGiven, IsGroupGiven}
use Rattle.label_laws.proofs.Giving.{groups-places}
use Rattle.valued_map.specs.Placed.{no_place, placed_group, placed_groups}
use Rattle.valued_map.proofs.Labelling.{can-label-kept}
use Rattle.valued_map.proofs.PlacedGroups.{placed-at}
use Rattle.valued_map.proofs.ids.give_cells.Goals as goal

pub give_id-requires : goal.give_id-requires
give_id-requires g c =
    let k : ℕ = c.loop-index.index in
    let places : List Place = c.args.places.now in
    let cells : List (List ℕ) = c.args.cells.now in
    let low : k < length places = omega (arith, c.loop-index-test.true) in
    let kept = groups-places (placed_groups places cells) k c.args.labels.now c.loop-index.labels c.args.pool.now c.loop-index.pool c.loop-index.invariant.0 in
    let can = can-label-kept g.row.DIM c.args.labels.now c.loop-index.labels (placed_group places cells k) kept.0 kept.1 (c.requires.groups k low) in
    let darts : get_or cells k [] ≡ c.list.result.now = sym c.list.ensures in
    (lit< tt, (omega arith, (subst (λ (ds : List ℕ). (d : ℕ) → Contains ds d → d ≤ c.loop-index.labels.made) darts can.darts_in, (can.places, omega (arith, c.requires.room, c.loop-index.invariant.1)))))

pub loop-index-preserved : goal.loop-index-preserved
loop-index-preserved g c =
    let k : ℕ = c.loop-index.index in
    let places : List Place = c.args.places.now in
    let cells : List (List ℕ) = c.args.cells.now in
    let low : k < length places = omega (arith, c.loop-index-test.true) in
    let darts : get_or cells k [] ≡ c.list.result.now = sym c.list.ensures in
    let value : (get_or places k no_place).value ≡ c.place.inside.value =
    ap (λ (p : Place). p.value) (sym (get_or_default places k c.index-places-index.result no_place low) ∙ (sym c.index-places-index.is ∙ sym c.place.view_is)) in
    let given : IsGroupGiven (placed_group places cells k) c.loop-index.labels c.give_id.new.labels c.loop-index.pool c.give_id.new.pool =
    subst (λ (ds : List ℕ). AreGiven 0 (Contains ds) (get_or places k no_place).value c.loop-index.labels c.give_id.new.labels c.loop-index.pool c.give_id.new.pool) (sym darts)
    (subst (λ (v : Value). AreGiven 0 (Contains c.list.result.now) v c.loop-index.labels c.give_id.new.labels c.loop-index.pool c.give_id.new.pool) (sym value) c.give_id.ensures.given) in
    let more : AreGroupsGiven (placed_groups places cells) (suc k) c.args.labels.now c.give_id.new.labels c.args.pool.now c.give_id.new.pool =
    (c.loop-index.labels, c.loop-index.pool, c.loop-index.invariant.0, subst (λ (x : Group). IsGroupGiven x c.loop-index.labels c.give_id.new.labels c.loop-index.pool c.give_id.new.pool) (sym (placed-at places cells k low)) given) in (
      subst (λ (h : ℕ). AreGroupsGiven (placed_groups places cells) h c.args.labels.now c.give_id.new.labels c.args.pool.now c.give_id.new.pool) (let e : suc k ≡ k + 1 = omega arith in e) more,
      omega (arith, c.loop-index.invariant.1, c.give_id.ensures.spare),
    )
