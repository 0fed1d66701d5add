use Rattle.std.proofs.Common.{◌≡◌, ◌≤◌, inl, inr, ℕ, List, length, map, slice_index, Some, None, All, Contains, sym, ap, ◌∙◌, subst, arith}
use Rattle.std.specs.List.{AllZip}
use Rattle.map_defs.specs.Refusal as machine
use Rattle.map_defs.specs.OffOfMap.{ListsCells, LacksOffText}
use Rattle.map_kind.specs.Refusals.{meaning}
use Rattle.off_text.specs.MapViews.{placed, off_view}
use Rattle.off_text.proofs.Refusing.{refused-line, refused-again}
use Rattle.off_text.proofs.OffFacts.{cells-few, rounds-made, lists-made, off-rows, none-open, none-thin, some-thin, none-lacks}
use Rattle.off_text.proofs.of_map.off_of.Goals as goal

pub returns-in_err-points-clause-refused : goal.returns-in_err-points-clause-refused
returns-in_err-points-clause-refused g c =
    let r = c.in_ok-rounds.ensures.rounds in
    refused-again c.from_residual-in_err-points.result c.in_err-points.field-0.0
    (λ why. (why ≡ machine.NoPoint) × ((d : ℕ) × Contains c.deref.result.now d × (placed c.args.places.now d ≡ None)))
    (LacksOffText g.K.Kind.kind c.args.links.now.rows (placed c.args.places.now))
    c.from_residual-in_err-points.ensures.1
    (λ why known. inr (inl (
      known.0,
      none-open g.K.Kind.kind g.row.DIM c.args.links.now.rows c.see_sound.ensures.sound r.0 c.in_ok-rounds.rounds r.1 r.2,
      (known.1.0, (c.in_ok-vertices.ensures.members known.1.0).0 (subst (λ vertices. Contains vertices known.1.0) c.deref.ensures.value known.1.1), known.1.2),
    )))
    c.in_err-points.ensures.refused

pub returns-in_err-refuse_thin-clause-refused : goal.returns-in_err-refuse_thin-clause-refused
returns-in_err-refuse_thin-clause-refused g c =
    let r = c.in_ok-rounds.ensures.rounds in
    let thin = c.in_err-refuse_thin.ensures.thin in
    let named : ListsCells g.K.Kind.kind c.args.links.now.rows 0 c.in_ok-vertices.vertices.least.items = record { members = c.in_ok-vertices.ensures.members; ascending = c.in_ok-vertices.ensures.ascending } in
    refused-line c.from_residual-in_err-refuse_thin.result c.in_err-refuse_thin.field-0.0 (LacksOffText g.K.Kind.kind c.args.links.now.rows (placed c.args.places.now))
    c.from_residual-in_err-refuse_thin.ensures.1
    (inr (inr (
      ap meaning thin.0,
      none-open g.K.Kind.kind g.row.DIM c.args.links.now.rows c.see_sound.ensures.sound r.0 c.in_ok-rounds.rounds r.1 r.2,
      none-lacks g.K.Kind.kind c.args.links.now.rows (placed c.args.places.now) c.in_ok-vertices.vertices.least.items c.in_ok-points.points.items named
          (subst (λ vertices. AllZip (λ d point. placed c.args.places.now d ≡ Some point) vertices c.in_ok-points.points.items) c.deref.ensures.value c.in_ok-points.ensures.points),
      some-thin g.K.Kind.kind g.row.DIM c.args.links.now.rows c.see_sound.ensures.sound r.0 c.in_ok-rounds.rounds thin.1.0 r.1 r.2
          thin.1.1 thin.1.2,
    )))

pub place_cells-requires-clause-few : goal.place_cells-requires-clause-few
place_cells-requires-clause-few g c =
    let named : ListsCells g.K.Kind.kind c.args.links.now.rows 0 c.in_ok-vertices.vertices.least.items = record { members = c.in_ok-vertices.ensures.members; ascending = c.in_ok-vertices.ensures.ascending } in
    let few = cells-few g.K.Kind.kind g.row.DIM c.args.links.now.rows c.see_sound.ensures.sound 0 c.in_ok-vertices.vertices.least.items named in
    omega (arith, few, c.in_ok-vertices.ensures.darts.long)

pub place_cells-requires-clause-made : goal.place_cells-requires-clause-made
place_cells-requires-clause-made g c =
    let named : ListsCells g.K.Kind.kind c.args.links.now.rows 0 c.in_ok-vertices.vertices.least.items = record { members = c.in_ok-vertices.ensures.members; ascending = c.in_ok-vertices.ensures.ascending } in
    subst (λ m. All (All (λ d. d ≤ m)) c.in_ok-vertices.vertices.darts) (sym c.made.ensures.made)
    (lists-made g.K.Kind.kind g.row.DIM c.args.links.now.rows c.see_sound.ensures.sound 0 c.in_ok-vertices.vertices.least.items c.in_ok-vertices.vertices.darts named c.in_ok-vertices.ensures.darts)

pub faces_of-requires : goal.faces_of-requires
faces_of-requires g c =
    let r = c.in_ok-rounds.ensures.rounds in
    let long : length c.deref-2.result.now ≡ length c.in_ok-places_of_darts.places_of_darts.items = ap length c.deref-2.ensures.value in
    rounds-made g.K.Kind.kind g.row.DIM c.args.links.now.rows c.see_sound.ensures.sound (length c.deref-2.result.now) r.0 c.in_ok-rounds.rounds
    (omega (arith, long, c.in_ok-places_of_darts.ensures.long, c.made.ensures.made)) r.1 r.2

pub returns-clause-rows : goal.returns-clause-rows
returns-clause-rows g c =
    let r = c.in_ok-rounds.ensures.rounds in
    let named : ListsCells g.K.Kind.kind c.args.links.now.rows 0 c.in_ok-vertices.vertices.least.items = record { members = c.in_ok-vertices.ensures.members; ascending = c.in_ok-vertices.ensures.ascending } in
    let edged : ListsCells g.K.Kind.kind c.args.links.now.rows 1 c.in_ok-cells.field-0.items = record { members = c.in_ok-cells.ensures.members; ascending = c.in_ok-cells.ensures.ascending } in
    off-rows g.K.Kind.kind g.row.DIM c.args.links.now.rows c.see_sound.ensures.sound (placed c.args.places.now)
    (off_view (record { points = c.in_ok-points.points; faces = c.in_ok-faces_of.field-0; edges = c.len.result }))
    c.in_ok-vertices.vertices.least.items r.0 c.in_ok-cells.field-0.items c.in_ok-rounds.rounds c.in_ok-vertices.vertices.darts c.in_ok-places_of_darts.places_of_darts.items
    named c.in_ok-vertices.ensures.darts
    c.in_ok-places_of_darts.ensures.placed
    (subst (λ vertices. AllZip (λ d point. placed c.args.places.now d ≡ Some point) vertices c.in_ok-points.points.items) c.deref.ensures.value c.in_ok-points.ensures.points)
    r.1 r.2
    (c.in_ok-faces_of.ensures ∙ ap (λ (places : List ℕ). map (map (slice_index places)) c.in_ok-rounds.rounds) c.deref-2.ensures.value)
    edged (omega (arith, c.len.ensures, c.in_ok-cells.field-0.ok.0))

pub returns-clause-answered : goal.returns-clause-answered
returns-clause-answered g c =
    let r = c.in_ok-rounds.ensures.rounds in
    let named : ListsCells g.K.Kind.kind c.args.links.now.rows 0 c.in_ok-vertices.vertices.least.items = record { members = c.in_ok-vertices.ensures.members; ascending = c.in_ok-vertices.ensures.ascending } in (
      none-open g.K.Kind.kind g.row.DIM c.args.links.now.rows c.see_sound.ensures.sound r.0 c.in_ok-rounds.rounds r.1 r.2,
      none-lacks g.K.Kind.kind c.args.links.now.rows (placed c.args.places.now) c.in_ok-vertices.vertices.least.items c.in_ok-points.points.items named
          (subst (λ vertices. AllZip (λ d point. placed c.args.places.now d ≡ Some point) vertices c.in_ok-points.points.items) c.deref.ensures.value c.in_ok-points.ensures.points),
      none-thin g.K.Kind.kind g.row.DIM c.args.links.now.rows c.see_sound.ensures.sound r.0 c.in_ok-rounds.rounds r.1 r.2
          c.in_ok-refuse_thin.ensures.thick,
    )
