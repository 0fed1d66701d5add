use Rattle.std.proofs.Common.{ℕ, ◌+◌, ◌≤◌, arith, List, Option, sym, subst}
use Rattle.map_defs.specs.Rows.{Rows, live_count}
use Rattle.map_defs.specs.Edits.{Edit, after_edit, IsLed}
use Rattle.map_defs.specs.Values.{Rule}
use Rattle.machine_defs.specs.Difference.{ValueChange, RuleChange}
use Rattle.machine_defs.specs.Dualling.{IsDualOf}
use Rattle.label_laws.specs.Contents.{content_of}
use Rattle.label_laws.specs.Maps.{IsStoredMap}
use Rattle.valued_map.specs.Told.{IsStep, finished}
use Rattle.valued_map.proofs.Dualled.{plain-few, plain-long, plain-live, plain-sound, dual-stored, dual-shown, dual-step}
use Rattle.valued_map.proofs.Places.{places-after, room-after}
use Rattle.valued_map.proofs.map.ValuedMap.dual_by.Goals as goal

pub invariant_of-self : goal.invariant_of-self
invariant_of-self g c =
    let k = g.K.Kind.kind in
    let n : ℕ = g.row.DIM in
    let rows : Rows = c.self.inside.links.rows in
    let e : Edit = c.args.edit.now in
    let rules : List (Option Rule) = c.self.inside.rules in
    let fits = rw (← c.self.view_is) at c.requires.fits in
    let laws = rw (← c.self.view_is) at c.requires.laws in
    let able = rw (← c.self.view_is) at c.requires.dualable in
    let dual = rw (← c.self.view_is) at c.requires.dual in
    let s = c.self.invariant in
    let few = plain-few k n rows e s.begun s.sound fits c.requires.births c.requires.deaths in
    let long = plain-long k n rows e s.begun s.sound fits c.requires.births c.requires.deaths in
    let live = plain-live k n rows e s.begun s.sound fits c.requires.births c.requires.deaths in
    let sound = plain-sound k n rows e s.begun s.sound fits c.requires.births c.requires.deaths in
    let is = c.apply.ensures.rows in
    subst (λ (r : Rows). IsStoredMap k n r c.turn_labels.new.labels c.self.inside.pool c.turn_rules.new.rules) (sym is) (dual-stored k n rows (after_edit n e rows) c.self.inside.labels c.turn_labels.new.labels c.self.inside.pool rules s able dual long live sound laws c.turn_labels.ensures c.turn_rules.new.rules c.turn_rules.ensures)

pub returns-clause-dual : goal.returns-clause-dual
returns-clause-dual g c =
    let k = g.K.Kind.kind in
    let n : ℕ = g.row.DIM in
    let rows : Rows = c.self.inside.links.rows in
    let e : Edit = c.args.edit.now in
    let rules : List (Option Rule) = c.self.inside.rules in
    let fits = rw (← c.self.view_is) at c.requires.fits in
    let laws = rw (← c.self.view_is) at c.requires.laws in
    let able = rw (← c.self.view_is) at c.requires.dualable in
    let dual = rw (← c.self.view_is) at c.requires.dual in
    let s = c.self.invariant in
    let few = plain-few k n rows e s.begun s.sound fits c.requires.births c.requires.deaths in
    let long = plain-long k n rows e s.begun s.sound fits c.requires.births c.requires.deaths in
    let live = plain-live k n rows e s.begun s.sound fits c.requires.births c.requires.deaths in
    let sound = plain-sound k n rows e s.begun s.sound fits c.requires.births c.requires.deaths in
    let is = c.apply.ensures.rows in
    rw (← c.self.view_is)
    (subst (λ (r : Rows). IsDualOf (content_of k n rows c.self.inside.labels c.self.inside.pool rules) (content_of k n r c.turn_labels.new.labels c.self.inside.pool c.turn_rules.new.rules)) (sym is)
    (dual-shown k n rows (after_edit n e rows) c.self.inside.labels c.turn_labels.new.labels c.self.inside.pool rules s able dual long live sound laws c.turn_labels.ensures c.turn_rules.new.rules c.turn_rules.ensures))

pub returns-clause-step : goal.returns-clause-step
returns-clause-step g c =
    let k = g.K.Kind.kind in
    let n : ℕ = g.row.DIM in
    let rows : Rows = c.self.inside.links.rows in
    let e : Edit = c.args.edit.now in
    let rules : List (Option Rule) = c.self.inside.rules in
    let fits = rw (← c.self.view_is) at c.requires.fits in
    let laws = rw (← c.self.view_is) at c.requires.laws in
    let able = rw (← c.self.view_is) at c.requires.dualable in
    let dual = rw (← c.self.view_is) at c.requires.dual in
    let s = c.self.invariant in
    let few = plain-few k n rows e s.begun s.sound fits c.requires.births c.requires.deaths in
    let long = plain-long k n rows e s.begun s.sound fits c.requires.births c.requires.deaths in
    let live = plain-live k n rows e s.begun s.sound fits c.requires.births c.requires.deaths in
    let sound = plain-sound k n rows e s.begun s.sound fits c.requires.births c.requires.deaths in
    let is = c.apply.ensures.rows in
    let begun = rw (c.made-made.ensures.made) at c.in_ok-draft.ensures in
    let values : List ValueChange = c.in_ok-values.values.items in
    let differing = rw (c.made-made.ensures.made) at c.in_ok-values.ensures in
    let changes : List RuleChange = c.in_ok-rules.rules.items in
    rw (← c.self.view_is, c.finish_step.ensures)
    (subst (λ (r : Rows). IsStep c.args.asked (content_of k n rows c.self.inside.labels c.self.inside.pool rules) (content_of k n r c.turn_labels.new.labels c.self.inside.pool c.turn_rules.new.rules) (finished c.in_ok-draft.draft values changes)) (sym is)
    (subst (λ (rs : List (Option Rule)). IsStep c.args.asked (content_of k n rows c.self.inside.labels c.self.inside.pool rules) (content_of k n (after_edit n e rows) c.turn_labels.new.labels c.self.inside.pool rs) (finished c.in_ok-draft.draft values changes)) (sym c.turn_rules.ensures)
    (dual-step k n rows e c.self.inside.labels c.turn_labels.new.labels c.self.inside.pool rules s fits few laws able dual long live sound c.turn_labels.ensures c.args.asked c.in_ok-draft.draft begun
    values differing changes c.in_ok-rules.ensures)))

pub returns-clause-places_stay : goal.returns-clause-places_stay
returns-clause-places_stay g c =
    let k = g.K.Kind.kind in
    let n : ℕ = g.row.DIM in
    let rows : Rows = c.self.inside.links.rows in
    let e : Edit = c.args.edit.now in
    let fits = rw (← c.self.view_is) at c.requires.fits in
    let s = c.self.invariant in
    let few = plain-few k n rows e s.begun s.sound fits c.requires.births c.requires.deaths in
    let led : IsLed k n e rows c.apply.new.self.rows = record { begun = s.begun; sound = s.sound; fits = fits; few = few; after = sym c.apply.ensures.rows } in
    let sum = places-after k n e rows c.apply.new.self.rows led c.self.inside.links.room c.apply.new.self.room c.apply.ensures.room in
    let more : live_count rows + c.self.inside.links.room ≤ live_count c.apply.new.self.rows + c.apply.new.self.room = omega (arith, sum) in
    rw (← c.self.view_is) more

pub returns-clause-room : goal.returns-clause-room
returns-clause-room g c =
    let k = g.K.Kind.kind in
    let n : ℕ = g.row.DIM in
    let rows : Rows = c.self.inside.links.rows in
    let e : Edit = c.args.edit.now in
    let fits = rw (← c.self.view_is) at c.requires.fits in
    let s = c.self.invariant in
    let few = plain-few k n rows e s.begun s.sound fits c.requires.births c.requires.deaths in
    let led : IsLed k n e rows c.apply.new.self.rows = record { begun = s.begun; sound = s.sound; fits = fits; few = few; after = sym c.apply.ensures.rows } in
    rw (← c.self.view_is) (room-after k n e rows c.apply.new.self.rows led c.self.inside.links.room c.apply.new.self.room c.apply.ensures.room)
