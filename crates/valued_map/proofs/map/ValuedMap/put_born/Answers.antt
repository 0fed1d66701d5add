use Rattle.std.proofs.Common.{◌≡◌, ℕ, ◌+◌, ◌≤◌, [], max, refl, ap, sym, subst, ◌∙◌, arith}
use Rattle.std.proofs.lemmas.Result.{err_from_is_err_and}
use Rattle.map_defs.specs.Rows.{Rows, made, live_count}
use Rattle.map_defs.specs.Edits.{Edit, after_edit, IsLed}
use Rattle.label_laws.specs.Contents.{content_of}
use Rattle.label_laws.specs.Maps.{IsStoredMap}
use Rattle.label_laws.proofs.Making.{bear-stored, bear-content}
use Rattle.label_laws.proofs.Same.{content-alike}
use Rattle.label_laws.proofs.LineSteps.{stored-grown}
use Rattle.store_defs.specs.Labelings.{Labeling}
use Rattle.valued_map.proofs.Widening.{widened, widened-stored}
use Rattle.valued_map.specs.Told.{IsStep, finished}
use Rattle.valued_map.proofs.Edited.{bear-step}
use Rattle.valued_map.proofs.Places.{places-after, room-after}
use Rattle.valued_map.proofs.map.ValuedMap.put_born.Goals as goal

pub invariant_of-self-in_err-make_places : goal.invariant_of-self-in_err-make_places
invariant_of-self-in_err-make_places g c =
    let k = g.K.Kind.kind in
    let n : ℕ = g.row.DIM in
    subst (λ (r : Rows). IsStoredMap k n r c.make_places.new.labels c.self.inside.pool c.self.inside.rules) (sym c.reserve.ensures.rows)
    (stored-grown k n c.self.inside.links.rows c.self.inside.labels c.make_places.new.labels c.self.inside.pool c.self.inside.pool c.self.inside.rules c.self.invariant c.make_places.ensures.ids c.make_places.ensures.places
    (omega (arith, c.make_places.ensures.longer, c.self.invariant.long)) refl)

pub returns-in_err-make_places-clause-err : goal.returns-in_err-make_places-clause-err
returns-in_err-make_places-clause-err g c =
    let k = g.K.Kind.kind in
    let n : ℕ = g.row.DIM in
    let error = err_from_is_err_and c.from_residual.result c.from_residual.ensures.1 in
    rw (error.1, ← c.self.view_is)
    (ap (λ (r : Rows). content_of k n r c.make_places.new.labels c.self.inside.pool c.self.inside.rules) c.reserve.ensures.rows
    ∙ content-alike k n c.self.inside.links.rows c.self.inside.labels c.make_places.new.labels c.self.inside.pool c.self.inside.pool c.self.inside.rules c.make_places.ensures.ids refl)

pub invariant_of-self-2 : goal.invariant_of-self-2
invariant_of-self-2 g c =
    let k = g.K.Kind.kind in
    let n : ℕ = g.row.DIM in
    let rows : Rows = c.self.inside.links.rows in
    let e : Edit = c.args.edit.now in
    let is : c.apply.new.self.rows ≡ after_edit n e rows = c.apply.ensures.rows ∙ ap (after_edit n e) c.reserve.ensures.rows in
    let births : c.edit.inside.births ≡ e.births = ap (λ (x : Edit). x.births) c.edit.view_is in
    let wide : Labeling = widened c.self.inside.labels c.make_places.new.labels in
    let whole = widened-stored k n rows c.self.inside.labels c.make_places.new.labels c.self.inside.pool c.self.inside.rules c.self.invariant c.make_places.ensures.longer in
    let grown : c.make_places.new.labels.made ≡ max wide.made (made rows + e.births) = omega (arith, c.in_ok-make_places.ensures.long, c.made-made.ensures.made, births) in
    let fits = rw (← c.self.view_is) at c.requires.fits in
    let few = rw (← c.self.view_is) at c.requires.few in
    let laws = rw (← c.self.view_is) at c.requires.laws in
    let born = rw (← c.self.view_is) at c.requires.born in
    subst (λ (r : Rows). IsStoredMap k n r c.make_places.new.labels c.self.inside.pool c.self.inside.rules) (sym is)
    (bear-stored k n rows e wide c.self.inside.pool c.self.inside.rules whole fits few laws c.make_places.new.labels c.make_places.ensures.ids c.make_places.ensures.places grown born.0 born.1)

pub returns-clause-made : goal.returns-clause-made
returns-clause-made g c =
    let k = g.K.Kind.kind in
    let n : ℕ = g.row.DIM in
    let rows : Rows = c.self.inside.links.rows in
    let e : Edit = c.args.edit.now in
    let is : c.apply.new.self.rows ≡ after_edit n e rows = c.apply.ensures.rows ∙ ap (after_edit n e) c.reserve.ensures.rows in
    let births : c.edit.inside.births ≡ e.births = ap (λ (x : Edit). x.births) c.edit.view_is in
    let wide : Labeling = widened c.self.inside.labels c.make_places.new.labels in
    let whole = widened-stored k n rows c.self.inside.labels c.make_places.new.labels c.self.inside.pool c.self.inside.rules c.self.invariant c.make_places.ensures.longer in
    let grown : c.make_places.new.labels.made ≡ max wide.made (made rows + e.births) = omega (arith, c.in_ok-make_places.ensures.long, c.made-made.ensures.made, births) in
    let fits = rw (← c.self.view_is) at c.requires.fits in
    let few = rw (← c.self.view_is) at c.requires.few in
    let laws = rw (← c.self.view_is) at c.requires.laws in
    rw (← c.self.view_is) (λ born same.
    ap (λ (r : Rows). content_of k n r c.make_places.new.labels c.self.inside.pool c.self.inside.rules) is
    ∙ bear-content k n rows e wide c.self.inside.pool c.self.inside.rules whole fits few laws c.make_places.new.labels c.make_places.ensures.ids c.make_places.ensures.places grown born same)

pub returns-clause-told : goal.returns-clause-told
returns-clause-told g c =
    let k = g.K.Kind.kind in
    let n : ℕ = g.row.DIM in
    let rows : Rows = c.self.inside.links.rows in
    let e : Edit = c.args.edit.now in
    let is : c.apply.new.self.rows ≡ after_edit n e rows = c.apply.ensures.rows ∙ ap (after_edit n e) c.reserve.ensures.rows in
    let births : c.edit.inside.births ≡ e.births = ap (λ (x : Edit). x.births) c.edit.view_is in
    let wide : Labeling = widened c.self.inside.labels c.make_places.new.labels in
    let whole = widened-stored k n rows c.self.inside.labels c.make_places.new.labels c.self.inside.pool c.self.inside.rules c.self.invariant c.make_places.ensures.longer in
    let grown : c.make_places.new.labels.made ≡ max wide.made (made rows + e.births) = omega (arith, c.in_ok-make_places.ensures.long, c.made-made.ensures.made, births) in
    let fits = rw (← c.self.view_is) at c.requires.fits in
    let few = rw (← c.self.view_is) at c.requires.few in
    let laws = rw (← c.self.view_is) at c.requires.laws in
    let born = rw (← c.self.view_is) at c.requires.born in
    rw (← c.self.view_is)
    (λ asked draft begun.
    subst (λ (r : Rows). IsStep asked (content_of k n rows c.self.inside.labels c.self.inside.pool c.self.inside.rules) (content_of k n r c.make_places.new.labels c.self.inside.pool c.self.inside.rules) (finished draft [] [])) (sym is)
    (bear-step k n rows e wide c.self.inside.pool c.self.inside.rules whole fits few laws asked draft begun c.make_places.new.labels c.make_places.ensures.ids c.make_places.ensures.places grown born.0 born.1))

pub returns-clause-places_stay : goal.returns-clause-places_stay
returns-clause-places_stay g c =
    let k = g.K.Kind.kind in
    let n : ℕ = g.row.DIM in
    let rows : Rows = c.self.inside.links.rows in
    let e : Edit = c.args.edit.now in
    let fits = rw (← c.self.view_is) at c.requires.fits in
    let few = rw (← c.self.view_is) at c.requires.few in
    let is : c.apply.new.self.rows ≡ after_edit n e rows = c.apply.ensures.rows ∙ ap (after_edit n e) c.reserve.ensures.rows in
    let led : IsLed k n e rows c.apply.new.self.rows = record { begun = c.self.invariant.begun; sound = c.self.invariant.sound; fits = fits; few = few; after = sym is } in
    let sum = places-after k n e rows c.apply.new.self.rows led c.reserve.new.self.room c.apply.new.self.room c.apply.ensures.room in
    let more : live_count rows + c.self.inside.links.room ≤ live_count c.apply.new.self.rows + c.apply.new.self.room = omega (arith, sum, c.reserve.ensures.room_stays) in
    rw (← c.self.view_is) more

pub returns-clause-room : goal.returns-clause-room
returns-clause-room g c =
    let k = g.K.Kind.kind in
    let n : ℕ = g.row.DIM in
    let rows : Rows = c.self.inside.links.rows in
    let e : Edit = c.args.edit.now in
    let fits = rw (← c.self.view_is) at c.requires.fits in
    let few = rw (← c.self.view_is) at c.requires.few in
    let is : c.apply.new.self.rows ≡ after_edit n e rows = c.apply.ensures.rows ∙ ap (after_edit n e) c.reserve.ensures.rows in
    let led : IsLed k n e rows c.apply.new.self.rows = record { begun = c.self.invariant.begun; sound = c.self.invariant.sound; fits = fits; few = few; after = sym is } in
    rw (← c.self.view_is) (room-after k n e rows c.apply.new.self.rows led c.reserve.new.self.room c.apply.new.self.room c.apply.ensures.room)
