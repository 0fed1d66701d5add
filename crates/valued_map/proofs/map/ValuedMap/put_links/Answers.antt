use Rattle.std.proofs.Common.{◌≡◌, ℕ, ◌+◌, ◌≤◌, ◌<◌, List, [], length, max, IsTrue, IsSome, Option, refl, ap, sym, subst, ◌∙◌, lit<, arith}
use Rattle.std.proofs.lemmas.Result.{err_from_is_err_and}
use Rattle.map_defs.specs.Rows.{Rows, IsLive, links_of, made, live_count}
use Rattle.map_defs.specs.Laws.{Laws}
use Rattle.map_defs.specs.Edits.{Edit, IsLed, after_edit}
use Rattle.edit_laws.proofs.EditSound.{length-after}
use Rattle.map_defs.specs.Values.{Rule}
use Rattle.machine_defs.specs.Difference.{ValueChange}
use Rattle.store_defs.specs.Labelings.{Labeling, id_of}
use Rattle.store_defs.specs.Groups.{group_at, rule_at, HasCarriedValue}
use Rattle.label_laws.specs.Contents.{content_of, IsCarriedOn}
use Rattle.label_laws.specs.Maps.{IsStoredMap}
use Rattle.label_laws.specs.Stored.{AreSmall}
use Rattle.label_laws.specs.Touching.{AreGrafted, AreAllTouched}
use Rattle.label_laws.proofs.Making.{led, ended-within, groups-labelled, relink-stored, relink-carried}
use Rattle.label_laws.proofs.Same.{carried-pool, content-alike}
use Rattle.valued_map.specs.Keeping.{KeepsThose}
use Rattle.valued_map.specs.Told.{IsStep, finished, AreOldValues, IsRevaluedPlace}
use Rattle.valued_map.proofs.Joining.{ungrafted}
use Rattle.label_laws.proofs.LineSteps.{stored-grown}
use Rattle.valued_map.proofs.Widening.{widened, widened-stored}
use Rattle.valued_map.proofs.Edited.{relink-step}
use Rattle.valued_map.proofs.Places.{places-after, room-after}
use Rattle.valued_map.proofs.map.ValuedMap.put_links.Goals as goal

pub invariant_of-self-in_err-make_places : goal.invariant_of-self-in_err-make_places
invariant_of-self-in_err-make_places g c =
    let k = g.K.Kind.kind in
    let n : ℕ = g.row.DIM in
    subst (λ (r : Rows). IsStoredMap k n r c.make_places.new.labels c.self.inside.pool c.self.inside.rules) (sym c.reserve.ensures.rows)
    (stored-grown k n c.self.inside.links.rows c.self.inside.labels c.make_places.new.labels c.self.inside.pool c.self.inside.pool c.self.inside.rules c.self.invariant c.make_places.ensures.ids c.make_places.ensures.places
    (omega (arith, c.make_places.ensures.longer, c.self.invariant.long)) refl)

pub returns-in_err-make_places-clause-err : goal.returns-in_err-make_places-clause-err
returns-in_err-make_places-clause-err g c =
    let k = g.K.Kind.kind in
    let n : ℕ = g.row.DIM in
    let error = err_from_is_err_and c.from_residual.result c.from_residual.ensures.1 in
    rw (error.1, ← c.self.view_is)
    (ap (λ (r : Rows). content_of k n r c.make_places.new.labels c.self.inside.pool c.self.inside.rules) c.reserve.ensures.rows
    ∙ content-alike k n c.self.inside.links.rows c.self.inside.labels c.make_places.new.labels c.self.inside.pool c.self.inside.pool c.self.inside.rules c.make_places.ensures.ids refl)

pub moved-requires : goal.moved-requires
moved-requires g c =
    let k = g.K.Kind.kind in
    let n : ℕ = g.row.DIM in
    let rows : Rows = c.self.inside.links.rows in
    let e : Edit = c.args.edit.now in
    let rules : List (Option Rule) = c.self.inside.rules in
    let is : c.apply.new.self.rows ≡ after_edit n e rows = c.apply.ensures.rows ∙ ap (after_edit n e) c.reserve.ensures.rows in
    let births : c.edit.inside.births ≡ e.births = ap (λ (x : Edit). x.births) c.edit.view_is in
    let wide : Labeling = widened c.self.inside.labels c.make_places.new.labels in
    let whole = widened-stored k n rows c.self.inside.labels c.make_places.new.labels c.self.inside.pool rules c.self.invariant c.make_places.ensures.longer in
    let grown : c.make_places.new.labels.made ≡ max wide.made (made rows + e.births) = omega (arith, c.in_ok-make_places.ensures.long, c.made-made.ensures.made, births) in
    let fits = rw (← c.self.view_is) at c.requires.fits in
    let few = rw (← c.self.view_is) at c.requires.few in
    let laws = rw (← c.self.view_is) at c.requires.laws in
    let here : IsLed k n e rows c.apply.new.self.rows =
    subst (λ (r : Rows). IsLed k n e rows r) (sym is) (led k n rows e wide c.self.inside.pool rules whole fits few laws) in
    let keeps : KeepsThose k c.args.kept rows c.apply.new.self.rows = subst (λ (r : Rows). KeepsThose k c.args.kept rows r) (sym is) (rw (← c.self.view_is) at c.requires.kept) in
    let stored = stored-grown k n rows c.self.inside.labels c.make_places.new.labels c.self.inside.pool c.self.inside.pool rules c.self.invariant c.make_places.ensures.ids c.make_places.ensures.places
    (omega (arith, grown)) refl in
    let longer : length c.apply.new.self.rows ≡ length rows + e.births = ap (λ (r : Rows). length r) is ∙ length-after n e rows in
    (lit< tt, (lit< tt, (c.requires.ready, ((rows, here, stored, keeps), (omega (arith, longer, grown), subst (λ (r : Rows). Laws k (links_of r)) (sym is) laws)))))

pub relabel-requires : goal.relabel-requires
relabel-requires g c =
    let k = g.K.Kind.kind in
    let n : ℕ = g.row.DIM in
    let rows : Rows = c.self.inside.links.rows in
    let e : Edit = c.args.edit.now in
    let rules : List (Option Rule) = c.self.inside.rules in
    let is : c.apply.new.self.rows ≡ after_edit n e rows = c.apply.ensures.rows ∙ ap (after_edit n e) c.reserve.ensures.rows in
    let births : c.edit.inside.births ≡ e.births = ap (λ (x : Edit). x.births) c.edit.view_is in
    let wide : Labeling = widened c.self.inside.labels c.make_places.new.labels in
    let whole = widened-stored k n rows c.self.inside.labels c.make_places.new.labels c.self.inside.pool rules c.self.invariant c.make_places.ensures.longer in
    let grown : c.make_places.new.labels.made ≡ max wide.made (made rows + e.births) = omega (arith, c.in_ok-make_places.ensures.long, c.made-made.ensures.made, births) in
    let fits = rw (← c.self.view_is) at c.requires.fits in
    let few = rw (← c.self.view_is) at c.requires.few in
    let laws = rw (← c.self.view_is) at c.requires.laws in
    let here : IsLed k n e rows c.apply.new.self.rows =
    subst (λ (r : Rows). IsLed k n e rows r) (sym is) (led k n rows e wide c.self.inside.pool rules whole fits few laws) in
    let keeps : KeepsThose k c.args.kept rows c.apply.new.self.rows = subst (λ (r : Rows). KeepsThose k c.args.kept rows r) (sym is) (rw (← c.self.view_is) at c.requires.kept) in
    let stored = stored-grown k n rows c.self.inside.labels c.make_places.new.labels c.self.inside.pool c.self.inside.pool rules c.self.invariant c.make_places.ensures.ids c.make_places.ensures.places
    (omega (arith, grown)) refl in
    let grafts : AreGrafted k (after_edit n e rows) (made rows) (λ i. IsSome (rule_at rules i)) c.make_places.new.labels c.moved.new.labels =
    subst (λ (r : Rows). AreGrafted k r (made rows) (λ i. IsSome (rule_at rules i)) c.make_places.new.labels c.moved.new.labels) is (c.moved.ensures.grafted rows here) in
    let touched : AreAllTouched k (after_edit n e rows) rules c.moved.new.labels c.in-Ok.groups.items =
    subst (λ (r : Rows). AreAllTouched k r rules c.moved.new.labels c.in-Ok.groups.items) is (c.in-Ok.ensures.cells rows here stored keeps) in
    let deaths : c.deref.result.now ≡ e.deaths = c.deref.ensures.value ∙ ap (λ (x : Edit). x.deaths) c.edit.view_is in
    rw (deaths, c.deref-in-Ok.ensures.value) (
      lit< tt,
      (
        c.self.invariant.high,
        (
          ended-within k n rows e wide c.self.inside.pool rules whole fits few laws c.make_places.new.labels c.make_places.ensures.ids c.make_places.ensures.places grown c.moved.new.pool c.moved.ensures.slots c.moved.new.labels grafts c.in-Ok.groups.items touched,
          (
            groups-labelled k n rows e wide c.self.inside.pool rules whole fits few laws c.make_places.new.labels c.make_places.ensures.ids c.make_places.ensures.places grown c.moved.new.pool c.moved.ensures.slots c.moved.new.labels grafts c.in-Ok.groups.items touched,
            c.in-Ok.ensures.room,
          ),
        ),
      ),
    )

pub invariant_of-self-in-Ok : goal.invariant_of-self-in-Ok
invariant_of-self-in-Ok g c =
    let k = g.K.Kind.kind in
    let n : ℕ = g.row.DIM in
    let rows : Rows = c.self.inside.links.rows in
    let e : Edit = c.args.edit.now in
    let rules : List (Option Rule) = c.self.inside.rules in
    let is : c.apply.new.self.rows ≡ after_edit n e rows = c.apply.ensures.rows ∙ ap (after_edit n e) c.reserve.ensures.rows in
    let births : c.edit.inside.births ≡ e.births = ap (λ (x : Edit). x.births) c.edit.view_is in
    let wide : Labeling = widened c.self.inside.labels c.make_places.new.labels in
    let whole = widened-stored k n rows c.self.inside.labels c.make_places.new.labels c.self.inside.pool rules c.self.invariant c.make_places.ensures.longer in
    let grown : c.make_places.new.labels.made ≡ max wide.made (made rows + e.births) = omega (arith, c.in_ok-make_places.ensures.long, c.made-made.ensures.made, births) in
    let fits = rw (← c.self.view_is) at c.requires.fits in
    let few = rw (← c.self.view_is) at c.requires.few in
    let laws = rw (← c.self.view_is) at c.requires.laws in
    let here : IsLed k n e rows c.apply.new.self.rows =
    subst (λ (r : Rows). IsLed k n e rows r) (sym is) (led k n rows e wide c.self.inside.pool rules whole fits few laws) in
    let keeps : KeepsThose k c.args.kept rows c.apply.new.self.rows = subst (λ (r : Rows). KeepsThose k c.args.kept rows r) (sym is) (rw (← c.self.view_is) at c.requires.kept) in
    let stored = stored-grown k n rows c.self.inside.labels c.make_places.new.labels c.self.inside.pool c.self.inside.pool rules c.self.invariant c.make_places.ensures.ids c.make_places.ensures.places
    (omega (arith, grown)) refl in
    let grafts : AreGrafted k (after_edit n e rows) (made rows) (λ i. IsSome (rule_at rules i)) c.make_places.new.labels c.moved.new.labels =
    subst (λ (r : Rows). AreGrafted k r (made rows) (λ i. IsSome (rule_at rules i)) c.make_places.new.labels c.moved.new.labels) is (c.moved.ensures.grafted rows here) in
    let touched : AreAllTouched k (after_edit n e rows) rules c.moved.new.labels c.in-Ok.groups.items =
    subst (λ (r : Rows). AreAllTouched k r rules c.moved.new.labels c.in-Ok.groups.items) is (c.in-Ok.ensures.cells rows here stored keeps) in
    let deaths : c.deref.result.now ≡ e.deaths = c.deref.ensures.value ∙ ap (λ (x : Edit). x.deaths) c.edit.view_is in
    let relabelled = rw (deaths, c.deref-in-Ok.ensures.value) at c.relabel.ensures in
    subst (λ (r : Rows). IsStoredMap k n r c.relabel.new.labels c.relabel.new.pool rules) (sym is)
    (relink-stored k n rows e wide c.self.inside.pool rules whole fits few laws c.make_places.new.labels c.make_places.ensures.ids c.make_places.ensures.places grown c.moved.new.pool c.moved.ensures.slots
    c.moved.new.labels grafts c.in-Ok.groups.items touched c.relabel.new.labels c.relabel.new.pool relabelled)

pub invariant_of-self-in-Err : goal.invariant_of-self-in-Err
invariant_of-self-in-Err g c =
    let k = g.K.Kind.kind in
    let n : ℕ = g.row.DIM in
    let rows : Rows = c.self.inside.links.rows in
    let e : Edit = c.args.edit.now in
    let rules : List (Option Rule) = c.self.inside.rules in
    let is : c.apply.new.self.rows ≡ after_edit n e rows = c.apply.ensures.rows ∙ ap (after_edit n e) c.reserve.ensures.rows in
    let births : c.edit.inside.births ≡ e.births = ap (λ (x : Edit). x.births) c.edit.view_is in
    let wide : Labeling = widened c.self.inside.labels c.make_places.new.labels in
    let whole = widened-stored k n rows c.self.inside.labels c.make_places.new.labels c.self.inside.pool rules c.self.invariant c.make_places.ensures.longer in
    let grown : c.make_places.new.labels.made ≡ max wide.made (made rows + e.births) = omega (arith, c.in_ok-make_places.ensures.long, c.made-made.ensures.made, births) in
    let fits = rw (← c.self.view_is) at c.requires.fits in
    let few = rw (← c.self.view_is) at c.requires.few in
    let laws = rw (← c.self.view_is) at c.requires.laws in
    let here : IsLed k n e rows c.apply.new.self.rows =
    subst (λ (r : Rows). IsLed k n e rows r) (sym is) (led k n rows e wide c.self.inside.pool rules whole fits few laws) in
    let grafts = c.moved.ensures.grafted rows here in
    let stored = stored-grown k n rows c.self.inside.labels c.make_places.new.labels c.self.inside.pool c.self.inside.pool rules c.self.invariant c.make_places.ensures.ids c.make_places.ensures.places
    (omega (arith, grown)) refl in
    subst (λ (r : Rows). IsStoredMap k n r c.cut.new.self c.moved.new.pool rules) (sym (c.reverse.ensures.back rows here))
    (stored-grown k n rows c.make_places.new.labels c.cut.new.self c.self.inside.pool c.moved.new.pool rules stored
    (ungrafted k n rows c.apply.new.self.rows c.make_places.new.labels c.moved.new.labels c.cut.new.self c.self.inside.pool rules stored (λ i. IsSome (rule_at rules i)) grafts c.made-made.result c.made-made.ensures.made c.cut.ensures.kept c.cut.ensures.gone)
    (λ i. ((λ h. (grafts.places i).0 ((c.cut.ensures.places i).0 h)), λ h. (c.cut.ensures.places i).1 ((grafts.places i).1 h)))
    (omega (arith, c.cut.ensures.made, c.made-made.ensures.made, grafts.made, grown)) c.moved.ensures.slots)

pub returns-in-Ok-clause-carried : goal.returns-in-Ok-clause-carried
returns-in-Ok-clause-carried g c =
    let k = g.K.Kind.kind in
    let n : ℕ = g.row.DIM in
    let rows : Rows = c.self.inside.links.rows in
    let e : Edit = c.args.edit.now in
    let rules : List (Option Rule) = c.self.inside.rules in
    let is : c.apply.new.self.rows ≡ after_edit n e rows = c.apply.ensures.rows ∙ ap (after_edit n e) c.reserve.ensures.rows in
    let births : c.edit.inside.births ≡ e.births = ap (λ (x : Edit). x.births) c.edit.view_is in
    let wide : Labeling = widened c.self.inside.labels c.make_places.new.labels in
    let whole = widened-stored k n rows c.self.inside.labels c.make_places.new.labels c.self.inside.pool rules c.self.invariant c.make_places.ensures.longer in
    let grown : c.make_places.new.labels.made ≡ max wide.made (made rows + e.births) = omega (arith, c.in_ok-make_places.ensures.long, c.made-made.ensures.made, births) in
    let fits = rw (← c.self.view_is) at c.requires.fits in
    let few = rw (← c.self.view_is) at c.requires.few in
    let laws = rw (← c.self.view_is) at c.requires.laws in
    let here : IsLed k n e rows c.apply.new.self.rows =
    subst (λ (r : Rows). IsLed k n e rows r) (sym is) (led k n rows e wide c.self.inside.pool rules whole fits few laws) in
    let keeps : KeepsThose k c.args.kept rows c.apply.new.self.rows = subst (λ (r : Rows). KeepsThose k c.args.kept rows r) (sym is) (rw (← c.self.view_is) at c.requires.kept) in
    let stored = stored-grown k n rows c.self.inside.labels c.make_places.new.labels c.self.inside.pool c.self.inside.pool rules c.self.invariant c.make_places.ensures.ids c.make_places.ensures.places
    (omega (arith, grown)) refl in
    let grafts : AreGrafted k (after_edit n e rows) (made rows) (λ i. IsSome (rule_at rules i)) c.make_places.new.labels c.moved.new.labels =
    subst (λ (r : Rows). AreGrafted k r (made rows) (λ i. IsSome (rule_at rules i)) c.make_places.new.labels c.moved.new.labels) is (c.moved.ensures.grafted rows here) in
    let touched : AreAllTouched k (after_edit n e rows) rules c.moved.new.labels c.in-Ok.groups.items =
    subst (λ (r : Rows). AreAllTouched k r rules c.moved.new.labels c.in-Ok.groups.items) is (c.in-Ok.ensures.cells rows here stored keeps) in
    let deaths : c.deref.result.now ≡ e.deaths = c.deref.ensures.value ∙ ap (λ (x : Edit). x.deaths) c.edit.view_is in
    let relabelled = rw (deaths, c.deref-in-Ok.ensures.value) at c.relabel.ensures in
    let hook = g.H.Hook.hook c.args.hook.now in
    let carried : (h : ℕ) → h < length c.in-Ok.groups.items → HasCarriedValue k (links_of (after_edit n e rows)) (IsLive (after_edit n e rows)) (id_of c.moved.new.labels) c.moved.new.pool hook rules (group_at c.in-Ok.groups.items h) =
    λ h lt. carried-pool k (links_of (after_edit n e rows)) (IsLive (after_edit n e rows)) c.moved.new.labels c.self.inside.pool c.moved.new.pool hook rules (group_at c.in-Ok.groups.items h) c.moved.ensures.slots
    (subst (λ (r : Rows). HasCarriedValue k (links_of r) (IsLive r) (id_of c.moved.new.labels) c.self.inside.pool hook rules (group_at c.in-Ok.groups.items h)) is (c.in-Ok.ensures.values h lt)) in
    let small : AreSmall rules c.moved.new.pool = λ i rule ruled. rw c.moved.ensures.slots (c.in-Ok.ensures.small i rule ruled) in
    let on = relink-carried k n rows e wide c.self.inside.pool rules whole fits few laws c.make_places.new.labels c.make_places.ensures.ids c.make_places.ensures.places grown c.moved.new.pool c.moved.ensures.slots
    c.moved.new.labels grafts c.in-Ok.groups.items touched c.relabel.new.labels c.relabel.new.pool relabelled hook ((g.met.H.Hook.lawful c.args.hook.now c.requires.ready).whole) small carried in
    rw (← c.self.view_is)
    (subst (λ (r : Rows). IsCarriedOn hook (content_of k n rows c.self.inside.labels c.self.inside.pool rules) (after_edit n e rows) (content_of k n r c.relabel.new.labels c.relabel.new.pool rules)) (sym is) on)

pub returns-in-Ok-clause-told : goal.returns-in-Ok-clause-told
returns-in-Ok-clause-told g c =
    let k = g.K.Kind.kind in
    let n : ℕ = g.row.DIM in
    let rows : Rows = c.self.inside.links.rows in
    let e : Edit = c.args.edit.now in
    let rules : List (Option Rule) = c.self.inside.rules in
    let is : c.apply.new.self.rows ≡ after_edit n e rows = c.apply.ensures.rows ∙ ap (after_edit n e) c.reserve.ensures.rows in
    let births : c.edit.inside.births ≡ e.births = ap (λ (x : Edit). x.births) c.edit.view_is in
    let wide : Labeling = widened c.self.inside.labels c.make_places.new.labels in
    let whole = widened-stored k n rows c.self.inside.labels c.make_places.new.labels c.self.inside.pool rules c.self.invariant c.make_places.ensures.longer in
    let grown : c.make_places.new.labels.made ≡ max wide.made (made rows + e.births) = omega (arith, c.in_ok-make_places.ensures.long, c.made-made.ensures.made, births) in
    let fits = rw (← c.self.view_is) at c.requires.fits in
    let few = rw (← c.self.view_is) at c.requires.few in
    let laws = rw (← c.self.view_is) at c.requires.laws in
    let here : IsLed k n e rows c.apply.new.self.rows =
    subst (λ (r : Rows). IsLed k n e rows r) (sym is) (led k n rows e wide c.self.inside.pool rules whole fits few laws) in
    let keeps : KeepsThose k c.args.kept rows c.apply.new.self.rows = subst (λ (r : Rows). KeepsThose k c.args.kept rows r) (sym is) (rw (← c.self.view_is) at c.requires.kept) in
    let stored = stored-grown k n rows c.self.inside.labels c.make_places.new.labels c.self.inside.pool c.self.inside.pool rules c.self.invariant c.make_places.ensures.ids c.make_places.ensures.places
    (omega (arith, grown)) refl in
    let grafts : AreGrafted k (after_edit n e rows) (made rows) (λ i. IsSome (rule_at rules i)) c.make_places.new.labels c.moved.new.labels =
    subst (λ (r : Rows). AreGrafted k r (made rows) (λ i. IsSome (rule_at rules i)) c.make_places.new.labels c.moved.new.labels) is (c.moved.ensures.grafted rows here) in
    let touched : AreAllTouched k (after_edit n e rows) rules c.moved.new.labels c.in-Ok.groups.items =
    subst (λ (r : Rows). AreAllTouched k r rules c.moved.new.labels c.in-Ok.groups.items) is (c.in-Ok.ensures.cells rows here stored keeps) in
    let deaths : c.deref.result.now ≡ e.deaths = c.deref.ensures.value ∙ ap (λ (x : Edit). x.deaths) c.edit.view_is in
    let relabelled = rw (deaths, c.deref-in-Ok.ensures.value) at c.relabel.ensures in
    let values : List ValueChange = c.new_values.result.items in
    let olds : IsTrue c.args.asked → AreOldValues (IsRevaluedPlace n (made rows) e c.in-Ok.groups.items) c.make_places.new.labels c.moved.new.pool c.in-Ok.olds.items = λ some. c.in-Ok.ensures.olds some rows here stored in
    rw (← c.self.view_is)
    (λ draft begun.
    subst (λ (r : Rows). IsStep c.args.asked (content_of k n rows c.self.inside.labels c.self.inside.pool rules) (content_of k n r c.relabel.new.labels c.relabel.new.pool rules) (finished draft values [])) (sym is)
    (relink-step k n rows e wide c.self.inside.pool rules whole fits few laws c.args.asked draft begun c.make_places.new.labels c.make_places.ensures.ids c.make_places.ensures.places grown c.moved.new.pool c.moved.ensures.slots
    c.moved.new.labels grafts c.in-Ok.groups.items touched c.relabel.new.labels c.relabel.new.pool relabelled c.in-Ok.olds.items values olds c.new_values.ensures))

pub returns-in-Err-clause-err : goal.returns-in-Err-clause-err
returns-in-Err-clause-err g c =
    let k = g.K.Kind.kind in
    let n : ℕ = g.row.DIM in
    let rows : Rows = c.self.inside.links.rows in
    let e : Edit = c.args.edit.now in
    let rules : List (Option Rule) = c.self.inside.rules in
    let is : c.apply.new.self.rows ≡ after_edit n e rows = c.apply.ensures.rows ∙ ap (after_edit n e) c.reserve.ensures.rows in
    let births : c.edit.inside.births ≡ e.births = ap (λ (x : Edit). x.births) c.edit.view_is in
    let wide : Labeling = widened c.self.inside.labels c.make_places.new.labels in
    let whole = widened-stored k n rows c.self.inside.labels c.make_places.new.labels c.self.inside.pool rules c.self.invariant c.make_places.ensures.longer in
    let grown : c.make_places.new.labels.made ≡ max wide.made (made rows + e.births) = omega (arith, c.in_ok-make_places.ensures.long, c.made-made.ensures.made, births) in
    let fits = rw (← c.self.view_is) at c.requires.fits in
    let few = rw (← c.self.view_is) at c.requires.few in
    let laws = rw (← c.self.view_is) at c.requires.laws in
    let here : IsLed k n e rows c.apply.new.self.rows =
    subst (λ (r : Rows). IsLed k n e rows r) (sym is) (led k n rows e wide c.self.inside.pool rules whole fits few laws) in
    let stored = stored-grown k n rows c.self.inside.labels c.make_places.new.labels c.self.inside.pool c.self.inside.pool rules c.self.invariant c.make_places.ensures.ids c.make_places.ensures.places
    (omega (arith, grown)) refl in
    let back = ungrafted k n rows c.apply.new.self.rows c.make_places.new.labels c.moved.new.labels c.cut.new.self c.self.inside.pool rules stored (λ i. IsSome (rule_at rules i)) (c.moved.ensures.grafted rows here) c.made-made.result c.made-made.ensures.made c.cut.ensures.kept c.cut.ensures.gone in
    rw (← c.self.view_is)
    (ap (λ (r : Rows). content_of k n r c.cut.new.self c.moved.new.pool rules) (c.reverse.ensures.back rows here)
    ∙ content-alike k n rows c.self.inside.labels c.cut.new.self c.self.inside.pool c.moved.new.pool rules (λ i d. back i d ∙ c.make_places.ensures.ids i d) c.moved.ensures.slots)

pub returns-in-Ok-clause-places_stay : goal.returns-in-Ok-clause-places_stay
returns-in-Ok-clause-places_stay g c =
    let k = g.K.Kind.kind in
    let n : ℕ = g.row.DIM in
    let rows : Rows = c.self.inside.links.rows in
    let e : Edit = c.args.edit.now in
    let fits = rw (← c.self.view_is) at c.requires.fits in
    let few = rw (← c.self.view_is) at c.requires.few in
    let is : c.apply.new.self.rows ≡ after_edit n e rows = c.apply.ensures.rows ∙ ap (after_edit n e) c.reserve.ensures.rows in
    let led : IsLed k n e rows c.apply.new.self.rows = record { begun = c.self.invariant.begun; sound = c.self.invariant.sound; fits = fits; few = few; after = sym is } in
    let sum = places-after k n e rows c.apply.new.self.rows led c.reserve.new.self.room c.apply.new.self.room c.apply.ensures.room in
    let more : live_count rows + c.self.inside.links.room ≤ live_count c.apply.new.self.rows + c.apply.new.self.room = omega (arith, sum, c.reserve.ensures.room_stays) in
    rw (← c.self.view_is) more

pub returns-in-Ok-clause-room : goal.returns-in-Ok-clause-room
returns-in-Ok-clause-room g c =
    let k = g.K.Kind.kind in
    let n : ℕ = g.row.DIM in
    let rows : Rows = c.self.inside.links.rows in
    let e : Edit = c.args.edit.now in
    let fits = rw (← c.self.view_is) at c.requires.fits in
    let few = rw (← c.self.view_is) at c.requires.few in
    let is : c.apply.new.self.rows ≡ after_edit n e rows = c.apply.ensures.rows ∙ ap (after_edit n e) c.reserve.ensures.rows in
    let led : IsLed k n e rows c.apply.new.self.rows = record { begun = c.self.invariant.begun; sound = c.self.invariant.sound; fits = fits; few = few; after = sym is } in
    rw (← c.self.view_is) (room-after k n e rows c.apply.new.self.rows led c.reserve.new.self.room c.apply.new.self.room c.apply.ensures.room)
