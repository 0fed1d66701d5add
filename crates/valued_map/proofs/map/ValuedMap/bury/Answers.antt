use Rattle.std.proofs.Common.{refl, ℕ, ◌+◌, ◌≤◌, arith, List, [], ◌∷◌, IsTrue, ap, sym, subst, ◌∙◌}
use Rattle.std.proofs.lemmas.Bool.{false≢true}
use Rattle.map_defs.specs.Rows.{Rows, IsLive, made, made_max, live_count}
use Rattle.map_defs.specs.Edits.{Edit, IsLed}
use Rattle.machine_defs.specs.Difference.{ValueChange}
use Rattle.edit_laws.proofs.EditPlain.{death_edit, death-fits}
use Rattle.label_laws.specs.Contents.{content_of}
use Rattle.label_laws.specs.Maps.{IsStoredMap}
use Rattle.label_laws.proofs.Making.{end-stored, end-content}
use Rattle.valued_map.specs.Told.{IsStep, IsBegun, finished, AreOldValues, IsRelabelledPlace}
use Rattle.valued_map.proofs.Edited.{end-step}
use Rattle.valued_map.proofs.Places.{places-after, room-after}
use Rattle.valued_map.proofs.Joining.{unlabelled}
use Rattle.valued_map.proofs.map.ValuedMap.bury.Goals as goal
use Rattle.valued_map.proofs.map.ValuedMap.bury.Goals.{then-asked+in_ok-olds, else-asked}

pub invariant_of-self : goal.invariant_of-self
invariant_of-self g c =
    let k = g.K.Kind.kind in
    let n : ℕ = g.row.DIM in
    let rows : Rows = c.self.inside.links.rows in
    let is = rw (c.in_ok-vec.ensures.items, c.new.ensures.items, c.none.ensures.rows) at c.apply.ensures.rows in
    let live : IsLive rows c.args.dart = rw (← c.self.view_is) at c.requires.live in
    let alone = rw (← c.self.view_is) at c.requires.alone in
    let taken = rw (c.deref-2.ensures.value, c.in_ok-vec.ensures.items) at c.end_ids.ensures in
    subst (λ (r : Rows). IsStoredMap k n r c.end_ids.new.labels c.end_ids.new.pool c.self.inside.rules) (sym is)
    (end-stored k n rows c.args.dart c.self.inside.labels c.end_ids.new.labels c.self.inside.pool c.end_ids.new.pool c.self.inside.rules c.self.invariant live alone taken)

pub returns-clause-buried : goal.returns-clause-buried
returns-clause-buried g c =
    let k = g.K.Kind.kind in
    let n : ℕ = g.row.DIM in
    let rows : Rows = c.self.inside.links.rows in
    let is = rw (c.in_ok-vec.ensures.items, c.new.ensures.items, c.none.ensures.rows) at c.apply.ensures.rows in
    let live : IsLive rows c.args.dart = rw (← c.self.view_is) at c.requires.live in
    let alone = rw (← c.self.view_is) at c.requires.alone in
    let taken = rw (c.deref-2.ensures.value, c.in_ok-vec.ensures.items) at c.end_ids.ensures in
    rw (← c.self.view_is)
    (ap (λ (r : Rows). content_of k n r c.end_ids.new.labels c.end_ids.new.pool c.self.inside.rules) is
    ∙ end-content k n rows c.args.dart c.self.inside.labels c.end_ids.new.labels c.self.inside.pool c.end_ids.new.pool c.self.inside.rules c.self.invariant live alone taken)

pub returns-clause-step : goal.returns-clause-step
returns-clause-step g c =
    let k = g.K.Kind.kind in
    let n : ℕ = g.row.DIM in
    let rows : Rows = c.self.inside.links.rows in
    let is = rw (c.in_ok-vec.ensures.items, c.new.ensures.items, c.none.ensures.rows) at c.apply.ensures.rows in
    let live : IsLive rows c.args.dart = rw (← c.self.view_is) at c.requires.live in
    let alone = rw (← c.self.view_is) at c.requires.alone in
    let taken = rw (c.deref-2.ensures.value, c.in_ok-vec.ensures.items) at c.end_ids.ensures in
    let begun : IsBegun c.args.asked (made rows) (death_edit c.args.dart) c.in_ok-draft.draft = rw (c.made-made.ensures.made, c.in_ok-vec.ensures.items, c.new.ensures.items, c.none.ensures.rows) at c.in_ok-draft.ensures in
    let old : IsTrue c.args.asked → AreOldValues (IsRelabelledPlace n (c.args.dart ∷ []) []) c.self.inside.labels c.self.inside.pool c.if-asked.olds.items =
    λ some. (elim c.if-asked.branch [
      | then-asked+in_ok-olds w ↦
          let all = rw (w.deref.ensures.value, c.in_ok-vec.ensures.items) at w.in_ok-olds.ensures in
          rw w.olds-is (all c.self.inside.labels (λ i d. ((λ low. refl), λ high. unlabelled k n rows c.self.inside.labels c.self.inside.pool c.self.inside.rules c.self.invariant i d (omega (arith, c.made-made.ensures.made)))))
      | else-asked w ↦ absurd (false≢true (subst IsTrue w.if-asked.false some))
    ]) in
    let values : List ValueChange = c.new_values-values.result.items in
    rw (← c.self.view_is, c.finish_step.ensures, c.new-2.ensures.items)
    (subst (λ (r : Rows). IsStep c.args.asked (content_of k n rows c.self.inside.labels c.self.inside.pool c.self.inside.rules) (content_of k n r c.end_ids.new.labels c.end_ids.new.pool c.self.inside.rules) (finished c.in_ok-draft.draft values [])) (sym is)
    (end-step k n rows c.args.dart c.self.inside.labels c.end_ids.new.labels c.self.inside.pool c.end_ids.new.pool c.self.inside.rules c.self.invariant live alone taken
    c.args.asked c.in_ok-draft.draft begun c.if-asked.olds.items values old c.new_values-values.ensures))

pub returns-clause-places_stay : goal.returns-clause-places_stay
returns-clause-places_stay g c =
    let k = g.K.Kind.kind in
    let n : ℕ = g.row.DIM in
    let rows : Rows = c.self.inside.links.rows in
    let e : Edit = death_edit c.args.dart in
    let is = rw (c.in_ok-vec.ensures.items, c.new.ensures.items, c.none.ensures.rows) at c.apply.ensures.rows in
    let room = rw (c.in_ok-vec.ensures.items) at c.apply.ensures.room in
    let live : IsLive rows c.args.dart = rw (← c.self.view_is) at c.requires.live in
    let alone = rw (← c.self.view_is) at c.requires.alone in
    let s = c.self.invariant in
    let few : made rows + 0 ≤ made_max = let small = s.sound.few in omega arith in
    let led : IsLed k n e rows c.apply.new.self.rows = record { begun = s.begun; sound = s.sound; fits = death-fits k n rows c.args.dart s.sound live alone; few = few; after = sym is } in
    let sum = places-after k n e rows c.apply.new.self.rows led c.self.inside.links.room c.apply.new.self.room room in
    let more : live_count rows + c.self.inside.links.room ≤ live_count c.apply.new.self.rows + c.apply.new.self.room = omega (arith, sum) in
    rw (← c.self.view_is) more

pub returns-clause-room : goal.returns-clause-room
returns-clause-room g c =
    let k = g.K.Kind.kind in
    let n : ℕ = g.row.DIM in
    let rows : Rows = c.self.inside.links.rows in
    let e : Edit = death_edit c.args.dart in
    let is = rw (c.in_ok-vec.ensures.items, c.new.ensures.items, c.none.ensures.rows) at c.apply.ensures.rows in
    let room = rw (c.in_ok-vec.ensures.items) at c.apply.ensures.room in
    let live : IsLive rows c.args.dart = rw (← c.self.view_is) at c.requires.live in
    let alone = rw (← c.self.view_is) at c.requires.alone in
    let s = c.self.invariant in
    let few : made rows + 0 ≤ made_max = let small = s.sound.few in omega arith in
    let led : IsLed k n e rows c.apply.new.self.rows = record { begun = s.begun; sound = s.sound; fits = death-fits k n rows c.args.dart s.sound live alone; few = few; after = sym is } in
    rw (← c.self.view_is) (room-after k n e rows c.apply.new.self.rows led c.self.inside.links.room c.apply.new.self.room room)
