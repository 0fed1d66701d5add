use Rattle.std.proofs.Common.{ℕ, ◌≡◌, ◌⊎◌, ◌↔◌, ◌+◌, ◌-◌, ◌<◌, List, length, Contains, inl, inr, ap, subst, ◌∙◌, arith}
use Rattle.map_defs.specs.Rows.{made}
use Rattle.map_defs.specs.Edits.{Edit}
use Rattle.valued_map.specs.Told.{IsRelabelledPlace, IsRevaluedPlace}
use Rattle.valued_map.proofs.Adding.{long}
use Rattle.valued_map.proofs.Joining.{before-made, unlabelled}
use Rattle.valued_map.proofs.GroupedDarts.{renewed-places}
use Rattle.valued_map.proofs.ListedValues.{olds-as}
use Rattle.valued_map.proofs.change.moved.Goals as goal

pub overflow_sub-older : goal.overflow_sub-older
overflow_sub-older g c =
    let old = c.requires.led.0 in
    let led = c.requires.led.1 in
    let births-is : c.edit.inside.births ≡ c.args.edit.now.births = ap (λ (e : Edit). e.births) c.edit.view_is in
    let more : length c.args.links.now.rows ≡ length old + c.args.edit.now.births = long g.K.Kind.kind g.row.DIM c.args.edit.now old c.args.links.now.rows led in
    omega (arith, c.made.ensures.made, more, led.begun, births-is)

pub returns-clause-olds : goal.returns-clause-olds
returns-clause-olds g c = λ some old led stored.
    let k = g.K.Kind.kind in
    let n : ℕ = g.row.DIM in
    let e : Edit = c.args.edit.now in
    let births-is : c.edit.inside.births ≡ e.births = ap (λ (x : Edit). x.births) c.edit.view_is in
    let older : ℕ = c.made.result - c.edit.inside.births in
    let older-is : older ≡ made old = (omega (arith, c.made.ensures.made, births-is)) ∙ before-made k n e old c.args.links.now.rows led in
    let renewed : List ℕ = c.in_ok-renewed.renewed.items in
    let members = subst (λ (o : ℕ). (d : ℕ) → Contains renewed d ↔ (Contains e.deaths d ⊎ ((o < d) × (d < o + e.births + 1)))) older-is c.in_ok-renewed.ensures in
    let all = rw (c.deref.ensures.value, c.deref-2.ensures.value) at c.in_ok-olds.ensures in
    let grafted = c.carried.ensures.grafted old led in
    olds-as (IsRelabelledPlace n renewed c.in_ok-groups.groups.items) (IsRevaluedPlace n (made old) e c.in_ok-groups.groups.items) c.args.labels.now c.carried.new.pool c.in_ok-olds.olds.items
    (renewed-places n (made old) e renewed c.in_ok-groups.groups.items members)
    (all c.args.labels.now (λ i d. (
      (λ low. (elim (grafted.each i d) [ inl same ↦ same | inr given ↦ absurd (let high : made old < d = given.1 in omega (arith, older-is)) ])),
      λ high. unlabelled k n old c.args.labels.now c.args.pool.now c.args.rules.now stored i d (subst (λ (o : ℕ). o < d) older-is high),
    )))
