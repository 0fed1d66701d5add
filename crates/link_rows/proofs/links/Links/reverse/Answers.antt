use Rattle.std.proofs.Common.{◌≡◌, ◌+◌, ◌-◌, ◌≤◌, ◌++◌, ℕ, List, length, take, sym, ap, ◌∙◌, arith, lit<}
use Rattle.std.proofs.lemmas.List.Elements.{All-same}
use Rattle.map_defs.specs.Rows.{Rows}
use Rattle.map_defs.specs.Edits.{Change, Edit, unlinked, revived}
use Rattle.edit_laws.proofs.EditBack.{after-of, before-led, before-steps}
use Rattle.link_rows.specs.BornRows.{rows_changes, led_back}
use Rattle.link_rows.proofs.BornChanges.{All-front, All-behind, unlinked-append}
use Rattle.link_rows.proofs.links.Links.reverse.Goals as goal

pub unbear-requires : goal.unbear-requires
unbear-requires g c =
    let births : c.edit.inside.births ≡ c.args.edit.now.births = ap (λ (e : Edit). e.births) c.edit.view_is in
    let is = after-of _ _ _ c.requires.led.0 _ c.requires.led.1 in
    rw (births, c.self.view_is) (lit< tt, (is.many, is.born))

pub revive-requires : goal.revive-requires
revive-requires g c =
    let births : c.edit.inside.births ≡ c.args.edit.now.births = ap (λ (e : Edit). e.births) c.edit.view_is in
    let deaths : c.deref.result.now ≡ c.args.edit.now.deaths = c.deref.ensures.value ∙ ap (λ (e : Edit). e.deaths) c.edit.view_is in
    let rows : c.unbear.new.rows.rows ≡ take (length c.args.self.now.rows - c.args.edit.now.births) c.args.self.now.rows =
    rw (c.unbear.ensures.rows, births, c.self.view_is) in
    let room : c.unbear.new.rows.room ≡ c.args.self.now.room + c.args.edit.now.births = rw (c.unbear.ensures.room, births, c.self.view_is) in
    let is = after-of _ _ _ c.requires.led.0 _ c.requires.led.1 in
    rw (deaths, rows, room) (lit< tt, (is.dead, (is.made, (c.requires.led.1.fits.ends, omega arith))))

pub free_links-requires : goal.free_links-requires
free_links-requires g c =
    let changes : List Change = c.edit.inside.changes.items in
    let led : List Change = led_back c.edit.inside.born.back c.edit.inside.born.first c.edit.inside.born.rows in
    let told : List Change = led ++ rows_changes c.edit.inside.born.first c.edit.inside.born.rows in
    let all : changes ++ told ≡ c.args.edit.now.changes = ap (λ (e : Edit). e.changes) c.edit.view_is in
    let links = All-same (λ (b : Change). b.link ≤ g.row.DIM) _ _ all c.requires.led.1.fits.links in
    (lit< tt, All-behind (λ (b : Change). b.link ≤ g.row.DIM) changes told links)

pub unlink-requires : goal.unlink-requires
unlink-requires g c =
    let changes : List Change = c.edit.inside.changes.items in
    let led : List Change = led_back c.edit.inside.born.back c.edit.inside.born.first c.edit.inside.born.rows in
    let told : List Change = led ++ rows_changes c.edit.inside.born.first c.edit.inside.born.rows in
    let all : changes ++ told ≡ c.args.edit.now.changes = ap (λ (e : Edit). e.changes) c.edit.view_is in
    let links = All-same (λ (b : Change). b.link ≤ g.row.DIM) _ _ all c.requires.led.1.fits.links in
    rw c.deref-2.ensures.value (lit< tt, All-front (λ (b : Change). b.link ≤ g.row.DIM) changes told links)

pub returns-clause-rows : goal.returns-clause-rows
returns-clause-rows g c =
    let n : ℕ = g.row.DIM in
    let births : c.edit.inside.births ≡ c.args.edit.now.births = ap (λ (e : Edit). e.births) c.edit.view_is in
    let deaths : c.deref.result.now ≡ c.args.edit.now.deaths = c.deref.ensures.value ∙ ap (λ (e : Edit). e.deaths) c.edit.view_is in
    let changes : List Change = c.edit.inside.changes.items in
    let led : List Change = led_back c.edit.inside.born.back c.edit.inside.born.first c.edit.inside.born.rows in
    let told : List Change = led ++ rows_changes c.edit.inside.born.first c.edit.inside.born.rows in
    let all : changes ++ told ≡ c.args.edit.now.changes = ap (λ (e : Edit). e.changes) c.edit.view_is in
    let before : Rows = revived n c.args.edit.now.deaths (take (length c.args.self.now.rows - c.args.edit.now.births) c.args.self.now.rows) in
    rw (
      c.unlink.ensures.rows,
      c.deref-2.ensures.value,
      c.free_links.ensures.rows,
      c.revive.ensures.rows,
      deaths,
      c.unbear.ensures.rows,
      births,
      c.self.view_is,
    )
    (
    sym (unlinked-append changes told before) ∙ ap (λ (cs : List Change). unlinked cs before) all
    ∙ before-steps n c.args.edit.now c.args.self.now.rows
    )

pub returns-clause-back : goal.returns-clause-back
returns-clause-back g c = λ rows led. returns-clause-rows g c ∙ before-led _ _ _ rows _ led

pub invariant_of-self : goal.invariant_of-self
invariant_of-self g c =
    let rows : c.unlink.new.rows.rows ≡ c.requires.led.0 = returns-clause-back g c c.requires.led.0 c.requires.led.1 in
    rw rows (c.self.invariant.0, c.requires.led.1.begun, c.requires.led.1.sound, c.self.invariant.3)
