use Rattle.std.proofs.Common.{◌≡◌, ◌+◌, ◌-◌, length, take, ap, ◌∙◌, arith, lit<}
use Rattle.map_defs.specs.Edits.{Edit}
use Rattle.edit_laws.proofs.EditBack.{after-of, before-led, before-steps}
use Rattle.link_rows.proofs.links.Links.reverse_plain.Goals as goal

pub unbear-requires : goal.unbear-requires
unbear-requires g c =
    let births : c.edit.inside.births ≡ c.args.edit.now.births = ap (λ (e : Edit). e.births) c.edit.view_is in
    let is = after-of _ _ _ c.requires.led.0 _ c.requires.led.1 in
    rw (births, c.self.view_is) (lit< tt, (is.many, is.born))

pub revive-requires : goal.revive-requires
revive-requires g c =
    let births : c.edit.inside.births ≡ c.args.edit.now.births = ap (λ (e : Edit). e.births) c.edit.view_is in
    let deaths : c.deref.result.now ≡ c.args.edit.now.deaths = c.deref.ensures.value ∙ ap (λ (e : Edit). e.deaths) c.edit.view_is in
    let rows : c.unbear.new.rows.rows ≡ take (length c.args.self.now.rows - c.args.edit.now.births) c.args.self.now.rows =
    rw (c.unbear.ensures.rows, births, c.self.view_is) in
    let room : c.unbear.new.rows.room ≡ c.args.self.now.room + c.args.edit.now.births = rw (c.unbear.ensures.room, births, c.self.view_is) in
    let is = after-of _ _ _ c.requires.led.0 _ c.requires.led.1 in
    rw (deaths, rows, room) (lit< tt, (is.dead, (is.made, (c.requires.led.1.fits.ends, omega arith))))

pub returns-clause-rows : goal.returns-clause-rows
returns-clause-rows g c =
    let births : c.edit.inside.births ≡ c.args.edit.now.births = ap (λ (e : Edit). e.births) c.edit.view_is in
    let deaths : c.deref.result.now ≡ c.args.edit.now.deaths = c.deref.ensures.value ∙ ap (λ (e : Edit). e.deaths) c.edit.view_is in
    let changes : c.deref-2.result.now ≡ c.args.edit.now.changes = c.deref-2.ensures.value ∙ ap (λ (e : Edit). e.changes) c.edit.view_is in
    rw (c.unlink.ensures.rows, changes, c.revive.ensures.rows, deaths, c.unbear.ensures.rows, births, c.self.view_is)
    (before-steps g.row.DIM c.args.edit.now c.args.self.now.rows)

pub returns-clause-back : goal.returns-clause-back
returns-clause-back g c = λ rows led. returns-clause-rows g c ∙ before-led _ _ _ rows _ led

pub invariant_of-self : goal.invariant_of-self
invariant_of-self g c =
    let rows : c.unlink.new.rows.rows ≡ c.requires.led.0 = returns-clause-back g c c.requires.led.0 c.requires.led.1 in
    rw rows (c.self.invariant.0, c.requires.led.1.begun, c.requires.led.1.sound, c.self.invariant.3)
