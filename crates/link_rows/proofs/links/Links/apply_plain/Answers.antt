use Rattle.std.proofs.Common.{◌≡◌, ◌<◌, length, ap, ◌∙◌, arith, lit<}
use Rattle.map_defs.specs.Edits.{Edit, with_births, with_changes, after_edit}
use Rattle.edit_laws.proofs.EditSound.{after-sound, length-after, living-changes}
use Rattle.link_rows.proofs.links.Links.apply_plain.Goals as goal

pub link-requires : goal.link-requires
link-requires g c =
    let births : c.edit.inside.births ≡ c.args.edit.now.births = ap (λ (e : Edit). e.births) c.edit.view_is in
    let changes : c.deref.result.now ≡ c.args.edit.now.changes = c.deref.ensures.value ∙ ap (λ (e : Edit). e.changes) c.edit.view_is in
    let rows : c.bear.new.rows.rows ≡ with_births g.row.DIM c.args.edit.now.births c.args.self.now.rows =
    rw (c.bear.ensures.rows, births, c.self.view_is) in
    rw (changes, rows) (lit< tt, (c.requires.fits.links, c.requires.fits.darts))

pub bury-requires : goal.bury-requires
bury-requires g c =
    let births : c.edit.inside.births ≡ c.args.edit.now.births = ap (λ (e : Edit). e.births) c.edit.view_is in
    let changes : c.deref.result.now ≡ c.args.edit.now.changes = c.deref.ensures.value ∙ ap (λ (e : Edit). e.changes) c.edit.view_is in
    let deaths : c.deref-2.result.now ≡ c.args.edit.now.deaths = c.deref-2.ensures.value ∙ ap (λ (e : Edit). e.deaths) c.edit.view_is in
    let rows : c.link.new.rows.rows ≡ with_changes g.row.DIM c.args.edit.now c.args.self.now.rows =
    rw (c.link.ensures.rows, changes, c.bear.ensures.rows, births, c.self.view_is) in
    (lit< tt, (rw (deaths, rows) (living-changes _ _ _ _ c.requires.fits), rw deaths c.requires.fits.ends))

pub invariant_of-self : goal.invariant_of-self
invariant_of-self g c =
    let births : c.edit.inside.births ≡ c.args.edit.now.births = ap (λ (e : Edit). e.births) c.edit.view_is in
    let changes : c.deref.result.now ≡ c.args.edit.now.changes = c.deref.ensures.value ∙ ap (λ (e : Edit). e.changes) c.edit.view_is in
    let deaths : c.deref-2.result.now ≡ c.args.edit.now.deaths = c.deref-2.ensures.value ∙ ap (λ (e : Edit). e.deaths) c.edit.view_is in
    let rows : c.bury.new.rows.rows ≡ after_edit g.row.DIM c.args.edit.now c.args.self.now.rows =
    rw (c.bury.ensures.rows, deaths, c.link.ensures.rows, changes, c.bear.ensures.rows, births, c.self.view_is) in
    let begun : 0 < length c.args.self.now.rows = rw c.self.view_is at c.self.invariant.1 in
    let sound = rw c.self.view_is at c.self.invariant.2 in
    rw rows (
      c.self.invariant.0,
      omega (arith, length-after g.row.DIM c.args.edit.now c.args.self.now.rows),
      after-sound _ _ _ _ begun sound c.requires.fits c.requires.few,
      c.self.invariant.3,
    )
