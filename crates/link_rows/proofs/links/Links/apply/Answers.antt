use Rattle.std.proofs.Common.{◌≡◌, ◌<◌, ◌≤◌, ◌+◌, ◌++◌, ℕ, List, length, get_or, replicate, Some, sym, ap, subst, ◌∙◌, arith, lit<, append_assoc, length-append}
use Rattle.std.specs.List.{AllPairs}
use Rattle.std.proofs.lemmas.List.{length-replicate}
use Rattle.std.proofs.lemmas.List.Elements.{All-same}
use Rattle.map_defs.specs.Rows.{Rows, IsLive}
use Rattle.map_defs.specs.Edits.{Change, Edit, free_row, with_births, linked, with_changes, after_edit}
use Rattle.edit_laws.proofs.EditSound.{after-sound, length-after, living-changes}
use Rattle.edit_laws.proofs.EditSteps.{linked-append, linked-live}
use Rattle.edit_laws.proofs.RowWrites.{births-new}
use Rattle.link_rows.specs.BornRows.{rows_changes, led_back}
use Rattle.link_rows.proofs.BornChanges.{All-front, All-behind}
use Rattle.link_rows.proofs.LinkOrder.{AreApart, in-either-order}
use Rattle.link_rows.proofs.links.Links.apply.Goals as goal

-- The links of the new darts may be put first.
rows-first : (changes led rows : List Change) (born : Rows) → AllPairs AreApart (changes ++ (led ++ rows))
    → linked led (linked changes (linked rows born)) ≡ linked (changes ++ (led ++ rows)) born
rows-first changes led rows born once =
    let others : List Change = changes ++ led in
    let together : others ++ rows ≡ changes ++ (led ++ rows) = append_assoc changes led rows in
    sym (linked-append changes led (linked rows born))
    ∙ sym (linked-append rows others born)
    ∙ sym (in-either-order others rows born (subst (AllPairs AreApart) (sym together) once))
    ∙ ap (λ (cs : List Change). linked cs born) together

pub put_rows-requires : goal.put_rows-requires
put_rows-requires g c =
    let n : ℕ = g.row.DIM in
    let births : c.edit.inside.births ≡ c.args.edit.now.births = ap (λ (e : Edit). e.births) c.edit.view_is in
    let changes : List Change = c.edit.inside.changes.items in
    let led : List Change = led_back c.edit.inside.born.back c.edit.inside.born.first c.edit.inside.born.rows in
    let rows : List Change = rows_changes c.edit.inside.born.first c.edit.inside.born.rows in
    let all : changes ++ (led ++ rows) ≡ c.args.edit.now.changes = ap (λ (e : Edit). e.changes) c.edit.view_is in
    let links = All-same (λ (b : Change). b.link ≤ n) _ _ all c.requires.fits.links in
    let begun : 0 < length c.args.self.now.rows = rw c.self.view_is at c.self.invariant.1 in
    let long : length (with_births n c.args.edit.now.births c.args.self.now.rows) ≡ length c.args.self.now.rows + c.args.edit.now.births =
    length-append c.args.self.now.rows (replicate c.args.edit.now.births (Some (free_row n)))
    ∙ ap (λ (m : ℕ). length c.args.self.now.rows + m) (length-replicate c.args.edit.now.births (Some (free_row n))) in
    rw (c.bear.ensures.rows, births, c.self.view_is) (
      lit< tt,
      (
        All-behind (λ (b : Change). b.link ≤ n) led rows (All-behind (λ (b : Change). b.link ≤ n) changes (led ++ rows) links),
        (λ d low high. births-new n c.args.edit.now.births c.args.self.now.rows d (omega (arith, low, long, begun)) (omega (arith, high, long, begun)), c.self.invariant.0),
      ),
    )

pub link-requires : goal.link-requires
link-requires g c =
    let n : ℕ = g.row.DIM in
    let births : c.edit.inside.births ≡ c.args.edit.now.births = ap (λ (e : Edit). e.births) c.edit.view_is in
    let changes : List Change = c.edit.inside.changes.items in
    let led : List Change = led_back c.edit.inside.born.back c.edit.inside.born.first c.edit.inside.born.rows in
    let rows : List Change = rows_changes c.edit.inside.born.first c.edit.inside.born.rows in
    let all : changes ++ (led ++ rows) ≡ c.args.edit.now.changes = ap (λ (e : Edit). e.changes) c.edit.view_is in
    let born : Rows = with_births n c.args.edit.now.births c.args.self.now.rows in
    let put : c.put_rows.new.rows.rows ≡ linked rows born = rw (c.put_rows.ensures.rows, c.bear.ensures.rows, births, c.self.view_is) in
    let links =
    All-front (λ (b : Change). b.link ≤ n) changes (led ++ rows) (All-same (λ (b : Change). b.link ≤ n) _ _ all c.requires.fits.links) in
    let darts =
    All-front (λ (b : Change). IsLive born b.dart) changes (led ++ rows)
    (All-same (λ (b : Change). IsLive born b.dart) _ _ all c.requires.fits.darts) in
    rw (c.deref.ensures.value, put) (lit< tt, (links, λ p b h. linked-live rows born (get_or changes p b).dart ∙ darts p b h))

pub put_back_links-requires : goal.put_back_links-requires
put_back_links-requires g c =
    let n : ℕ = g.row.DIM in
    let births : c.edit.inside.births ≡ c.args.edit.now.births = ap (λ (e : Edit). e.births) c.edit.view_is in
    let changes : List Change = c.edit.inside.changes.items in
    let led : List Change = led_back c.edit.inside.born.back c.edit.inside.born.first c.edit.inside.born.rows in
    let rows : List Change = rows_changes c.edit.inside.born.first c.edit.inside.born.rows in
    let all : changes ++ (led ++ rows) ≡ c.args.edit.now.changes = ap (λ (e : Edit). e.changes) c.edit.view_is in
    let born : Rows = with_births n c.args.edit.now.births c.args.self.now.rows in
    let put : c.link.new.rows.rows ≡ linked changes (linked rows born) =
    rw (c.link.ensures.rows, c.deref.ensures.value, c.put_rows.ensures.rows, c.bear.ensures.rows, births, c.self.view_is) in
    let links =
    All-front (λ (b : Change). b.link ≤ n) led rows
    (All-behind (λ (b : Change). b.link ≤ n) changes (led ++ rows) (All-same (λ (b : Change). b.link ≤ n) _ _ all c.requires.fits.links)) in
    let darts =
    All-front (λ (b : Change). IsLive born b.dart) led rows
    (All-behind (λ (b : Change). IsLive born b.dart) changes (led ++ rows)
    (All-same (λ (b : Change). IsLive born b.dart) _ _ all c.requires.fits.darts)) in
    rw put (
      lit< tt,
      (
        links,
        λ p b h.
            linked-live changes (linked rows born) (get_or led p b).dart ∙ linked-live rows born (get_or led p b).dart ∙ darts p b h,
      ),
    )

pub bury-requires : goal.bury-requires
bury-requires g c =
    let n : ℕ = g.row.DIM in
    let births : c.edit.inside.births ≡ c.args.edit.now.births = ap (λ (e : Edit). e.births) c.edit.view_is in
    let changes : List Change = c.edit.inside.changes.items in
    let led : List Change = led_back c.edit.inside.born.back c.edit.inside.born.first c.edit.inside.born.rows in
    let rows : List Change = rows_changes c.edit.inside.born.first c.edit.inside.born.rows in
    let all : changes ++ (led ++ rows) ≡ c.args.edit.now.changes = ap (λ (e : Edit). e.changes) c.edit.view_is in
    let once = subst (AllPairs AreApart) (sym all) c.requires.fits.once in
    let deaths : c.deref-2.result.now ≡ c.args.edit.now.deaths = c.deref-2.ensures.value ∙ ap (λ (e : Edit). e.deaths) c.edit.view_is in
    let born : Rows = with_births n c.args.edit.now.births c.args.self.now.rows in
    let changed : c.put_back_links.new.rows.rows ≡ with_changes n c.args.edit.now c.args.self.now.rows =
    rw (c.put_back_links.ensures.rows, c.link.ensures.rows, c.deref.ensures.value, c.put_rows.ensures.rows, c.bear.ensures.rows, births, c.self.view_is)
    (rows-first changes led rows born once ∙ ap (λ (cs : List Change). linked cs born) all) in
    (lit< tt, (rw (deaths, changed) (living-changes _ _ _ _ c.requires.fits), rw deaths c.requires.fits.ends))

pub invariant_of-self : goal.invariant_of-self
invariant_of-self g c =
    let n : ℕ = g.row.DIM in
    let births : c.edit.inside.births ≡ c.args.edit.now.births = ap (λ (e : Edit). e.births) c.edit.view_is in
    let changes : List Change = c.edit.inside.changes.items in
    let led : List Change = led_back c.edit.inside.born.back c.edit.inside.born.first c.edit.inside.born.rows in
    let rows : List Change = rows_changes c.edit.inside.born.first c.edit.inside.born.rows in
    let all : changes ++ (led ++ rows) ≡ c.args.edit.now.changes = ap (λ (e : Edit). e.changes) c.edit.view_is in
    let once = subst (AllPairs AreApart) (sym all) c.requires.fits.once in
    let deaths : c.deref-2.result.now ≡ c.args.edit.now.deaths = c.deref-2.ensures.value ∙ ap (λ (e : Edit). e.deaths) c.edit.view_is in
    let born : Rows = with_births n c.args.edit.now.births c.args.self.now.rows in
    let changed : c.put_back_links.new.rows.rows ≡ with_changes n c.args.edit.now c.args.self.now.rows =
    rw (c.put_back_links.ensures.rows, c.link.ensures.rows, c.deref.ensures.value, c.put_rows.ensures.rows, c.bear.ensures.rows, births, c.self.view_is)
    (rows-first changes led rows born once ∙ ap (λ (cs : List Change). linked cs born) all) in
    let after : c.bury.new.rows.rows ≡ after_edit n c.args.edit.now c.args.self.now.rows = rw (c.bury.ensures.rows, deaths, changed) in
    let begun : 0 < length c.args.self.now.rows = rw c.self.view_is at c.self.invariant.1 in
    let sound = rw c.self.view_is at c.self.invariant.2 in
    rw after (
      c.self.invariant.0,
      omega (arith, length-after n c.args.edit.now c.args.self.now.rows),
      after-sound _ _ _ _ begun sound c.requires.fits c.requires.few,
      c.self.invariant.3,
    )

pub returns-clause-rows : goal.returns-clause-rows
returns-clause-rows g c =
    let n : ℕ = g.row.DIM in
    let births : c.edit.inside.births ≡ c.args.edit.now.births = ap (λ (e : Edit). e.births) c.edit.view_is in
    let changes : List Change = c.edit.inside.changes.items in
    let led : List Change = led_back c.edit.inside.born.back c.edit.inside.born.first c.edit.inside.born.rows in
    let rows : List Change = rows_changes c.edit.inside.born.first c.edit.inside.born.rows in
    let all : changes ++ (led ++ rows) ≡ c.args.edit.now.changes = ap (λ (e : Edit). e.changes) c.edit.view_is in
    let once = subst (AllPairs AreApart) (sym all) c.requires.fits.once in
    let deaths : c.deref-2.result.now ≡ c.args.edit.now.deaths = c.deref-2.ensures.value ∙ ap (λ (e : Edit). e.deaths) c.edit.view_is in
    let born : Rows = with_births n c.args.edit.now.births c.args.self.now.rows in
    let changed : c.put_back_links.new.rows.rows ≡ with_changes n c.args.edit.now c.args.self.now.rows =
    rw (c.put_back_links.ensures.rows, c.link.ensures.rows, c.deref.ensures.value, c.put_rows.ensures.rows, c.bear.ensures.rows, births, c.self.view_is)
    (rows-first changes led rows born once ∙ ap (λ (cs : List Change). linked cs born) all) in
    rw (c.bury.ensures.rows, deaths, changed)
