use Rattle.std.proofs.Common.{ℕ, ◌≤◌, ◌<◌, ◌∙◌, sym, ap, subst, lit<, arith}
use Rattle.map_defs.specs.Kind.{Kind}
use Rattle.map_defs.specs.Rows.{Rows}
use Rattle.label_laws.specs.Contents.{content_of}
use Rattle.label_laws.specs.Maps.{IsStoredMap}
use Rattle.label_laws.proofs.Same.{content-alike}
use Rattle.valued_map.specs.Ways.{all_along}
use Rattle.valued_map.proofs.Loaded.{roomier-stored}
use Rattle.valued_map.proofs.Reversing.{stock-is}
use Rattle.valued_map.proofs.WayEnd.{edits-led, rows-there, edits-back, rules-low, values-low, there-sound, there-laws, values-fit, groups-fit, ended}
use Rattle.valued_map.proofs.restore.go_along.Goals as goal

pub rules_along-requires-clause-low : goal.rules_along-requires-clause-low
rules_along-requires-clause-low g c = λ s d here there.
    let k : Kind = g.K.Kind.kind in
    let n : ℕ = g.row.DIM in
    let rows : Rows = c.args.links.now.rows in
    let low = rules-low k n rows c.args.labels.now c.args.pool.now c.args.rules.now c.requires.stored c.args.way c.args.steps.now c.requires.steps s d here there in
    omega (arith, low, c.dimension.ensures.dimension)

pub links_along-requires : goal.links_along-requires
links_along-requires g c =
    let k : Kind = g.K.Kind.kind in
    let n : ℕ = g.row.DIM in
    let rows : Rows = c.args.links.now.rows in
    let led = edits-led k n rows c.args.labels.now c.args.pool.now c.args.rules.now c.requires.stored c.args.way c.args.steps.now c.requires.steps _ c.requires.room in
    (lit< tt, ((all_along c.args.way c.args.steps.now (content_of k n rows c.args.labels.now c.args.pool.now c.args.rules.now)).rows, led, c.requires.spare))

pub cells_along-requires : goal.cells_along-requires
cells_along-requires g c =
    let k : Kind = g.K.Kind.kind in
    let n : ℕ = g.row.DIM in
    let rows : Rows = c.args.links.now.rows in
    let there = rows-there k n rows c.args.labels.now c.args.pool.now c.args.rules.now c.requires.stored c.args.way c.args.steps.now c.requires.steps _ c.requires.room c.links_along.new.links.rows c.links_along.ensures.rows in
    let long = rw c.dimension.ensures.dimension at c.in_ok-after.ensures.long in
    let sound = there-sound k n rows c.args.labels.now c.args.pool.now c.args.rules.now c.requires.stored c.args.way c.args.steps.now c.requires.steps c.links_along.new.links.rows there in
    let laws = there-laws k n rows c.args.labels.now c.args.pool.now c.args.rules.now c.requires.stored c.args.way c.args.steps.now c.requires.steps c.links_along.new.links.rows there in
    (lit< tt, (lit< tt, (c.requires.stored.high, (sound, (laws, long)))))

pub take_values-requires : goal.take_values-requires
take_values-requires g c =
    let k : Kind = g.K.Kind.kind in
    let n : ℕ = g.row.DIM in
    let rows : Rows = c.args.links.now.rows in
    let wide = rw (sym c.in-Ok.ensures.made) at c.requires.long in
    let low = values-low k n rows c.args.labels.now c.args.pool.now c.args.rules.now c.requires.stored c.args.way c.args.steps.now c.requires.steps in
    let fit = values-fit k n rows c.args.labels.now c.args.pool.now c.args.rules.now c.requires.stored c.args.way c.args.steps.now c.requires.steps c.cells_along.new.labels.made (sym c.in-Ok.ensures.made) wide in
    (lit< tt, (low, fit))

pub relabel-requires : goal.relabel-requires
relabel-requires g c =
    let k : Kind = g.K.Kind.kind in
    let n : ℕ = g.row.DIM in
    let rows : Rows = c.args.links.now.rows in
    let there = rows-there k n rows c.args.labels.now c.args.pool.now c.args.rules.now c.requires.stored c.args.way c.args.steps.now c.requires.steps _ c.requires.room c.links_along.new.links.rows c.links_along.ensures.rows in
    let long = rw c.dimension.ensures.dimension at c.in_ok-after.ensures.long in
    let on = rw c.dimension.ensures.dimension at c.in_ok-after.ensures.rules in
    let wide = rw (sym c.in-Ok.ensures.made) at c.requires.long in
    let fit = groups-fit k n rows c.args.labels.now c.args.pool.now c.args.rules.now c.requires.stored c.args.way c.args.steps.now c.requires.steps c.in_ok-after.after long on c.cells_along.new.labels c.cells_along.new.pool
    c.in-Ok.ensures.ids c.in-Ok.ensures.slots c.links_along.new.links.rows there c.in-Ok.groups.items c.in-Ok.ensures.cells c.in-Ok.ensures.places wide
    c.take_values.new.labels c.take_values.ensures.made c.take_values.ensures.places in
    rw c.deref.ensures.value (lit< tt, (c.requires.stored.high, (λ d none. absurd (let lt : none.0 < 0 = none.1 in omega arith), (fit, omega (arith, c.in-Ok.ensures.room, c.take_values.ensures.spare)))))

pub returns-in-Ok-clause-stored : goal.returns-in-Ok-clause-stored
returns-in-Ok-clause-stored g c =
    let k : Kind = g.K.Kind.kind in
    let n : ℕ = g.row.DIM in
    let rows : Rows = c.args.links.now.rows in
    let there = rows-there k n rows c.args.labels.now c.args.pool.now c.args.rules.now c.requires.stored c.args.way c.args.steps.now c.requires.steps _ c.requires.room c.links_along.new.links.rows c.links_along.ensures.rows in
    let long = rw c.dimension.ensures.dimension at c.in_ok-after.ensures.long in
    let on = rw c.dimension.ensures.dimension at c.in_ok-after.ensures.rules in
    let wide = rw (sym c.in-Ok.ensures.made) at c.requires.long in
    (ended k n rows c.args.labels.now c.args.pool.now c.args.rules.now c.requires.stored c.args.way c.args.steps.now c.requires.steps c.in_ok-after.after long on c.cells_along.new.labels c.cells_along.new.pool
    c.in-Ok.ensures.ids c.in-Ok.ensures.slots c.links_along.new.links.rows there c.in-Ok.groups.items c.in-Ok.ensures.cells c.in-Ok.ensures.places wide
    c.take_values.new.labels c.take_values.new.pool c.take_values.ensures c.relabel.new.labels c.relabel.new.pool c.deref.result.now c.deref.ensures.value c.relabel.ensures _ c.after.view_is).0

pub returns-in-Ok-clause-gone : goal.returns-in-Ok-clause-gone
returns-in-Ok-clause-gone g c =
    let k : Kind = g.K.Kind.kind in
    let n : ℕ = g.row.DIM in
    let rows : Rows = c.args.links.now.rows in
    let there = rows-there k n rows c.args.labels.now c.args.pool.now c.args.rules.now c.requires.stored c.args.way c.args.steps.now c.requires.steps _ c.requires.room c.links_along.new.links.rows c.links_along.ensures.rows in
    let long = rw c.dimension.ensures.dimension at c.in_ok-after.ensures.long in
    let on = rw c.dimension.ensures.dimension at c.in_ok-after.ensures.rules in
    let wide = rw (sym c.in-Ok.ensures.made) at c.requires.long in
    (ended k n rows c.args.labels.now c.args.pool.now c.args.rules.now c.requires.stored c.args.way c.args.steps.now c.requires.steps c.in_ok-after.after long on c.cells_along.new.labels c.cells_along.new.pool
    c.in-Ok.ensures.ids c.in-Ok.ensures.slots c.links_along.new.links.rows there c.in-Ok.groups.items c.in-Ok.ensures.cells c.in-Ok.ensures.places wide
    c.take_values.new.labels c.take_values.new.pool c.take_values.ensures c.relabel.new.labels c.relabel.new.pool c.deref.result.now c.deref.ensures.value c.relabel.ensures _ c.after.view_is).1

pub links_along-requires-in-Err : goal.links_along-requires-in-Err
links_along-requires-in-Err g c =
    let k : Kind = g.K.Kind.kind in
    let n : ℕ = g.row.DIM in
    let rows : Rows = c.args.links.now.rows in
    let there = rows-there k n rows c.args.labels.now c.args.pool.now c.args.rules.now c.requires.stored c.args.way c.args.steps.now c.requires.steps _ c.requires.room c.links_along.new.links.rows c.links_along.ensures.rows in
    let turned = edits-back k n rows c.args.labels.now c.args.pool.now c.args.rules.now c.requires.stored c.args.way c.args.steps.now c.requires.steps _ c.requires.room c.links_along.new.links.rows there _ c.turned.ensures _ c.links_along.ensures.room in
    (lit< tt, (rows, turned, omega (arith, c.links_along.ensures.spare)))

pub returns-in-Err-clause-stored : goal.returns-in-Err-clause-stored
returns-in-Err-clause-stored g c =
    let k : Kind = g.K.Kind.kind in
    let n : ℕ = g.row.DIM in
    let rows : Rows = c.args.links.now.rows in
    let there = rows-there k n rows c.args.labels.now c.args.pool.now c.args.rules.now c.requires.stored c.args.way c.args.steps.now c.requires.steps _ c.requires.room c.links_along.new.links.rows c.links_along.ensures.rows in
    let turned = edits-back k n rows c.args.labels.now c.args.pool.now c.args.rules.now c.requires.stored c.args.way c.args.steps.now c.requires.steps _ c.requires.room c.links_along.new.links.rows there _ c.turned.ensures _ c.links_along.ensures.room in
    let back = c.links_along-in-Err.ensures.rows rows turned in
    let longer : c.args.labels.now.made ≤ c.cells_along.new.labels.made = omega (arith, c.cells_along.ensures.made) in
    subst (λ (r : Rows). IsStoredMap k n r c.cells_along.new.labels c.cells_along.new.pool c.args.rules.now) (sym back)
    (roomier-stored k n rows c.args.labels.now c.cells_along.new.labels c.args.pool.now c.cells_along.new.pool c.args.rules.now c.requires.stored
    c.cells_along.ensures.ids c.cells_along.ensures.places_stay longer c.cells_along.ensures.slots)

pub returns-in-Err-clause-kept : goal.returns-in-Err-clause-kept
returns-in-Err-clause-kept g c =
    let k : Kind = g.K.Kind.kind in
    let n : ℕ = g.row.DIM in
    let rows : Rows = c.args.links.now.rows in
    let there = rows-there k n rows c.args.labels.now c.args.pool.now c.args.rules.now c.requires.stored c.args.way c.args.steps.now c.requires.steps _ c.requires.room c.links_along.new.links.rows c.links_along.ensures.rows in
    let turned = edits-back k n rows c.args.labels.now c.args.pool.now c.args.rules.now c.requires.stored c.args.way c.args.steps.now c.requires.steps _ c.requires.room c.links_along.new.links.rows there _ c.turned.ensures _ c.links_along.ensures.room in
    let back = c.links_along-in-Err.ensures.rows rows turned in
    ap (λ (r : Rows). content_of k n r c.cells_along.new.labels c.cells_along.new.pool c.args.rules.now) back
    ∙ content-alike k n rows c.args.labels.now c.cells_along.new.labels c.args.pool.now c.cells_along.new.pool c.args.rules.now c.cells_along.ensures.ids c.cells_along.ensures.slots

pub returns-in-Err-clause-err : goal.returns-in-Err-clause-err
returns-in-Err-clause-err g c =
    let k : Kind = g.K.Kind.kind in
    let n : ℕ = g.row.DIM in
    let rows : Rows = c.args.links.now.rows in
    let there = rows-there k n rows c.args.labels.now c.args.pool.now c.args.rules.now c.requires.stored c.args.way c.args.steps.now c.requires.steps _ c.requires.room c.links_along.new.links.rows c.links_along.ensures.rows in
    let turned = edits-back k n rows c.args.labels.now c.args.pool.now c.args.rules.now c.requires.stored c.args.way c.args.steps.now c.requires.steps _ c.requires.room c.links_along.new.links.rows there _ c.turned.ensures _ c.links_along.ensures.room in
    let back = c.links_along-in-Err.ensures.rows rows turned in
    stock-is c.links_along-in-Err.new.links c.args.links.now back (c.links_along-in-Err.ensures.room ∙ c.links_along.ensures.room) (c.links_along-in-Err.ensures.spare ∙ c.links_along.ensures.spare)
