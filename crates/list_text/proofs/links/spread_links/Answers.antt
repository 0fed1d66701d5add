use Rattle.std.proofs.Common.{◌≡◌, ap, ◌∙◌, lit<}
use Rattle.std.proofs.lemmas.List.{take_all}
use Rattle.machine_defs.specs.Listing.{ListRow, Listing}
use Rattle.list_text.specs.Spread.{AreSpread}
use Rattle.list_text.proofs.SpreadRows.{spread-none}
use Rattle.list_text.proofs.ListedLinks.{row-fits, row-more, spread-sound}
use Rattle.list_text.proofs.links.spread_links.Goals as goal

pub loop-row-init : goal.loop-row-init
loop-row-init g c =
    let made : c.listing.inside.made ≡ c.args.listing.now.made = ap (λ (l : Listing). l.made) c.listing.view_is in
    rw (c.in-Ok.ensures.rows, made) (spread-none g.row.DIM c.args.listing.now.made)

pub set_row-requires : goal.set_row-requires
set_row-requires g c =
    let is : c.as_slice-rows.result.now ≡ c.args.listing.now.rows = c.as_slice-rows.ensures.value ∙ ap (λ (l : Listing). l.rows) c.listing.view_is in
    let links : c.as_slice.result.now ≡ c.row-item.result.links = c.as_slice.ensures.value ∙ ap (λ (r : ListRow). r.links) c.row.view_is in
    let dart : c.row.inside.dart ≡ c.row-item.result.dart = ap (λ (r : ListRow). r.dart) c.row.view_is in
    let fits = row-fits g.row.DIM c.args.listing.now c.requires.sound c.requires.dim c.loop-row.row-index c.row-item.result c.loop-row.builder.rows
    (rw is at c.loop-row-test.true) (rw is at c.row-item.is) (rw is at c.loop-row.invariant) in
    rw (links, dart) (lit< tt, (fits.0, (fits.1, fits.2)))

pub loop-row-preserved : goal.loop-row-preserved
loop-row-preserved g c =
    let is : c.as_slice-rows.result.now ≡ c.args.listing.now.rows = c.as_slice-rows.ensures.value ∙ ap (λ (l : Listing). l.rows) c.listing.view_is in
    let links : c.as_slice.result.now ≡ c.row-item.result.links = c.as_slice.ensures.value ∙ ap (λ (r : ListRow). r.links) c.row.view_is in
    let dart : c.row.inside.dart ≡ c.row-item.result.dart = ap (λ (r : ListRow). r.dart) c.row.view_is in
    rw (c.set_row.ensures, is, links, dart)
    (row-more g.row.DIM c.args.listing.now c.requires.sound c.requires.dim c.loop-row.row-index c.row-item.result c.loop-row.builder.rows
    (rw is at c.loop-row-test.true) (rw is at c.row-item.is) (rw is at c.loop-row.invariant))

pub finish-requires : goal.finish-requires
finish-requires g c =
    let is : c.as_slice-rows.result.now ≡ c.args.listing.now.rows = c.as_slice-rows.ensures.value ∙ ap (λ (l : Listing). l.rows) c.listing.view_is in
    let spread : AreSpread g.row.DIM c.args.listing.now.made c.args.listing.now.rows c.loop-row.builder.rows =
    rw (take_all c.loop-row.row-index c.as_slice-rows.result.now c.loop-row-test.false, is) at c.loop-row.invariant in
    (lit< tt, (lit< tt, spread-sound g.K.Kind.kind g.row.DIM c.args.listing.now c.requires.sound c.requires.kind c.requires.dim c.loop-row.builder.rows spread))
