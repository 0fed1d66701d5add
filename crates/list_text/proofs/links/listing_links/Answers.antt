use Rattle.std.proofs.Common.{◌≡◌, ◌↔◌, ℕ, List, ap, sym, ◌∙◌, subst, lit<, arith}
use Rattle.map_defs.specs.Laws.{Laws}
use Rattle.map_defs.specs.Rows.{Rows, made, links_of, IsLive}
use Rattle.map_defs.specs.Edits.{Change, Fits, after_edit}
use Rattle.machine_defs.specs.ListingFaults.{HasRow}
use Rattle.list_text.proofs.ListedLinks.{deaths_edit, unlisted-fit, listed-made, listed-live, listed-links, listed-lawful}
use Rattle.list_text.proofs.links.listing_links.Goals as goal

pub apply_plain-requires : goal.apply_plain-requires
apply_plain-requires g c =
    let long = c.in_ok-links.ensures.long in
    let few = c.requires.sound.made in
    let fits = unlisted-fit g.K.Kind.kind g.row.DIM c.args.listing.now c.requires.sound c.requires.kind c.requires.dim c.in_ok-links.links.rows c.in_ok-links.ensures
    c.in_ok-unlisted_darts.field-0.items c.in_ok-unlisted_darts.ensures in (
      lit< tt,
      (
        subst (λ (cs : List Change). Fits g.K.Kind.kind g.row.DIM c.in_ok-links.links.rows (record { births = 0; deaths = c.in_ok-unlisted_darts.field-0.items; changes = cs })) (sym c.new.ensures.items) fits,
        (omega arith, (omega arith, omega (arith, long, few))),
      ),
    )

pub returns-clause-made : goal.returns-clause-made
returns-clause-made g c =
    let rows : c.apply_plain.new.self.rows ≡ after_edit g.row.DIM (deaths_edit c.in_ok-unlisted_darts.field-0.items) c.in_ok-links.links.rows = c.apply_plain.ensures.rows
    ∙ ap (λ (cs : List Change). after_edit g.row.DIM (record { births = 0; deaths = c.in_ok-unlisted_darts.field-0.items; changes = cs }) c.in_ok-links.links.rows) c.new.ensures.items in
    ap made rows
    ∙ listed-made g.K.Kind.kind g.row.DIM c.args.listing.now c.requires.sound c.requires.kind c.requires.dim c.in_ok-links.links.rows c.in_ok-links.ensures
    c.in_ok-unlisted_darts.field-0.items c.in_ok-unlisted_darts.ensures

pub returns-clause-live : goal.returns-clause-live
returns-clause-live g c =
    let rows : c.apply_plain.new.self.rows ≡ after_edit g.row.DIM (deaths_edit c.in_ok-unlisted_darts.field-0.items) c.in_ok-links.links.rows = c.apply_plain.ensures.rows
    ∙ ap (λ (cs : List Change). after_edit g.row.DIM (record { births = 0; deaths = c.in_ok-unlisted_darts.field-0.items; changes = cs }) c.in_ok-links.links.rows) c.new.ensures.items in
    subst (λ (R : Rows). (d : ℕ) → IsLive R d ↔ HasRow c.args.listing.now.rows d) (sym rows)
    (listed-live g.K.Kind.kind g.row.DIM c.args.listing.now c.requires.sound c.requires.kind c.requires.dim c.in_ok-links.links.rows c.in_ok-links.ensures
    c.in_ok-unlisted_darts.field-0.items c.in_ok-unlisted_darts.ensures)

pub returns-clause-links : goal.returns-clause-links
returns-clause-links g c = λ i d.
    let rows : c.apply_plain.new.self.rows ≡ after_edit g.row.DIM (deaths_edit c.in_ok-unlisted_darts.field-0.items) c.in_ok-links.links.rows = c.apply_plain.ensures.rows
    ∙ ap (λ (cs : List Change). after_edit g.row.DIM (record { births = 0; deaths = c.in_ok-unlisted_darts.field-0.items; changes = cs }) c.in_ok-links.links.rows) c.new.ensures.items in
    ap (λ (R : Rows). links_of R i d) rows
    ∙ listed-links g.K.Kind.kind g.row.DIM c.args.listing.now c.requires.sound c.requires.kind c.requires.dim c.in_ok-links.links.rows c.in_ok-links.ensures
    c.in_ok-unlisted_darts.field-0.items c.in_ok-unlisted_darts.ensures i d

pub returns-clause-laws : goal.returns-clause-laws
returns-clause-laws g c =
    let rows : c.apply_plain.new.self.rows ≡ after_edit g.row.DIM (deaths_edit c.in_ok-unlisted_darts.field-0.items) c.in_ok-links.links.rows = c.apply_plain.ensures.rows
    ∙ ap (λ (cs : List Change). after_edit g.row.DIM (record { births = 0; deaths = c.in_ok-unlisted_darts.field-0.items; changes = cs }) c.in_ok-links.links.rows) c.new.ensures.items in
    subst (λ (R : Rows). Laws g.K.Kind.kind (links_of R)) (sym rows)
    (listed-lawful g.K.Kind.kind g.row.DIM c.args.listing.now c.requires.sound c.requires.kind c.requires.dim c.in_ok-links.links.rows c.in_ok-links.ensures
    c.in_ok-unlisted_darts.field-0.items c.in_ok-unlisted_darts.ensures)
