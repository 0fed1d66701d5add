use Rattle.std.proofs.Common.{◌≡◌, refl, sym, ap, ◌∙◌}
use Rattle.map_defs.specs.Kind.{alpha, beta}
use Rattle.machine_defs.specs.Listing.{Listing}
use Rattle.list_text.specs.Letters.{kind_named}
use Rattle.list_text.proofs.ValuesMeant.{named-beta, lawful-of}
use Rattle.list_text.proofs.counts.listing_counts.Goals as goal

pub row_counts-requires-clause-lawful : goal.row_counts-requires-clause-lawful
row_counts-requires-clause-lawful c =
    let named : kind_named c.listing.inside.letter ≡ alpha = rw c.in-true-eq2.is-0 refl in
    lawful-of c.args.listing.now.kind alpha c.as_slice-rows.result.now c.args.listing.now.rows
    (ap (λ (l : Listing). l.kind) (sym c.listing.view_is) ∙ named) (c.as_slice-rows.ensures.value ∙ ap (λ (l : Listing). l.rows) c.listing.view_is) c.requires.lawful

pub row_counts-requires-in-true-eq3-clause-lawful : goal.row_counts-requires-in-true-eq3-clause-lawful
row_counts-requires-in-true-eq3-clause-lawful c =
    let named : kind_named c.listing.inside.letter ≡ alpha = rw c.in-true-eq3.is-0 refl in
    lawful-of c.args.listing.now.kind alpha c.as_slice-rows.result.now c.args.listing.now.rows
    (ap (λ (l : Listing). l.kind) (sym c.listing.view_is) ∙ named) (c.as_slice-rows.ensures.value ∙ ap (λ (l : Listing). l.rows) c.listing.view_is) c.requires.lawful

pub row_counts-requires-in-true-default-clause-lawful : goal.row_counts-requires-in-true-default-clause-lawful
row_counts-requires-in-true-default-clause-lawful c =
    let named : kind_named c.listing.inside.letter ≡ alpha = rw c.in-true-default.is-0 refl in
    lawful-of c.args.listing.now.kind alpha c.as_slice-rows.result.now c.args.listing.now.rows
    (ap (λ (l : Listing). l.kind) (sym c.listing.view_is) ∙ named) (c.as_slice-rows.ensures.value ∙ ap (λ (l : Listing). l.rows) c.listing.view_is) c.requires.lawful

pub row_counts-requires-in-false-eq2-clause-lawful : goal.row_counts-requires-in-false-eq2-clause-lawful
row_counts-requires-in-false-eq2-clause-lawful c =
    let named = named-beta c.listing.inside.letter c.in-false-eq2.is-0 in
    lawful-of c.args.listing.now.kind beta c.as_slice-rows.result.now c.args.listing.now.rows
    (ap (λ (l : Listing). l.kind) (sym c.listing.view_is) ∙ named) (c.as_slice-rows.ensures.value ∙ ap (λ (l : Listing). l.rows) c.listing.view_is) c.requires.lawful

pub row_counts-requires-in-false-eq3-clause-lawful : goal.row_counts-requires-in-false-eq3-clause-lawful
row_counts-requires-in-false-eq3-clause-lawful c =
    let named = named-beta c.listing.inside.letter c.in-false-eq3.is-0 in
    lawful-of c.args.listing.now.kind beta c.as_slice-rows.result.now c.args.listing.now.rows
    (ap (λ (l : Listing). l.kind) (sym c.listing.view_is) ∙ named) (c.as_slice-rows.ensures.value ∙ ap (λ (l : Listing). l.rows) c.listing.view_is) c.requires.lawful

pub row_counts-requires-in-false-default-clause-lawful : goal.row_counts-requires-in-false-default-clause-lawful
row_counts-requires-in-false-default-clause-lawful c =
    let named = named-beta c.listing.inside.letter c.in-false-default.is-0 in
    lawful-of c.args.listing.now.kind beta c.as_slice-rows.result.now c.args.listing.now.rows
    (ap (λ (l : Listing). l.kind) (sym c.listing.view_is) ∙ named) (c.as_slice-rows.ensures.value ∙ ap (λ (l : Listing). l.rows) c.listing.view_is) c.requires.lawful
