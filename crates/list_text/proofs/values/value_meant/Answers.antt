use Rattle.std.proofs.Common.{◌≡◌, ◌+◌, ◌<◌, length, sym, ap, ◌∙◌}
use Rattle.std.specs.Prelude.{slice_index}
use Rattle.std.proofs.lemmas.Bool.{false≢true}
use Rattle.machine_defs.specs.Listing.{ListValue}
use Rattle.list_text.specs.Letters.{kind_named}
use Rattle.row_laws.specs.Rows.{darts_of}
use Rattle.list_text.proofs.ValuesMeant.{no-row}
use Rattle.row_laws.proofs.RowPlaces.{has-row}
use Rattle.list_text.proofs.values.value_meant.Goals as goal

pub returns-in_err-place-clause-none : goal.returns-in_err-place-clause-none
returns-in_err-place-clause-none c =
    let dart : c.value.inside.dart ≡ c.args.value.dart = ap (λ (v : ListValue). v.dart) c.value.view_is in
    rw c.from_residual.ensures (λ of. no-row c.args.table.now c.args.told.now.rows.items c.args.value.dart c.requires.same (rw dart at c.in_err-place.ensures.none) of.live)

pub returns-then-not-names-clause-none : goal.returns-then-not-names-clause-none
returns-then-not-names-clause-none c =
    let dim : c.value.inside.dim ≡ c.args.value.dim = ap (λ (v : ListValue). v.dim) c.value.view_is in
    let dart : c.value.inside.dart ≡ c.args.value.dart = ap (λ (v : ListValue). v.dart) c.value.view_is in
    let at : slice_index (darts_of c.args.told.now.rows.items) c.in_ok-place.place ≡ c.args.value.dart = rw c.requires.same at (c.in_ok-place.ensures.found ∙ dart) in
    let within : c.in_ok-place.place < length c.args.told.now.rows.items = rw c.requires.same at c.in_ok-place.ensures.within in
    let both = c.names.ensures (kind_named c.args.told.now.header.letter) (c.args.told.now.header.dim + 1) c.args.told.now.rows.items c.requires.cells within in
    λ of. false≢true (sym c.if-not-names.true ∙ both.1 (rw (dim, at) of.least))

pub returns-clause-some : goal.returns-clause-some
returns-clause-some c =
    let dim : c.value.inside.dim ≡ c.args.value.dim = ap (λ (v : ListValue). v.dim) c.value.view_is in
    let dart : c.value.inside.dart ≡ c.args.value.dart = ap (λ (v : ListValue). v.dart) c.value.view_is in
    let at : slice_index (darts_of c.args.told.now.rows.items) c.in_ok-place.place ≡ c.args.value.dart = rw c.requires.same at (c.in_ok-place.ensures.found ∙ dart) in
    let within : c.in_ok-place.place < length c.args.told.now.rows.items = rw c.requires.same at c.in_ok-place.ensures.within in
    let both = c.names.ensures (kind_named c.args.told.now.header.letter) (c.args.told.now.header.dim + 1) c.args.told.now.rows.items c.requires.cells within in
    record {
      within = rw (dim, c.from.ensures) at c.if-value-from.false;
      ruled = rw (c.requires.rules, dim) at (c.has_rule.ensures.0 c.if-not-has_rule.false);
      live = rw at at (has-row c.args.told.now.rows.items c.in_ok-place.place within);
      least = rw (dim, at) at (both.0 c.if-not-names.false);
    }
