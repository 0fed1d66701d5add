use Rattle.std.proofs.Common.{ap, Ok}
use Rattle.std.proofs.lemmas.Result.{err_from_is_err_and}
use Rattle.machine_defs.specs.Listing.{Listing}
use Rattle.machine_defs.specs.ListingFaults.{read}
use Rattle.list_text.specs.Views.{told_view}
use Rattle.list_text.proofs.Judged.{unlawful-is, unruled-is, unvalued-is}
use Rattle.list_text.proofs.read.listing_of.Goals as goal

pub returns-in_err-check_laws-clause-read : goal.returns-in_err-check_laws-clause-read
returns-in_err-check_laws-clause-read c = λ bytes told.
    let p = err_from_is_err_and c.from_residual-in_err-check_laws.result c.from_residual-in_err-check_laws.ensures.1 in
    rw (p.1, p.2) (unlawful-is bytes (told_view c.args.told) c.in_err-check_laws.field-0.0 told c.in_err-check_laws.ensures.fault)

pub returns-in_err-check_rules-clause-read : goal.returns-in_err-check_rules-clause-read
returns-in_err-check_rules-clause-read c = λ bytes told.
    let p = err_from_is_err_and c.from_residual-in_err-check_rules.result c.from_residual-in_err-check_rules.ensures.1 in
    rw (p.1, p.2) (unruled-is bytes (told_view c.args.told) c.in_err-check_rules.field-0.0 told c.in_ok-check_laws.ensures.ok c.in_err-check_rules.ensures.fault)

pub returns-in_err-values-clause-read : goal.returns-in_err-values-clause-read
returns-in_err-values-clause-read c = λ bytes told.
    let p = err_from_is_err_and c.from_residual-in_err-values.result c.from_residual-in_err-values.ensures.1 in
    rw (p.1, p.2) (unvalued-is bytes (told_view c.args.told) c.in_err-values.field-0.0 told c.in_ok-check_laws.ensures.ok c.in_ok-check_rules.ensures.ok c.in_err-values.ensures.fault)

pub returns-clause-read : goal.returns-clause-read
returns-clause-read c = λ bytes told.
    read (told_view c.args.told) told c.in_ok-check_laws.ensures.ok c.in_ok-check_rules.ensures.ok c.in_ok-values.ensures.each (ap (λ (l : Listing). Ok l) c.listing_with.ensures)
