use Rattle.std.proofs.lemmas.Result.{err_from_is_err_and}
use Rattle.map_run.proofs.AuditFacts.{refused-answer}
use Rattle.map_run.proofs.audit.read_counted.Goals as goal

pub returns-in_err-listing : goal.returns-in_err-listing
returns-in_err-listing c =
    let p = err_from_is_err_and c.from_residual.result c.from_residual.ensures.1 in
    rw (p.1, p.2) (refused-answer c.args.bytes.now c.in_err-listing.field-0.0 c.in_err-listing.ensures.read)
