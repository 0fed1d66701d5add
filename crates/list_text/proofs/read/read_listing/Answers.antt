use Rattle.std.proofs.lemmas.Result.{err_from_is_err_and}
use Rattle.list_text.proofs.Judged.{unformed-is}
use Rattle.list_text.proofs.read.read_listing.Goals as goal

pub returns-in_err-told-clause-read : goal.returns-in_err-told-clause-read
returns-in_err-told-clause-read c =
    let p = err_from_is_err_and c.from_residual.result c.from_residual.ensures.1 in
    rw (p.1, p.2) (unformed-is c.args.bytes.now c.in_err-told.field-0.0 c.in_err-told.ensures.told)
