use Rattle.std.proofs.Common.{ap, Err}
use Rattle.std.proofs.lemmas.Result.{err_from_is_err_and}
use Rattle.sewing.specs.declared.pairing.PairFault.TheVariants.{Unpaired}
use Rattle.sewing.proofs.Exits.{handed_on}
use Rattle.sewing.proofs.pairing.grown.Goals as goal

pub returns-in_err-book-clause-unpaired : goal.returns-in_err-book-clause-unpaired
returns-in_err-book-clause-unpaired g c = λ is.
    let p = err_from_is_err_and c.from_residual.result c.from_residual.ensures.1 in
    c.in_err-book.ensures.unpaired (ap Err (handed_on c.from_residual.result c.in_err-book.field-0.0 Unpaired p is))
