use Rattle.std.proofs.Common.{ap, Err}
use Rattle.std.proofs.lemmas.Result.{err_from_is_err_and}
use Rattle.sewing.specs.declared.pairing.PairFault.TheVariants.{Unpaired}
use Rattle.sewing.proofs.Exits.{handed_on}
use Rattle.sewing.proofs.pairing.pair.Goals as goal

pub returns-clause-members : goal.returns-clause-members
returns-clause-members g c = λ x y t.
    let same = c.into_ascending.ensures.members x y t in
    let pairs = c.in_ok-paired.ensures.members x y t in
    (λ has. pairs.0 (same.0 has), λ p. same.1 (pairs.1 p))

pub returns-in_err-paired-clause-unpaired : goal.returns-in_err-paired-clause-unpaired
returns-in_err-paired-clause-unpaired g c = λ is.
    let p = err_from_is_err_and c.from_residual.result c.from_residual.ensures.1 in
    c.in_err-paired.ensures.unpaired (ap Err (handed_on c.from_residual.result c.in_err-paired.field-0.0 Unpaired p is))
