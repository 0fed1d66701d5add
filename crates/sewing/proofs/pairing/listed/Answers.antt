use Rattle.std.proofs.Common.{◌≡◌, take, ap, arith, Err}
use Rattle.std.proofs.lemmas.List.{take_all}
use Rattle.std.proofs.lemmas.Result.{err_from_is_err_and}
use Rattle.sewing.specs.declared.pairing.PairFault.TheVariants.{Unpaired}
use Rattle.sewing.proofs.Exits.{handed_on}
use Rattle.sewing.proofs.PairWalks.{listed-none, listed-more, listed-fails}
use Rattle.sewing.proofs.pairing.listed.Goals as goal

pub loop-triple-init : goal.loop-triple-init
loop-triple-init g c = rw c.in_ok-book.ensures (listed-none g.K.Kind.kind)

pub returns-in_err-add-clause-unpaired : goal.returns-in_err-add-clause-unpaired
returns-in_err-add-clause-unpaired g c = λ is.
    let p = err_from_is_err_and c.from_residual-in_err-add.result c.from_residual-in_err-add.ensures.1 in
    listed-fails g.K.Kind.kind c.args.triples.now c.loop-triple.triple-index c.triple-item.result c.loop-triple-test.true c.triple-item.is c.loop-triple.book c.loop-triple.invariant
    (c.in_err-add.ensures.unpaired (ap Err (handed_on c.from_residual-in_err-add.result c.in_err-add.field-0.0 Unpaired p is)))

pub loop-triple-preserved : goal.loop-triple-preserved
loop-triple-preserved g c =
    listed-more g.K.Kind.kind c.args.triples.now c.loop-triple.triple-index c.triple-item.result c.loop-triple-test.true c.triple-item.is c.loop-triple.book c.add.new.self c.loop-triple.invariant c.in_ok-add.ensures.added

pub returns-clause-listed : goal.returns-clause-listed
returns-clause-listed g c =
    let all : take c.loop-triple.triple-index c.args.triples.now ≡ c.args.triples.now = take_all c.loop-triple.triple-index c.args.triples.now (omega arith) in
    rw all at c.loop-triple.invariant
