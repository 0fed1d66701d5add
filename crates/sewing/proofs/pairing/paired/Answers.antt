use Rattle.std.proofs.Common.{Contains, ap, arith, Err, lit<}
use Rattle.std.proofs.lemmas.Option.{get_or_from_slice_get}
use Rattle.std.proofs.lemmas.Result.{err_from_is_err_and}
use Rattle.map_defs.specs.Rows.{links_of}
use Rattle.sewing.specs.Triples.{Lists}
use Rattle.sewing.specs.declared.pairing.PairFault.TheVariants.{Unpaired}
use Rattle.sewing.proofs.Exits.{handed_on}
use Rattle.sewing.proofs.PairWalks.{walked-begun, walked-more, walked-pairs, walked-good, walked-bad, listed-bad}
use Rattle.sewing.proofs.pairing.paired.Goals as goal

pub returns-in_err-book-clause-unpaired : goal.returns-in_err-book-clause-unpaired
returns-in_err-book-clause-unpaired g c = λ is.
    let p = err_from_is_err_and c.from_residual.result c.from_residual.ensures.1 in
    listed-bad g.K.Kind.kind (links_of c.args.links.now.rows) (Contains c.args.set.now) c.args.seeds.now (c.in_err-book.ensures.unpaired (ap Err (handed_on c.from_residual.result c.in_err-book.field-0.0 Unpaired p is)))

pub loop-next-init : goal.loop-next-init
loop-next-init g c =
    walked-begun g.K.Kind.kind (links_of c.args.links.now.rows) (Contains c.args.set.now) c.args.seeds.now c.in_ok-book.book c.in_ok-book.ensures.listed

pub visit-requires : goal.visit-requires
visit-requires g c =
    (lit< tt, (c.requires, ((c.loop-next.next, omega (arith, c.len.ensures.length), get_or_from_slice_get c.loop-next.book c.loop-next.next c.at.result c.at.result c.at.ensures), c.loop-next.invariant.twofold)))

pub returns-in_err-visit-clause-unpaired : goal.returns-in_err-visit-clause-unpaired
returns-in_err-visit-clause-unpaired g c = λ is.
    let p = err_from_is_err_and c.from_residual-in_err-visit.result c.from_residual-in_err-visit.ensures.1 in
    walked-bad g.K.Kind.kind (links_of c.args.links.now.rows) (Contains c.args.set.now) (Lists c.args.seeds.now) c.loop-next.next c.loop-next.book c.loop-next.invariant (c.in_err-visit.ensures.unpaired (ap Err (handed_on c.from_residual-in_err-visit.result c.in_err-visit.field-0.0 Unpaired p is)))

pub loop-next-preserved : goal.loop-next-preserved
loop-next-preserved g c =
    walked-more g.K.Kind.kind (links_of c.args.links.now.rows) (Contains c.args.set.now) (Lists c.args.seeds.now) c.loop-next.next c.at.result c.loop-next.book c.visit.new.book
    (omega (arith, c.len.ensures.length)) (get_or_from_slice_get c.loop-next.book c.loop-next.next c.at.result c.at.result c.at.ensures) c.loop-next.invariant c.in_ok-visit.ensures.stepped

pub returns-clause-members : goal.returns-clause-members
returns-clause-members g c = walked-pairs g.K.Kind.kind (links_of c.args.links.now.rows) (Contains c.args.set.now) (Lists c.args.seeds.now) c.loop-next.next c.loop-next.book (omega (arith, c.len.ensures.length)) c.loop-next.invariant

pub returns-clause-good : goal.returns-clause-good
returns-clause-good g c =
    walked-good g.K.Kind.kind (links_of c.args.links.now.rows) (Contains c.args.set.now) (Lists c.args.seeds.now) c.loop-next.next c.loop-next.book (omega (arith, c.len.ensures.length)) c.loop-next.invariant
    c.len.ensures.one
