use Rattle.std.proofs.Common.{ℕ, get_or, ap, arith, Err}
use Rattle.std.proofs.lemmas.List.{get_or_default}
use Rattle.std.proofs.lemmas.Result.{err_from_is_err_and}
use Rattle.map_defs.specs.Rows.{links_of}
use Rattle.sewing.specs.declared.pairing.PairFault.TheVariants.{Unpaired}
use Rattle.sewing.proofs.Exits.{handed_on}
use Rattle.sewing.proofs.PairWalks.{visiting-begun, visiting-more, visiting-bad, visited-all}
use Rattle.sewing.proofs.pairing.visit.Goals as goal

pub loop-link-init : goal.loop-link-init
loop-link-init g c = visiting-begun g.K.Kind.kind (links_of c.args.links.now.rows) c.args.set.now c.args.triple c.args.book.now c.requires.twofold

pub returns-in_err-cross_both-clause-unpaired : goal.returns-in_err-cross_both-clause-unpaired
returns-in_err-cross_both-clause-unpaired g c = λ is.
    let p = err_from_is_err_and c.from_residual.result c.from_residual.ensures.1 in
    let j : ℕ = get_or c.args.set.now c.loop-link.link-index 0 in
    let bad = c.in_err-cross_both.ensures.unpaired (ap Err (handed_on c.from_residual.result c.in_err-cross_both.field-0.0 Unpaired p is)) in
    visiting-bad g.K.Kind.kind (links_of c.args.links.now.rows) c.args.set.now c.loop-link.link-index j c.loop-link-test.true (get_or_default c.args.set.now c.loop-link.link-index 0 j c.loop-link-test.true)
    c.args.triple c.args.book.now c.loop-link.book c.loop-link.invariant bad

pub loop-link-preserved : goal.loop-link-preserved
loop-link-preserved g c =
    let j : ℕ = get_or c.args.set.now c.loop-link.link-index 0 in
    visiting-more g.K.Kind.kind (links_of c.args.links.now.rows) c.args.set.now c.loop-link.link-index j c.loop-link-test.true (get_or_default c.args.set.now c.loop-link.link-index 0 j c.loop-link-test.true)
    c.args.triple c.args.book.now c.loop-link.book c.cross_both.new.book c.loop-link.invariant c.in_ok-cross_both.ensures.stepped

pub returns-clause-stepped : goal.returns-clause-stepped
returns-clause-stepped g c =
    visited-all g.K.Kind.kind (links_of c.args.links.now.rows) c.args.set.now c.loop-link.link-index c.args.triple c.args.book.now c.loop-link.book (omega (arith, c.loop-link-test.false)) c.loop-link.invariant
