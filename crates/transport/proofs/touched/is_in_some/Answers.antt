use Rattle.std.proofs.Common.{◌∙◌, ap, arith}
use Rattle.std.proofs.lemmas.Bool.{false≢true}
use Rattle.store_defs.specs.Groups.{Group}
use Rattle.transport.proofs.Finding.{lacks_more}
use Rattle.transport.proofs.touched.is_in_some.Goals as goal

pub loop-cell-preserved : goal.loop-cell-preserved
loop-cell-preserved c =
    lacks_more c.args.cells.now c.args.dart c.loop-cell.cell-index c.cell-item.result c.deref.result.now c.contains.result c.loop-cell-test.true c.cell-item.is (c.deref.ensures.value ∙ ap (λ (v : Group). v.darts) c.cell.view_is)
    c.contains.ensures.cases c.if-contains.false c.loop-cell.invariant

pub returns : goal.returns
returns c = (
  λ t. absurd (false≢true t),
  λ has. absurd (c.loop-cell.invariant has.0 (let low = has.1 in let end = c.loop-cell-test.false in omega arith) has.2),
)
