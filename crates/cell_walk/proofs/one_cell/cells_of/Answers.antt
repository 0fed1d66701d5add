use Rattle.std.proofs.Common.{◌∷◌, [], ◌++◌, List, ℕ, ap, ◌∙◌}
use Rattle.map_defs.specs.Rows.{links_of}
use Rattle.map_defs.specs.Cells.{InCell}
use Rattle.cell_walk.proofs.ListedCells.{lists-none, lists-on, lists-all}
use Rattle.cell_walk.proofs.one_cell.cells_of.Goals as goal

pub loop-dart-init : goal.loop-dart-init
loop-dart-init g c = rw c.new-cells.ensures (lists-none (InCell g.K.Kind.kind (links_of c.args.links.now.rows) c.args.dim))

pub returns : goal.returns
returns g c =
    lists-all (InCell g.K.Kind.kind (links_of c.args.links.now.rows) c.args.dim) c.args.darts.now c.loop-dart.dart-index _ c.loop-dart-test.false c.loop-dart.invariant

pub loop-dart-preserved : goal.loop-dart-preserved
loop-dart-preserved g c =
    lists-on (InCell g.K.Kind.kind (links_of c.args.links.now.rows) c.args.dim) c.args.darts.now c.loop-dart.dart-index c.dart-item.result
    c.loop-dart.cells c.push.new.self c.in_ok-cell.field-0.items c.loop-dart-test.true c.dart-item.is (c.in_ok-push.ensures.ok ∙ ap (λ (list : List ℕ). c.loop-dart.cells ++ list ∷ []) c.deref.ensures.value)
    (rw c.in_ok-walk.ensures.dim at c.in_ok-cell.ensures.members) c.in_ok-cell.ensures.ascending c.loop-dart.invariant
