use Rattle.std.proofs.Common.{ℕ, ◌<◌, Err, ap, ◌∙◌, arith}
use Rattle.std.proofs.lemmas.Result.{err_from_is_err_and}
use Rattle.map_defs.specs.Kind.{Kind}
use Rattle.map_defs.specs.Rows.{Rows}
use Rattle.map_core.proofs.RemovingSteps.{remove-refused, remove-obeyed}
use Rattle.map_core.proofs.map.Map.remove.Goals as goal

pub returns-in_err-edit-clause-does : goal.returns-in_err-edit-clause-does
returns-in_err-edit-clause-does g c =
    let k : Kind = g.K.Kind.kind in
    let n : ℕ = g.row.DIM in
    let rows : Rows = c.links.result.now.rows in
    let low : n < c.args.dim → ⊥ = λ above. (omega (arith, c.in_ok-dim.ensures.named.1, c.links.ensures.dim)) in
    let p = err_from_is_err_and c.from_residual-in_err-edit.result c.from_residual-in_err-edit.ensures.1 in
    remove-refused k n rows (g.H.Hook.hook c.args.self.now.hook) c.args.self.now.state c.links.ensures.kind c.links.ensures.dim c.links.ensures.rows c.links.ensures.kept
    c.args.dim c.args.dart low c.in_ok-dart.ensures.1
    c.in_ok-dim.dim c.in_ok-dart.dart c.in_ok-dim.ensures.named.0 c.in_ok-dart.ensures.0
    c.in_err-edit.field-0.0 c.from_residual-in_err-edit.result (p.1 ∙ ap Err p.2) c.in_err-edit.ensures

pub returns-clause-does : goal.returns-clause-does
returns-clause-does g c =
    let k : Kind = g.K.Kind.kind in
    let n : ℕ = g.row.DIM in
    let rows : Rows = c.links.result.now.rows in
    let low : n < c.args.dim → ⊥ = λ above. (omega (arith, c.in_ok-dim.ensures.named.1, c.links.ensures.dim)) in
    let made = c.in_ok-relink.ensures.made in
    remove-obeyed k n rows (g.H.Hook.hook c.args.self.now.hook) c.args.self.now.state c.links.ensures.kind c.links.ensures.dim c.links.ensures.rows c.links.ensures.kept
    c.args.dim c.args.dart low c.in_ok-dart.ensures.1
    c.in_ok-edit.edit
    c.relink.new.self.state made.0 made.1 made.2
    c.in_ok-dim.dim c.in_ok-dart.dart c.in_ok-dim.ensures.named.0 c.in_ok-dart.ensures.0 c.in_ok-edit.ensures
