use Rattle.std.proofs.Common.{◌≡◌, ℕ, ◌<◌, List, sym, ap, subst, ◌∙◌, arith, Result, Ok, Err}
use Rattle.std.proofs.lemmas.Result.{err_from_is_err_and}
use Rattle.map_kind.specs.declared.refusal.Refused.{Refused}
use Rattle.map_defs.specs.Kind.{Kind}
use Rattle.map_defs.specs.Rows.{Rows}
use Rattle.machine_defs.specs.Script.{Face}
use Rattle.cell_edit.specs.Planning.{PlansFace}
use Rattle.map_kind.specs.declared.done.Done.{Done}
use Rattle.map_core.specs.Calls.{Does}
use Rattle.map_core.proofs.InsertingSteps.{face-does, face-refused}
use Rattle.map_core.proofs.map.Map.face.Goals as goal

pub returns-in_err-edit-clause-does : goal.returns-in_err-edit-clause-does
returns-in_err-edit-clause-does g c =
    let k : Kind = g.K.Kind.kind in
    let n : ℕ = g.row.DIM in
    let rows : Rows = c.links-2.result.now.rows in
    let darts = c.in_ok-darts.ensures in
    let path : c.deref.result.now ≡ c.args.path.now = c.deref.ensures.value ∙ darts.0 in
    let high : n < 3 → ⊥ = λ low. (let above = c.if-dimension-lt3.false in omega (arith, above, c.dimension.ensures.dimension)) in
    let plan : PlansFace k n rows c.args.path.now (Err c.in_err-edit.field-0.0) = subst (λ (ds : List ℕ). PlansFace k n rows ds (Err c.in_err-edit.field-0.0)) path c.in_err-edit.ensures in
    let p = err_from_is_err_and c.from_residual-in_err-edit.result c.from_residual-in_err-edit.ensures.1 in
    subst (λ (r : Result Done Refused). Does (g.H.Hook.hook c.args.self.now.hook) c.args.self.now.state (Face c.args.path.now) r c.args.self.now.state) (sym (p.1 ∙ ap Err p.2))
    (face-refused k n rows (g.H.Hook.hook c.args.self.now.hook) c.args.self.now.state c.links-2.ensures.kind c.links-2.ensures.dim c.links-2.ensures.rows c.links-2.ensures.kept
    c.args.path.now high darts.1 c.in_err-edit.field-0.0 plan)

pub returns-clause-does : goal.returns-clause-does
returns-clause-does g c =
    let k : Kind = g.K.Kind.kind in
    let n : ℕ = g.row.DIM in
    let rows : Rows = c.links-2.result.now.rows in
    let darts = c.in_ok-darts.ensures in
    let path : c.deref.result.now ≡ c.args.path.now = c.deref.ensures.value ∙ darts.0 in
    let high : n < 3 → ⊥ = λ low. (let above = c.if-dimension-lt3.false in omega (arith, above, c.dimension.ensures.dimension)) in
    let plan : PlansFace k n rows c.args.path.now (Ok c.in_ok-edit.edit) = subst (λ (ds : List ℕ). PlansFace k n rows ds (Ok c.in_ok-edit.edit)) path c.in_ok-edit.ensures in
    face-does k n rows (g.H.Hook.hook c.args.self.now.hook) c.args.self.now.state c.links-2.ensures.kind c.links-2.ensures.dim c.links-2.ensures.rows c.links-2.ensures.kept
    c.args.path.now high darts.1 c.in_ok-edit.edit plan c.insert.result c.insert.new.self.state c.insert.ensures.grows
