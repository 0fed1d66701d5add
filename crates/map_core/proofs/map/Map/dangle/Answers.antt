use Rattle.std.proofs.Common.{ℕ, sym, ap, subst, ◌∙◌, Result, Ok, Err, lit<}
use Rattle.std.proofs.lemmas.Result.{err_from_is_err_and}
use Rattle.map_kind.specs.declared.refusal.Refused.{Refused}
use Rattle.map_kind.specs.declared.done.Done.{Done}
use Rattle.map_defs.specs.Kind.{Kind}
use Rattle.machine_defs.specs.Script.{Dangle}
use Rattle.face_center.specs.Planning.{PlansDangling}
use Rattle.map_core.specs.Calls.{Does}
use Rattle.map_core.proofs.HangingSteps.{dangle-does, dangle-refused}
use Rattle.map_core.proofs.KeptCells.{dangle-keeps}
use Rattle.map_defs.specs.Rows.{Rows, links_of}
use Rattle.map_defs.specs.Laws.{Laws}
use Rattle.map_core.proofs.map.Map.dangle.Goals as goal

pub insert-requires : goal.insert-requires
insert-requires g c =
    let k : Kind = g.K.Kind.kind in
    let n : ℕ = g.row.DIM in
    let rows : Rows = c.args.self.now.state.present.rows in
    let plan : PlansDangling k n rows c.args.dart (Ok c.in_ok-edit.edit) =
    subst (λ (r : Rows). PlansDangling k n r c.args.dart (Ok c.in_ok-edit.edit)) c.links.ensures.rows
    (subst (λ (d : ℕ). PlansDangling k n c.links.result.now.rows d (Ok c.in_ok-edit.edit)) c.in_ok-dart.ensures.0 c.in_ok-edit.ensures) in
    let laws : Laws k (links_of rows) = subst (λ (r : Rows). Laws k (links_of r)) c.links.ensures.rows c.links.ensures.laws in (
      lit< tt,
      (
        c.requires,
        (
          plan.1.fits,
          (
            plan.1.laws,
            dangle-keeps k n rows c.links.ensures.sound laws c.args.dart c.in_ok-dart.ensures.1 c.in_ok-edit.edit plan c.kept_by_hanging.result c.kept_by_hanging.ensures.among c.kept_by_hanging.ensures.aside,
          ),
        ),
      ),
    )

pub returns-in_err-edit-clause-does : goal.returns-in_err-edit-clause-does
returns-in_err-edit-clause-does g c =
    let k : Kind = g.K.Kind.kind in
    let n : ℕ = g.row.DIM in
    let rows : Rows = c.links.result.now.rows in
    let plan = subst (λ (d : ℕ). PlansDangling k n rows d (Err c.in_err-edit.field-0.0)) c.in_ok-dart.ensures.0 c.in_err-edit.ensures in
    let p = err_from_is_err_and c.from_residual-in_err-edit.result c.from_residual-in_err-edit.ensures.1 in
    subst (λ (r : Result Done Refused). Does (g.H.Hook.hook c.args.self.now.hook) c.args.self.now.state (Dangle c.args.dart) r c.args.self.now.state) (sym (p.1 ∙ ap Err p.2))
    (dangle-refused k n rows (g.H.Hook.hook c.args.self.now.hook) c.args.self.now.state c.links.ensures.kind c.links.ensures.dim c.links.ensures.rows c.links.ensures.kept
    c.args.dart c.in_ok-dart.ensures.1 c.in_err-edit.field-0.0 plan)

pub returns-clause-does : goal.returns-clause-does
returns-clause-does g c =
    let k : Kind = g.K.Kind.kind in
    let n : ℕ = g.row.DIM in
    let rows : Rows = c.links.result.now.rows in
    let plan = subst (λ (d : ℕ). PlansDangling k n rows d (Ok c.in_ok-edit.edit)) c.in_ok-dart.ensures.0 c.in_ok-edit.ensures in
    dangle-does k n rows (g.H.Hook.hook c.args.self.now.hook) c.args.self.now.state c.links.ensures.kind c.links.ensures.dim c.links.ensures.rows c.links.ensures.kept
    c.args.dart c.in_ok-dart.ensures.1 c.in_ok-edit.edit plan c.insert.result c.insert.new.self.state c.insert.ensures.grows
