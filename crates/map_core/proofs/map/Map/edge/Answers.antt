use Rattle.std.proofs.Common.{◌≡◌, ℕ, refl, sym, ap, subst, ◌∙◌, Result, Ok, Err, lit<, arith}
use Rattle.std.proofs.lemmas.Result.{err_from_is_err_and}
use Rattle.map_kind.specs.declared.refusal.Refused.{Refused}
use Rattle.map_defs.specs.Kind.{Kind}
use Rattle.map_defs.specs.Edits.{Edit, after_edit}
use Rattle.machine_defs.specs.Script.{Edge}
use Rattle.cell_edit.specs.Planning.{PlansEdge}
use Rattle.map_kind.specs.declared.done.Done.{Done}
use Rattle.map_core.specs.Calls.{Does}
use Rattle.map_core.proofs.InsertingSteps.{edge-does, edge-refused}
use Rattle.map_core.proofs.KeptCells.{Keeps, keeps-alone, edge-keeps}
use Rattle.map_defs.specs.Rows.{Rows, links_of}
use Rattle.map_defs.specs.Laws.{Laws}
use Rattle.map_core.proofs.map.Map.edge.Goals as goal

-- the plan of the darts that the numbers name
plan-named : (k : Kind) (n : ℕ) (rows : Rows) (d e x y : ℕ) (r : Result Edit Refused) → d ≡ x → e ≡ y → PlansEdge k n rows d e r → PlansEdge k n rows x y r
plan-named k n rows d e x y r one other plan = subst (λ (u : ℕ). PlansEdge k n rows u y r) one (subst (λ (u : ℕ). PlansEdge k n rows d u r) other plan)

pub insert-requires : goal.insert-requires
insert-requires g c =
    let k : Kind = g.K.Kind.kind in
    let n : ℕ = g.row.DIM in
    let rows : Rows = c.args.self.now.state.present.rows in
    let plan : PlansEdge k n rows c.args.dart c.args.other (Ok c.in_ok-edit.edit) =
    subst (λ (r : Rows). PlansEdge k n r c.args.dart c.args.other (Ok c.in_ok-edit.edit)) c.links.ensures.rows
    (plan-named k n c.links.result.now.rows c.in_ok-dart.dart c.in_ok-other.other c.args.dart c.args.other (Ok c.in_ok-edit.edit) c.in_ok-dart.ensures.0 c.in_ok-other.ensures.0 c.in_ok-edit.ensures) in
    let laws : Laws k (links_of rows) = subst (λ (r : Rows). Laws k (links_of r)) c.links.ensures.rows c.links.ensures.laws in (
      lit< tt,
      (
        c.requires,
        (
          plan.3.fits,
          (
            plan.3.laws,
            keeps-alone k (record { from = 0; to = 1; aside = 0 }) rows (after_edit n c.in_ok-edit.edit rows) refl (λ i among. subst (Keeps k n rows c.in_ok-edit.edit) (omega (arith, among.1))
                (edge-keeps k n rows c.links.ensures.sound laws c.args.dart c.args.other c.in_ok-dart.ensures.1 c.in_ok-other.ensures.1 c.in_ok-edit.edit plan)),
          ),
        ),
      ),
    )

pub returns-in_err-edit-clause-does : goal.returns-in_err-edit-clause-does
returns-in_err-edit-clause-does g c =
    let k : Kind = g.K.Kind.kind in
    let n : ℕ = g.row.DIM in
    let rows : Rows = c.links.result.now.rows in
    let plan = plan-named k n rows c.in_ok-dart.dart c.in_ok-other.other c.args.dart c.args.other (Err c.in_err-edit.field-0.0) c.in_ok-dart.ensures.0 c.in_ok-other.ensures.0 c.in_err-edit.ensures in
    let p = err_from_is_err_and c.from_residual-in_err-edit.result c.from_residual-in_err-edit.ensures.1 in
    subst (λ (r : Result Done Refused). Does (g.H.Hook.hook c.args.self.now.hook) c.args.self.now.state (Edge c.args.dart c.args.other) r c.args.self.now.state) (sym (p.1 ∙ ap Err p.2))
    (edge-refused k n rows (g.H.Hook.hook c.args.self.now.hook) c.args.self.now.state c.links.ensures.kind c.links.ensures.dim c.links.ensures.rows c.links.ensures.kept
    c.args.dart c.args.other c.in_ok-dart.ensures.1 c.in_ok-other.ensures.1 c.in_err-edit.field-0.0 plan)

pub returns-clause-does : goal.returns-clause-does
returns-clause-does g c =
    let k : Kind = g.K.Kind.kind in
    let n : ℕ = g.row.DIM in
    let rows : Rows = c.links.result.now.rows in
    let plan = plan-named k n rows c.in_ok-dart.dart c.in_ok-other.other c.args.dart c.args.other (Ok c.in_ok-edit.edit) c.in_ok-dart.ensures.0 c.in_ok-other.ensures.0 c.in_ok-edit.ensures in
    edge-does k n rows (g.H.Hook.hook c.args.self.now.hook) c.args.self.now.state c.links.ensures.kind c.links.ensures.dim c.links.ensures.rows c.links.ensures.kept
    c.args.dart c.args.other c.in_ok-dart.ensures.1 c.in_ok-other.ensures.1 c.in_ok-edit.edit plan c.insert.result c.insert.new.self.state c.insert.ensures.grows
