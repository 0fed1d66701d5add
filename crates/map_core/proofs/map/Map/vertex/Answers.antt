use Rattle.std.proofs.Common.{ℕ, refl, lit<, subst}
use Rattle.map_defs.specs.Kind.{Kind}
use Rattle.cell_edit.specs.Planning.{PlansVertex}
use Rattle.map_core.proofs.InsertingSteps.{vertex-does}
use Rattle.map_core.proofs.KeptCells.{keeps-alone, vertex-keeps}
use Rattle.map_defs.specs.Rows.{Rows, links_of}
use Rattle.map_defs.specs.Laws.{Laws}
use Rattle.map_defs.specs.Edits.{after_edit}
use Rattle.map_core.proofs.map.Map.vertex.Goals as goal

pub insert-requires : goal.insert-requires
insert-requires g c =
    let k : Kind = g.K.Kind.kind in
    let n : ℕ = g.row.DIM in
    let rows : Rows = c.args.self.now.state.present.rows in
    let plan : PlansVertex k n rows c.args.dart c.in_ok-edit.edit =
    subst (λ (r : Rows). PlansVertex k n r c.args.dart c.in_ok-edit.edit) c.links.ensures.rows
    (subst (λ (d : ℕ). PlansVertex k n c.links.result.now.rows d c.in_ok-edit.edit) c.in_ok-dart.ensures.0 c.in_ok-edit.ensures) in
    let laws : Laws k (links_of rows) = subst (λ (r : Rows). Laws k (links_of r)) c.links.ensures.rows c.links.ensures.laws in
    (lit< tt, (c.requires, (plan.fits, (plan.laws, keeps-alone k (record { from = 2; to = 9; aside = 0 }) rows (after_edit n c.in_ok-edit.edit rows) refl (λ i among. vertex-keeps k n rows c.links.ensures.sound laws c.args.dart c.in_ok-dart.ensures.1 c.in_ok-edit.edit plan i among.0)))))

pub returns-clause-does : goal.returns-clause-does
returns-clause-does g c =
    let k : Kind = g.K.Kind.kind in
    let n : ℕ = g.row.DIM in
    let rows : Rows = c.links.result.now.rows in
    let plan : PlansVertex k n rows c.args.dart c.in_ok-edit.edit = subst (λ (d : ℕ). PlansVertex k n rows d c.in_ok-edit.edit) c.in_ok-dart.ensures.0 c.in_ok-edit.ensures in
    vertex-does k n rows (g.H.Hook.hook c.args.self.now.hook) c.args.self.now.state c.links.ensures.kind c.links.ensures.dim c.links.ensures.rows c.links.ensures.kept
    c.args.dart c.in_ok-dart.ensures.1 c.in_ok-edit.edit plan c.insert.result c.insert.new.self.state c.insert.ensures.grows
