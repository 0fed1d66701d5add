use Rattle.std.proofs.Common.{ℕ, subst, lit<}
use Rattle.map_defs.specs.Kind.{Kind}
use Rattle.map_close.specs.Planning.{PlansClosing}
use Rattle.map_core.proofs.HangingSteps.{closing-does}
use Rattle.map_core.proofs.KeptCells.{keeps-alone, closing-keeps}
use Rattle.map_defs.specs.Rows.{Rows, links_of}
use Rattle.map_defs.specs.Laws.{Laws}
use Rattle.map_defs.specs.Edits.{after_edit}
use Rattle.map_core.proofs.map.Map.close.Goals as goal

pub insert-requires : goal.insert-requires
insert-requires g c =
    let k : Kind = g.K.Kind.kind in
    let n : ℕ = g.row.DIM in
    let rows : Rows = c.args.self.now.state.present.rows in
    let plan : PlansClosing k n rows c.in_ok-link.link c.in_ok-edit.edit =
    subst (λ (r : Rows). PlansClosing k n r c.in_ok-link.link c.in_ok-edit.edit) c.links-2.ensures.rows c.in_ok-edit.ensures in
    let laws : Laws k (links_of rows) = subst (λ (r : Rows). Laws k (links_of r)) c.links-2.ensures.rows c.links-2.ensures.laws in
    (lit< tt, (c.requires, (plan.fits, (plan.laws, keeps-alone k c.kept_by_closing.result rows (after_edit n c.in_ok-edit.edit rows) c.kept_by_closing.ensures.aside (λ i among. closing-keeps k n rows c.links-2.ensures.sound laws c.in_ok-link.link c.in_ok-edit.edit plan i ((c.kept_by_closing.ensures.among i).0 among))))))

pub returns-clause-does : goal.returns-clause-does
returns-clause-does g c =
    let k : Kind = g.K.Kind.kind in
    let n : ℕ = g.row.DIM in
    let rows : Rows = c.links-2.result.now.rows in
    let plan = subst (λ (i : ℕ). PlansClosing k n rows i c.in_ok-edit.edit) c.in_ok-link.ensures.0 c.in_ok-edit.ensures in
    closing-does k n rows (g.H.Hook.hook c.args.self.now.hook) c.args.self.now.state c.links-2.ensures.kind c.links-2.ensures.dim c.links-2.ensures.rows c.links-2.ensures.kept
    c.args.link c.in_ok-link.ensures.1 c.in_ok-edit.edit plan c.insert.result c.insert.new.self.state c.insert.ensures.grows
