use Rattle.std.proofs.Common.{ℕ, ap, ◌∙◌, Err}
use Rattle.std.proofs.lemmas.Result.{err_from_is_err_and}
use Rattle.map_defs.specs.Rows.{Rows}
use Rattle.map_core.proofs.SewingSteps.{sew-refused, sew-obeyed}
use Rattle.map_core.proofs.map.Map.sew.Goals as goal

pub returns-in_err-edit-clause-does : goal.returns-in_err-edit-clause-does
returns-in_err-edit-clause-does g c =
    let k = g.K.Kind.kind in
    let n : ℕ = g.row.DIM in
    let rows : Rows = c.links-2.result.now.rows in
    let p = err_from_is_err_and c.from_residual-in_err-edit.result c.from_residual-in_err-edit.ensures.1 in
    sew-refused k n rows (g.H.Hook.hook c.args.self.now.hook) c.args.self.now.state c.links-2.ensures.kind c.links-2.ensures.dim c.links-2.ensures.rows c.links-2.ensures.kept
    c.args.link c.args.dart c.in_ok-link.ensures.1 c.in_ok-dart.ensures.1
    c.args.other c.in_ok-other.ensures.1
    c.in_ok-link.link c.in_ok-dart.dart c.in_ok-other.other
    c.in_ok-link.ensures.0 c.in_ok-dart.ensures.0 c.in_ok-other.ensures.0
    c.in_err-edit.field-0.0 c.from_residual-in_err-edit.result (p.1 ∙ ap Err p.2)
    (λ is. c.in_err-edit.ensures.not_free.0 (ap Err is))
    (λ is. c.in_err-edit.ensures.unsewable (ap Err is))
    c.in_err-edit.ensures.refusals

pub returns-clause-does : goal.returns-clause-does
returns-clause-does g c =
    let k = g.K.Kind.kind in
    let n : ℕ = g.row.DIM in
    let rows : Rows = c.links-2.result.now.rows in
    let made = c.in_ok-relink.ensures.made in
    sew-obeyed k n rows (g.H.Hook.hook c.args.self.now.hook) c.args.self.now.state c.links-2.ensures.kind c.links-2.ensures.dim c.links-2.ensures.rows c.links-2.ensures.kept
    c.args.link c.args.dart c.in_ok-link.ensures.1 c.in_ok-dart.ensures.1
    c.in_ok-edit.edit c.in_ok-edit.ensures.fits c.in_ok-edit.ensures.births c.in_ok-edit.ensures.deaths
    c.relink.new.self.state made.0 made.1 made.2
    c.args.other c.in_ok-other.ensures.1
    c.in_ok-link.link c.in_ok-dart.dart c.in_ok-other.other
    c.in_ok-link.ensures.0 c.in_ok-dart.ensures.0 c.in_ok-other.ensures.0
    c.in_ok-edit.ensures.sewable c.in_ok-edit.ensures.sewn
