use Rattle.std.proofs.Common.{ℕ}
use Rattle.map_defs.specs.Rows.{Rows}
use Rattle.map_core.proofs.SewingSteps.{unsew-obeyed}
use Rattle.map_core.proofs.map.Map.unsew.Goals as goal

pub returns-clause-does : goal.returns-clause-does
returns-clause-does g c =
    let k = g.K.Kind.kind in
    let n : ℕ = g.row.DIM in
    let rows : Rows = c.links-2.result.now.rows in
    let made = c.in_ok-relink.ensures.made in
    unsew-obeyed k n rows (g.H.Hook.hook c.args.self.now.hook) c.args.self.now.state c.links-2.ensures.kind c.links-2.ensures.dim c.links-2.ensures.rows c.links-2.ensures.kept
    c.args.link c.args.dart c.in_ok-link.ensures.1 c.in_ok-dart.ensures.1
    c.in_ok-edit.edit c.in_ok-edit.ensures.fits c.in_ok-edit.ensures.births c.in_ok-edit.ensures.deaths
    c.relink.new.self.state made.0 made.1 made.2
    c.in_ok-link.link c.in_ok-dart.dart c.in_ok-link.ensures.0 c.in_ok-dart.ensures.0
    (λ none. let refused = c.in_ok-edit.ensures.already_free.1 none in cc)
    c.in_ok-edit.ensures.unsewn
