use Rattle.std.proofs.Common.{◌≡◌, [], ◌∷◌}
use Rattle.machine_defs.specs.Script.{Sew}
use Rattle.machine_defs.specs.Soaking.{joining}
use Rattle.map_soak.proofs.square.join.Goals as goal

pub returns-clause-obeyed : goal.returns-clause-obeyed
returns-clause-obeyed g c =
    let told = rw (c.from.ensures, c.from-2.ensures) at c.joint-dart.ensures in
    let is : joining g.K.Kind.kind c.args.before c.args.first ≡ Sew 2 c.joint-dart.result.0 c.joint-dart.result.1 ∷ [] = rw c.in-Some.is told in
    rw is
    (c.count_line.ensures.obeyed (g.H.Hook.hook c.args.map.now.hook) c.args.map.now.state (Sew 2 c.joint-dart.result.0 c.joint-dart.result.1) c.sew.new.self.state c.sew.ensures.does)
