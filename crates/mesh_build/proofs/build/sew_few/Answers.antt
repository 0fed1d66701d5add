use Rattle.std.proofs.Common.{arith}
use Rattle.mesh_build.proofs.FaceSides.{few-sides}
use Rattle.mesh_build.proofs.build.sew_few.Goals as goal

pub dart_count-darts-requires : goal.dart_count-darts-requires
dart_count-darts-requires c =
    omega (arith, c.count_sides-sides.ensures, c.requires.faces.few, few-sides 65536 0 c.args.mesh.now.faces (λ k z h. (c.requires.faces.sides k z h).1))
