use Rattle.std.proofs.Common.{true, arith}
use Rattle.mesh_build.proofs.Beside.{are_beside}
use Rattle.mesh_build.proofs.edit.single_entries.Goals as goal

pub overflow_add-result : goal.overflow_add-result
overflow_add-result c =
    omega (arith, (are_beside true c.args.sewn.now.sides.items c.args.sewn.now.partners.items c.args.number c.index-side.result.now c.requires.sewn c.requires.within c.index-side.ensures).previous, c.requires.few)

pub overflow_add-result-2 : goal.overflow_add-result-2
overflow_add-result-2 c =
    omega (arith, (are_beside true c.args.sewn.now.sides.items c.args.sewn.now.partners.items c.args.number c.index-side.result.now c.requires.sewn c.requires.within c.index-side.ensures).next, c.requires.few)
