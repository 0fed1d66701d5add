use Rattle.std.proofs.Common.{sym, ◌∙◌}
use Rattle.mesh_build.proofs.FaceSides.{length-sides}
use Rattle.mesh_build.proofs.build.count_sides.Goals as goal

pub returns : goal.returns
returns c = c.item_count.ensures ∙ sym (length-sides 0 c.args.faces.now)
