use Rattle.reading_laws.proofs.OneReading.{mesh-is-told, told-is-read}
use Rattle.reading_laws.proofs.the_mesh_told_is_read.Goals as goal

pub returns : goal.returns
returns c text mesh = (mesh-is-told text mesh, told-is-read text mesh)
