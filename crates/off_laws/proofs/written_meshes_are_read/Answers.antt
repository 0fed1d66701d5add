use Rattle.machine_defs.specs.OffText.{off_text}
use Rattle.reading_laws.proofs.OneReading.{told-is-read}
use Rattle.off_laws.specs.ReadBack.{mesh_told}
use Rattle.off_laws.proofs.MeshWritten.{mesh-written}
use Rattle.off_laws.proofs.written_meshes_are_read.Goals as goal

pub returns : goal.returns
returns c off readable = told-is-read (off_text off) (mesh_told off) (mesh-written off readable)
