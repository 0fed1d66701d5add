use Rattle.map_defs.specs.Rows.{links_of}
use Rattle.machine_defs.specs.State.{value_at}
use Rattle.machine_defs.specs.OffText.{off_text}
use Rattle.link_laws.proofs.Told.{laws_of_told}
use Rattle.reading_laws.proofs.OneReading.{told-is-read}
use Rattle.off_laws.specs.ReadBack.{mesh_told}
use Rattle.off_laws.proofs.MeshWritten.{mesh-written}
use Rattle.off_laws.proofs.Rounds.{side-darts}
use Rattle.off_laws.proofs.RenumberedMap.{same-map}
use Rattle.off_laws.proofs.written_maps_are_read_back.Goals as goal

pub returns : goal.returns
returns g c off start lawful a readable told loaded =
    let found = side-darts c.kind c.dim c.rows (value_at c 0) off lawful.sound (laws_of_told c.kind (links_of c.rows) lawful.lawful) told.flat a in
    same-map c off start lawful a readable told (told-is-read (off_text off) (mesh_told off) (mesh-written off readable)) found.0 found.1 loaded
