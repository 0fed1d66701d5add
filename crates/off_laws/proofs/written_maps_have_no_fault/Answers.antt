use Rattle.std.proofs.Common.{refl}
use Rattle.map_defs.specs.Rows.{links_of}
use Rattle.machine_defs.specs.State.{value_at}
use Rattle.link_laws.proofs.Told.{laws_of_told}
use Rattle.off_laws.specs.ReadBack.{mesh_told}
use Rattle.off_laws.proofs.Rounds.{side-darts}
use Rattle.off_laws.proofs.RenumberedFaultless.{no-fault}
use Rattle.off_laws.proofs.written_maps_have_no_fault.Goals as goal

pub returns : goal.returns
returns g c off lawful a told =
    let w = laws_of_told c.kind (links_of c.rows) lawful.lawful in
    let found = side-darts c.kind c.dim c.rows (value_at c 0) off lawful.sound w told.flat a in
    no-fault c.kind c.dim c.rows lawful.sound w a.vertices a.vertices_listed off.faces found.0 found.1 told.sewn told.simple (mesh_told off) refl
