use Rattle.std.proofs.Common.{◌≡◌, Some, string_bytes, lit<}
use Rattle.machine_defs.specs.Script.{Face, Mark, line_of}
use Rattle.map_run.specs.Lines.{IsTold}
use Rattle.map_run.proofs.ToldLines.{path-short, mark-named}
use Rattle.map_run.proofs.machine.change.Goals as goal

pub face-requires : goal.face-requires
unfolding IsTold
face-requires g c =
    let told : line_of c.requires.told.0 ≡ Some (Face c.in-Face.path.items) = rw c.in-Face.is at c.requires.told.1 in
    let short = path-short c.requires.told.0 c.in-Face.path.items told in
    rw c.deref.ensures.value (lit< tt, (c.requires.ready, short))

pub mark-requires : goal.mark-requires
unfolding IsTold
mark-requires g c =
    let told : line_of c.requires.told.0 ≡ Some (Mark (string_bytes c.in-Mark.name)) = rw c.in-Mark.is at c.requires.told.1 in
    rw c.as_str-in-Mark.ensures.value (lit< tt, mark-named c.requires.told.0 (string_bytes c.in-Mark.name) told)
