-- What is left of the files holds what all of them hold.
use Rattle.std.proofs.Common.{◌≡◌, drop}
use Rattle.machine_defs.specs.Outside.{held}
use Rattle.map_io.specs.Held.{files_of}
use Rattle.map_io.proofs.sure.find.Given as goal

abbrev pub invariant-loop-file : goal.invariant-loop-file
invariant-loop-file l = held (files_of (drop l.file-index l.files)) l.name ≡ held (files_of l.files) l.name
