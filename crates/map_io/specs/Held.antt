-- Files in memory, as files. This project's own.
use Rattle.std.specs.Prelude.{ℕ, List, map, string_bytes}
use Rattle.machine_defs.specs.Outside.{Files}
use Rattle.map_io.specs.declared.sure.Held.{Held}

-- the name and the bytes of a file in memory
abbrev pub file_of : Held → List ℕ × List ℕ
file_of file = (string_bytes file.name, file.bytes.items)

abbrev pub files_of : List Held → Files
files_of files = map file_of files
