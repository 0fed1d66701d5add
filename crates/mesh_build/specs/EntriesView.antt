-- The links of a dart, as data.
use Rattle.mesh_build.specs.declared.edit.Entries.{Entries}
use Rattle.mesh_laws.specs.SideLinks as links

abbrev pub entries_view : Entries → links.Entries
entries_view e = record { zeroth = e.zeroth; first = e.first; second = e.second }
