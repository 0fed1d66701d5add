use Rattle.std.proofs.Common.{◌≡◌, take}
use Rattle.trail_laws.specs.Trails.{mark_names}
use Rattle.map_core.proofs.list.list_marks.Given as goal

abbrev pub invariant-loop-place : goal.invariant-loop-place
invariant-loop-place l = l.names.items ≡ take l.place (mark_names l.journal.trail)
