use Rattle.std.proofs.Common.{◌≡◌, ◌-◌}
use Rattle.map_defs.specs.Off.{many, line_read, face}
use Rattle.off_text.specs.Views.{cursor_view}
use Rattle.off_text.proofs.Counted.{with_front}
use Rattle.off_text.proofs.read.read_faces.Given as goal

abbrev pub invariant-loop : goal.invariant-loop
invariant-loop l =
    with_front l.faces (many (line_read (face l.counts.points)) (l.counts.faces - l.counter) (cursor_view l.left))
    ≡ many (line_read (face l.counts.points)) l.counts.faces (cursor_view l.cursor)
