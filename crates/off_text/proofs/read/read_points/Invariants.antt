use Rattle.std.proofs.Common.{◌≡◌, ◌-◌}
use Rattle.map_defs.specs.Off.{many, line_read, point}
use Rattle.off_text.specs.Views.{cursor_view}
use Rattle.off_text.proofs.Counted.{with_front}
use Rattle.off_text.proofs.read.read_points.Given as goal

abbrev pub invariant-loop : goal.invariant-loop
invariant-loop l = with_front l.points.items (many (line_read point) (l.count - l.counter) (cursor_view l.left)) ≡ many (line_read point) l.count (cursor_view l.cursor)
