use Rattle.std.proofs.Common.{◌≡◌, ◌+◌, ◌-◌, ◌<◌, ◌^◌, length}
use Rattle.map_defs.specs.Off.{lines_of, left_of}
use Rattle.off_text.specs.Views.{cursor_view}
use Rattle.off_text.proofs.rows.next_row.Given as goal

abbrev pub invariant-loop-rest : goal.invariant-loop-rest
invariant-loop-rest l = record {
  left : cursor_view l.fn.cursor ≡ left_of l.line (lines_of l.rest);
  bound : l.line + length l.rest < 2 ^ 32 - 1;
}

abbrev pub decreases-loop-rest : goal.decreases-loop-rest
decreases-loop-rest l = length l.rest
