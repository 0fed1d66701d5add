use Rattle.std.proofs.Common.{◌≡◌, ℕ, ◌<◌, ◌≤◌}
use Rattle.map_defs.specs.Rows.{links_of}
use Rattle.cell_edit.proofs.corner.is_on_one_side_alone.Given as goal

abbrev pub invariant-loop-link : goal.invariant-loop-link
invariant-loop-link g l = (j : ℕ) → 3 ≤ j → j < l.link → links_of l.links.rows j l.dart ≡ 0
