use Rattle.std.proofs.Common.{ℕ, ◌≤◌, ◌<◌, ◌↔◌, Contains}
use Rattle.cell_edit.proofs.corner.copying_links.Given as goal

abbrev pub invariant-loop-link : goal.invariant-loop-link
invariant-loop-link l = (j : ℕ) → Contains l.copying.items j ↔ ((j < l.link) × (3 ≤ j))
