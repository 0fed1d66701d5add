use Rattle.std.proofs.Common.{ℕ, ◌<◌, ◌≤◌, Contains, None}
use Rattle.map_defs.specs.Rows.{links_of}
use Rattle.map_defs.specs.Removal.{JoinsNoDart}
use Rattle.beta_edit.specs.Crossing.{drawn_step}
use Rattle.beta_edit.proofs.apart.sides_stay_apart.Given as goal

abbrev pub invariant-loop-link : goal.invariant-loop-link
invariant-loop-link g l = (j : ℕ) → j < l.link → 2 ≤ j → JoinsNoDart (links_of l.links.rows) j (Contains l.darts) (drawn_step (links_of l.links.rows) None j)
