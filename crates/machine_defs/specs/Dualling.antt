-- What the dual of a map leaves: its links, and the values and rules that go with its cells. Source: the textbook for the
-- links; that values and rules go along is this project's.
use Rattle.std.specs.Prelude.{ℕ, ◌≡◌, ◌≤◌, ◌-◌, ◌↔◌, length, reverse}
use Rattle.map_defs.specs.Rows.{IsLive, links_of, AreWide}
use Rattle.map_defs.specs.Dual.{IsDual}
use Rattle.machine_defs.specs.State.{Content, value_at, HasPlaces}

-- The content of the dual. The cells of dimension i are those that had dimension dim - i, as sets of darts; so nothing is
-- merged or split, and what dimension dim - i had of values and rules is now that of dimension i.
pub record IsDualOf (c next : Content) : Type 0 where
  pub kind : next.kind ≡ c.kind
  pub dim : next.dim ≡ c.dim
  pub long : length next.rows ≡ length c.rows
  pub live : (d : ℕ) → IsLive next.rows d ↔ IsLive c.rows d
  pub wide : AreWide c.dim next.rows
  pub links : IsDual c.kind c.dim (links_of c.rows) (links_of next.rows)
  pub rules : next.rules ≡ reverse c.rules
  pub places : HasPlaces next
  pub values : (i d : ℕ) → i ≤ c.dim → value_at next i d ≡ value_at c (c.dim - i) d
