-- Edits in the order of a log, and what they tell of the rows before and after. Source: this project's.
use Rattle.std.specs.Prelude.{ℕ, ◌≡◌, ◌≢◌, ◌+◌, ◌↔◌, length, Contains, All}
use Rattle.std.specs.List.{AllPairs}
use Rattle.std.specs.List.Sorted.{IsStrictlyIncreasing}
use Rattle.map_defs.specs.Rows.{Rows, IsLive, links_of}
use Rattle.map_defs.specs.Edits.{Change, Edit}
use Rattle.machine_defs.specs.Difference.{IsLinkBefore}

-- An edit is in order: each change changes something, the changes stand in the order of a log, and the deaths ascend.
pub record IsInOrder (e : Edit) : Type 0 where
  pub differ : All (λ c. c.old ≢ c.new) e.changes
  pub links_ordered : AllPairs IsLinkBefore e.changes
  pub ended_ascending : IsStrictlyIncreasing e.deaths

-- The edit is the difference of two tables of rows: the part of a difference of contents that is about darts and links.
pub record IsRowsDifference (old new : Rows) (e : Edit) : Type 0 where
  pub born : length new ≡ length old + e.births
  pub ended : (d : ℕ) → Contains e.deaths d ↔ (IsLive old d × (IsLive new d → ⊥))
  pub ended_ascending : IsStrictlyIncreasing e.deaths
  pub links : (c : Change) → Contains e.changes c ↔ ((c.old ≡ links_of old c.link c.dart) × (c.new ≡ links_of new c.link c.dart) × (c.old ≢ c.new))
  pub links_ordered : AllPairs IsLinkBefore e.changes
