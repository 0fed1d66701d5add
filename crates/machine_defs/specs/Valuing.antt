-- Giving a cell a value, or taking it. Source: this project's.
use Rattle.std.specs.Prelude.{ℕ, ◌≡◌, Option}
use Rattle.map_defs.specs.Rows.{links_of}
use Rattle.map_defs.specs.Cells.{InCell}
use Rattle.map_defs.specs.Values.{Value}
use Rattle.machine_defs.specs.State.{Content, value_at, HasPlaces}

-- The content after the i-cell of d was given this value, or none: all its darts have it, and all else is as before.
pub record IsValued (c : Content) (i d : ℕ) (value : Option Value) (next : Content) : Type 0 where
  pub kind : next.kind ≡ c.kind
  pub dim : next.dim ≡ c.dim
  pub rows : next.rows ≡ c.rows
  pub rules : next.rules ≡ c.rules
  pub places : HasPlaces next
  pub given : (x : ℕ) → InCell c.kind (links_of c.rows) i d x → value_at next i x ≡ value
  pub kept : (j x : ℕ) → (j ≡ i → InCell c.kind (links_of c.rows) i d x → ⊥) → value_at next j x ≡ value_at c j x
