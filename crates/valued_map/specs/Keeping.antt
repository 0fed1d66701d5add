-- Dimensions whose cells an edit keeps.
use Rattle.std.specs.Prelude.{ℕ, ◌+◌, ◌≤◌, ◌<◌}
use Rattle.map_defs.specs.Kind.{Kind}
use Rattle.map_defs.specs.Rows.{Rows, IsLive, links_of, made}
use Rattle.kept_laws.specs.Keeping.{KeepsCells, LieAside}
use Rattle.valued_map.specs.declared.kept.Kept.{Kept}

-- the dimension is one of these
abbrev pub IsKept : Kept → ℕ → Type 0
IsKept kept i = (kept.from ≤ i) × (i < kept.to)

-- x is one of so many darts that were made last
abbrev pub IsOfLast : ℕ → Rows → ℕ → Type 0
IsOfLast count rows x = (made rows < x + count) × (x ≤ made rows)

-- From the old rows to the new ones their cells are kept, and the darts that are said to lie aside are in none of them.
pub record KeepsThose (k : Kind) (kept : Kept) (old new : Rows) : Type 0 where
  pub cells : (i : ℕ) → IsKept kept i → KeepsCells k i (IsLive old) (links_of old) (links_of new)
  pub aside : (i : ℕ) → IsKept kept i → LieAside k i (IsOfLast kept.aside new) (λ x. x ≤ made old) (links_of new)
