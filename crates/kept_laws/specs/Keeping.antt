-- Cells that a change of links keeps, and cells of new darts alone.
use Rattle.std.specs.Prelude.{ℕ, ◌↔◌}
use Rattle.map_defs.specs.Kind.{Kind}
use Rattle.map_defs.specs.Links.{Links}
use Rattle.map_defs.specs.Cells.{InCell}

-- Two of the darts that lived before lie in one i-cell of the new links exactly where they lay in one of the old links. New darts
-- may have joined the cells, or lie in cells of their own.
abbrev pub KeepsCells : Kind → ℕ → (ℕ → Type 0) → Links → Links → Type 0
KeepsCells k i Old L N = (x y : ℕ) → Old x → Old y → InCell k N i x y ↔ InCell k L i x y

-- in the i-cells of these darts none of the old ones lies
abbrev pub LieAside : Kind → ℕ → (ℕ → Type 0) → (ℕ → Type 0) → Links → Type 0
LieAside k i Aside Old N = (x y : ℕ) → Aside x → Old y → InCell k N i x y → ⊥
