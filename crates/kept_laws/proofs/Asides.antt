-- Darts from which each step leads to another of them lie in cells of their own.
use Rattle.std.proofs.Common.{ℕ}
use Rattle.map_defs.specs.Kind.{Kind}
use Rattle.map_defs.specs.Links.{Links}
use Rattle.map_defs.specs.LinkWords.{IsCellWord}
use Rattle.map_defs.specs.Cells.{here, onward, Leads, InCell}
use Rattle.kept_laws.specs.Keeping.{LieAside}

module _ (k : Kind) (i : ℕ) (N : Links) (Aside : ℕ → Type 0)
    (step : (x y : ℕ) → Aside x → Leads N (IsCellWord k i) x y → Aside y) where
  -- their cells hold such darts alone
  aside-cell : (x y : ℕ) → Aside x → InCell k N i x y → Aside y
  aside-cell x y h here = h
  aside-cell x y h (onward {x = z} {y = t} o s) = step z t (aside-cell x z h o) s

  pub lie-aside : (Old : ℕ → Type 0) → ((x : ℕ) → Old x → Aside x → ⊥) → LieAside k i Aside Old N
  lie-aside Old out x y h l o = out y l (aside-cell x y h o)
