-- Orbits, cells and components as least sets. Source: the textbook.
use Rattle.std.specs.Prelude.{ℕ, ◌≡◌, ◌≢◌, ◌≤◌}
use Rattle.map_defs.specs.Kind.{Kind}
use Rattle.map_defs.specs.Links.{Links}
use Rattle.map_defs.specs.LinkWords.{LinkWord, through, IsCellWord}

-- the least set that holds d and is closed under the steps
pub data InOrbit (Step : ℕ → ℕ → Type 0) (d : ℕ) : ℕ → Type 0 where
  here : InOrbit Step d d
  onward : {x y : ℕ} → InOrbit Step d x → Step x y → InOrbit Step d y

-- some word of these leads from x to the dart y
abbrev pub Leads : Links → (LinkWord → Type 0) → ℕ → ℕ → Type 0
Leads L Words x y = (w : LinkWord) × Words w × (through L w x ≡ y) × (y ≢ 0)

-- the darts of the i-cell of d
abbrev pub InCell : Kind → Links → ℕ → ℕ → ℕ → Type 0
InCell k L i d = InOrbit (Leads L (IsCellWord k i)) d

-- some link leads from x to the dart y
abbrev pub IsLinked : Links → ℕ → ℕ → Type 0
IsLinked L x y = (i : ℕ) × (L i x ≡ y) × (y ≢ 0)

-- the darts of the component of d
abbrev pub InComponent : Links → ℕ → ℕ → Type 0
InComponent L d = InOrbit (IsLinked L) d

-- d is the least dart of its i-cell, by which the cell is named
abbrev pub NamesCell : Kind → Links → ℕ → ℕ → Type 0
NamesCell k L i d = (e : ℕ) → InCell k L i d e → d ≤ e

-- d is the least dart of its component
abbrev pub NamesComponent : Links → ℕ → Type 0
NamesComponent L d = (e : ℕ) → InComponent L d e → d ≤ e
