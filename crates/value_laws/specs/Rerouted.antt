-- Which darts a change of links touches in one dimension. Source: this project's.
use Rattle.std.specs.Prelude.{ℕ, ◌≢◌, ◌⊎◌}
use Rattle.map_defs.specs.Kind.{Kind}
use Rattle.map_defs.specs.Links.{Links}
use Rattle.map_defs.specs.LinkWords.{LinkWord, through, IsCellWord}

-- some word along which i-cells run leads elsewhere from x by the new links N than by the old links L
abbrev pub IsRerouted : Kind → ℕ → Links → Links → ℕ → Type 0
IsRerouted k i L N x = (w : LinkWord) × IsCellWord k i w × (through N w x ≢ through L w x)

-- The darts that are touched in dimension i: those that live in the new map and were born, or are rerouted there.
abbrev pub IsTouchedIn : Kind → ℕ → Links → (ℕ → Type 0) → Links → (ℕ → Type 0) → ℕ → Type 0
IsTouchedIn k i L Live N LiveAfter x = LiveAfter x × ((Live x → ⊥) ⊎ IsRerouted k i L N x)
