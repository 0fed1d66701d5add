-- What the numbers of a line name.
use Rattle.std.specs.Prelude.{ℕ, ◌≡◌, ◌<◌, ◌≤◌, ◌⊎◌, Result, Ok, Err}
use Rattle.map_kind.specs.declared.refusal.Refusal.{Refusal}
use Rattle.map_kind.specs.declared.refusal.Refusal.TheVariants as told
use Rattle.map_defs.specs.Kind.{Kind, alpha, beta}
use Rattle.map_defs.specs.Rows.{Rows, IsLive}

-- the live dart of a number, or no live dart has it
abbrev pub NamesDart : Rows → ℕ → Result ℕ Refusal → Type 0
NamesDart rows number (Ok dart) = (dart ≡ number) × IsLive rows number
NamesDart rows number (Err refusal) = (refusal ≡ told.NoDart) × (IsLive rows number → ⊥)

-- the dimension or the link of a number, or it is above the map's dimension
abbrev pub NamesDimension : ℕ → ℕ → Result ℕ Refusal → Type 0
NamesDimension n number (Ok dim) = (dim ≡ number) × (number ≤ n)
NamesDimension n number (Err refusal) = (refusal ≡ told.BadDim) × (n < number)

-- the link of a number at which the map can be closed, or it is above the map's dimension, or below 2 in a combinatorial map
abbrev pub NamesClosingLink : Kind → ℕ → ℕ → Result ℕ Refusal → Type 0
NamesClosingLink k n number (Ok link) = (link ≡ number) × (((n < number) ⊎ ((k ≡ beta) × (number < 2))) → ⊥)
NamesClosingLink k n number (Err refusal) = (refusal ≡ told.BadDim) × ((n < number) ⊎ ((k ≡ beta) × (number < 2)))

-- the link of a number at which darts can be sewn, or it is above the map's dimension, or link 0 of a combinatorial map,
-- which follows link 1
abbrev pub NamesSewingLink : Kind → ℕ → ℕ → Result ℕ Refusal → Type 0
NamesSewingLink k n number (Ok link) = (link ≡ number) × (((n < number) ⊎ ((k ≡ beta) × (number ≡ 0))) → ⊥)
NamesSewingLink k n number (Err refusal) = (refusal ≡ told.BadDim) × ((n < number) ⊎ ((k ≡ beta) × (number ≡ 0)))

-- closing at a link keeps the i-cells: those below the link in a generalized map, and in a combinatorial map the vertices, where
-- the link is 2
abbrev pub IsKeptByClosing : Kind → ℕ → ℕ → Type 0
IsKeptByClosing alpha link i = i < link
IsKeptByClosing beta link i = (link ≡ 2) × (i ≡ 0)
