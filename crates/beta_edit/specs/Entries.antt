-- Entries of one link, and of all links of a new dart.
use Rattle.std.specs.Prelude.{ℕ, ◌≡◌, ◌≢◌}

-- one entry: link i of x is to be z
abbrev pub IsOneEntry : ℕ → ℕ → ℕ → ℕ → ℕ → ℕ → Type 0
IsOneEntry x i z d t y = (d ≡ x) × (t ≡ i) × (y ≡ z)

-- the entries of the new dart s, which is to have these links; none where a link is 0
abbrev pub IsNewEntry : (ℕ → ℕ) → ℕ → ℕ → ℕ → ℕ → Type 0
IsNewEntry link s d t y = (d ≡ s) × (y ≡ link t) × (y ≢ 0)
