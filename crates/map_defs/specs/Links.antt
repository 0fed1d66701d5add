-- The links of a map. Source: the textbook's involutions, with 0 for a free link.
use Rattle.std.specs.Prelude.{ℕ, ◌≡◌, ◌≢◌, ◌<◌, ◌≤◌, ◌↔◌}

-- The dart at link i of dart d, as `links i d`, and 0 if d is i-free. Darts count from 1: 0 is no dart and has no links.
-- Links above the map's dimension are free everywhere, so no definition on links speaks of the dimension.
abbrev pub Links : Type 0
Links = ℕ → ℕ → ℕ

-- Link 0 of a combinatorial map leads back where link 1 leads on, and is free at each other dart.
pub record IsTurned (L : Links) : Type 0 where
  pub nothing : L 0 0 ≡ 0
  pub back : (x y : ℕ) → x ≢ 0 → y ≢ 0 → (L 1 x ≡ y) ↔ (L 0 y ≡ x)

-- Only the darts up to made have links. Without such a bound a walk across a cell may go on for ever.
abbrev pub IsMadeUpTo : ℕ → Links → Type 0
IsMadeUpTo made L = (i d : ℕ) → L i d ≢ 0 → d ≤ made

-- the links above n are free
abbrev pub HasDimension : ℕ → Links → Type 0
HasDimension n L = (i d : ℕ) → n < i → L i d ≡ 0

-- links lead to live darts alone
abbrev pub LeadsToLive : (ℕ → Type 0) → Links → Type 0
LeadsToLive Live L = (i d : ℕ) → L i d ≢ 0 → Live (L i d)
