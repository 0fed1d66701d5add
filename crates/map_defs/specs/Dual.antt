-- The dual of a map without free links. Source: the textbook for generalized maps; the condition and the formula of
-- combinatorial maps are this project's.
use Rattle.std.specs.Prelude.{ℕ, ◌≡◌, ◌≢◌, ◌<◌, ◌≤◌, ◌-◌, ◌==◌, if◌then◌else◌}
use Rattle.map_defs.specs.Kind.{Kind, alpha, beta}
use Rattle.map_defs.specs.Links.{Links, IsTurned, HasDimension}
use Rattle.map_defs.specs.LinkWords.{LinkWord, one_link, two_links, inverse_word}

-- In the dual of a combinatorial map no dart would be joined to itself. The smallest map that shows why, of dimension 3: a
-- face with the two sides 1 and 2, joined by links 2 and 3; link 2 of the dual joins each to itself.
abbrev pub StaysApartDual : Kind → ℕ → Links → (ℕ → Type 0) → Type 0
StaysApartDual alpha n L Live = Unit {0}
StaysApartDual beta n L Live = (i d : ℕ) → Live d → 2 ≤ i → i < n → L (n - i) (L n d) ≢ d

-- a map of dimension n has a dual
pub record IsDualable (k : Kind) (n : ℕ) (L : Links) (Live : ℕ → Type 0) : Type 0 where
  -- No link of a live dart is free. The smallest map that shows why, of dimension 3: two faces of one side each, 2 and 3,
  -- joined by link 3, and 1 joined to 3 by link 2; link 1 of the dual leads from 2, which has link 3, to 1, which has none.
  pub closed : (i d : ℕ) → Live d → i ≤ n → L i d ≢ 0
  pub apart : StaysApartDual k n L Live

-- N are the links of the dual of a generalized map: alpha i becomes alpha n - i
pub record IsAlphaDual (n : ℕ) (L N : Links) : Type 0 where
  pub reversed : (i d : ℕ) → i ≤ n → N i d ≡ L (n - i) d
  pub above : HasDimension n N

-- N are the links of the dual of a combinatorial map
pub record IsBetaDual (n : ℕ) (L N : Links) : Type 0 where
  -- beta i becomes beta n, then beta n - i
  pub reversed : (i d : ℕ) → 1 ≤ i → i < n → N i d ≡ L (n - i) (L n d)
  -- beta n stays
  pub kept : (d : ℕ) → N n d ≡ L n d
  pub turned : IsTurned N
  pub above : HasDimension n N

-- N are the links of the dual of a map of dimension n
abbrev pub IsDual : Kind → ℕ → Links → Links → Type 0
IsDual alpha n L N = IsAlphaDual n L N
IsDual beta n L N = IsBetaDual n L N

-- The word of the map along which link i of its dual runs. In a combinatorial map link 0 of the dual runs along link 1
-- backwards.
abbrev pub dual_word : Kind → ℕ → ℕ → LinkWord
dual_word alpha n i = one_link (n - i)
dual_word beta n i = if i == 0 then inverse_word beta (two_links n (n - 1)) else (if i == n then one_link n else two_links n (n - i))
