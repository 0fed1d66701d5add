-- The oriented half of a generalized map, and the double of a combinatorial map. Source: the textbook's correspondence of
-- the two kinds, where the darts of a combinatorial map are one class of those of an orientable generalized map; the
-- numbers of the new darts are this project's.
use Rattle.std.specs.Prelude.{ℕ, zero, suc, ◌≡◌, ◌≤◌, ◌+◌, ◌↔◌, List, ◌∷◌, length, Contains, slice_index}
use Rattle.std.specs.List.Sorted.{IsStrictlyIncreasing}
use Rattle.map_defs.specs.Kind.{beta, inverse}
use Rattle.map_defs.specs.Links.{Links, IsTurned, IsMadeUpTo, HasDimension}
use Rattle.map_defs.specs.Rows.{Rows, IsLive, made, AreWide}

-- The origins are the darts with the property, ascending. They are counted from 1: the place of a dart in this list is its
-- rank.
pub record AreOrigins (Has : ℕ → Type 0) (origins : List ℕ) : Type 0 where
  pub ascending : IsStrictlyIncreasing origins
  pub members : (d : ℕ) → Contains origins d ↔ Has d

-- the dart of rank r; 0 is the rank of no dart, and 0 is no dart
abbrev pub origin : List ℕ → ℕ → ℕ
origin origins r = slice_index (0 ∷ origins) r

-- N are the links of the half: its darts are the ranks of the positive darts of the map.
pub record IsHalf (n : ℕ) (L : Links) (origins : List ℕ) (N : Links) : Type 0 where
  pub within : (i r : ℕ) → N i r ≤ length origins
  -- link i of the half runs along link 0 and then link i of the map
  pub along : (i r : ℕ) → 1 ≤ i → i ≤ n → origin origins (N i r) ≡ L i (L 0 (origin origins r))
  pub turned : IsTurned N
  pub above : HasDimension n N

-- the two darts of rank r in the double; rank 0 has none
abbrev pub odd_dart : ℕ → ℕ
odd_dart zero = 0
odd_dart (suc r) = suc (r + r)

abbrev pub even_dart : ℕ → ℕ
even_dart r = r + r

-- N are the links of the double, in which each dart of the map, by its rank, became two.
pub record IsDouble (n : ℕ) (L : Links) (origins : List ℕ) (N : Links) : Type 0 where
  pub made : IsMadeUpTo (length origins + length origins) N
  -- link 0 joins the two darts of a rank
  pub pairs : (r : ℕ) → r ≤ length origins → N 0 (odd_dart r) ≡ even_dart r
  pub pairs_back : (r : ℕ) → r ≤ length origins → N 0 (even_dart r) ≡ odd_dart r
  -- where link i of the map leads from r to s, link i of the double joins the even dart of r to the odd one of s
  pub leads : (i r s : ℕ) → 1 ≤ i → i ≤ n → s ≤ length origins → L i (origin origins r) ≡ origin origins s → N i (even_dart r) ≡ odd_dart s
  pub leads_back : (i r s : ℕ) → 1 ≤ i → i ≤ n → r ≤ length origins → L (inverse beta i) (origin origins s) ≡ origin origins r → N i (odd_dart s) ≡ even_dart r
  pub above : HasDimension n N

-- the darts 1 to m are live, and none else was made
pub record HasDarts (n m : ℕ) (rows : Rows) : Type 0 where
  pub made : made rows ≡ m
  pub live : (d : ℕ) → IsLive rows d ↔ ((1 ≤ d) × (d ≤ m))
  pub wide : AreWide n rows
