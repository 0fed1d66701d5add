-- Signs of the darts of a generalized map, and what stands in their way. Source: the textbook's orientable maps, whose darts
-- fall into two classes that each link joins; the three faults and their order are this project's.
use Rattle.std.specs.Prelude.{ℕ, ◌≡◌, ◌<◌, ◌≤◌, ◌%◌, ◌⊎◌, ◌↔◌, List, [], ◌∷◌, length, map, All, Contains, Bool, true, not}
use Rattle.std.specs.List.Sorted.{IsStrictlyIncreasing}
use Rattle.map_defs.specs.Links.{Links}
use Rattle.map_defs.specs.Cells.{NamesComponent}

-- Below, n is the map's dimension.

-- some live dart has a free link
abbrev pub HasBoundary : ℕ → (ℕ → Type 0) → Links → Type 0
HasBoundary n Live L = (d : ℕ) × (i : ℕ) × Live d × (i ≤ n) × (L i d ≡ 0)

-- link i of d, from 2 upwards, leads where link 0 leads
abbrev pub IsFolded : ℕ → (ℕ → Type 0) → Links → ℕ → ℕ → Type 0
IsFolded n Live L d i = Live d × (2 ≤ i) × (i ≤ n) × (L i d ≡ L 0 d)

-- d is the least dart at which a link leads where link 0 leads, and i is the least such link of d
pub record IsFirstFold (n : ℕ) (Live : ℕ → Type 0) (L : Links) (d i : ℕ) : Type 0 where
  pub folded : IsFolded n Live L d i
  pub least : (e j : ℕ) → IsFolded n Live L e j → (d < e) ⊎ ((d ≡ e) × (i ≤ j))

-- where a walk by these links ends that starts at d
abbrev pub walked : Links → ℕ → List ℕ → ℕ
walked L d [] = d
walked L d (i ∷ links) = walked L (L i d) links

-- the walk by these links leads from d back to d, and it has an odd number of links
pub record IsOddWalk (n : ℕ) (L : Links) (d : ℕ) (links : List ℕ) : Type 0 where
  pub within : All (λ i. i ≤ n) links
  pub closed : walked L d links ≡ d
  pub odd : length links % 2 ≡ 1

-- The walk is odd, and no live dart below d has an odd walk: so d is the least dart of its component, and no component
-- before that one has an odd walk.
pub record IsFirstOddWalk (n : ℕ) (Live : ℕ → Type 0) (L : Links) (d : ℕ) (links : List ℕ) : Type 0 where
  pub live : Live d
  pub walk : IsOddWalk n L d links
  pub least : (e : ℕ) (others : List ℕ) → Live e → IsOddWalk n L e others → d ≤ e

-- a dart, and whether it is positive
pub record Sign : Type 0 where
  pub dart : ℕ
  pub positive : Bool

abbrev pub darts_of : List Sign → List ℕ
darts_of signs = map (λ (sign : Sign). sign.dart) signs

abbrev pub IsPositive : List Sign → ℕ → Type 0
IsPositive signs d = Contains signs (record { dart = d; positive = true })

-- One sign for each live dart, ascending: each link flips it, and the least dart of each component is positive.
pub record AreSigns (n : ℕ) (Live : ℕ → Type 0) (L : Links) (signs : List Sign) : Type 0 where
  pub ascending : IsStrictlyIncreasing (darts_of signs)
  pub members : (d : ℕ) → Contains (darts_of signs) d ↔ Live d
  pub flips : (s t : Sign) (i : ℕ) → Contains signs s → Contains signs t → i ≤ n → L i s.dart ≡ t.dart → t.positive ≡ not s.positive
  pub least : (s : Sign) → Contains signs s → NamesComponent L s.dart → s.positive ≡ true

-- Why a generalized map has no half: a boundary; a fold, by its dart and its link; or an odd walk, from a dart by these
-- links.
pub data OrientFault : Type 0 where
  Boundary : OrientFault
  Folded : ℕ → ℕ → OrientFault
  Odd : ℕ → List ℕ → OrientFault

-- Each fault is told only of a map without those before it.
abbrev pub HasFault : ℕ → (ℕ → Type 0) → Links → OrientFault → Type 0
HasFault n Live L Boundary = HasBoundary n Live L
HasFault n Live L (Folded d i) = (HasBoundary n Live L → ⊥) × IsFirstFold n Live L d i
HasFault n Live L (Odd d links) = (HasBoundary n Live L → ⊥) × ((d i : ℕ) → IsFolded n Live L d i → ⊥) × IsFirstOddWalk n Live L d links

-- a map without boundary and folds whose darts have these signs
pub record IsOriented (n : ℕ) (Live : ℕ → Type 0) (L : Links) (signs : List Sign) : Type 0 where
  pub closed : HasBoundary n Live L → ⊥
  pub unfolded : (d i : ℕ) → IsFolded n Live L d i → ⊥
  pub signed : AreSigns n Live L signs
