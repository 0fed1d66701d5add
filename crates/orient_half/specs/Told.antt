-- What the faults of the call mean, and walks back to the first dart of a component.
use Rattle.std.specs.Prelude.{ℕ, ◌≡◌, ◌≤◌, ◌%◌, Bool, true, false, List, length, All, Some, Option, None}
use Rattle.map_defs.specs.Links.{Links}
use Rattle.half_defs.specs.Orientation.{walked, IsFirstOddWalk, OrientFault as Fault, Boundary as boundary, Folded as folded, Odd as odd}
use Rattle.orient_half.specs.declared.fault.OrientFault.{OrientFault}
use Rattle.orient_half.specs.declared.fault.OrientFault.TheVariants.{Boundary, Folded, Odd, NoMemory}
use Rattle.orient_half.specs.Marks.{Marks, sign_at}

-- what a fault says of the map; want of memory says nothing
abbrev pub told : OrientFault → Option Fault
told Boundary = Some boundary
told (Folded d i) = Some (folded d i)
told (Odd walk) = Some (odd walk.start walk.links.items)
told NoMemory = None

-- the fault is want of memory, or tells the first odd walk
abbrev pub IsOfSearch : ℕ → (ℕ → Type 0) → Links → OrientFault → Type 0
IsOfSearch n Live L Boundary = ⊥
IsOfSearch n Live L (Folded d i) = ⊥
IsOfSearch n Live L (Odd walk) = IsFirstOddWalk n Live L walk.start walk.links.items
IsOfSearch n Live L NoMemory = Unit {0}

-- how many links, of an even number, lead back from a dart of this sign to a positive one
abbrev pub odd_links : Bool → ℕ
odd_links true = 0
odd_links false = 1

-- these links lead from d back to the first dart
pub record IsWayBack (n : ℕ) (L : Links) (first : ℕ) (marks : Marks) (d : ℕ) (links : List ℕ) : Type 0 where
  pub within : All (λ i. i ≤ n) links
  pub leads : walked L d links ≡ first
  pub parity : (positive : Bool) → sign_at marks d ≡ Some positive → length links % 2 ≡ odd_links positive
