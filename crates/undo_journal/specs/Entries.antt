-- How a journal keeps its marks and its trail.
use Rattle.std.specs.Prelude.{ℕ, ◌≡◌, ◌≢◌, ◌↔◌, List, map, Option, Some, IfSome, String, string_bytes}
use Rattle.std.specs.Borrow.{Bor}
use Rattle.std.specs.declared.alloc.Global.{Global}
use Rattle.machine_defs.specs.Difference.{Difference}
use Rattle.trail_laws.specs.Trails.{Placed, Ahead, Trail, IsMarkOf}

-- the marks of these entries
abbrev pub placed_marks : List (String Global × ℕ) → List Placed
placed_marks entries = map (λ (e : String Global × ℕ). record { name = string_bytes e.0; place = e.1 }) entries

-- each mark's name has its number, and no other name has one
abbrev pub IsNumbered : (List ℕ → Option ℕ) → List Placed → Type 0
IsNumbered number marks = (name : List ℕ) (k : ℕ) → (number name ≡ Some k) ↔ IsMarkOf marks name k

-- the same of the names other than one that is spared
abbrev pub IsNumberedBut : Option (Bor (List ℕ)) → (List ℕ → Option ℕ) → List Placed → Type 0
IsNumberedBut spared number marks = (name : List ℕ) → IfSome spared (λ s. s.now ≢ name) → (k : ℕ) → (number name ≡ Some k) ↔ IsMarkOf marks name k

-- the trail of these steps, marks and undos
abbrev pub trail_of : List Difference → ℕ → List Placed → ℕ → List Ahead → Trail
trail_of steps at marks standing undone = record { steps = steps; at = at; marks = marks; standing = standing; undone = undone }
