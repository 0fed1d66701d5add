-- Groups that give the cells of a map the values that they had.
use Rattle.std.specs.Prelude.{ℕ, ◌≡◌, ◌<◌, ◌↔◌, List, length, Option, Contains}
use Rattle.std.specs.List.Sorted.{IsStrictlyIncreasing}
use Rattle.map_defs.specs.Kind.{Kind}
use Rattle.map_defs.specs.Links.{Links}
use Rattle.map_defs.specs.Cells.{InCell}
use Rattle.map_defs.specs.Values.{Value}
use Rattle.store_defs.specs.Groups.{Group, group_at, least_of, IsBefore}
use Rattle.label_laws.specs.Changing.{IsGroupedBelow}

-- The group is a cell of live darts of one of these dimensions, and has the value that its least dart is to have.
pub record IsRestored (k : Kind) (L : Links) (Live : ℕ → Type 0) (Dims : ℕ → Type 0) (value : ℕ → ℕ → Option Value) (g : Group) : Type 0 where
  pub dim : Dims g.dim
  pub ascending : IsStrictlyIncreasing g.darts
  pub live : (d : ℕ) → Contains g.darts d → Live d
  pub whole : (d x : ℕ) → Contains g.darts d → Contains g.darts x ↔ InCell k L g.dim d x
  pub least : Contains g.darts (least_of g)
  pub is : g.value ≡ value g.dim (least_of g)

-- The groups are such cells, each once and ascending, and among them are those of all live darts that are wanted.
pub record AreRestored (k : Kind) (L : Links) (Live : ℕ → Type 0) (Dims : ℕ → Type 0) (Wanted : ℕ → ℕ → Type 0) (value : ℕ → ℕ → Option Value) (groups : List Group) : Type 0 where
  pub cells : (n : ℕ) → n < length groups → IsRestored k L Live Dims value (group_at groups n)
  pub all : (i d : ℕ) → Dims i → Wanted i d → Live d → IsGroupedBelow (length groups) groups i d
  pub ascending : (m n : ℕ) → m < n → n < length groups → IsBefore (group_at groups m) (group_at groups n)
