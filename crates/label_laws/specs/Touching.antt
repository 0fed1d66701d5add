-- The groups that a change of links touches.
use Rattle.std.specs.Prelude.{ℕ, ◌≡◌, ◌≢◌, ◌≤◌, ◌<◌, ◌⊎◌, ◌↔◌, List, Option, Some, None, IsSome, Contains}
use Rattle.map_defs.specs.Kind.{Kind}
use Rattle.map_defs.specs.Rows.{Rows, IsLive, links_of}
use Rattle.map_defs.specs.LinkWords.{LinkWord, through, IsCellWord}
use Rattle.map_defs.specs.Cells.{InCell}
use Rattle.map_defs.specs.Values.{Rule}
use Rattle.store_defs.specs.Labelings.{Labeling, id_of, HasPlaces as HasIdPlaces, KeepsPlaces}
use Rattle.store_defs.specs.Groups.{Group, rule_at, AreTouchedCells}

-- place is made for an id of each dart of the group
pub record CanLabel (dimension : ℕ) (labels : Labeling) (g : Group) : Type 0 where
  pub low : g.dim ≤ dimension
  pub places : HasIdPlaces labels g.dim
  pub darts_in : (d : ℕ) → Contains g.darts d → d ≤ labels.made

-- Some darts beyond the number `older` were given ids of these dimensions: each that of a dart of its cell which had it before.
-- All else has the id that it had.
pub record AreGrafted (k : Kind) (rows : Rows) (older : ℕ) (Dims : ℕ → Type 0) (labels after : Labeling) : Type 0 where
  pub each : (i d : ℕ) → (id_of after i d ≡ id_of labels i d)
      ⊎ (Dims i × (older < d) × (c : ℕ) × (e : ℕ) × (id_of after i d ≡ Some c) × InCell k (links_of rows) i d e × (id_of labels i e ≡ Some c))
  pub made : after.made ≡ labels.made
  pub places : KeepsPlaces labels after

-- Along the word x needs no look: it leads to no dart, or to one with the same id, and the dart to which it led before, if there
-- was one, is in the cell of x still.
pub record IsSettledAlong (k : Kind) (i : ℕ) (old new : Rows) (labels : Labeling) (w : LinkWord) (x : ℕ) : Type 0 where
  pub alike : through (links_of new) w x ≢ 0 → id_of labels i (through (links_of new) w x) ≡ id_of labels i x
  pub kept : through (links_of old) w x ≢ 0 → InCell k (links_of new) i x (through (links_of old) w x)

-- x lives before and after a change of links, and a word along which i-cells run leads elsewhere from it than before, and it is
-- not settled along this word
abbrev pub IsUnsettled : Kind → ℕ → Rows → Rows → Labeling → ℕ → Type 0
IsUnsettled k i old new labels x = IsLive old x × IsLive new x
    × ((w : LinkWord) × IsCellWord k i w × (through (links_of new) w x ≢ through (links_of old) w x) × (IsSettledAlong k i old new labels w x → ⊥))

-- x is beyond the number `older`, and a word along which i-cells run leads it to a lesser dart, beyond that number too, with
-- another id
abbrev pub IsBornApart : Kind → ℕ → Rows → ℕ → Labeling → ℕ → Type 0
IsBornApart k i rows older labels x = IsLive rows x × ((w : LinkWord) × IsCellWord k i w × (older < through (links_of rows) w x) × (through (links_of rows) w x < x)
    × (id_of labels i (through (links_of rows) w x) ≢ id_of labels i x))

-- x is beyond the number `older`, and a word along which i-cells run leads it to a lesser dart with another id
abbrev pub IsJoinedApart : Kind → ℕ → Rows → ℕ → Labeling → ℕ → Type 0
IsJoinedApart k i rows older labels x = IsLive rows x × (older < x) × ((w : LinkWord) × IsCellWord k i w × (through (links_of rows) w x ≢ 0) × (through (links_of rows) w x < x)
    × (id_of labels i (through (links_of rows) w x) ≢ id_of labels i x))

-- The darts of T spare a dimension's other cells: each i-cell without a dart of T has no ids, or one, and is all that has it.
abbrev pub Spares : Kind → ℕ → Rows → Labeling → (ℕ → Type 0) → Type 0
Spares k i rows labels T = (d : ℕ) → IsLive rows d → ((x : ℕ) → InCell k (links_of rows) i d x → T x → ⊥)
    → ((x : ℕ) → InCell k (links_of rows) i d x → id_of labels i x ≡ None) ⊎ ((c : ℕ) × ((x : ℕ) → InCell k (links_of rows) i d x ↔ (id_of labels i x ≡ Some c)))

-- The groups are just the cells with one of some darts of their dimension, and these spare the other cells of each dimension
-- that has a rule.
abbrev pub AreAllTouched : Kind → Rows → List (Option Rule) → Labeling → List Group → Type 0
AreAllTouched k rows rules labels groups = (touched : ℕ → List ℕ) × ((i x : ℕ) → Contains (touched i) x → IsLive rows x)
    × AreTouchedCells k (links_of rows) rules touched groups
    × ((i : ℕ) → IsSome (rule_at rules i) → Spares k i rows labels (Contains (touched i)))
