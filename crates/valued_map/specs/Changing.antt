-- How a line changes a map.
use Rattle.std.specs.Prelude.{ℕ, ◌≡◌, ◌≢◌, ◌+◌, ◌-◌, ◌≤◌, ◌<◌, ◌⊎◌, List, length, Option, Some, Contains, IsSome}
use Rattle.map_defs.specs.Kind.{Kind}
use Rattle.map_defs.specs.LinkWords.{LinkWord, through, IsCellWord, IsWithin}
use Rattle.map_defs.specs.Rows.{Rows, IsLive, links_of, made}
use Rattle.map_defs.specs.Cells.{InCell}
use Rattle.map_defs.specs.Laws.{Laws}
use Rattle.map_defs.specs.Edits.{Change, Edit, IsLed}
use Rattle.map_defs.specs.Values.{Rule}
use Rattle.store_defs.specs.Labelings.{Labeling, id_of}
use Rattle.store_defs.specs.Groups.{rule_at, darts_in}
use Rattle.link_rows.specs.BornRows.{NewRows}
use Rattle.label_laws.specs.Touching.{IsSettledAlong, IsUnsettled, IsBornApart, IsJoinedApart}
use Rattle.valued_map.specs.declared.kept.Kept.{Kept}
use Rattle.valued_map.specs.Keeping.{IsKept}

-- The darts that meet Wanted and are live were added, and no dart that is not live.
pub record AreAdded (rows : Rows) (Wanted : ℕ → Type 0) (old new : List ℕ) : Type 0 where
  pub kept : (x : ℕ) → Contains old x → Contains new x
  pub live : (x : ℕ) → Contains new x → Contains old x ⊎ IsLive rows x
  pub all : (x : ℕ) → Wanted x → IsLive rows x → Contains new x

-- The list of a dimension has just these darts, and those of the others are as they were; there are none beyond it.
pub record IsListPut (dim : ℕ) (darts : List ℕ) (old new : List (List ℕ)) : Type 0 where
  pub size : length new ≤ dim + 1
  pub here : darts_in new dim ≡ darts
  pub others : (i : ℕ) → i ≢ dim → darts_in new i ≡ darts_in old i

-- A change of a link in an edit that led to the rows may leave x unsettled along a word: the word follows the link from x first,
-- and then leads elsewhere than before;
abbrev pub IsFirstUnsettled : Kind → ℕ → Edit → Rows → ℕ → Labeling → LinkWord → Change → ℕ → Type 0
IsFirstUnsettled k n e rows i labels w c x = (old : Rows) × IsLed k n e old rows
    × ((w.first ≡ c.link) × (x ≡ c.dart) × (links_of old w.first x ≡ c.old) × (links_of rows w.first x ≡ c.new)
    × (through (links_of rows) w x ≢ through (links_of old) w x) × (IsSettledAlong k i old rows labels w x → ⊥))

-- or it leads x by its first link to the changed dart, before and after, and then follows the changed link.
abbrev pub IsThenUnsettled : Kind → ℕ → Edit → Rows → ℕ → Labeling → LinkWord → Change → ℕ → Type 0
IsThenUnsettled k n e rows i labels w c x = (old : Rows) × IsLed k n e old rows
    × ((w.second ≡ Some c.link) × (links_of rows w.first x ≡ c.dart) × (links_of old w.first x ≡ c.dart) × (links_of old c.link c.dart ≡ c.old)
    × (links_of rows c.link c.dart ≡ c.new) × (IsSettledAlong k i old rows labels w x → ⊥))

abbrev pub IsUnsettledAt : Kind → ℕ → Edit → Rows → ℕ → Labeling → LinkWord → Change → ℕ → Type 0
IsUnsettledAt k n e rows i labels w c x = IsFirstUnsettled k n e rows i labels w c x ⊎ IsThenUnsettled k n e rows i labels w c x

-- The change is of a dart that lived before and lives on, and may leave x unsettled along a word of the i-cells.
abbrev pub IsUnsettledOf : Kind → ℕ → Edit → Rows → ℕ → Labeling → Change → ℕ → Type 0
IsUnsettledOf k n e rows i labels c x = (c.dart + e.births ≤ made rows) × IsLive rows c.dart × ((w : LinkWord) × (IsCellWord k i w × IsWithin n w) × IsUnsettledAt k n e rows i labels w c x)

-- some word along which i-cells run follows the link
abbrev pub IsFollowed : Kind → ℕ → ℕ → Type 0
IsFollowed k i link = (w : LinkWord) × IsCellWord k i w × ((w.first ≡ link) ⊎ (w.second ≡ Some link))

-- there are rows of new darts, and the first one is that of a dart up to this number
abbrev pub BeginBy : NewRows → ℕ → Type 0
BeginBy born number = (0 < length born.rows) × (born.first ≤ number)

-- they tell that darts lead back to the new ones by a link which some word of the i-cells follows
abbrev pub LeadsBackIn : Kind → ℕ → NewRows → Type 0
LeadsBackIn k i born = (link : ℕ) × (born.back ≡ Some link) × IsFollowed k i link

-- the change is of a live dart up to this number, and of a link which some word of the i-cells follows
abbrev pub MayReroute : Kind → ℕ → Rows → ℕ → Change → Type 0
MayReroute k i rows older c = (c.dart ≤ older) × IsLive rows c.dart × IsFollowed k i c.link

-- the edit led to the rows from lawful ones, and x is not settled along a word of the i-cells
abbrev pub IsUnsettledFrom : Kind → ℕ → Edit → Rows → ℕ → Labeling → ℕ → Type 0
IsUnsettledFrom k n e rows i labels x = (old : Rows) × IsLed k n e old rows × Laws k (links_of old) × Laws k (links_of rows) × IsUnsettled k i old rows labels x

-- the word leads x to a lesser dart
abbrev pub IsLowerAlong : Rows → LinkWord → ℕ → Type 0
IsLowerAlong rows w x = (through (links_of rows) w x ≢ 0) × (through (links_of rows) w x < x)

-- it leads x to a lesser dart with another id
abbrev pub IsApartAlong : Rows → Labeling → ℕ → LinkWord → ℕ → Type 0
IsApartAlong rows labels i w x = (through (links_of rows) w x ≢ 0) × (through (links_of rows) w x < x) × (id_of labels i (through (links_of rows) w x) ≢ id_of labels i x)

-- a dart that is lesser than x, or one to which some word leads x and that is lesser, has another id
abbrev pub IsApartFrom : Rows → Labeling → ℕ → (LinkWord → Type 0) → ℕ → ℕ → Type 0
IsApartFrom rows labels i Words lesser x = (id_of labels i lesser ≢ id_of labels i x) ⊎ ((w : LinkWord) × Words w × IsApartAlong rows labels i w x)

-- a word along which i-cells run does
abbrev pub LeadsApart : Kind → ℕ → Rows → Labeling → ℕ → Type 0
LeadsApart k i rows labels x = (w : LinkWord) × IsCellWord k i w × IsApartAlong rows labels i w x

-- a word of the i-cells leads x to a dart up to this number, which has the same id
abbrev pub IsBeside : Kind → ℕ → Rows → ℕ → Labeling → ℕ → Type 0
IsBeside k i rows older labels x = (w : LinkWord) × IsCellWord k i w × (through (links_of rows) w x ≢ 0) × (through (links_of rows) w x ≤ older)
    × (id_of labels i x ≡ id_of labels i (through (links_of rows) w x))

-- the live darts up to this number that lie in one i-cell have the same id
abbrev pub AreAlike : Kind → ℕ → Rows → ℕ → Labeling → Type 0
AreAlike k i rows older labels = (y z : ℕ) → IsLive rows y → IsLive rows z → y ≤ older → z ≤ older → InCell k (links_of rows) i y z → id_of labels i z ≡ id_of labels i y

-- none of them lies in an i-cell with one of the darts beyond a further number, the last
abbrev pub AreAside : Kind → ℕ → Rows → ℕ → ℕ → Type 0
AreAside k i rows older last = (x y : ℕ) → last < x → x ≤ made rows → y ≤ older → InCell k (links_of rows) i x y → ⊥

-- x is beyond the first number and joined apart, in a lawful map where both are so
pub record IsJoinedFrom (k : Kind) (i : ℕ) (rows : Rows) (older last : ℕ) (labels : Labeling) (x : ℕ) : Type 0 where
  pub laws : Laws k (links_of rows)
  pub alike : AreAlike k i rows older labels
  pub aside : AreAside k i rows older last
  pub joined : IsJoinedApart k i rows older labels x

-- Where the cells of the dimension are not kept, x is not settled, or it was born and lies apart; where they are, it was born and
-- joined apart.
abbrev pub IsMovedIn : Kind → ℕ → Edit → Rows → Kept → Labeling → ℕ → ℕ → Type 0
IsMovedIn k n e rows kept labels i x = ((IsKept kept i → ⊥) × (IsUnsettledFrom k n e rows i labels x ⊎ IsBornApart k i rows (made rows - e.births) labels x))
    ⊎ (IsKept kept i × IsJoinedFrom k i rows (made rows - e.births) (made rows - e.births + (e.births - kept.aside)) labels x)

-- and the dimension has a rule
abbrev pub IsChangedIn : Kind → ℕ → Edit → Rows → List (Option Rule) → Kept → Labeling → ℕ → ℕ → Type 0
IsChangedIn k n e rows rules kept labels i x = IsSome (rule_at rules i) × IsMovedIn k n e rows kept labels i x
