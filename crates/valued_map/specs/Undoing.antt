-- What steps that led to a map, or lead on from it, tell of the map at their other end.
use Rattle.std.specs.Prelude.{ℕ, ◌≡◌, ◌≢◌, ◌+◌, ◌≤◌, ◌<◌, ◌⊎◌, List, [], ◌∷◌, length, take, drop, Option, Some, Contains, slice_index_or, sum_by}
use Rattle.map_defs.specs.Kind.{Kind}
use Rattle.map_defs.specs.LinkWords.{LinkWord, IsCellWord, IsWithin}
use Rattle.map_defs.specs.Rows.{Rows, links_of, live_count}
use Rattle.map_defs.specs.Values.{Value}
use Rattle.map_defs.specs.Edits.{Change, IsLed, before_edit}
use Rattle.machine_defs.specs.State.{Content}
use Rattle.machine_defs.specs.Difference.{Difference, ValueChange, IsDifference}
use Rattle.machine_defs.specs.Kept.{IsLawfulContent}
use Rattle.store_defs.specs.Groups.{Group, group_at, least_of}
use Rattle.journal_laws.specs.Following.{Follows, all_put_forward, all_taken_back}

-- The steps lead to the content now: with those from number j on taken back the content is a lawful one, and step j leads
-- from it to the content one step later. The default e stands for no step, since j is within the list.
pub record AreStepsTo (now : Content) (steps : List Difference) : Type 0 where
  pub kept : (j : ℕ) → j ≤ length steps → IsLawfulContent (all_taken_back (drop j steps) now)
  pub follow : (j : ℕ) → j < length steps → Follows (all_taken_back (drop j steps) now) (all_taken_back (drop (j + 1) steps) now)
  pub differ : (j : ℕ) (e : Difference) → j < length steps
      → IsDifference (all_taken_back (drop j steps) now) (all_taken_back (drop (j + 1) steps) now) (slice_index_or steps j e)

-- The steps lead on from the content c: with the first j put forward the content is a lawful one, and step j leads from it to
-- the content one step later. The default e stands for no step, since j is within the list.
pub record AreStepsFrom (c : Content) (steps : List Difference) : Type 0 where
  pub kept : (j : ℕ) → j ≤ length steps → IsLawfulContent (all_put_forward (take j steps) c)
  pub follow : (j : ℕ) → j < length steps → Follows (all_put_forward (take j steps) c) (all_put_forward (take (j + 1) steps) c)
  pub differ : (j : ℕ) (e : Difference) → j < length steps
      → IsDifference (all_put_forward (take j steps) c) (all_put_forward (take (j + 1) steps) c) (slice_index_or steps j e)

-- the step that changes nothing
abbrev pub no_step : Difference
no_step = record { first = 0; edit = record { births = 0; deaths = []; changes = [] }; values = []; rules = [] }

abbrev pub step_at : List Difference → ℕ → Difference
step_at steps j = slice_index_or steps j no_step

-- the rows before steps, the last taken back first
abbrev pub rows_before : ℕ → List Difference → Rows → Rows
rows_before n [] rows = rows
rows_before n (s ∷ ss) rows = before_edit n s.edit (rows_before n ss rows)

-- The edit of each step leads on from the rows before it to those before the next step, and there was room for so many
-- live darts as the map had and those that the edit bore.
pub record AreEditsTo (k : Kind) (n : ℕ) (rows : Rows) (steps : List Difference) (places : ℕ) : Type 0 where
  pub led : (j : ℕ) → j < length steps → IsLed k n (step_at steps j).edit (rows_before n (drop j steps) rows) (rows_before n (drop (j + 1) steps) rows)
  pub room : (j : ℕ) → j < length steps → live_count (rows_before n (drop j steps) rows) + (step_at steps j).edit.births ≤ places

-- there is room for so many live darts as stood before each step, together with those that it bore
abbrev pub HasRoomFor : Content → List Difference → ℕ → Type 0
HasRoomFor now steps places = (j : ℕ) → j < length steps → live_count (all_taken_back (drop j steps) now).rows + (step_at steps j).edit.births ≤ places

-- how many darts the steps bear
abbrev pub births_of : List Difference → ℕ
births_of steps = sum_by (λ s. s.edit.births) steps

-- one of these changes is of dart d in dimension i
abbrev pub IsValueChanged : List ValueChange → ℕ → ℕ → Type 0
IsValueChanged cs i d = (c : ValueChange) × Contains cs c × (c.dim ≡ i) × (c.dart ≡ d)

-- some step changes the value of dart d in dimension i
abbrev pub IsRevalued : List Difference → ℕ → ℕ → Type 0
IsRevalued steps i d = (s : Difference) × Contains steps s × IsValueChanged s.values i d

-- A change of a link may reroute x along one of these words: the word follows the link from x first, or it leads x by its first
-- link to the changed dart, and then follows the link.
abbrev pub IsNearAlong : Rows → LinkWord → Change → ℕ → Type 0
IsNearAlong rows w c x = ((w.first ≡ c.link) × (x ≡ c.dart)) ⊎ ((w.second ≡ Some c.link) × (links_of rows w.first x ≡ c.dart) × (c.dart ≢ 0))

abbrev pub IsNearChange : (LinkWord → Type 0) → Rows → Change → ℕ → Type 0
IsNearChange Words rows c x = (w : LinkWord) × Words w × IsNearAlong rows w c x

-- the words of the i-cells of a map of dimension n
abbrev pub IsMapWord : Kind → ℕ → ℕ → LinkWord → Type 0
IsMapWord k n i w = IsCellWord k i w × IsWithin n w

-- The first m cells have the value of their least darts, and are else what they were.
pub record AreGivenValues (value : ℕ → Option Value) (m : ℕ) (old new : List Group) : Type 0 where
  pub size : length new ≡ length old
  pub dims : (n : ℕ) → (group_at new n).dim ≡ (group_at old n).dim
  pub darts : (n : ℕ) → (group_at new n).darts ≡ (group_at old n).darts
  pub values : (n : ℕ) → n < m → n < length old → 0 < length (group_at old n).darts → (group_at new n).value ≡ value (least_of (group_at old n))
