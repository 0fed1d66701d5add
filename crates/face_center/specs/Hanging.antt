-- Edges that are hung on the darts of a corner or of a face: what the links of the new darts become, and the entries that are
-- written.
use Rattle.std.specs.Prelude.{ℕ, zero, suc, ◌≡◌, ◌≢◌, ◌+◌, ◌<◌, ◌≤◌, ◌⊎◌, List, [], length, Contains, All}
use Rattle.std.specs.List.Sorted.{IsStrictlyIncreasing}
use Rattle.map_defs.specs.Kind.{Kind, alpha, beta}
use Rattle.map_defs.specs.Links.{Links}
use Rattle.map_defs.specs.Rows.{Rows, links_of, made, made_max, IsLive}
use Rattle.map_defs.specs.Edits.{Edit}
use Rattle.cell_edit.specs.Stars.{Stars, number_from, star_of}
use Rattle.cell_edit.specs.Writing.{WritesEntries, IsLinkEntry}
use Rattle.face_center.specs.declared.hanging.Hanging.{Hanging}
use Rattle.face_center.specs.declared.hanging.Hanging.TheVariants.{Corner, Face}

-- the end of the new edge of x: the ends are numbered on from the starts
abbrev pub tip_of : Stars → ℕ → ℕ
tip_of stars x = number_from (stars.made + length stars.keys + 1) stars.keys x

-- the dart whose link 1 becomes the start of the new edge of x
abbrev pub before : Kind → Hanging → Links → ℕ → ℕ
before alpha h L x = x
before beta Corner L x = L 0 x
before beta Face L x = x

-- the link beside which link 1 of the ends runs, in a generalized map
abbrev pub turning : Hanging → ℕ
turning Corner = 1
turning Face = 0

-- link 2 of the new darts of x leads to new darts of this dart, in a combinatorial map: on a face, to those of the next side,
-- along link s
abbrev pub across : Hanging → Links → ℕ → ℕ → ℕ
across Corner L s x = x
across Face L s x = L s x

-- link t of the new darts of x leads to new darts of this dart; the side s is 1 at the start of the new edge, and 0 at its end
abbrev pub beside : Kind → Hanging → Links → ℕ → ℕ → ℕ → ℕ
beside alpha h L s x zero = x
beside alpha h L s x (suc zero) = L (turning h) x
beside alpha h L s x (suc (suc zero)) = L 1 x
beside alpha h L s x (suc (suc (suc t))) = L (suc (suc (suc t))) x
beside beta h L s x zero = x
beside beta h L s x (suc zero) = x
beside beta h L s x (suc (suc zero)) = across h L s x
beside beta h L s x (suc (suc (suc t))) = L (suc (suc (suc t))) (before beta h L x)

-- what link t becomes at the start of the new edge of x, 0 where it stays free
abbrev pub star_link : Kind → Hanging → Links → (ℕ → ℕ) → (ℕ → ℕ) → ℕ → ℕ → ℕ
star_link alpha h L star tip x zero = tip x
star_link alpha h L star tip x (suc zero) = x
star_link alpha h L star tip x (suc (suc t)) = star (beside alpha h L 1 x (suc (suc t)))
star_link beta h L star tip x zero = before beta h L x
star_link beta h L star tip x (suc t) = tip (beside beta h L 1 x (suc t))

-- and at its end
abbrev pub tip_link : Kind → Hanging → Links → (ℕ → ℕ) → (ℕ → ℕ) → ℕ → ℕ → ℕ
tip_link alpha h L star tip x zero = star x
tip_link alpha h L star tip x (suc t) = tip (beside alpha h L 0 x (suc t))
tip_link beta h L star tip x zero = star x
tip_link beta h L star tip x (suc zero) = x
tip_link beta h L star tip x (suc (suc t)) = star (beside beta h L 0 x (suc (suc t)))

-- the entries of the links below m of the new darts of x
abbrev pub IsNewEntry : Kind → Hanging → Links → (ℕ → ℕ) → (ℕ → ℕ) → ℕ → ℕ → ℕ → ℕ → ℕ → Type 0
IsNewEntry k h L star tip m x d t y =
    (t < m) × (IsLinkEntry (star x) t (star_link k h L star tip x t) d t y ⊎ IsLinkEntry (tip x) t (tip_link k h L star tip x t) d t y)

-- in a combinatorial map link 0 of x becomes the end of its new edge
abbrev pub IsBackEntry : Kind → (ℕ → ℕ) → ℕ → ℕ → ℕ → ℕ → Type 0
IsBackEntry k tip x d t y = (k ≡ beta) × IsLinkEntry x 0 (tip x) d t y

-- the entries of old darts at x
abbrev pub IsOldEntry : Kind → Hanging → Links → (ℕ → ℕ) → (ℕ → ℕ) → ℕ → ℕ → ℕ → ℕ → Type 0
IsOldEntry k h L star tip x d t y = IsLinkEntry (before k h L x) 1 (star x) d t y ⊎ IsBackEntry k tip x d t y

-- all entries of x
abbrev pub IsHungEntry : Kind → Hanging → Links → (ℕ → ℕ) → (ℕ → ℕ) → ℕ → ℕ → ℕ → ℕ → ℕ → Type 0
IsHungEntry k h L star tip m x d t y = IsOldEntry k h L star tip x d t y ⊎ IsNewEntry k h L star tip m x d t y

-- and those of all keys
abbrev pub AreHungEntries : Kind → Hanging → Links → (ℕ → ℕ) → (ℕ → ℕ) → ℕ → List ℕ → ℕ → ℕ → ℕ → Type 0
AreHungEntries k h L star tip m keys d t y = (x : ℕ) × Contains keys x × IsHungEntry k h L star tip m x d t y

-- What is asked of darts that get two new darts each: the numbers of these are no more than a number holds.
pub record CanPair (stars : Stars) : Type 0 where
  pub few : stars.made ≤ made_max
  pub count : length stars.keys ≤ stars.made
  pub rising : IsStrictlyIncreasing stars.keys
  -- 0 is none of them, so that a link stays free where the old one is
  pub darts : (x : ℕ) → Contains stars.keys x → x ≢ 0

-- What is asked of darts on which edges are hung.
pub record CanHang (k : Kind) (rows : Rows) (h : Hanging) (stars : Stars) : Type 0 where
  pub pair : CanPair stars
  pub made : stars.made ≡ made rows
  pub live : All (IsLive rows) stars.keys
  -- there is a dart before each
  pub begins : (x : ℕ) → Contains stars.keys x → IsLive rows (before k h (links_of rows) x)
  -- the links of their new darts lead to new darts of these darts
  pub closed : (x s t : ℕ) → Contains stars.keys x → s ≤ 1 → beside k h (links_of rows) s x t ≢ 0 → Contains stars.keys (beside k h (links_of rows) s x t)

-- The edit makes two new darts for each of these darts, ends none, and writes the entries of the edges that are hung.
pub record HangsEdges (k : Kind) (n : ℕ) (rows : Rows) (h : Hanging) (stars : Stars) (edit : Edit) : Type 0 where
  pub deaths : edit.deaths ≡ []
  pub births : edit.births ≡ length stars.keys + length stars.keys
  pub writes : WritesEntries (links_of rows) (AreHungEntries k h (links_of rows) (star_of stars) (tip_of stars) (n + 1) stars.keys) edit.changes
