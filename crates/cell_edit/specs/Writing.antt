-- Lists of changes, by the entries that they write.
use Rattle.std.specs.Prelude.{ℕ, ◌≡◌, ◌≢◌, ◌+◌, ◌≤◌, ◌<◌, ◌⊎◌, ◌↔◌, ◌==◌, if◌then◌else◌, List, [], ◌++◌, length, slice_index, slice_index_or, All, Contains}
use Rattle.std.specs.List.{AllPairs}
use Rattle.map_defs.specs.Kind.{Kind, inverse, place, IsDistant}
use Rattle.map_defs.specs.Links.{Links}
use Rattle.map_defs.specs.Insertion.{IsCarrying}
use Rattle.map_defs.specs.Edits.{Change}
use Rattle.map_defs.specs.Rows.{Rows, links_of, made, IsLive}
use Rattle.sewing.specs.Triples.{Triple, Lists}
use Rattle.cell_edit.specs.Stars.{Stars, star_of}

-- The changes write just these entries, as `Entry dart link new`, each at a place of its own, over the old links.
pub record WritesEntries (L : Links) (Entry : ℕ → ℕ → ℕ → Type 0) (changes : List Change) : Type 0 where
  pub same : (c : Change) → Contains changes c ↔ (Entry c.dart c.link c.new × (c.old ≡ L c.link c.dart))
  pub once : AllPairs (λ b c. b.dart ≡ c.dart → b.link ≡ c.link → ⊥) changes

-- changes that write these entries were added behind
abbrev pub Appends : Links → (ℕ → ℕ → ℕ → Type 0) → List Change → List Change → Type 0
Appends L Entry old new = (added : List Change) × (new ≡ old ++ added) × WritesEntries L Entry added

-- the entry of link i of x, which becomes z; none where z is 0
abbrev pub IsLinkEntry : ℕ → ℕ → ℕ → ℕ → ℕ → ℕ → Type 0
IsLinkEntry x i z d t y = (d ≡ x) × (t ≡ i) × (y ≡ z) × (y ≢ 0)

-- the link of an old dart from which link t of its new dart is copied, in an insertion at link i
abbrev pub copied : Kind → ℕ → ℕ → ℕ
copied k i t = if t == i + 1 then i else inverse k t

-- What link t of the new dart of x becomes in an insertion at link i, 0 where it stays free or is left to the pairs: at
-- link i the old dart, and else the new dart of the dart where the copied link of x leads.
abbrev pub beyond : Kind → Links → ℕ → (ℕ → ℕ) → ℕ → ℕ → ℕ
beyond k L i star x t = if t == i then x else (if place k t + 1 == place k i then 0 else star (L (copied k i t) x))

-- the entries of the links below m of the new dart of x
abbrev pub IsNewEntry : Kind → Links → ℕ → (ℕ → ℕ) → ℕ → ℕ → ℕ → ℕ → ℕ → Type 0
IsNewEntry k L i star m x d t y = (d ≡ star x) × (t < m) × (y ≡ beyond k L i star x t) × (y ≢ 0)

-- the entry of link m of a new dart d, which becomes the new dart of n; none where that is 0
abbrev pub IsCopy : (ℕ → ℕ) → ℕ → ℕ → ℕ → ℕ → ℕ → ℕ → Type 0
IsCopy star new m n d t y = (d ≡ new) × (t ≡ m) × (y ≡ star n) × (y ≢ 0)

-- the entries of the links from a to below b of a new dart, in an insertion at link i, as far as they are distant from it: each
-- is copied from this row
abbrev pub IsDistantCopy : Kind → ℕ → List ℕ → (ℕ → ℕ) → ℕ → ℕ → ℕ → ℕ → ℕ → ℕ → Type 0
IsDistantCopy k i row star a b new d t y = (d ≡ new) × (a ≤ t) × (t < b) × IsDistant k i t × (y ≡ star (slice_index row (inverse k t))) × (y ≢ 0)

-- the entries of one key x, whose link i becomes its new dart
abbrev pub IsKeyEntry : Kind → Links → ℕ → (ℕ → ℕ) → ℕ → ℕ → ℕ → ℕ → ℕ → Type 0
IsKeyEntry k L i star m x d t y = ((d ≡ x) × (t ≡ i) × (y ≡ star x)) ⊎ IsNewEntry k L i star m x d t y

-- the entries of all keys
abbrev pub IsCarriedEntry : Kind → Links → ℕ → (ℕ → ℕ) → ℕ → List ℕ → ℕ → ℕ → ℕ → Type 0
IsCarriedEntry k L i star m keys d t y = (x : ℕ) × Contains keys x × IsKeyEntry k L i star m x d t y

-- the entries of the rows of new darts that are numbered on from the first
abbrev pub IsRowEntry : ℕ → List (List ℕ) → ℕ → ℕ → ℕ → Type 0
IsRowEntry first rows d t y = (p : ℕ) × (p < length rows) × (d ≡ first + p) × (y ≡ slice_index (slice_index_or rows p []) t) × (y ≢ 0)

-- the links along which the new darts lie lead from these darts to these darts
abbrev pub AreCarried : Kind → Links → ℕ → List ℕ → Type 0
AreCarried k L i keys = (x j : ℕ) → Contains keys x → IsCarrying k i j → L j x ≢ 0 → Contains keys (L j x)

-- What the changes of an insertion at link i ask of its darts.
pub record AreReady (k : Kind) (rows : Rows) (i : ℕ) (stars : Stars) : Type 0 where
  pub made : stars.made ≡ made rows
  pub live : All (IsLive rows) stars.keys
  pub carried : AreCarried k (links_of rows) i stars.keys
  -- so that a link stays free where the old one is
  pub nothing : star_of stars 0 ≡ 0

-- both darts of each pair are among these
abbrev pub ArePairsOf : List ℕ → List Triple → Type 0
ArePairsOf keys pairs = (x y t : ℕ) → Lists pairs x y t → Contains keys x × Contains keys y

-- x is one of the corners: the first dart of a pair at link 0
abbrev pub IsCornerOf : List Triple → ℕ → Type 0
IsCornerOf pairs x = (z : ℕ) × Lists pairs x z 0
