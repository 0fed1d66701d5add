-- Removal of a cell. Source: the textbook for generalized maps; the conditions and walks of combinatorial maps are this
-- project's. No definition speaks of the dimension n: since the links above it are free everywhere, the condition holds
-- of every cell of dimension n or n - 1, and removal of an n-cell frees the links into it.
use Rattle.std.specs.Prelude.{ℕ, zero, suc, ◌≡◌, ◌≢◌, ◌≤◌, ◌⊎◌, ◌↔◌}
use Rattle.map_defs.specs.Kind.{Kind, alpha, beta, inverse}
use Rattle.map_defs.specs.Links.{Links, IsTurned}
use Rattle.map_defs.specs.Cells.{InCell}
use Rattle.map_defs.specs.Walks.{Walk, step}

-- the steps along links i and j from b come to the same dart in either order
abbrev pub CommutesAt : Links → ℕ → ℕ → ℕ → Type 0
CommutesAt L i j b = step L i (step L j b) ≡ step L j (step L i b)

-- beyond beta 2, the side b is followed by the side before it
abbrev pub IsMatchedAt : Links → ℕ → Type 0
IsMatchedAt L b = (L 1 (L 2 b) ≢ 0) × (L 1 (L 2 b) ≡ L 2 (L 0 b))

-- the side b and the side before it are both 2-free
abbrev pub IsOpenAt : Links → ℕ → Type 0
IsOpenAt L b = (L 2 b ≡ 0) × (L 2 (L 0 b) ≡ 0)

-- a side ends where the side b begins, and on this face's other side, if there is one, nothing else meets there
abbrev pub IsFlatAt : Links → ℕ → Type 0
IsFlatAt L b = (L 0 b ≢ 0) × (IsMatchedAt L b ⊎ IsOpenAt L b)

-- What removal of an i-cell asks of each dart b of it. The smallest maps that show why:
-- alpha, 1 3, 2 5 and 4 6 joined by link 0, 3 6 by link 1, 2 6 and 4 5 by link 2: without the vertex of 2, 5 alone is 0-free.
-- beta, link 1 leading from 2 to 1 and link 3 joining them: without the vertex of 2, dart 1 is still joined to it.
abbrev pub IsRemovableAt : Kind → Links → ℕ → ℕ → Type 0
IsRemovableAt alpha L i b = CommutesAt L (suc i) (suc (suc i)) b
IsRemovableAt beta L zero b = IsFlatAt L b
IsRemovableAt beta L (suc i) b = CommutesAt L (suc (suc i)) (suc (suc (suc i))) b

-- one step of the walk across an i-cell that is removed
abbrev pub across_removed : Kind → Links → ℕ → ℕ → ℕ
across_removed alpha L i c = step L i (step L (suc i) c)
across_removed beta L i c = L i (L (suc i) c)

-- From x the run along beta 1 into the vertex C ends at y: y is the first of x, beta 1 of x and so on whose beta 1 is
-- free or outside C.
abbrev pub RunsTo : Links → (ℕ → Type 0) → ℕ → ℕ → Type 0
RunsTo L C = Walk (λ c. C (L 1 c)) (L 1)

-- no walk across the cell C joins a remaining dart to itself by link i
abbrev pub JoinsNoDart : Links → ℕ → (ℕ → Type 0) → (ℕ → ℕ) → Type 0
JoinsNoDart L i C Step = (x : ℕ) → x ≢ 0 → (C x → ⊥) → Walk C Step (L i x) x → ⊥

-- A combinatorial map's further condition: without the i-cell C no remaining dart is joined to itself by a link from 2
-- upwards. A generalized map frees such a link. The smallest map that shows why: a face with the two sides 1 and 2,
-- joined by link 2; without the vertex of 2, link 2 joins 1 to itself.
abbrev pub StaysApartWithout : Kind → Links → ℕ → (ℕ → Type 0) → Type 0
StaysApartWithout alpha L i C = Unit {0}
StaysApartWithout beta L zero C = (j x y : ℕ) → 2 ≤ j → x ≢ 0 → (C x → ⊥) → RunsTo L C x y → L j y ≢ x
StaysApartWithout beta L (suc zero) C = Unit {0}
StaysApartWithout beta L (suc (suc i)) C = JoinsNoDart L (suc (suc i)) C (across_removed beta L (suc (suc i)))

-- the i-cell of d can be removed
pub record IsRemovable (k : Kind) (L : Links) (i d : ℕ) : Type 0 where
  -- each of its darts meets the condition
  pub each : (b : ℕ) → InCell k L i d b → IsRemovableAt k L i b
  -- and in a combinatorial map no remaining dart would be joined to itself
  pub apart : StaysApartWithout k L i (InCell k L i d)

-- Link i of x after a walk that ends at y is z: it is y, but in a generalized map it is free if y is x itself.
abbrev pub Lands : Kind → ℕ → ℕ → ℕ → Type 0
Lands alpha x y z = (y ≢ x → z ≡ y) × (y ≡ x → z ≡ 0)
Lands beta x y z = z ≡ y

-- The links N after the darts of C end, where link i of a remaining dart is drawn across C by the walk Step.
pub record IsBridged (k : Kind) (i : ℕ) (C : ℕ → Type 0) (Step : ℕ → ℕ) (L N : Links) : Type 0 where
  -- a dart that ends has no links, and 0 is no dart
  pub gone : (x t : ℕ) → C x → N t x ≡ 0
  pub nothing : (t : ℕ) → N t 0 ≡ 0
  -- the other links of a remaining dart stay
  pub kept : (x t : ℕ) → (C x → ⊥) → t ≢ i → t ≢ inverse k i → N t x ≡ L t x
  -- link i of a remaining dart leads to the first dart outside C of the walk that begins at its old link i
  pub lands : (x y : ℕ) → (C x → ⊥) → Walk C Step (L i x) y → Lands k x y (N i x)
  pub turned : k ≡ beta → IsTurned N

-- The links N of a combinatorial map after the darts of the vertex C end.
pub record IsSmoothed (C : ℕ → Type 0) (L N : Links) : Type 0 where
  -- a dart that ends has no links, and 0 is no dart
  pub gone : (x t : ℕ) → C x → N t x ≡ 0
  pub nothing : (t : ℕ) → N t 0 ≡ 0
  -- a remaining dart takes the links of the dart at which its run into C ends
  pub lands : (x y t : ℕ) → (C x → ⊥) → 1 ≤ t → RunsTo L C x y → N t x ≡ L t y
  pub turned : IsTurned N

-- N are the links after the i-cell C was removed
abbrev pub AreLinksWithout : Kind → ℕ → (ℕ → Type 0) → Links → Links → Type 0
AreLinksWithout alpha i C L N = IsBridged alpha i C (across_removed alpha L i) L N
AreLinksWithout beta zero C L N = IsSmoothed C L N
AreLinksWithout beta (suc i) C L N = IsBridged beta (suc i) C (across_removed beta L (suc i)) L N

-- N are the links after the i-cell of d was removed
abbrev pub IsRemoved : Kind → ℕ → ℕ → Links → Links → Type 0
IsRemoved k i d L N = AreLinksWithout k i (InCell k L i d) L N

-- the darts of the i-cell of d end, and no dart is born
abbrev pub IsEnded : Kind → Links → ℕ → ℕ → (ℕ → Type 0) → (ℕ → Type 0) → Type 0
IsEnded k L i d Live LiveAfter = (x : ℕ) → LiveAfter x ↔ (Live x × (InCell k L i d x → ⊥))
