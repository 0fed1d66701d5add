-- Lists of changes by which darts end, and links are drawn across them.
use Rattle.std.specs.Prelude.{ℕ, ◌≡◌, ◌≢◌, ◌<◌, ◌⊎◌, List, Contains, All}
use Rattle.std.specs.List.Sorted.{IsStrictlyIncreasing}
use Rattle.map_defs.specs.Kind.{Kind, alpha, beta, inverse}
use Rattle.map_defs.specs.Links.{Links}
use Rattle.map_defs.specs.Laws.{Laws}
use Rattle.map_defs.specs.Rows.{Rows, links_of, IsLive}
use Rattle.map_defs.specs.Walks.{Walk, step}
use Rattle.map_defs.specs.Removal.{Lands, IsBridged}

-- One step across: link a, and then link i. In a generalized map a free link leads nowhere else.
abbrev pub across : Kind → Links → ℕ → ℕ → ℕ → ℕ
across alpha L i a c = step L i (step L a c)
across beta L i a c = L i (L a c)

-- from x the walk across C, along links a and i in turn, leads to y, 0 where it comes to a free link
abbrev pub LeadsAcross : Kind → Links → ℕ → ℕ → List ℕ → ℕ → ℕ → Type 0
LeadsAcross k L i a keys x y = Walk (Contains keys) (across k L i a) x y

-- What is asked of darts that can end, where their links i are drawn across them along links a and i in turn.
pub record CanEnd (k : Kind) (rows : Rows) (i a : ℕ) (keys : List ℕ) : Type 0 where
  -- the link is its own inverse
  pub own : inverse k i ≡ i
  pub ascending : IsStrictlyIncreasing keys
  pub live : All (IsLive rows) keys
  -- no other link leads out of them
  pub closed : (x j : ℕ) → Contains keys x → j ≢ i → links_of rows j x ≢ 0 → Contains keys (links_of rows j x)
  -- each walk from a remaining dart ends
  pub ends : (x : ℕ) → (Contains keys x → ⊥) → (y : ℕ) × LeadsAcross k (links_of rows) i a keys (links_of rows i x) y
  -- and without these darts the laws are kept
  pub keeps : (N : Links) → IsBridged k i (Contains keys) (across k (links_of rows) i a) (links_of rows) N → Laws k N

-- the entries of the links below m of a dart x that ends: each link that is not free becomes free
abbrev pub IsEndingEntry : Links → ℕ → ℕ → ℕ → ℕ → ℕ → Type 0
IsEndingEntry L m x d t y = (d ≡ x) × (t < m) × (L t x ≢ 0) × (y ≡ 0)

-- the entry of the remaining dart at link i of a dart x that ends
abbrev pub IsBridgeEntry : Kind → Links → ℕ → ℕ → List ℕ → ℕ → ℕ → ℕ → ℕ → Type 0
IsBridgeEntry k L i a keys x d t y =
    (d ≡ L i x) × (d ≢ 0) × (Contains keys d → ⊥) × (t ≡ i) × ((z : ℕ) × LeadsAcross k L i a keys x z × Lands k d z y)

-- both of one dart x that ends
abbrev pub IsDartEntry : Kind → Links → ℕ → ℕ → ℕ → List ℕ → ℕ → ℕ → ℕ → ℕ → Type 0
IsDartEntry k L i a m keys x d t y = IsEndingEntry L m x d t y ⊎ IsBridgeEntry k L i a keys x d t y

-- the entries of these darts, where all darts of keys end
abbrev pub IsCellEntry : Kind → Links → ℕ → ℕ → ℕ → List ℕ → List ℕ → ℕ → ℕ → ℕ → Type 0
IsCellEntry k L i a m keys darts d t y = (x : ℕ) × Contains darts x × IsDartEntry k L i a m keys x d t y
