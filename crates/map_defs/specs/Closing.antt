-- Closing a boundary, a dangling edge at a corner, a vertex in the middle of a face. Source: CGAL's operations of these
-- names; the general forms are this project's.
use Rattle.std.specs.Prelude.{ℕ, suc, ◌≡◌, ◌≢◌, ◌≤◌, ◌⊎◌}
use Rattle.map_defs.specs.Kind.{Kind, alpha, beta, inverse, IsDistant}
use Rattle.map_defs.specs.Links.{Links, IsTurned}
use Rattle.map_defs.specs.Cells.{InCell}
use Rattle.map_defs.specs.Walks.{Walk}
use Rattle.map_defs.specs.Insertion.{InAlphaCorner, InBetaCorner}

-- the live darts that are free at link i
abbrev pub IsOpen : (ℕ → Type 0) → ℕ → Links → ℕ → Type 0
IsOpen Live i L x = Live x × (L i x ≡ 0)

-- y is the next dart free at link i after x, around the boundary: from link t of x over link i and link t again, until
-- link i is free
abbrev pub IsAround : Kind → ℕ → ℕ → Links → ℕ → ℕ → Type 0
IsAround k i t L x y = Walk (λ c. L i c ≢ 0) (λ c. L (inverse k t) (L i c)) (L (inverse k t) x) y

-- The map is closed at link i, which is from 2 upwards in a combinatorial map: a new dart on each free link.
pub record IsClosed (k : Kind) (i : ℕ) (Live : ℕ → Type 0) (star : ℕ → ℕ) (L N : Links) : Type 0 where
  pub new : (x : ℕ) → IsOpen Live i L x → N i x ≡ star x
  pub old : (x : ℕ) → IsOpen Live i L x → N i (star x) ≡ x
  pub beyond : (x : ℕ) → IsOpen Live i L x → N (suc i) (star x) ≡ 0
  -- a distant link runs as it runs at the old darts, in a combinatorial map the other way round
  pub along : (x j : ℕ) → IsOpen Live i L x → IsDistant k i j → N j (star x) ≡ star (L (inverse k j) x)
  -- the link before leads around the boundary
  pub around : (x y t : ℕ) → IsOpen Live i L x → suc t ≡ i → IsAround k i t L x y → N t (star x) ≡ star y
  pub kept : (x t : ℕ) → (IsOpen Live i L x → t ≢ i) → ((y : ℕ) → IsOpen Live i L y → x ≢ star y) → N t x ≡ L t x
  pub turned : k ≡ beta → IsTurned N

-- Two new darts for each dart x of K, the edge star x, tip x, which link 1 hangs on x. Link 1 of the tips runs as link
-- m runs at the old darts.
pub record IsHung (m : ℕ) (K : ℕ → Type 0) (star tip : ℕ → ℕ) (L N : Links) : Type 0 where
  pub new : (x : ℕ) → K x → N 1 x ≡ star x
  pub old : (x : ℕ) → K x → N 1 (star x) ≡ x
  pub ends : (x : ℕ) → K x → N 0 (star x) ≡ tip x
  pub begins : (x : ℕ) → K x → N 0 (tip x) ≡ star x
  pub beyond : (x : ℕ) → K x → N 2 (star x) ≡ star (L 1 x)
  pub beyond_tip : (x : ℕ) → K x → N 2 (tip x) ≡ tip (L 1 x)
  pub turns : (x : ℕ) → K x → N 1 (tip x) ≡ tip (L m x)
  pub along : (x j : ℕ) → K x → 3 ≤ j → N j (star x) ≡ star (L j x)
  pub along_tip : (x j : ℕ) → K x → 3 ≤ j → N j (tip x) ≡ tip (L j x)
  pub kept : (x t : ℕ) → (K x → t ≢ 1) → ((y : ℕ) → K y → x ≢ star y) → ((y : ℕ) → K y → x ≢ tip y) → N t x ≡ L t x

-- a dangling edge at the corner of d, in a generalized map: always possible
abbrev pub IsAlphaDangled : ℕ → (ℕ → ℕ) → (ℕ → ℕ) → Links → Links → Type 0
IsAlphaDangled d star tip L N = IsHung 1 (InAlphaCorner L d) star tip L N

-- a vertex in the middle of the face of d with an edge to each corner, in a generalized map
abbrev pub IsAlphaCentred : ℕ → (ℕ → ℕ) → (ℕ → ℕ) → Links → Links → Type 0
IsAlphaCentred d star tip L N = IsHung 0 (InCell alpha L 2 d) star tip L N

-- A dangling edge at the corner of d, in a combinatorial map: possible where d is not 0-free.
pub record IsBetaDangled (d : ℕ) (star tip : ℕ → ℕ) (L N : Links) : Type 0 where
  pub into : (x : ℕ) → InBetaCorner L d x → N 1 (L 0 x) ≡ star x
  pub onward : (x : ℕ) → InBetaCorner L d x → N 1 (star x) ≡ tip x
  pub out : (x : ℕ) → InBetaCorner L d x → N 1 (tip x) ≡ x
  pub sides : (x : ℕ) → InBetaCorner L d x → N 2 (star x) ≡ tip x
  pub sides_back : (x : ℕ) → InBetaCorner L d x → N 2 (tip x) ≡ star x
  pub along : (x j : ℕ) → InBetaCorner L d x → 3 ≤ j → N j (star x) ≡ tip (L j (L 0 x))
  pub along_tip : (x j : ℕ) → InBetaCorner L d x → 3 ≤ j → N j (tip x) ≡ star (L j (L 0 x))
  pub kept : (x t : ℕ) → 1 ≤ t → ((y : ℕ) → InBetaCorner L d y → t ≡ 1 → x ≢ L 0 y) → ((y : ℕ) → InBetaCorner L d y → x ≢ star y) → ((y : ℕ) → InBetaCorner L d y → x ≢ tip y) → N t x ≡ L t x
  pub turned : IsTurned N

-- A vertex in the middle of the face of d with an edge to each corner, in a combinatorial map.
pub record IsBetaCentred (d : ℕ) (star tip : ℕ → ℕ) (L N : Links) : Type 0 where
  pub into : (x : ℕ) → InCell beta L 2 d x → N 1 x ≡ star x
  pub onward : (x : ℕ) → InCell beta L 2 d x → N 1 (star x) ≡ tip x
  pub out : (x : ℕ) → InCell beta L 2 d x → N 1 (tip x) ≡ x
  pub sides : (x : ℕ) → InCell beta L 2 d x → N 2 (star x) ≡ tip (L 1 x)
  pub sides_back : (x : ℕ) → InCell beta L 2 d x → N 2 (tip x) ≡ star (L 0 x)
  pub along : (x j : ℕ) → InCell beta L 2 d x → 3 ≤ j → N j (star x) ≡ tip (L j x)
  pub along_tip : (x j : ℕ) → InCell beta L 2 d x → 3 ≤ j → N j (tip x) ≡ star (L j x)
  pub kept : (x t : ℕ) → 1 ≤ t → (InCell beta L 2 d x → t ≢ 1) → ((y : ℕ) → InCell beta L 2 d y → x ≢ star y) → ((y : ℕ) → InCell beta L 2 d y → x ≢ tip y) → N t x ≡ L t x
  pub turned : IsTurned N

-- a dangling edge at the corner of d, by kind
abbrev pub IsDangled : Kind → ℕ → (ℕ → ℕ) → (ℕ → ℕ) → Links → Links → Type 0
IsDangled alpha = IsAlphaDangled
IsDangled beta = IsBetaDangled

-- it is possible: in a combinatorial map some side leads into the corner
abbrev pub CanDangle : Kind → Links → ℕ → Type 0
CanDangle alpha L d = Unit {0}
CanDangle beta L d = L 0 d ≢ 0

-- a vertex in the middle of the face of d, by kind
abbrev pub IsCentred : Kind → ℕ → (ℕ → ℕ) → (ℕ → ℕ) → Links → Links → Type 0
IsCentred alpha = IsAlphaCentred
IsCentred beta = IsBetaCentred

-- the face of d is closed, as a vertex in its middle needs
abbrev pub IsClosedFace : Kind → Links → ℕ → Type 0
IsClosedFace k L d = (x : ℕ) → InCell k L 2 d x → (L 0 x ≢ 0) × (L 1 x ≢ 0)

-- the links along which the new faces around a vertex in the middle of a face run at the darts of the old face
abbrev pub IsBesideCentre : Kind → ℕ → Type 0
IsBesideCentre alpha j = (j ≡ 0) ⊎ (3 ≤ j)
IsBesideCentre beta j = 3 ≤ j
