-- Inserting a vertex on an edge, an edge in a face, a face in a volume. Source: the inverse of the textbook's removal,
-- written out; the conditions, and the general forms for combinatorial maps, are this project's.
use Rattle.std.specs.Prelude.{ℕ, suc, ◌≡◌, ◌≢◌, ◌+◌, ◌<◌, ◌≤◌, ◌⊎◌, List, length, slice_index, Contains, AllPairs}
use Rattle.map_defs.specs.Kind.{Kind, alpha, beta, inverse, place, IsDistant}
use Rattle.map_defs.specs.Links.{Links, IsTurned}
use Rattle.map_defs.specs.LinkWords.{LinkWord, two_links}
use Rattle.map_defs.specs.Cells.{InOrbit, Leads, InCell}
use Rattle.map_defs.specs.Pairs.{InPairs, IsGood, JustOne}

-- Insertion in general: each dart x of the set K gets a new dart star x beyond its link i.
pub record IsInserted (k : Kind) (i : ℕ) (K : ℕ → Type 0) (P : ℕ → ℕ → ℕ → Type 0) (star : ℕ → ℕ) (L N : Links) : Type 0 where
  -- link i joins each dart of K with its new dart
  pub new : (x : ℕ) → K x → N i x ≡ star x
  pub old : (x : ℕ) → K x → N i (star x) ≡ x
  -- beyond the new darts lies, at the next link, what lay beyond the old ones
  pub beyond : (x : ℕ) → K x → N (suc i) (star x) ≡ star (L i x)
  -- at the link before, the new darts are joined by the pairs
  pub paired : (x y t : ℕ) → P x y t → N t (star x) ≡ star y
  -- a distant link runs as it runs at the old darts, in a combinatorial map the other way round
  pub along : (x j : ℕ) → K x → IsDistant k i j → N j (star x) ≡ star (L (inverse k j) x)
  pub kept : (x t : ℕ) → (K x → t ≢ i) → ((y : ℕ) → K y → x ≢ star y) → N t x ≡ L t x

-- the link t stands one place below the link i
abbrev pub IsJustBelow : Kind → ℕ → ℕ → Type 0
IsJustBelow k i t = place k t + 1 ≡ place k i

-- one link of the set J leads from x to the dart y
abbrev pub IsLinkedBy : Links → (ℕ → Type 0) → ℕ → ℕ → Type 0
IsLinkedBy L J x y = (j : ℕ) × J j × (L j x ≡ y) × (y ≢ 0)

-- the links along which the new darts of an insertion at link i lie: i and those distant from it
abbrev pub IsCarrying : Kind → ℕ → ℕ → Type 0
IsCarrying k i j = (j ≡ i) ⊎ IsDistant k i j

-- the links along which its pairs go: i, and those from i + 2 upwards
abbrev pub IsPairing : ℕ → ℕ → Type 0
IsPairing i j = (j ≡ i) ⊎ (i + 2 ≤ j)

-- the links along which the pairs of link t, one place below i, have to go
abbrev pub GoesAlong : Kind → ℕ → ℕ → ℕ → Type 0
GoesAlong k i t j = (j ≡ i) ⊎ (IsDistant k i j × IsDistant k t j)

-- What an insertion asks of its set K and its pairs P. A pair x, 0, t leaves link t of the new dart of x free.
pub record IsInsertable (k : Kind) (i : ℕ) (K : ℕ → Type 0) (P : ℕ → ℕ → ℕ → Type 0) (L : Links) : Type 0 where
  -- link i is its own inverse
  pub own : inverse k i ≡ i
  -- K is a set of darts that is closed under the links along which the new darts lie
  pub dart : (x : ℕ) → K x → x ≢ 0
  pub carried : (x j : ℕ) → K x → IsCarrying k i j → L j x ≢ 0 → K (L j x)
  -- each dart of K is paired at each link below i, and with a dart of K
  pub some : (x t : ℕ) → K x → IsJustBelow k i t → ((y : ℕ) → P x y t → ⊥) → ⊥
  pub begins : (x y t : ℕ) → P x y t → K x × IsJustBelow k i t
  pub ends : (x y t : ℕ) → P x y t → y ≢ 0 → K y
  pub turned : (x y t : ℕ) → P x y t → y ≢ 0 → P y x (inverse k t)
  -- a link that is its own inverse pairs no dart with itself
  pub moves : (x y t : ℕ) → P x y t → inverse k t ≡ t → x ≢ y
  -- and the pairs go along
  pub across : (x y t j : ℕ) → P x y t → GoesAlong k i t j → L j x ≢ 0 → P (L j x) (L (inverse k j) y) (inverse k t)
  pub even : (x y t j : ℕ) → P x y t → GoesAlong k i t j → L j x ≡ 0 → L (inverse k j) y ≡ 0

-- nothing is paired
abbrev pub NoPairs : ℕ → ℕ → ℕ → Type 0
NoPairs x y t = ⊥

-- A vertex on the edge of d, in a generalized map: always possible.
abbrev pub IsAlphaVertex : ℕ → (ℕ → ℕ) → Links → Links → Type 0
IsAlphaVertex d star L N = IsInserted alpha 0 (InCell alpha L 1 d) NoPairs star L N

-- Each dart x of a whole edge K of a combinatorial map gets a new dart behind it.
pub record IsSplit (K : ℕ → Type 0) (star : ℕ → ℕ) (L N : Links) : Type 0 where
  pub first : (x : ℕ) → K x → N 1 x ≡ star x
  pub second : (x : ℕ) → K x → N 1 (star x) ≡ L 1 x
  -- a dart and its new dart change places on the other sides of the edge
  pub new : (x j : ℕ) → K x → 2 ≤ j → N j x ≡ star (L j x)
  pub old : (x j : ℕ) → K x → 2 ≤ j → N j (star x) ≡ L j x
  pub kept : (x t : ℕ) → 1 ≤ t → (K x → ⊥) → ((y : ℕ) → K y → x ≢ star y) → N t x ≡ L t x
  pub turned : IsTurned N

-- a vertex on the edge of d, in a combinatorial map: always possible
abbrev pub IsBetaVertex : ℕ → (ℕ → ℕ) → Links → Links → Type 0
IsBetaVertex d star L N = IsSplit (InCell beta L 1 d) star L N

-- d and e lie on one side of one face
abbrev pub AreOnOneSide : Links → ℕ → ℕ → Type 0
AreOnOneSide L d e = InOrbit (IsLinkedBy L (λ j. j ≤ 1)) d e

-- the corner of d in a generalized map, with its copies on the other sides of the face
abbrev pub InAlphaCorner : Links → ℕ → ℕ → Type 0
InAlphaCorner L d = InOrbit (IsLinkedBy L (IsCarrying alpha 1)) d

-- An edge from the corner of d to that of e in a generalized map: the darts of the two corners, and their pairs.
abbrev pub AlphaEdgeDarts : Links → ℕ → ℕ → ℕ → Type 0
AlphaEdgeDarts L d e x = InAlphaCorner L d x ⊎ InAlphaCorner L e x

abbrev pub AlphaEdgePairs : Links → ℕ → ℕ → ℕ → ℕ → ℕ → Type 0
AlphaEdgePairs L d e = InPairs alpha L (IsPairing 1) (JustOne d e 0)

abbrev pub IsAlphaEdge : ℕ → ℕ → (ℕ → ℕ) → Links → Links → Type 0
IsAlphaEdge d e star L N = IsInserted alpha 1 (AlphaEdgeDarts L d e) (AlphaEdgePairs L d e) star L N

abbrev pub AreAlphaEdgePaired : Links → ℕ → ℕ → Type 0
AreAlphaEdgePaired L d e = IsGood alpha L (IsPairing 1) (AlphaEdgePairs L d e)

-- one step from a corner of a combinatorial map to its copy on another side of the face
abbrev pub IsCornerWord : LinkWord → Type 0
IsCornerWord w = (j : ℕ) × (3 ≤ j) × (w ≡ two_links 0 j)

-- The corner of d in a combinatorial map, with its copies on the other sides of the face. An edge asks that e does not
-- lie in it: on one dart that beta 1 joins to itself, the new dart of an edge to itself would be joined to itself by
-- beta 2.
abbrev pub InBetaCorner : Links → ℕ → ℕ → Type 0
InBetaCorner L d = InOrbit (Leads L IsCornerWord) d

-- An edge from the corner of d to that of e in a combinatorial map: the face's two ways are cut before d and before e.
abbrev pub BetaEdgeSeed : Links → ℕ → ℕ → ℕ → ℕ → ℕ → Type 0
BetaEdgeSeed L d e x y t = JustOne (L 0 d) e 1 x y t ⊎ JustOne (L 0 e) d 1 x y t

abbrev pub BetaEdgePairs : Links → ℕ → ℕ → ℕ → ℕ → ℕ → Type 0
BetaEdgePairs L d e = InPairs beta L (λ j. 3 ≤ j) (BetaEdgeSeed L d e)

-- the way that led into the corner x leads over the new edge into the corner y
abbrev pub BetaEdgeLeads : Links → ℕ → ℕ → ℕ → ℕ → Type 0
BetaEdgeLeads L d e x y = (L 0 x ≢ 0) × BetaEdgePairs L d e (L 0 x) y 1

abbrev pub BetaEdgeDarts : Links → ℕ → ℕ → ℕ → Type 0
BetaEdgeDarts L d e x = (y : ℕ) × BetaEdgeLeads L d e x y

-- Each way that led into a corner x leads over a new dart into the corner y to which Turn leads it.
pub record IsCut (Turn : ℕ → ℕ → Type 0) (star : ℕ → ℕ) (L N : Links) : Type 0 where
  pub into : (x y : ℕ) → Turn x y → N 1 (L 0 x) ≡ star x
  pub onward : (x y : ℕ) → Turn x y → N 1 (star x) ≡ y
  -- the new edge has the two ways on its two sides, and its copies lie on the other sides of the face
  pub sides : (x y : ℕ) → Turn x y → N 2 (star x) ≡ star y
  pub along : (x y j : ℕ) → Turn x y → 3 ≤ j → N j (star x) ≡ star (L j (L 0 y))
  pub kept : (x t : ℕ) → 1 ≤ t → ((c y : ℕ) → Turn c y → t ≡ 1 → x ≢ L 0 c) → ((c y : ℕ) → Turn c y → x ≢ star c) → N t x ≡ L t x
  pub turned : IsTurned N

abbrev pub IsBetaEdge : ℕ → ℕ → (ℕ → ℕ) → Links → Links → Type 0
IsBetaEdge d e star L N = IsCut (BetaEdgeLeads L d e) star L N

pub record AreBetaEdgePaired (L : Links) (d e : ℕ) : Type 0 where
  pub near : L 0 d ≢ 0
  pub far : L 0 e ≢ 0
  pub good : IsGood beta L (λ j. 3 ≤ j) (BetaEdgePairs L d e)

-- c comes next after b on the closed path
pub data IsNext (path : List ℕ) : ℕ → ℕ → Type 0 where
  inside : (p : ℕ) → suc p < length path → IsNext path (slice_index path p) (slice_index path (suc p))
  around : (p : ℕ) → suc p ≡ length path → IsNext path (slice_index path p) (slice_index path 0)

-- A face along a closed path, for both kinds: the darts of the path with their copies on the other volumes, and pairs
-- that join the end of each side to the begin of the next.
abbrev pub FaceDarts : Kind → Links → List ℕ → ℕ → Type 0
FaceDarts k L path x = (b : ℕ) × Contains path b × InOrbit (IsLinkedBy L (IsCarrying k 2)) b x

abbrev pub FaceSeed : Kind → Links → List ℕ → ℕ → ℕ → ℕ → Type 0
FaceSeed alpha L path x y t = (b : ℕ) × IsNext path b y × (x ≡ L 0 b) × (t ≡ 1)
FaceSeed beta L path x y t = IsNext path y x × (t ≡ 1)

abbrev pub FacePairs : Kind → Links → List ℕ → ℕ → ℕ → ℕ → Type 0
FacePairs k L path = InPairs k L (IsPairing 2) (FaceSeed k L path)

abbrev pub IsFace : Kind → List ℕ → (ℕ → ℕ) → Links → Links → Type 0
IsFace k path star L N = IsInserted k 2 (FaceDarts k L path) (FacePairs k L path) star L N

-- all darts of the path lie on one side of one volume
abbrev pub IsOnOneVolume : Links → List ℕ → Type 0
IsOnOneVolume L path = (b : ℕ) → Contains path b → InOrbit (IsLinkedBy L (λ j. j ≤ 2)) (slice_index path 0) b

-- around a vertex of a volume from one side of a face to the next: "2, then 1", and back
abbrev pub IsVertexWord : LinkWord → Type 0
IsVertexWord w = (w ≡ two_links 2 1) ⊎ (w ≡ two_links 0 2)

-- the side of b ends, in the volume, at the vertex where that of c begins
abbrev pub IsJoining : Kind → Links → ℕ → ℕ → Type 0
IsJoining alpha L b c = (L 0 b ≢ 0) × InOrbit (IsLinkedBy L (λ j. (j ≡ 1) ⊎ (j ≡ 2))) c (L 0 b)
IsJoining beta L b c = (L 1 b ≢ 0) × InOrbit (Leads L IsVertexWord) c (L 1 b)

-- each side of the path ends where the next begins
abbrev pub IsClosedPath : Kind → Links → List ℕ → Type 0
IsClosedPath k L path = (b c : ℕ) → IsNext path b c → IsJoining k L b c

pub record IsFacePaired (k : Kind) (L : Links) (path : List ℕ) : Type 0 where
  pub apart : AllPairs (λ x y. x ≢ y) path
  pub good : IsGood k L (IsPairing 2) (FacePairs k L path)
