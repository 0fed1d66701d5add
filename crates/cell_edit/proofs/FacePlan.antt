-- A face along a closed path, told by the lists of its darts and of its pairs.
use Rattle.std.proofs.Common.{ℕ, ◌≢◌, ◌↔◌, List, Contains}
use Rattle.std.specs.Prelude.{All}
use Rattle.std.proofs.lemmas.List.Elements.{All-contains}
use Rattle.map_defs.specs.Kind.{Kind, alpha, beta, inverse}
use Rattle.map_defs.specs.Links.{Links}
use Rattle.map_defs.specs.Laws.{Laws}
use Rattle.map_defs.specs.Pairs.{turned, IsGood}
use Rattle.map_defs.specs.Rows.{Rows, links_of, IsLive, IsSound}
use Rattle.map_defs.specs.Insertion.{IsInsertable, IsCarrying, IsPairing, IsLinkedBy, FaceDarts, FacePairs, IsClosedPath}
use Rattle.insert_laws.proofs.Face.{alpha_face_can, beta_face_can}
use Rattle.sewing.specs.Triples.{Triple, Lists}
use Rattle.cell_edit.specs.Writing.{ArePairsOf}
use Rattle.cell_edit.proofs.PathSides.{closed-ends}
use Rattle.cell_edit.proofs.Premises.{insertable-same, orbit-live, linked-live, live-dart, pairs-among}

pub path-darts : (k : Kind) (n : ℕ) (rows : Rows) → IsSound k n rows → (path : List ℕ) → All (λ (d : ℕ). IsLive rows d) path → (b : ℕ) → Contains path b → b ≢ 0
path-darts k n rows sound path live b has = live-dart k n rows sound b (All-contains (λ (d : ℕ). IsLive rows d) path b live has)

pub face-live : (k : Kind) (n : ℕ) (rows : Rows) → IsSound k n rows → (path : List ℕ) → All (λ (d : ℕ). IsLive rows d) path → (x : ℕ) → FaceDarts k (links_of rows) path x → IsLive rows x
face-live k n rows sound path live x (b, has, o) =
    orbit-live (IsLinkedBy (links_of rows) (IsCarrying k 2)) rows (linked-live k n rows sound (IsCarrying k 2)) b x (All-contains (λ (d : ℕ). IsLive rows d) path b live has) o

face-can : (k : Kind) (L : Links) → Laws k L → (path : List ℕ) → ((b : ℕ) → Contains path b → b ≢ 0) → IsClosedPath k L path → IsGood k L (IsPairing 2) (FacePairs k L path)
    → IsInsertable k 2 (FaceDarts k L path) (FacePairs k L path) L
face-can alpha L w path darts closed good = alpha_face_can L w path (closed-ends L path closed) good darts
face-can beta L w path darts closed good = beta_face_can L path good darts

module _ (k : Kind) (L : Links) (w : Laws k L) (path : List ℕ) (darts : (b : ℕ) → Contains path b → b ≢ 0) (closed : IsClosedPath k L path) (good : IsGood k L (IsPairing 2) (FacePairs k L path))
    (keys : List ℕ) (members : (x : ℕ) → Contains keys x ↔ FaceDarts k L path x) (pairs : List Triple) (same : (x y t : ℕ) → Lists pairs x y t ↔ FacePairs k L path x y t) where
  pub face-insertable : IsInsertable k 2 (Contains keys) (Lists pairs) L
  face-insertable = insertable-same k 2 (FaceDarts k L path) (Contains keys) (FacePairs k L path) (Lists pairs) L members same
      (face-can k L w path darts closed good)

  pub face-pairs-of : ArePairsOf keys pairs
  face-pairs-of = pairs-among k 2 keys pairs L face-insertable (λ x y t has. (same y x (inverse k t)).1 (turned ((same x y t).0 has)))
