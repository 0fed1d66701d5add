-- Removal at a new dart of a face is possible and gives all links back.
use Rattle.std.proofs.Common.{ℕ, ◌≡◌, ◌≢◌, ◌<◌, arith, List, length, slice_index, Contains}
use Rattle.map_defs.specs.Kind.{Kind, alpha, beta}
use Rattle.map_defs.specs.Links.{Links}
use Rattle.map_defs.specs.Laws.{Laws}
use Rattle.map_defs.specs.Cells.{here}
use Rattle.map_defs.specs.Births.{IsFresh}
use Rattle.map_defs.specs.Removal.{IsRemovable, IsRemoved}
use Rattle.map_defs.specs.Insertion.{IsInsertable, IsNext, FaceDarts, FacePairs, IsClosedPath, IsFacePaired, IsFace}
use Rattle.insert_laws.proofs.Paths.{held_at, has_next}
use Rattle.insert_laws.proofs.Face.{alpha_face_can, beta_face_can}
use Rattle.back_laws.proofs.TakenBack.{alpha_removable, alpha_back, beta_removable, beta_back}
use Rattle.back_laws.proofs.GrownFrom.{face_grows, alpha_next_grows, beta_next_grows}

first_dart : (k : Kind) (L : Links) (path : List ℕ) (x : ℕ) → FaceDarts k L path x → FaceDarts k L path (slice_index path 0)
first_dart k L path x h = (slice_index path 0, held_at path 0 (let l : h.1.0 < length path = h.1.1 in omega arith), here)

no_end_free : (L : Links) (path : List ℕ) → IsClosedPath alpha L path → (b : ℕ) → Contains path b → L 0 b ≢ 0
no_end_free L path closed b h = let q : (c : ℕ) × IsNext path b c = has_next path b h in (closed b q.0 q.1).0

pub face_removable : (k : Kind) (path : List ℕ) (x : ℕ) (star : ℕ → ℕ) (L N : Links) → Laws k L → ((b : ℕ) → Contains path b → b ≢ 0) → IsClosedPath k L path → IsFacePaired k L path → IsFresh L (FaceDarts k L path) star → IsFace k path star L N → FaceDarts k L path x → IsRemovable k N 2 (star x)
face_removable alpha path x star L N w darts closed pairs fresh s h =
    let can : IsInsertable alpha 2 (FaceDarts alpha L path) (FacePairs alpha L path) L = alpha_face_can L w path (no_end_free L path closed) pairs.good darts in
    alpha_removable 2 (FaceDarts alpha L path) (FacePairs alpha L path) star L w can fresh N s (slice_index path 0) (first_dart alpha L path x h)
    (face_grows alpha L path can (alpha_next_grows L path can (no_end_free L path closed))) x h
face_removable beta path x star L N w darts closed pairs fresh s h =
    let can : IsInsertable beta 2 (FaceDarts beta L path) (FacePairs beta L path) L = beta_face_can L path pairs.good darts in
    beta_removable 0 (FaceDarts beta L path) (FacePairs beta L path) star L w can fresh N s (slice_index path 0) (first_dart beta L path x h)
    (face_grows beta L path can (beta_next_grows L path can)) x h

pub face_back : (k : Kind) (path : List ℕ) (x : ℕ) (star : ℕ → ℕ) (L N M : Links) → Laws k L → ((b : ℕ) → Contains path b → b ≢ 0) → IsClosedPath k L path → IsFacePaired k L path → IsFresh L (FaceDarts k L path) star → IsFace k path star L N → FaceDarts k L path x → IsRemoved k 2 (star x) N M → (t y : ℕ) → M t y ≡ L t y
face_back alpha path x star L N M w darts closed pairs fresh s h r =
    let can : IsInsertable alpha 2 (FaceDarts alpha L path) (FacePairs alpha L path) L = alpha_face_can L w path (no_end_free L path closed) pairs.good darts in
    alpha_back 2 (FaceDarts alpha L path) (FacePairs alpha L path) star L w can fresh N s (slice_index path 0) (first_dart alpha L path x h)
    (face_grows alpha L path can (alpha_next_grows L path can (no_end_free L path closed))) x h M r
face_back beta path x star L N M w darts closed pairs fresh s h r =
    let can : IsInsertable beta 2 (FaceDarts beta L path) (FacePairs beta L path) L = beta_face_can L path pairs.good darts in
    beta_back 0 (FaceDarts beta L path) (FacePairs beta L path) star L w can fresh N s (slice_index path 0) (first_dart beta L path x h)
    (face_grows beta L path can (beta_next_grows L path can)) x h M r
