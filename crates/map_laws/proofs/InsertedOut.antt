-- A vertex, an edge and a face are taken out at their first new dart: generalized maps, and faces of combinatorial maps.
use Rattle.std.proofs.Common.{ℕ, ◌≢◌, ◌+◌, ◌≤◌, inl, arith, List, length, slice_index, Contains}
use Rattle.map_defs.specs.Kind.{Kind, alpha, beta}
use Rattle.map_defs.specs.Links.{Links, IsMadeUpTo}
use Rattle.map_defs.specs.Laws.{Laws}
use Rattle.map_defs.specs.Cells.{here, InCell}
use Rattle.map_defs.specs.Births.{IsNumbered, IsFresh}
use Rattle.map_defs.specs.Insertion.{IsInsertable, IsInserted, NoPairs, IsAlphaVertex, AlphaEdgeDarts, AlphaEdgePairs, AreAlphaEdgePaired, IsAlphaEdge, IsNext, FaceDarts, FacePairs, IsClosedPath, IsFacePaired, IsFace}
use Rattle.link_laws.proofs.CellOf.{all_alpha, all_beta}
use Rattle.insert_laws.proofs.Numbers.{numbered_fresh}
use Rattle.insert_laws.proofs.AlphaInsert.{alpha_vertex_can, alpha_edge_can}
use Rattle.insert_laws.proofs.Paths.{held_at, has_next}
use Rattle.insert_laws.proofs.Face.{alpha_face_can, beta_face_can}
use Rattle.back_laws.proofs.Grown.{GrowsFrom}
use Rattle.back_laws.proofs.Taken.{old_outside, new_inside}
use Rattle.back_laws.proofs.TakenBack.{alpha_removable, alpha_back, beta_removable, beta_back}
use Rattle.back_laws.proofs.GrownFrom.{alpha_vertex_grows, alpha_edge_grows, face_grows, alpha_next_grows, beta_next_grows}
use Rattle.map_laws.proofs.TakenOut.{IsTakenOut, taken-out}

-- an insertion at link i of a generalized map, in which K grows from one dart
module _ (i : ℕ) (K : ℕ → Type 0) (P : ℕ → ℕ → ℕ → Type 0) (L : Links) (w : Laws alpha L) (can : IsInsertable alpha i K P L) (b : ℕ) (hb : K b) (grows : GrowsFrom alpha i K P L b)
    (keys : List ℕ) (made : ℕ) (star : ℕ → ℕ) (m : IsNumbered K keys made star) (low : (x : ℕ) → K x → x ≤ made) (bound : IsMadeUpTo made L) (N : Links) (s : IsInserted alpha i K P star L N) where
  fresh : IsFresh L K star
  fresh = numbered_fresh K keys made star m L low bound

  alpha-out : IsTakenOut alpha i (made + 1) made (length keys) L N
  alpha-out = taken-out K keys made star m b hb alpha i L N
      (λ x h. alpha_removable i K P star L w can fresh N s b hb grows x h)
      (λ x h M r. alpha_back i K P star L w can fresh N s b hb grows x h M r)
      (λ x y h old. old_outside alpha i K P star L w can fresh all_alpha N s b hb grows x h y old)
      (λ x y h g. new_inside alpha i K P star L w can fresh all_alpha N s b hb grows x h y g)

-- and one at link 2 of a combinatorial map
module _ (K : ℕ → Type 0) (P : ℕ → ℕ → ℕ → Type 0) (L : Links) (w : Laws beta L) (can : IsInsertable beta 2 K P L) (b : ℕ) (hb : K b) (grows : GrowsFrom beta 2 K P L b)
    (keys : List ℕ) (made : ℕ) (star : ℕ → ℕ) (m : IsNumbered K keys made star) (low : (x : ℕ) → K x → x ≤ made) (bound : IsMadeUpTo made L) (N : Links) (s : IsInserted beta 2 K P star L N) where
  beta-fresh : IsFresh L K star
  beta-fresh = numbered_fresh K keys made star m L low bound

  beta-out : IsTakenOut beta 2 (made + 1) made (length keys) L N
  beta-out = taken-out K keys made star m b hb beta 2 L N
      (λ x h. beta_removable 0 K P star L w can beta-fresh N s b hb grows x h)
      (λ x h M r. beta_back 0 K P star L w can beta-fresh N s b hb grows x h M r)
      (λ x y h old. old_outside beta 2 K P star L w can beta-fresh all_beta N s b hb grows x h y old)
      (λ x y h g. new_inside beta 2 K P star L w can beta-fresh all_beta N s b hb grows x h y g)

module _ (L : Links) (keys : List ℕ) (made : ℕ) (star : ℕ → ℕ) (bound : IsMadeUpTo made L) (N : Links) where
  pub alpha-vertex-out : Laws alpha L → (d : ℕ) → d ≢ 0 → IsNumbered (InCell alpha L 1 d) keys made star → ((x : ℕ) → InCell alpha L 1 d x → x ≤ made)
      → IsAlphaVertex d star L N → IsTakenOut alpha 0 (made + 1) made (length keys) L N
  alpha-vertex-out w d hd m low s =
      let can = alpha_vertex_can L d hd in
      alpha-out 0 (InCell alpha L 1 d) NoPairs L w can d here (alpha_vertex_grows L d can) keys made star m low bound N s

  pub alpha-edge-out : Laws alpha L → (d e : ℕ) → d ≢ 0 → e ≢ 0 → AreAlphaEdgePaired L d e → IsNumbered (AlphaEdgeDarts L d e) keys made star
      → ((x : ℕ) → AlphaEdgeDarts L d e x → x ≤ made) → IsAlphaEdge d e star L N → IsTakenOut alpha 1 (made + 1) made (length keys) L N
  alpha-edge-out w d e hd he good m low s =
      let can = alpha_edge_can L d e hd he good in
      alpha-out 1 (AlphaEdgeDarts L d e) (AlphaEdgePairs L d e) L w can d (inl here) (alpha_edge_grows L d e he can) keys made star m low bound N s

  pub face-out : (k : Kind) → Laws k L → (path : List ℕ) → 1 ≤ length path → ((b : ℕ) → Contains path b → b ≢ 0) → IsClosedPath k L path → IsFacePaired k L path
      → IsNumbered (FaceDarts k L path) keys made star → ((x : ℕ) → FaceDarts k L path x → x ≤ made) → IsFace k path star L N
      → IsTakenOut k 2 (made + 1) made (length keys) L N
  face-out alpha w path some darts closed pairs m low s =
      let ends : (b : ℕ) → Contains path b → L 0 b ≢ 0 = λ b h. let q : (c : ℕ) × IsNext path b c = has_next path b h in (closed b q.0 q.1).0 in
      let can = alpha_face_can L w path ends pairs.good darts in
      alpha-out 2 (FaceDarts alpha L path) (FacePairs alpha L path) L w can (slice_index path 0) (slice_index path 0, held_at path 0 (omega (arith, some)), here)
      (face_grows alpha L path can (alpha_next_grows L path can ends)) keys made star m low bound N s
  face-out beta w path some darts closed pairs m low s =
      let can = beta_face_can L path pairs.good darts in
      beta-out (FaceDarts beta L path) (FacePairs beta L path) L w can (slice_index path 0) (slice_index path 0, held_at path 0 (omega (arith, some)), here)
      (face_grows beta L path can (beta_next_grows L path can)) keys made star m low bound N s
