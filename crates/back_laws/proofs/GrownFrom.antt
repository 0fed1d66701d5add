-- The new darts of a vertex, an edge in a generalized map, and a face are one cell.
use Rattle.std.proofs.Common.{ℕ, zero, suc, ◌≡◌, ◌≢◌, ◌<◌, refl, sym, ap, inl, inr, ◌∙◌, arith, List, length, slice_index, Contains}
use Rattle.map_defs.specs.Kind.{Kind, alpha, beta, inverse}
use Rattle.map_defs.specs.Links.{Links}
use Rattle.map_defs.specs.LinkWords.{one_link, through}
use Rattle.map_defs.specs.Cells.{InOrbit, here, onward, InCell}
use Rattle.map_defs.specs.Pairs.{seed, turned}
use Rattle.map_defs.specs.Insertion.{IsCarrying, IsLinkedBy, IsInsertable, NoPairs, AlphaEdgeDarts, AlphaEdgePairs, IsNext, inside, FaceDarts, FacePairs}
use Rattle.link_laws.proofs.Basics.{inverse_twice, IsDistant-inverse_right, IsDistant-apart, distant_alpha}
use Rattle.link_laws.proofs.Orbits.{orbit_trans}
use Rattle.insert_laws.proofs.Places.{below_apart}
use Rattle.insert_laws.proofs.Paths.{held_is, next_held}
use Rattle.insert_laws.proofs.Stands as stands
use Rattle.link_laws.proofs.CellOf.{all_alpha, word_one}
use Rattle.back_laws.proofs.Grown.{Grows, GrowsFrom}

-- links along which the new darts lie lead on, and so do pairs
grows_carried : (k : Kind) (i : ℕ) (K : ℕ → Type 0) (P : ℕ → ℕ → ℕ → Type 0) (L : Links) (x j : ℕ) → K x → IsCarrying k i j → L j x ≢ 0 → Grows k i K P L x (L j x)
grows_carried k i K P L x j h (inl e) n = record {
  link = suc i;
  other = λ o. omega arith;
  stands = stands.some h (stands.over refl (ap (λ t. L t x) e));
  dart = n;
}
grows_carried k i K P L x j h (inr f) n = record {
  link = inverse k j;
  other = λ o. IsDistant-apart k i (inverse k j) (IsDistant-inverse_right k i j f) (sym o);
  stands = stands.some h (stands.along (IsDistant-inverse_right k i j f) (ap (λ t. L t x) (sym (inverse_twice k j))));
  dart = n;
}

grows_paired : (k : Kind) (i : ℕ) (K : ℕ → Type 0) (P : ℕ → ℕ → ℕ → Type 0) (L : Links) → IsInsertable k i K P L → (x y t : ℕ) → P x y t → y ≢ 0 → Grows k i K P L x y
grows_paired k i K P L can x y t p n = record {
  link = t;
  other = below_apart k i t (can.begins x y t p).1;
  stands = stands.some (can.begins x y t p).0 (stands.paired p);
  dart = n;
}

-- an orbit along those links
orbit_grows : (k : Kind) (i : ℕ) (K : ℕ → Type 0) (P : ℕ → ℕ → ℕ → Type 0) (L : Links) → IsInsertable k i K P L → (b x : ℕ) → K b → InOrbit (IsLinkedBy L (IsCarrying k i)) b x → K x × InOrbit (Grows k i K P L) b x
orbit_grows k i K P L can b x hb here = (hb, here)
orbit_grows k i K P L can b x hb (onward {x = u} {y = v} o (j, a, e, n)) =
    let q : K u × InOrbit (Grows k i K P L) b u = orbit_grows k i K P L can b u hb o in
    let m : L j u ≢ 0 = λ z. n (sym e ∙ z) in
    (rw (← e) (can.carried u j q.0 a m), rw (← e) (onward q.1 (grows_carried k i K P L u j q.0 a m)))

-- the cell of an edge runs along the links that carry a vertex
cell_linked : (L : Links) (d x : ℕ) → InCell alpha L 1 d x → InOrbit (IsLinkedBy L (IsCarrying alpha 0)) d x
cell_linked L d x here = here
cell_linked L d x (onward {x = u} {y = v} o (word, c, e, n)) =
    let q : (j : ℕ) × (j ≢ 1) × (word ≡ one_link j) = word_one alpha 1 all_alpha word c in
    onward (cell_linked L d u o) (q.0, carrying q.0 q.1, ap (λ s. through L s u) (sym q.2) ∙ e, n)
  where
    carrying : (j : ℕ) → j ≢ 1 → IsCarrying alpha 0 j
    carrying zero n = inl refl
    carrying (suc zero) n = absurd (n refl)
    carrying (suc (suc j)) n = inr (distant_alpha 0 (suc (suc j)) (inl (omega arith)))

pub alpha_vertex_grows : (L : Links) (d : ℕ) → IsInsertable alpha 0 (InCell alpha L 1 d) NoPairs L → GrowsFrom alpha 0 (InCell alpha L 1 d) NoPairs L d
alpha_vertex_grows L d can x h = (orbit_grows alpha 0 (InCell alpha L 1 d) NoPairs L can d x here (cell_linked L d x h)).1

pub alpha_edge_grows : (L : Links) (d e : ℕ) → e ≢ 0 → IsInsertable alpha 1 (AlphaEdgeDarts L d e) (AlphaEdgePairs L d e) L → GrowsFrom alpha 1 (AlphaEdgeDarts L d e) (AlphaEdgePairs L d e) L d
alpha_edge_grows L d e he can x (inl h) = (orbit_grows alpha 1 (AlphaEdgeDarts L d e) (AlphaEdgePairs L d e) L can d x (inl here) h).1
alpha_edge_grows L d e he can x (inr h) =
    let first : InOrbit (Grows alpha 1 (AlphaEdgeDarts L d e) (AlphaEdgePairs L d e) L) d e = onward here (grows_paired alpha 1 (AlphaEdgeDarts L d e) (AlphaEdgePairs L d e) L can d e 0 (seed (refl, refl, refl)) he) in
    orbit_trans (Grows alpha 1 (AlphaEdgeDarts L d e) (AlphaEdgePairs L d e) L) d e x first (orbit_grows alpha 1 (AlphaEdgeDarts L d e) (AlphaEdgePairs L d e) L can e x (inr here) h).1

-- from each dart of a path to the next
module _ (k : Kind) (L : Links) (path : List ℕ) (can : IsInsertable k 2 (FaceDarts k L path) (FacePairs k L path) L)
    (on : (b c : ℕ) → IsNext path b c → InOrbit (Grows k 2 (FaceDarts k L path) (FacePairs k L path) L) b c) where
  Growing : ℕ → ℕ → Type 0
  Growing = InOrbit (Grows k 2 (FaceDarts k L path) (FacePairs k L path) L)

  path_grows : (p : ℕ) → p < length path → Growing (slice_index path 0) (slice_index path p)
  unfolding Growing
  path_grows zero l = here
  path_grows (suc p) l = orbit_trans (Grows k 2 (FaceDarts k L path) (FacePairs k L path) L) (slice_index path 0) (slice_index path p) (slice_index path (suc p))
      (path_grows p (omega arith)) (on (slice_index path p) (slice_index path (suc p)) (inside p l))

  pub face_grows : GrowsFrom k 2 (FaceDarts k L path) (FacePairs k L path) L (slice_index path 0)
  unfolding Growing
  face_grows x (b, h, o) =
      let q : InOrbit (Grows k 2 (FaceDarts k L path) (FacePairs k L path) L) (slice_index path 0) b = rw (held_is path b h) at (path_grows h.0 h.1) in
      orbit_trans (Grows k 2 (FaceDarts k L path) (FacePairs k L path) L) (slice_index path 0) b x q
      (orbit_grows k 2 (FaceDarts k L path) (FacePairs k L path) L can b x (b, h, here) o).1

pub alpha_next_grows : (L : Links) (path : List ℕ) → IsInsertable alpha 2 (FaceDarts alpha L path) (FacePairs alpha L path) L → ((b : ℕ) → Contains path b → L 0 b ≢ 0)
    → (b c : ℕ) → IsNext path b c → InOrbit (Grows alpha 2 (FaceDarts alpha L path) (FacePairs alpha L path) L) b c
alpha_next_grows L path can ends b c n =
    let h : Contains path b × Contains path c = next_held path b c n in
    let first : Grows alpha 2 (FaceDarts alpha L path) (FacePairs alpha L path) L b (L 0 b) =
    grows_carried alpha 2 (FaceDarts alpha L path) (FacePairs alpha L path) L b 0 (b, h.0, here) (inr (distant_alpha 2 0 (inr (omega arith)))) (ends b h.0) in
    onward (onward here first) (grows_paired alpha 2 (FaceDarts alpha L path) (FacePairs alpha L path) L can (L 0 b) c 1 (seed (b, n, refl, refl)) (can.dart c (c, h.1, here)))

pub beta_next_grows : (L : Links) (path : List ℕ) → IsInsertable beta 2 (FaceDarts beta L path) (FacePairs beta L path) L
    → (b c : ℕ) → IsNext path b c → InOrbit (Grows beta 2 (FaceDarts beta L path) (FacePairs beta L path) L) b c
beta_next_grows L path can b c n =
    let h : Contains path b × Contains path c = next_held path b c n in
    onward here (grows_paired beta 2 (FaceDarts beta L path) (FacePairs beta L path) L can b c 0 (turned (seed (n, refl))) (can.dart c (c, h.1, here)))
