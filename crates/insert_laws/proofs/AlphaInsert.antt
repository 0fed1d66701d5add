-- The vertex and the edge that are inserted in a generalized map are insertions in general.
use Rattle.std.proofs.Common.{ℕ, ◌≡◌, ◌≢◌, ◌+◌, ◌≤◌, refl, sym, ap, inl, inr, ⊎_elim, ◌∙◌, arith}
use Rattle.map_defs.specs.Kind.{alpha}
use Rattle.map_defs.specs.Links.{Links}
use Rattle.map_defs.specs.LinkWords.{one_link}
use Rattle.map_defs.specs.Cells.{here, onward, InCell}
use Rattle.map_defs.specs.Pairs.{seed, turned, across}
use Rattle.map_defs.specs.Insertion.{IsInsertable, GoesAlong, IsCarrying, IsPairing, IsLinkedBy, NoPairs, InAlphaCorner, AlphaEdgeDarts, AlphaEdgePairs, AreAlphaEdgePaired}
use Rattle.link_laws.proofs.Orbits.{orbit_dart}
use Rattle.link_laws.proofs.Basics.{distant_alpha, distant_alpha_is}

pub alpha_vertex_can : (L : Links) (d : ℕ) → d ≢ 0 → IsInsertable alpha 0 (InCell alpha L 1 d) NoPairs L
alpha_vertex_can L d hd = record {
  own = refl;
  dart = λ x h. orbit_dart _ (λ u v s. s.3) d x hd h;
  carried = λ x j h c n. onward h (one_link j, inl (j, apart j c, refl), refl, n);
  some = λ x t h b nope. omega arith;
  begins = λ x y t p. absurd p;
  ends = λ x y t p. absurd p;
  turned = λ x y t p. absurd p;
  moves = λ x y t p. absurd p;
  across = λ x y t j p. absurd p;
  even = λ x y t j p. absurd p;
}
  where
    apart : (j : ℕ) → IsCarrying alpha 0 j → j ≢ 1
    apart j (inl e) g = omega arith
    apart j (inr f) g = ⊎_elim (λ (p : 0 + 2 ≤ j). omega arith) (λ (p : j + 2 ≤ 0). omega arith) (distant_alpha_is 0 j f)

-- the links of a corner are those along which the pairs go
carrying_pairing : (j : ℕ) → IsCarrying alpha 1 j → IsPairing 1 j
carrying_pairing j (inl e) = inl e
carrying_pairing j (inr f) = ⊎_elim (λ (p : 1 + 2 ≤ j). inr p) (λ (p : j + 2 ≤ 1). absurd (omega arith)) (distant_alpha_is 1 j f)

pairing_carrying : (j : ℕ) → IsPairing 1 j → IsCarrying alpha 1 j
pairing_carrying j (inl e) = inl e
pairing_carrying j (inr p) = inr (distant_alpha 1 j (inl p))

module _ (L : Links) (d e : ℕ) (hd : d ≢ 0) (he : e ≢ 0) (good : AreAlphaEdgePaired L d e) where
  corner_carried : (c x j : ℕ) → InAlphaCorner L c x → IsCarrying alpha 1 j → L j x ≢ 0 → InAlphaCorner L c (L j x)
  corner_carried c x j h a n = onward h (j, a, refl, n)

  edge_carried : (x j : ℕ) → AlphaEdgeDarts L d e x → IsCarrying alpha 1 j → L j x ≢ 0 → AlphaEdgeDarts L d e (L j x)
  edge_carried x j (inl h) a n = inl (corner_carried d x j h a n)
  edge_carried x j (inr h) a n = inr (corner_carried e x j h a n)

  edge_pair : (x y t : ℕ) → AlphaEdgePairs L d e x y t → AlphaEdgeDarts L d e x × AlphaEdgeDarts L d e y × (t ≡ 0)
  edge_pair x y t (seed (a, b, c)) = (inl (rw a here), inr (rw b here), c)
  edge_pair x y t (turned {x = u} {y = v} p) = let h : AlphaEdgeDarts L d e u × AlphaEdgeDarts L d e v × (t ≡ 0) = edge_pair u v t p in (h.1, h.0, h.2)
  edge_pair x y t (across {x = u} {y = v} j a p hu hv) = let h : AlphaEdgeDarts L d e u × AlphaEdgeDarts L d e v × (t ≡ 0) = edge_pair u v t p in
      (edge_carried u j h.0 (pairing_carrying j a) hu, edge_carried v j h.1 (pairing_carrying j a) hv, h.2)

  -- each dart of the corners has a pair
  paired_on : (x x' : ℕ) → IsLinkedBy L (IsCarrying alpha 1) x x' → ((y : ℕ) × AlphaEdgePairs L d e x y 0) → (y : ℕ) × AlphaEdgePairs L d e x' y 0
  paired_on x x' (j, a, q, n) (y, p) =
      let hx : L j x ≢ 0 = λ o. n (sym q ∙ o) in
      (L j y, rw (← q) (across j (carrying_pairing j a) p hx (λ o. hx ((good.even x y 0 j p (carrying_pairing j a)).1 o))))

  paired_orbit : (c x : ℕ) → ((y : ℕ) × AlphaEdgePairs L d e c y 0) → InAlphaCorner L c x → (y : ℕ) × AlphaEdgePairs L d e x y 0
  paired_orbit c x b here = b
  paired_orbit c x b (onward {x = u} {y = v} o s) = paired_on u v s (paired_orbit c u b o)

  edge_paired : (x : ℕ) → AlphaEdgeDarts L d e x → (y : ℕ) × AlphaEdgePairs L d e x y 0
  edge_paired x (inl h) = paired_orbit d x (e, seed (refl, refl, refl)) h
  edge_paired x (inr h) = paired_orbit e x (d, turned (seed (refl, refl, refl))) h

  along_pairing : (t j : ℕ) → GoesAlong alpha 1 t j → IsPairing 1 j
  along_pairing t j (inl q) = inl q
  along_pairing t j (inr f) = carrying_pairing j (inr f.0)

  pub alpha_edge_can : IsInsertable alpha 1 (AlphaEdgeDarts L d e) (AlphaEdgePairs L d e) L
  alpha_edge_can = record {
    own = refl;
    dart = λ x. ⊎_elim (orbit_dart _ (λ u v s. s.3) d x hd) (orbit_dart _ (λ u v s. s.3) e x he);
    carried = edge_carried;
    some = λ x t h b nope. let z : t ≡ 0 = omega arith in let q : (y : ℕ) × AlphaEdgePairs L d e x y 0 = edge_paired x h in nope q.0 (rw z q.1);
    begins = λ x y t p. let h = edge_pair x y t p in (h.0, ap (λ j. j + 1) h.2);
    ends = λ x y t p n. (edge_pair x y t p).1;
    turned = λ x y t p n. turned p;
    moves = good.moves;
    across = λ x y t j p a n. across j (along_pairing t j a) p n (λ o. n ((good.even x y t j p (along_pairing t j a)).1 o));
    even = λ x y t j p a. (good.even x y t j p (along_pairing t j a)).0;
  }
