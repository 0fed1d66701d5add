-- Removal and contraction in a combinatorial map along a link, as links that are drawn across a cell.
use Rattle.std.proofs.Common.{◌≡◌, ◌≢◌, ◌⊎◌, ◌+◌, ◌≤◌, ◌↔◌, ℕ, zero, suc, inl, inr, refl, arith}
use Rattle.map_defs.specs.Kind.{beta, inverse, IsDistant}
use Rattle.map_defs.specs.Links.{Links, IsMadeUpTo}
use Rattle.map_defs.specs.Laws.{Laws}
use Rattle.map_defs.specs.Cells.{InCell, here}
use Rattle.map_defs.specs.Walks.{Walk}
use Rattle.map_defs.specs.Removal.{IsBridged, CommutesAt, IsRemovable, IsRemoved, JoinsNoDart}
use Rattle.map_defs.specs.Contraction.{IsContractible, IsContracted}
use Rattle.link_laws.proofs.Relink.{IsEither}
use Rattle.remove_laws.proofs.Walked.{CanBeWalked, IsWalked, walked_laws}
use Rattle.remove_laws.proofs.BetaCrossed.{by_link}
use Rattle.remove_laws.proofs.BetaCases.{cell_inside, edge_inside, edge_walked, face_walked, volume_walked}

-- beside link i from 1 upwards, the next link is distant from all that are distant from i, but for one
near_above : (i t : ℕ) → 1 ≤ i → IsDistant beta i t → (t ≡ suc (suc i)) ⊎ IsDistant beta (suc i) t
unfolding IsDistant
near_above zero t h far = absurd (omega arith)
near_above (suc i) zero h far = grind arith
near_above (suc i) (suc t) h far = grind arith

near_below : (i t : ℕ) → 2 ≤ i → IsDistant beta (suc (suc i)) t → (t ≡ i) ⊎ IsDistant beta (suc i) t
unfolding IsDistant
near_below i zero h far = inr (inr (omega arith))
near_below i (suc t) h far = grind arith

neither_edge : IsEither beta 1 2 → ⊥
neither_edge (inl e) = omega arith
neither_edge (inr e) = omega arith

neither_above : (i : ℕ) → IsEither beta (suc (suc i)) (suc (suc (suc i))) → ⊥
neither_above i (inl e) = omega arith
neither_above i (inr e) = omega arith

neither_below : (i : ℕ) → IsEither beta (suc (suc (suc i))) (suc (suc i)) → ⊥
neither_below i (inl e) = omega arith
neither_below i (inr e) = omega arith

-- where link i + 1 is its own inverse, no remaining dart is joined to itself
abbrev StaysApart : ℕ → (ℕ → Type 0) → (ℕ → ℕ) → Links → Type 0
StaysApart zero C Q L = Unit {0}
StaysApart (suc i) C Q L = JoinsNoDart L (suc (suc i)) C (λ z. L (suc (suc i)) (Q z))

walked_of : (i : ℕ) (C : ℕ → Type 0) (Q : ℕ → ℕ) (L N : Links) → IsBridged beta (suc i) C (λ z. L (suc i) (Q z)) L N → StaysApart i C Q L → IsWalked (suc i) C Q L N
walked_of i C Q L N b a = record {
  gone = b.gone;
  nothing = b.nothing;
  kept = λ x t n m. b.kept x t n (λ e. m (inl e)) (λ e. m (inr e));
  lands = b.lands;
  turned = turned i b;
  apart = apart i a;
}
  where
    turned : (i : ℕ) → IsBridged beta (suc i) C (λ z. L (suc i) (Q z)) L N → inverse beta (suc i) ≢ suc i → (x y : ℕ) → x ≢ 0 → y ≢ 0 → (N (suc i) x ≡ y) ↔ (N (inverse beta (suc i)) y ≡ x)
    turned zero b m = (b.turned refl).back
    turned (suc i) b m = absurd (m refl)

    apart : (i : ℕ) → StaysApart i C Q L → inverse beta (suc i) ≡ suc i → (x : ℕ) → x ≢ 0 → (C x → ⊥) → Walk C (λ z. L (suc i) (Q z)) (L (suc i) x) x → ⊥
    apart zero a e = absurd (omega arith)
    apart (suc i) a e = a

module _ (L : Links) (w : Laws beta L) (made d : ℕ) (live : d ≢ 0) (bound : IsMadeUpTo made L) where
  pub removed_walked : (i : ℕ) → IsRemovable beta L (suc i) d → CanBeWalked (suc i) (made + d) (InCell beta L (suc i) d) (L (suc (suc i))) L
  removed_walked zero r = by_link L w made d live bound 1 2 3 (omega arith) (omega arith) neither_edge (λ j far. near_above 1 j (omega arith) far) (edge_inside L w made d live bound) r.each
  removed_walked (suc i) r = by_link L w made d live bound (suc (suc i)) (suc (suc (suc i))) (suc (suc (suc (suc i)))) (omega arith) (omega arith) (neither_above i) (λ j far. near_above (suc (suc i)) j (omega arith) far) (cell_inside L w made d live bound i) r.each

  pub contracted_walked : (i : ℕ) → ((b : ℕ) → InCell beta L (suc (suc (suc (suc i)))) d b → CommutesAt L (suc (suc (suc i))) (suc (suc i)) b) → CanBeWalked (suc (suc (suc (suc i)))) (made + d) (InCell beta L (suc (suc (suc (suc i)))) d) (L (suc (suc (suc i)))) L
  contracted_walked i each = by_link L w made d live bound (suc (suc (suc (suc i)))) (suc (suc (suc i))) (suc (suc i)) (omega arith) (omega arith) (neither_below (suc i)) (λ j far. near_below (suc (suc i)) j (omega arith) far) (cell_inside L w made d live bound (suc (suc i))) each

  pub beta_removed : (N : Links) (i : ℕ) → IsRemovable beta L (suc i) d → IsRemoved beta (suc i) d L N → Laws beta N
  beta_removed N i r b = walked_laws (suc i) (made + d) (InCell beta L (suc i) d) (L (suc (suc i))) L N (removed_walked i r) (walked_of i (InCell beta L (suc i) d) (L (suc (suc i))) L N b (apart i r))
    where
      apart : (i : ℕ) → IsRemovable beta L (suc i) d → StaysApart i (InCell beta L (suc i) d) (L (suc (suc i))) L
      apart zero r = tt
      apart (suc i) r = r.apart

  pub beta_contracted : (N : Links) (i : ℕ) → IsContractible beta L i d → IsContracted beta i d L N → Laws beta N
  beta_contracted N zero r b = absurd (r.each d here)
  beta_contracted N (suc zero) r b = walked_laws 1 (made + d) (InCell beta L 1 d) (λ c. c) L N (edge_walked L w made d live bound) (walked_of 0 (InCell beta L 1 d) (λ c. c) L N b tt)
  beta_contracted N (suc (suc zero)) r b = walked_laws 2 (made + d) (InCell beta L 2 d) (L 0) L N (face_walked L w made d live bound r.each) (walked_of 1 (InCell beta L 2 d) (L 0) L N b r.apart)
  beta_contracted N (suc (suc (suc zero))) r b = walked_laws 3 (made + d) (InCell beta L 3 d) (L 2) L N (volume_walked L w made d live bound r.each) (walked_of 2 (InCell beta L 3 d) (L 2) L N b r.apart)
  beta_contracted N (suc (suc (suc (suc i)))) r b = walked_laws _ (made + d) (InCell beta L (suc (suc (suc (suc i)))) d) (L (suc (suc (suc i)))) L N (contracted_walked i r.each) (walked_of (suc (suc (suc i))) (InCell beta L (suc (suc (suc (suc i)))) d) (L (suc (suc (suc i)))) L N b r.apart)
