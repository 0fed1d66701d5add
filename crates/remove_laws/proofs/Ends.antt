-- The walks across a cell that can be removed or contracted come to an end.
use Rattle.std.proofs.Common.{◌≡◌, ◌≢◌, ◌+◌, ℕ, zero, suc, refl, sym, subst}
use Rattle.map_defs.specs.Kind.{Kind, alpha, beta}
use Rattle.map_defs.specs.Links.{Links, IsMadeUpTo}
use Rattle.map_defs.specs.Laws.{Laws}
use Rattle.map_defs.specs.Cells.{InCell, here}
use Rattle.map_defs.specs.Walks.{Walk, IsTold}
use Rattle.map_defs.specs.Removal.{RunsTo, IsRemovable, across_removed}
use Rattle.map_defs.specs.Contraction.{IsContractible, across_contracted}
use Rattle.link_laws.proofs.LawFacts.{link_one}
use Rattle.remove_laws.proofs.AlphaRemoval.{crossed_ends, crossed_found, removed_crossed, edge_crossed, contracted_crossed}
use Rattle.remove_laws.proofs.Walked.{walk_ends, walk_found, walk_back_one}
use Rattle.remove_laws.proofs.BetaRemoval.{removed_walked, contracted_walked}
use Rattle.remove_laws.proofs.BetaCases.{edge_walked, face_walked, volume_walked}
use Rattle.remove_laws.proofs.Smoothed.{run_back_one}
use Rattle.remove_laws.proofs.Removed.{vertex_smoothed}

-- it cannot be that no walk from link i of x ends
abbrev pub MustEnd : Links → ℕ → (ℕ → Type 0) → (ℕ → ℕ) → ℕ → Type 0
MustEnd L i C Step x = ((y : ℕ) → Walk C Step (L i x) y → ⊥) → ⊥

module _ (made d : ℕ) (L : Links) (bound : IsMadeUpTo made L) (live : d ≢ 0) where
  pub removal_ends : (k : Kind) (i : ℕ) → Laws k L → (k ≡ beta → i ≢ 0) → IsRemovable k L i d → (x : ℕ) → (InCell k L i d x → ⊥) → MustEnd L i (InCell k L i d) (across_removed k L i) x
  removal_ends alpha i w h r x n = crossed_ends i (suc i) (made + d) (InCell alpha L i d) L (removed_crossed L w made i d bound live r) x n
  removal_ends beta zero w h r x n = absurd (h refl refl)
  removal_ends beta (suc i) w h r x n = walk_ends (suc i) (made + d) (InCell beta L (suc i) d) (L (suc (suc i))) L (removed_walked L w made d live bound i r) (suc i) x n

  pub removal_found : (k : Kind) (i : ℕ) → Laws k L → (k ≡ beta → i ≢ 0) → IsRemovable k L i d → IsTold (InCell k L i d) → (x : ℕ) → (InCell k L i d x → ⊥) → (y : ℕ) × Walk (InCell k L i d) (across_removed k L i) (L i x) y
  removal_found alpha i w h r t x n = crossed_found i (suc i) (made + d) (InCell alpha L i d) L (removed_crossed L w made i d bound live r) t x n
  removal_found beta zero w h r t x n = absurd (h refl refl)
  removal_found beta (suc i) w h r t x n = walk_found (suc i) (made + d) (InCell beta L (suc i) d) (L (suc (suc i))) L (removed_walked L w made d live bound i r) t (suc i) x n

  pub contraction_ends : (k : Kind) (i : ℕ) → Laws k L → IsContractible k L i d → (x : ℕ) → (InCell k L i d x → ⊥) → MustEnd L i (InCell k L i d) (across_contracted k L i) x
  contraction_ends k zero w r x n = absurd (r.each d here)
  contraction_ends alpha (suc zero) w r x n = crossed_ends 1 0 (made + d) (InCell alpha L 1 d) L (edge_crossed L w made d bound live) x n
  contraction_ends alpha (suc (suc i)) w r x n = crossed_ends (suc (suc i)) (suc i) (made + d) (InCell alpha L (suc (suc i)) d) L (contracted_crossed L w made d bound live i r) x n
  contraction_ends beta (suc zero) w r x n = walk_ends 1 (made + d) (InCell beta L 1 d) (λ c. c) L (edge_walked L w made d live bound) 1 x n
  contraction_ends beta (suc (suc zero)) w r x n = walk_ends 2 (made + d) (InCell beta L 2 d) (L 0) L (face_walked L w made d live bound r.each) 2 x n
  contraction_ends beta (suc (suc (suc zero))) w r x n = walk_ends 3 (made + d) (InCell beta L 3 d) (L 2) L (volume_walked L w made d live bound r.each) 3 x n
  contraction_ends beta (suc (suc (suc (suc i)))) w r x n = walk_ends (suc (suc (suc (suc i)))) (made + d) (InCell beta L (suc (suc (suc (suc i)))) d) (L (suc (suc (suc i)))) L (contracted_walked L w made d live bound i r.each) (suc (suc (suc (suc i)))) x n

  pub contraction_found : (k : Kind) (i : ℕ) → Laws k L → IsContractible k L i d → IsTold (InCell k L i d) → (x : ℕ) → (InCell k L i d x → ⊥) → (y : ℕ) × Walk (InCell k L i d) (across_contracted k L i) (L i x) y
  contraction_found k zero w r t x n = absurd (r.each d here)
  contraction_found alpha (suc zero) w r t x n = crossed_found 1 0 (made + d) (InCell alpha L 1 d) L (edge_crossed L w made d bound live) t x n
  contraction_found alpha (suc (suc i)) w r t x n = crossed_found (suc (suc i)) (suc i) (made + d) (InCell alpha L (suc (suc i)) d) L (contracted_crossed L w made d bound live i r) t x n
  contraction_found beta (suc zero) w r t x n = walk_found 1 (made + d) (InCell beta L 1 d) (λ c. c) L (edge_walked L w made d live bound) t 1 x n
  contraction_found beta (suc (suc zero)) w r t x n = walk_found 2 (made + d) (InCell beta L 2 d) (L 0) L (face_walked L w made d live bound r.each) t 2 x n
  contraction_found beta (suc (suc (suc zero))) w r t x n = walk_found 3 (made + d) (InCell beta L 3 d) (L 2) L (volume_walked L w made d live bound r.each) t 3 x n
  contraction_found beta (suc (suc (suc (suc i)))) w r t x n = walk_found (suc (suc (suc (suc i)))) (made + d) (InCell beta L (suc (suc (suc (suc i)))) d) (L (suc (suc (suc i)))) L (contracted_walked L w made d live bound i r.each) t (suc (suc (suc (suc i)))) x n

  module _ (w : Laws beta L) where
    pub edge_back_one : IsRemovable beta L 1 d → (x y z : ℕ) → (InCell beta L 1 d x → ⊥) → (InCell beta L 1 d y → ⊥) → z ≢ 0
        → Walk (InCell beta L 1 d) (across_removed beta L 1) (L 1 x) z → Walk (InCell beta L 1 d) (across_removed beta L 1) (L 1 y) z → x ≡ y
    edge_back_one r x y z n m h v u = walk_back_one 1 (made + d) (InCell beta L 1 d) (L 2) L (removed_walked L w made d live bound 0 r) 1 x y z n m h v u

    pub contracted_back_one : (x y z : ℕ) → (InCell beta L 1 d x → ⊥) → (InCell beta L 1 d y → ⊥) → z ≢ 0
        → Walk (InCell beta L 1 d) (across_contracted beta L 1) (L 1 x) z → Walk (InCell beta L 1 d) (across_contracted beta L 1) (L 1 y) z → x ≡ y
    contracted_back_one x y z n m h v u = walk_back_one 1 (made + d) (InCell beta L 1 d) (λ c. c) L (edge_walked L w made d live bound) 1 x y z n m h v u

    pub vertex_back_one : IsRemovable beta L 0 d → (x y u v : ℕ) → (InCell beta L 0 d x → ⊥) → (InCell beta L 0 d y → ⊥)
        → RunsTo L (InCell beta L 0 d) x u → RunsTo L (InCell beta L 0 d) y v → L 1 u ≢ 0 → L 1 u ≡ L 1 v → x ≡ y
    vertex_back_one r x y u v n m a e h f = run_back_one (made + d) _ L (vertex_smoothed L w made d live bound r) x y u n m a (subst (RunsTo L (InCell beta L 0 d) y) (sym (link_one beta L w 1 u v h f)) e)
