-- A cell that can be removed is removed, and one that can be contracted is contracted.
use Rattle.std.proofs.Common.{◌≡◌, ◌≢◌, ℕ, zero, suc, ◌+◌, ◌≤◌, refl, arith}
use Rattle.map_defs.specs.Kind.{Kind, alpha, beta}
use Rattle.map_defs.specs.Links.{Links}
use Rattle.map_defs.specs.Laws.{Laws}
use Rattle.map_defs.specs.Rows.{made, links_of}
use Rattle.map_defs.specs.Cells.{InCell, here}
use Rattle.map_defs.specs.Walks.{Walk}
use Rattle.map_defs.specs.Values.{Hook}
use Rattle.map_defs.specs.Removal.{RunsTo, IsRemovable, IsRemoved, across_removed}
use Rattle.map_defs.specs.Contraction.{IsContractible, IsContracted, across_contracted}
use Rattle.machine_defs.specs.State.{Content}
use Rattle.machine_defs.specs.Kept.{IsLawfulContent}
use Rattle.machine_defs.specs.Relinking.{IsRelinked}
use Rattle.link_laws.proofs.CellFacts.{orbit_nonzero, beta_closed}
use Rattle.link_laws.proofs.RowFacts.{rows_made}
use Rattle.remove_laws.proofs.Ends.{removal_ends, contraction_ends, edge_back_one, contracted_back_one, vertex_back_one}
use Rattle.remove_laws.proofs.Removed.{vertex_smoothed}
use Rattle.remove_laws.proofs.Smoothed.{run_ends}
use Rattle.machine_laws.proofs.Keeping.{laws-of}
use Rattle.answer_laws.specs.Answering.{NotNot}
use Rattle.answer_laws.proofs.LinksFound.{AreLinksAfter, content_found}
use Rattle.answer_laws.proofs.Bridged.{alpha-bridged, high-bridged, edge-bridged, vertex-smoothed}

module _ (c : Content) (kept : IsLawfulContent c) (d : ℕ) (dart : d ≢ 0) where
  abbrev L : Links
  L = links_of c.rows

  in-dart : (k : Kind) (i x : ℕ) → InCell k L i d x → x ≢ 0
  in-dart k i x h = orbit_nonzero L _ dart h

  removal-walks : (k : Kind) (i : ℕ) → Laws k L → (k ≡ beta → i ≢ 0) → IsRemovable k L i d → (x : ℕ) → (InCell k L i d x → ⊥)
      → NotNot ((z : ℕ) × Walk (InCell k L i d) (across_removed k L i) (L i x) z)
  removal-walks k i w high can x out never = removal_ends (made c.rows) d L (rows_made c.rows) dart k i w high can x out (λ z walk. never (z, walk))

  contraction-walks : (k : Kind) (i : ℕ) → Laws k L → IsContractible k L i d → (x : ℕ) → (InCell k L i d x → ⊥)
      → NotNot ((z : ℕ) × Walk (InCell k L i d) (across_contracted k L i) (L i x) z)
  contraction-walks k i w can x out never = contraction_ends (made c.rows) d L (rows_made c.rows) dart k i w can x out (λ z walk. never (z, walk))

  vertex-runs : (w : Laws beta L) → IsRemovable beta L 0 d → (x : ℕ) → (InCell beta L 0 d x → ⊥) → NotNot ((z : ℕ) × RunsTo L (InCell beta L 0 d) x z)
  vertex-runs w can x out never = run_ends (made c.rows + d) (InCell beta L 0 d) L (vertex_smoothed L w (made c.rows) d dart (rows_made c.rows) can) x out (λ z run. never (z, run))

  closed : (i t x : ℕ) → t ≤ 1 → InCell beta L (suc (suc i)) d x → L t x ≢ 0 → InCell beta L (suc (suc i)) d (L t x)
  closed i t x l h some = beta_closed L i t d x (λ e. omega arith) h some

  removed-links : (k : Kind) (w : Laws k L) (i : ℕ) → i ≤ c.dim → IsRemovable k L i d → NotNot ((N : Links) × IsRemoved k i d L N × AreLinksAfter c kept 0 (InCell k L i d) N)
  removed-links alpha w i within can =
      alpha-bridged c kept w (InCell alpha L i d) (in-dart alpha i) i within (across_removed alpha L i) (removal-walks alpha i w (λ e. absurd (cc (e))) can)
  removed-links beta w zero within can =
      vertex-smoothed c kept w (InCell beta L 0 d) (in-dart beta 0) (vertex-runs w can) (vertex_back_one (made c.rows) d L (rows_made c.rows) dart w can)
  removed-links beta w (suc zero) within can =
      edge-bridged c kept w (InCell beta L 1 d) (in-dart beta 1) within (across_removed beta L 1) (removal-walks beta 1 w (λ e h. omega arith) can)
      (edge_back_one (made c.rows) d L (rows_made c.rows) dart w can) (λ u. (L 2 u, refl))
  removed-links beta w (suc (suc i)) within can =
      high-bridged c kept w (InCell beta L (suc (suc i)) d) (in-dart beta (suc (suc i))) (suc (suc i)) (omega arith) within (across_removed beta L (suc (suc i)))
      (removal-walks beta (suc (suc i)) w (λ e h. omega arith) can) (closed i)

  contracted-links : (k : Kind) (w : Laws k L) (i : ℕ) → i ≤ c.dim → IsContractible k L i d → NotNot ((N : Links) × IsContracted k i d L N × AreLinksAfter c kept 0 (InCell k L i d) N)
  contracted-links alpha w i within can =
      alpha-bridged c kept w (InCell alpha L i d) (in-dart alpha i) i within (across_contracted alpha L i) (contraction-walks alpha i w can)
  contracted-links beta w zero within can = λ never. can.each d here
  contracted-links beta w (suc zero) within can =
      edge-bridged c kept w (InCell beta L 1 d) (in-dart beta 1) within (across_contracted beta L 1) (contraction-walks beta 1 w can)
      (contracted_back_one (made c.rows) d L (rows_made c.rows) dart w) (λ u. (u, refl))
  contracted-links beta w (suc (suc i)) within can =
      high-bridged c kept w (InCell beta L (suc (suc i)) d) (in-dart beta (suc (suc i))) (suc (suc i)) (omega arith) within (across_contracted beta L (suc (suc i)))
      (contraction-walks beta (suc (suc i)) w can) (closed i)

  pub removed_found : (hook : Hook) (i : ℕ) → i ≤ c.dim → IsRemovable c.kind L i d → NotNot ((next : Content) × IsRelinked hook c 0 (InCell c.kind L i d) (IsRemoved c.kind i d L) next)
  removed_found hook i within can never = removed-links c.kind (laws-of c kept) i within can (λ found.
      content_found c kept 0 (InCell c.kind L i d) hook (IsRemoved c.kind i d L) found.0 found.2 found.1 never)

  pub contracted_found : (hook : Hook) (i : ℕ) → i ≤ c.dim → IsContractible c.kind L i d → NotNot ((next : Content) × IsRelinked hook c 0 (InCell c.kind L i d) (IsContracted c.kind i d L) next)
  contracted_found hook i within can never = contracted-links c.kind (laws-of c kept) i within can (λ found.
      content_found c kept 0 (InCell c.kind L i d) hook (IsContracted c.kind i d L) found.0 found.2 found.1 never)
