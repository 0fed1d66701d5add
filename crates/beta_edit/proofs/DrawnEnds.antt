-- The darts of a vertex that can be removed, and those of an edge that can be removed or contracted, can end, and the edit
-- that ends them removes or contracts it.
use Rattle.std.proofs.Common.{ℕ, zero, suc, ◌≡◌, ◌≢◌, ◌+◌, ◌≤◌, ◌↔◌, List, Contains, Some, None, refl, subst, arith}
use Rattle.std.specs.List.Sorted.{IsStrictlyIncreasing}
use Rattle.map_defs.specs.Kind.{beta, inverse}
use Rattle.map_defs.specs.Links.{Links}
use Rattle.map_defs.specs.Laws.{Laws}
use Rattle.map_defs.specs.Rows.{Rows, links_of, made, IsLive, IsSound}
use Rattle.map_defs.specs.Cells.{InCell}
use Rattle.map_defs.specs.Edits.{Edit}
use Rattle.map_defs.specs.Walks.{Walk, stop, IsTold}
use Rattle.map_defs.specs.Removal.{IsBridged, IsSmoothed, IsRemovable, IsRemoved}
use Rattle.map_defs.specs.Contraction.{IsContractible, IsContracted}
use Rattle.link_laws.proofs.CellFacts.{edge_closed}
use Rattle.link_laws.proofs.LawFacts.{dart_of_link}
use Rattle.link_laws.proofs.RowFacts.{rows_made}
use Rattle.remove_laws.proofs.BetaCases.{edge_walked}
use Rattle.remove_laws.proofs.BetaCrossed.{own_back}
use Rattle.remove_laws.proofs.BetaRemoval.{removed_walked}
use Rattle.remove_laws.proofs.Removed.{removed_laws, contracted_laws, vertex_smoothed}
use Rattle.remove_laws.proofs.Smoothed.{CanBeSmoothed, run_found}
use Rattle.remove_laws.proofs.Walked.{CanBeWalked, walk_found}
use Rattle.cell_edit.specs.Removing.{PlansEnding}
use Rattle.beta_edit.specs.Crossing.{drawn_step}
use Rattle.beta_edit.specs.Drawing.{IsDrawn, CanBeDrawn}
use Rattle.beta_edit.proofs.SameCells.{cell-told, ends-of}
use Rattle.beta_edit.proofs.VertexRuns.{run-one, run-high, back-found}
use Rattle.beta_edit.proofs.CellEnds.{dart, can-draw, drawn-of}
use Rattle.beta_edit.proofs.DrawnTurned.{drawn-turned}

-- ---- an edge C that is crossed along link 1 and the step Q
module _ (L : Links) (m : ℕ) (C : ℕ → Type 0) (Q : ℕ → ℕ) (walked : CanBeWalked 1 m C Q L) (told : IsTold C) (closed : (j x : ℕ) → 2 ≤ j → C x → L j x ≢ 0 → C (L j x)) where
  -- from a remaining dart the links from 2 upwards lead to remaining darts
  out-high : (t x : ℕ) → 2 ≤ t → (C x → ⊥) → C (L t x) → ⊥
  out-high t x high out has =
      let some : L t x ≢ 0 = λ none. walked.nowhere (subst C none has) in
      let back : L t (L t x) ≡ x = own_back L walked.laws t x high some in
      out (subst C back (closed t (L t x) high has (λ none. dart_of_link beta L walked.laws t x some (cc (back, none)))))

  edge-ends : (Step : ℕ → ℕ → ℕ) → ((x y : ℕ) → Walk C (λ c. L 0 (Q c)) x y → Walk C (Step 0) x y) → ((x y : ℕ) → Walk C (λ c. L 1 (Q c)) x y → Walk C (Step 1) x y)
      → (x t : ℕ) → (C x → ⊥) → (y : ℕ) × Walk C (Step t) (L t x) y
  edge-ends Step to-back to-fore x zero out = let e = walk_found 1 m C Q L walked told 0 x out in (e.0, to-back _ _ e.1)
  edge-ends Step to-back to-fore x (suc zero) out = let e = walk_found 1 m C Q L walked told 1 x out in (e.0, to-fore _ _ e.1)
  edge-ends Step to-back to-fore x (suc (suc t)) out = (L (suc (suc t)) x, stop (out-high (suc (suc t)) x (omega arith) out))

  edge-bridged : (Step : ℕ → ℕ → ℕ) → ((x y : ℕ) → Walk C (λ c. L 0 (Q c)) x y → Walk C (Step 0) x y) → ((x y : ℕ) → Walk C (λ c. L 1 (Q c)) x y → Walk C (Step 1) x y)
      → (N : Links) → IsDrawn C Step L N → IsBridged beta 1 C (λ c. L 1 (Q c)) L N
  edge-bridged Step to-back to-fore N b = record {
    gone = b.gone;
    nothing = b.nothing;
    kept = kept;
    lands = λ x y out walk. b.lands x y 1 out (to-fore _ _ walk);
    turned = λ e. drawn-turned L walked.laws C told walked.nowhere Q walked.inside walked.twice N b.gone b.nothing (λ t x low out. walk_found 1 m C Q L walked told t x out) lands;
  }
    where
      kept : (x t : ℕ) → (C x → ⊥) → t ≢ 1 → t ≢ inverse beta 1 → N t x ≡ L t x
      kept x zero out other back = absurd (back refl)
      kept x (suc zero) out other back = absurd (other refl)
      kept x (suc (suc t)) out other back = b.lands x (L (suc (suc t)) x) (suc (suc t)) out (stop (out-high (suc (suc t)) x (omega arith) out))

      lands : (t x y : ℕ) → t ≤ 1 → (C x → ⊥) → Walk C (λ c. L t (Q c)) (L t x) y → N t x ≡ y
      lands zero x y low out walk = b.lands x y 0 out (to-back _ _ walk)
      lands (suc zero) x y low out walk = b.lands x y 1 out (to-fore _ _ walk)
      lands (suc (suc t)) x y low out walk = absurd (omega arith)

-- ---- a vertex C at which all edges are flat
module _ (L : Links) (m : ℕ) (C : ℕ → Type 0) (smooth : CanBeSmoothed m C L) (told : IsTold C) where
  vertex-ends : (x t : ℕ) → (C x → ⊥) → (y : ℕ) × Walk C (drawn_step L None t) (L t x) y
  vertex-ends x zero out = back-found m C L smooth told x out
  vertex-ends x (suc zero) out = let e = run_found m C L smooth told x out in (L 1 e.0, run-one m C L smooth e.1)
  vertex-ends x (suc (suc t)) out = let e = run_found m C L smooth told x out in (L (suc (suc t)) e.0, run-high m C L smooth (suc (suc t)) (omega arith) e.1)

  vertex-drawn : (N : Links) → IsDrawn C (drawn_step L None) L N → IsSmoothed C L N
  vertex-drawn N b = record {
    gone = b.gone;
    nothing = b.nothing;
    lands = lands;
    turned = drawn-turned L smooth.laws C told smooth.nowhere (λ c. c) (λ c h n. h) (λ c h n. refl) N b.gone b.nothing first-ends first-lands;
  }
    where
      lands : (x y t : ℕ) → (C x → ⊥) → 1 ≤ t → Walk (λ c. C (L 1 c)) (L 1) x y → N t x ≡ L t y
      lands x y zero out low run = absurd (omega arith)
      lands x y (suc zero) out low run = b.lands x (L 1 y) 1 out (run-one m C L smooth run)
      lands x y (suc (suc t)) out low run = b.lands x (L (suc (suc t)) y) (suc (suc t)) out (run-high m C L smooth (suc (suc t)) (omega arith) run)

      first-ends : (t x : ℕ) → t ≤ 1 → (C x → ⊥) → (y : ℕ) × Walk C (λ c. L t c) (L t x) y
      first-ends zero x low out = vertex-ends x 0 out
      first-ends (suc zero) x low out = vertex-ends x 1 out
      first-ends (suc (suc t)) x low out = absurd (omega arith)

      first-lands : (t x y : ℕ) → t ≤ 1 → (C x → ⊥) → Walk C (λ c. L t c) (L t x) y → N t x ≡ y
      first-lands zero x y low out walk = b.lands x y 0 out walk
      first-lands (suc zero) x y low out walk = b.lands x y 1 out walk
      first-lands (suc (suc t)) x y low out walk = absurd (omega arith)

-- ---- the cells
module _ (n : ℕ) (rows : Rows) (sound : IsSound beta n rows) (w : Laws beta (links_of rows)) (d : ℕ) (live : IsLive rows d) (keys : List ℕ) where
  abbrev L : Links
  L = links_of rows

  high-edge : (j x : ℕ) → 2 ≤ j → InCell beta L 1 d x → L j x ≢ 0 → InCell beta L 1 d (L j x)
  high-edge j x high h some = edge_closed L j d x high h some

  module _ (members : (x : ℕ) → Contains keys x ↔ InCell beta L 1 d x) where
    there : d ≢ 0
    there = dart n rows sound 1 d live keys members

    told : IsTold (InCell beta L 1 d)
    told = cell-told L 1 d keys members

    removed-edge : IsRemovable beta L 1 d → (N : Links) → IsDrawn (InCell beta L 1 d) (drawn_step L (Some 2)) L N → IsRemoved beta 1 d L N
    removed-edge r N b = edge-bridged L (made rows + d) (InCell beta L 1 d) (L 2) (removed_walked L w (made rows) d there (rows_made rows) 0 r) told high-edge (drawn_step L (Some 2)) (λ x y v. v) (λ x y v. v) N b

    contracted-edge : (N : Links) → IsDrawn (InCell beta L 1 d) (drawn_step L None) L N → IsContracted beta 1 d L N
    contracted-edge N b = edge-bridged L (made rows + d) (InCell beta L 1 d) (λ c. c) (edge_walked L w (made rows) d there (rows_made rows)) told high-edge (drawn_step L None) (λ x y v. v) (λ x y v. v) N b

    pub edge-removal-can : IsStrictlyIncreasing keys → IsRemovable beta L 1 d → CanBeDrawn rows (Some 2) keys
    edge-removal-can up r =
        can-draw n rows sound 1 d live keys members (Some 2) up
        (edge-ends L (made rows + d) (InCell beta L 1 d) (L 2) (removed_walked L w (made rows) d there (rows_made rows) 0 r) told high-edge (drawn_step L (Some 2)) (λ x y v. v) (λ x y v. v))
        (λ N b. removed_laws beta (made rows) 1 d L N w (rows_made rows) there r (removed-edge r N b))

    pub edge-contraction-can : IsStrictlyIncreasing keys → IsContractible beta L 1 d → CanBeDrawn rows None keys
    edge-contraction-can up r =
        can-draw n rows sound 1 d live keys members None up
        (edge-ends L (made rows + d) (InCell beta L 1 d) (λ c. c) (edge_walked L w (made rows) d there (rows_made rows)) told high-edge (drawn_step L None) (λ x y v. v) (λ x y v. v))
        (λ N b. contracted_laws beta (made rows) 1 d L N w (rows_made rows) there r (contracted-edge N b))

    pub edge-removal-ends : (e : Edit) → IsRemovable beta L 1 d
        → PlansEnding beta n rows (Contains keys) (λ N. IsDrawn (Contains keys) (drawn_step L (Some 2)) L N) e → PlansEnding beta n rows (InCell beta L 1 d) (λ N. IsRemoved beta 1 d L N) e
    edge-removal-ends e r done =
        ends-of beta n rows (Contains keys) (InCell beta L 1 d) (λ N. IsDrawn (Contains keys) (drawn_step L (Some 2)) L N) (λ N. IsRemoved beta 1 d L N) e members
        (λ N b. removed-edge r N (drawn-of (Contains keys) (InCell beta L 1 d) (drawn_step L (Some 2)) L N members b)) done

    pub edge-contraction-ends : (e : Edit)
        → PlansEnding beta n rows (Contains keys) (λ N. IsDrawn (Contains keys) (drawn_step L None) L N) e → PlansEnding beta n rows (InCell beta L 1 d) (λ N. IsContracted beta 1 d L N) e
    edge-contraction-ends e done =
        ends-of beta n rows (Contains keys) (InCell beta L 1 d) (λ N. IsDrawn (Contains keys) (drawn_step L None) L N) (λ N. IsContracted beta 1 d L N) e members
        (λ N b. contracted-edge N (drawn-of (Contains keys) (InCell beta L 1 d) (drawn_step L None) L N members b)) done

  module _ (members : (x : ℕ) → Contains keys x ↔ InCell beta L 0 d x) (r : IsRemovable beta L 0 d) where
    smooth : CanBeSmoothed (made rows + d) (InCell beta L 0 d) L
    smooth = vertex_smoothed L w (made rows) d (dart n rows sound 0 d live keys members) (rows_made rows) r

    removed-vertex : (N : Links) → IsDrawn (InCell beta L 0 d) (drawn_step L None) L N → IsRemoved beta 0 d L N
    removed-vertex N b = vertex-drawn L (made rows + d) (InCell beta L 0 d) smooth (cell-told L 0 d keys members) N b

    pub vertex-can : IsStrictlyIncreasing keys → CanBeDrawn rows None keys
    vertex-can up =
        can-draw n rows sound 0 d live keys members None up
        (vertex-ends L (made rows + d) (InCell beta L 0 d) smooth (cell-told L 0 d keys members))
        (λ N b. removed_laws beta (made rows) 0 d L N w (rows_made rows) (dart n rows sound 0 d live keys members) r (removed-vertex N b))

    pub vertex-removal-ends : (e : Edit)
        → PlansEnding beta n rows (Contains keys) (λ N. IsDrawn (Contains keys) (drawn_step L None) L N) e → PlansEnding beta n rows (InCell beta L 0 d) (λ N. IsRemoved beta 0 d L N) e
    vertex-removal-ends e done =
        ends-of beta n rows (Contains keys) (InCell beta L 0 d) (λ N. IsDrawn (Contains keys) (drawn_step L None) L N) (λ N. IsRemoved beta 0 d L N) e members
        (λ N b. removed-vertex N (drawn-of (Contains keys) (InCell beta L 0 d) (drawn_step L None) L N members b)) done
