-- The darts of a cell of dimension 2 or more that can be removed or contracted can end, and the edit that ends them removes
-- or contracts it.
use Rattle.std.proofs.Common.{ℕ, zero, suc, ◌≡◌, ◌≢◌, ◌+◌, ◌↔◌, List, Contains, refl, subst, arith}
use Rattle.std.specs.List.Sorted.{IsStrictlyIncreasing}
use Rattle.map_defs.specs.Kind.{beta}
use Rattle.map_defs.specs.Links.{Links}
use Rattle.map_defs.specs.Laws.{Laws}
use Rattle.map_defs.specs.Rows.{Rows, links_of, made, IsLive, IsSound}
use Rattle.map_defs.specs.Cells.{InCell, here}
use Rattle.map_defs.specs.Edits.{Edit}
use Rattle.map_defs.specs.Walks.{Walk}
use Rattle.map_defs.specs.Removal.{IsBridged, IsRemovable, IsRemoved}
use Rattle.map_defs.specs.Contraction.{IsContractible, IsContracted}
use Rattle.link_laws.proofs.CellFacts.{beta_closed}
use Rattle.link_laws.proofs.RowFacts.{rows_made}
use Rattle.remove_laws.proofs.Ends.{removal_found, contraction_found}
use Rattle.remove_laws.proofs.Removed.{removed_laws, contracted_laws}
use Rattle.cell_edit.specs.Bridging.{across, CanEnd}
use Rattle.cell_edit.specs.Removing.{PlansEnding}
use Rattle.cell_edit.proofs.WalkTurns.{walk-same}
use Rattle.beta_edit.specs.Crossing.{beside_of}
use Rattle.beta_edit.proofs.SameCells.{turn-same, cell-told, bridged-of, ends-of}
use Rattle.beta_edit.proofs.CellEnds.{lives, dart, out-of}

-- a vertex is never contracted
pub above-vertex : (L : Links) (i d : ℕ) → IsContractible beta L i d → i ≢ 0
above-vertex L zero d can is = can.each d here
above-vertex L (suc i) d can is = omega arith

module _ (n : ℕ) (rows : Rows) (d : ℕ) (keys : List ℕ) where
  abbrev L : Links
  L = links_of rows

  module _ (sound : IsSound beta n rows) (w : Laws beta (links_of rows)) (live : IsLive rows d) (up : IsStrictlyIncreasing keys) where
    can-end : (i a : ℕ) → ((x : ℕ) → Contains keys x ↔ InCell beta L (suc (suc i)) d x)
        → ((x : ℕ) → (InCell beta L (suc (suc i)) d x → ⊥) → (y : ℕ) × Walk (InCell beta L (suc (suc i)) d) (across beta L (suc (suc i)) a) (L (suc (suc i)) x) y)
        → ((N : Links) → IsBridged beta (suc (suc i)) (InCell beta L (suc (suc i)) d) (across beta L (suc (suc i)) a) L N → Laws beta N) → CanEnd beta rows (suc (suc i)) a keys
    can-end i a members ends keeps = record {
      own = refl;
      ascending = up;
      live = lives n rows sound (suc (suc i)) d live keys members;
      closed = λ x j has other some. (members _).1 (beta_closed L i j d x other ((members x).0 has) some);
      ends = λ x out.
          let e = ends x (out-of n rows sound (suc (suc i)) d live keys members x out) in
          (e.0, walk-same (InCell beta L (suc (suc i)) d) (Contains keys) (across beta L (suc (suc i)) a) (turn-same (Contains keys) (InCell beta L (suc (suc i)) d) members) e.1);
      keeps = λ N b. keeps N (bridged-of beta (suc (suc i)) (Contains keys) (InCell beta L (suc (suc i)) d) (across beta L (suc (suc i)) a) L N members b);
    }

    pub removal-can : (i : ℕ) → i ≢ 0 → i ≢ 1 → ((x : ℕ) → Contains keys x ↔ InCell beta L i d x) → IsRemovable beta L i d → CanEnd beta rows i (i + 1) keys
    removal-can zero some more members r = absurd (some refl)
    removal-can (suc zero) some more members r = absurd (more refl)
    removal-can (suc (suc i)) some more members r =
        let there : d ≢ 0 = dart n rows sound (suc (suc i)) d live keys members in
        subst (λ a. CanEnd beta rows (suc (suc i)) a keys) (let e : suc (suc (suc i)) ≡ suc (suc i) + 1 = omega arith in e)
        (can-end i (suc (suc (suc i))) members
        (removal_found (made rows) d L (rows_made rows) there beta (suc (suc i)) w (λ k e. absurd (omega arith)) r (cell-told L (suc (suc i)) d keys members))
        (λ N b. removed_laws beta (made rows) (suc (suc i)) d L N w (rows_made rows) there r b))

    pub contraction-can : (i : ℕ) → i ≢ 0 → i ≢ 1 → ((x : ℕ) → Contains keys x ↔ InCell beta L i d x) → IsContractible beta L i d → CanEnd beta rows i (beside_of i) keys
    contraction-can zero some more members r = absurd (some refl)
    contraction-can (suc zero) some more members r = absurd (more refl)
    contraction-can (suc (suc zero)) some more members r =
        let there : d ≢ 0 = dart n rows sound 2 d live keys members in
        can-end 0 0 members
        (contraction_found (made rows) d L (rows_made rows) there beta 2 w r (cell-told L 2 d keys members))
        (λ N b. contracted_laws beta (made rows) 2 d L N w (rows_made rows) there r b)
    contraction-can (suc (suc (suc i))) some more members r =
        let there : d ≢ 0 = dart n rows sound (suc (suc (suc i))) d live keys members in
        can-end (suc i) (suc (suc i)) members
        (contraction_found (made rows) d L (rows_made rows) there beta (suc (suc (suc i))) w r (cell-told L (suc (suc (suc i))) d keys members))
        (λ N b. contracted_laws beta (made rows) (suc (suc (suc i))) d L N w (rows_made rows) there r b)

  -- ---- the edit
  module _ (e : Edit) where
    pub removal-ends : (i : ℕ) → i ≢ 0 → i ≢ 1 → ((x : ℕ) → Contains keys x ↔ InCell beta L i d x)
        → PlansEnding beta n rows (Contains keys) (λ N. IsBridged beta i (Contains keys) (across beta L i (i + 1)) L N) e → PlansEnding beta n rows (InCell beta L i d) (λ N. IsRemoved beta i d L N) e
    removal-ends zero some more members done = absurd (some refl)
    removal-ends (suc zero) some more members done = absurd (more refl)
    removal-ends (suc (suc i)) some more members done =
        ends-of beta n rows (Contains keys) (InCell beta L (suc (suc i)) d) (λ N. IsBridged beta (suc (suc i)) (Contains keys) (across beta L (suc (suc i)) (suc (suc (suc i)))) L N) (λ N. IsRemoved beta (suc (suc i)) d L N) e
        members (λ N b. bridged-of beta (suc (suc i)) (Contains keys) (InCell beta L (suc (suc i)) d) (across beta L (suc (suc i)) (suc (suc (suc i)))) L N members b)
        (subst (λ a. PlansEnding beta n rows (Contains keys) (λ N. IsBridged beta (suc (suc i)) (Contains keys) (across beta L (suc (suc i)) a) L N) e) (let f : suc (suc i) + 1 ≡ suc (suc (suc i)) = omega arith in f) done)

    pub contraction-ends : (i : ℕ) → i ≢ 0 → i ≢ 1 → ((x : ℕ) → Contains keys x ↔ InCell beta L i d x)
        → PlansEnding beta n rows (Contains keys) (λ N. IsBridged beta i (Contains keys) (across beta L i (beside_of i)) L N) e → PlansEnding beta n rows (InCell beta L i d) (λ N. IsContracted beta i d L N) e
    contraction-ends zero some more members done = absurd (some refl)
    contraction-ends (suc zero) some more members done = absurd (more refl)
    contraction-ends (suc (suc zero)) some more members done =
        ends-of beta n rows (Contains keys) (InCell beta L 2 d) (λ N. IsBridged beta 2 (Contains keys) (across beta L 2 0) L N) (λ N. IsContracted beta 2 d L N) e
        members (λ N b. bridged-of beta 2 (Contains keys) (InCell beta L 2 d) (across beta L 2 0) L N members b) done
    contraction-ends (suc (suc (suc i))) some more members done =
        ends-of beta n rows (Contains keys) (InCell beta L (suc (suc (suc i))) d) (λ N. IsBridged beta (suc (suc (suc i))) (Contains keys) (across beta L (suc (suc (suc i))) (suc (suc i))) L N) (λ N. IsContracted beta (suc (suc (suc i))) d L N) e
        members (λ N b. bridged-of beta (suc (suc (suc i))) (Contains keys) (InCell beta L (suc (suc (suc i))) d) (across beta L (suc (suc (suc i))) (suc (suc i))) L N members b) done
