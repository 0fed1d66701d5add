-- A vertex or an edge that is inserted in a generalized map keeps the cells of dimensions that it does not cut.
use Rattle.std.proofs.Common.{ℕ, suc, ◌≡◌, ◌≢◌, ◌+◌, ◌≤◌, refl, inl, inr, ⊎_elim, arith, List}
use Rattle.map_defs.specs.Kind.{alpha}
use Rattle.map_defs.specs.Links.{Links, LeadsToLive}
use Rattle.map_defs.specs.LinkWords.{IsCellWord}
use Rattle.map_defs.specs.Cells.{onward, InCell}
use Rattle.map_defs.specs.Laws.{Laws}
use Rattle.map_defs.specs.Births.{IsNumbered, IsCounted}
use Rattle.map_defs.specs.Insertion.{IsInserted, IsJustBelow, IsCarrying, NoPairs, AlphaEdgeDarts, AlphaEdgePairs, IsAlphaVertex, IsAlphaEdge}
use Rattle.link_laws.proofs.Basics.{distant_alpha_is}
use Rattle.link_laws.proofs.CellOf.{all_alpha}
use Rattle.kept_laws.specs.Keeping.{KeepsCells}
use Rattle.kept_laws.proofs.Numbered.{low-apart}
use Rattle.kept_laws.proofs.LiveDarts.{orbit-live, links-live}
use Rattle.kept_laws.proofs.CellSteps.{cell-step}
use Rattle.kept_laws.proofs.AlphaGrown.{grown-keeps}

-- An insertion at link i keeps the j-cells where these run along links i and i + 1 but not along the link just below i.
inserted-keeps : (Live : ℕ → Type 0) (made : ℕ) (keys : List ℕ) (star : ℕ → ℕ) (L N : Links)
    → (i : ℕ) (K : ℕ → Type 0) (P : ℕ → ℕ → ℕ → Type 0) → IsCounted made Live → LeadsToLive Live L → IsNumbered K keys made star
    → ((x : ℕ) → K x → Live x) → ((x t : ℕ) → K x → IsCarrying alpha i t → L t x ≢ 0 → K (L t x)) → IsInserted alpha i K P star L N
    → (j : ℕ) → i ≢ j → suc i ≢ j → ((t : ℕ) → IsJustBelow alpha i t → t ≡ j) → KeepsCells alpha j Live L N
inserted-keeps Live made keys star L N i K P counted live numbers lives carried s j other next-other lower =
    grown-keeps Live made counted L N live i j K keys star numbers lives carried (record {
      new = s.new;
      old = s.old;
      beyond = s.beyond;
      before = λ x t h b n some. absurd (n (lower t b));
      along = s.along;
      kept = λ x t h m. s.kept x t m (λ y g. low-apart K keys made star numbers x y h g);
    }) other next-other

-- an edge is closed under the links along which the new darts of a vertex on it lie
edge-carried : (L : Links) (d x t : ℕ) → InCell alpha L 1 d x → IsCarrying alpha 0 t → L t x ≢ 0 → InCell alpha L 1 d (L t x)
edge-carried L d x t inside c some = cell-step alpha 1 all_alpha L t d x (L t x) (other c) inside refl some
  where
    other : IsCarrying alpha 0 t → t ≢ 1
    other (inl e) o = omega arith
    other (inr f) o = ⊎_elim (λ (p : 0 + 2 ≤ t). omega arith) (λ (p : t + 2 ≤ 0). omega arith) (distant_alpha_is 0 t f)

-- a vertex on an edge keeps the cells of dimensions from 2 upwards
pub alpha-vertex-keeps : (Live : ℕ → Type 0) (made : ℕ) (keys : List ℕ) (star : ℕ → ℕ) (L N : Links)
    → Laws alpha L → IsCounted made Live → LeadsToLive Live L → (d : ℕ) → Live d
    → IsNumbered (InCell alpha L 1 d) keys made star → IsAlphaVertex d star L N → (j : ℕ) → 2 ≤ j → KeepsCells alpha j Live L N
alpha-vertex-keeps Live made keys star L N w counted live d lives numbers s j high =
    inserted-keeps Live made keys star L N 0 (InCell alpha L 1 d) NoPairs counted live numbers
    (λ x h. orbit-live Live L live (IsCellWord alpha 1) d x lives h)
    (λ x t h c some. edge-carried L d x t h c some)
    s j (λ e. omega arith) (λ e. omega arith) (λ t b. omega arith)

-- an edge across a face keeps the vertices
pub alpha-edge-keeps : (Live : ℕ → Type 0) (made : ℕ) (keys : List ℕ) (star : ℕ → ℕ) (L N : Links)
    → Laws alpha L → IsCounted made Live → LeadsToLive Live L → (d e : ℕ) → Live d → Live e
    → IsNumbered (AlphaEdgeDarts L d e) keys made star → IsAlphaEdge d e star L N → KeepsCells alpha 0 Live L N
alpha-edge-keeps Live made keys star L N w counted live d e lives_d lives_e numbers s =
    inserted-keeps Live made keys star L N 1 (AlphaEdgeDarts L d e) (AlphaEdgePairs L d e) counted live numbers
    (λ x. ⊎_elim (links-live Live L live (IsCarrying alpha 1) d x lives_d) (links-live Live L live (IsCarrying alpha 1) e x lives_e))
    (λ x t h c some. carried x t h c some)
    s 0 (λ o. omega arith) (λ o. omega arith) (λ t b. omega arith)
  where
    carried : (x t : ℕ) → AlphaEdgeDarts L d e x → IsCarrying alpha 1 t → L t x ≢ 0 → AlphaEdgeDarts L d e (L t x)
    carried x t (inl h) c some = inl (onward h (t, c, refl, some))
    carried x t (inr h) c some = inr (onward h (t, c, refl, some))
