-- The links after a removal or a contraction are one.
use Rattle.std.proofs.Common.{◌≡◌, ◌≢◌, ◌⊎◌, ◌+◌, ◌≤◌, ℕ, zero, suc, inl, inr, refl, sym, ap, subst, ◌∙◌, arith}
use Rattle.map_defs.specs.Kind.{Kind, alpha, beta, inverse}
use Rattle.map_defs.specs.Links.{Links, IsMadeUpTo}
use Rattle.map_defs.specs.Laws.{Laws}
use Rattle.map_defs.specs.Cells.{here}
use Rattle.map_defs.specs.Walks.{Walk}
use Rattle.map_defs.specs.Removal.{Lands, RunsTo, IsBridged, IsSmoothed, IsRemovable, IsRemoved}
use Rattle.map_defs.specs.Contraction.{IsContractible, IsContracted}
use Rattle.link_laws.proofs.Basics.{same_or_not, by_cases}
use Rattle.link_laws.proofs.InverseLinks.{turned_one}
use Rattle.link_laws.proofs.Walking.{by_not_not}
use Rattle.remove_laws.proofs.Smoothed.{run_ends}
use Rattle.remove_laws.proofs.Removed.{vertex_smoothed}
use Rattle.remove_laws.proofs.Ends.{MustEnd, removal_ends, contraction_ends}

lands_one : (k : Kind) (x y a b : ℕ) → Lands k x y a → Lands k x y b → a ≡ b
lands_one alpha x y a b p q = elim (same_or_not y x) [ inl e ↦ cc (p.1 e, q.1 e) | inr n ↦ cc (p.0 n, q.0 n) ]
lands_one beta x y a b p q = cc (p, q)

module _ (k : Kind) (i : ℕ) (C : ℕ → Type 0) (Step : ℕ → ℕ) (L N M : Links) (b : IsBridged k i C Step L N) (c : IsBridged k i C Step L M)
    (ends : (x : ℕ) → (C x → ⊥) → MustEnd L i C Step x) where
  same_at : (x : ℕ) → N i x ≡ M i x
  same_at x = by_cases (C x) _ _ (λ h. cc (b.gone x i h, c.gone x i h)) (λ n.
      by_not_not ((y : ℕ) × Walk C Step (L i x) y) _ _ (λ never. ends x n (λ y w. never (y, w))) (λ w. lands_one k x w.0 (N i x) (M i x) (b.lands x w.0 n w.1) (c.lands x w.0 n w.1)))

  same_kept : (t x : ℕ) → t ≢ i → t ≢ inverse k i → N t x ≡ M t x
  same_kept t x m l = by_cases (C x) _ _ (λ h. cc (b.gone x t h, c.gone x t h)) (λ n. cc (b.kept x t n m l, c.kept x t n m l))

  bridged_one : (inverse k i ≡ i) ⊎ ((k ≡ beta) × (i ≡ 1) × (inverse k i ≡ 0)) → (t x : ℕ) → N t x ≡ M t x
  bridged_one (inl own) t x = elim (same_or_not t i) [ inl e ↦ ap (λ s. N s x) e ∙ (same_at x ∙ ap (λ s. M s x) (sym e)) | inr m ↦ same_kept t x m (λ e. m (e ∙ own)) ]
  bridged_one (inr p) t x = elim (same_or_not t i) [
    | inl e ↦ ap (λ s. N s x) e ∙ (same_at x ∙ ap (λ s. M s x) (sym e))
    | inr m ↦ elim (same_or_not t (inverse k i)) [
      | inl e ↦ (let z = e ∙ p.2 in ap (λ s. N s x) z ∙ (turned_one N M (b.turned p.0) (c.turned p.0) (λ y. subst (λ s. N s y ≡ M s y) p.1 (same_at y)) x ∙ ap (λ s. M s x) (sym z)))
      | inr l ↦ same_kept t x m l
    ]
  ]

-- a link from 2 upwards, or of a generalized map, is its own inverse, and link 1 of a combinatorial map has link 0
sides : (k : Kind) (i : ℕ) → (k ≡ beta → i ≢ 0) → (inverse k i ≡ i) ⊎ ((k ≡ beta) × (i ≡ 1) × (inverse k i ≡ 0))
sides alpha i h = inl refl
sides beta zero h = absurd (h refl refl)
sides beta (suc zero) h = inr (refl, refl, refl)
sides beta (suc (suc i)) h = inl refl

module _ (C : ℕ → Type 0) (L N M : Links) (b : IsSmoothed C L N) (c : IsSmoothed C L M) (ends : (x : ℕ) → (C x → ⊥) → ((y : ℕ) → RunsTo L C x y → ⊥) → ⊥) where
  smoothed_high : (t x : ℕ) → 1 ≤ t → N t x ≡ M t x
  smoothed_high t x h = by_cases (C x) _ _ (λ g. cc (b.gone x t g, c.gone x t g)) (λ n.
      by_not_not ((y : ℕ) × RunsTo L C x y) _ _ (λ never. ends x n (λ y w. never (y, w))) (λ w. cc (b.lands x w.0 t n h w.1, c.lands x w.0 t n h w.1)))

  smoothed_one : (t x : ℕ) → N t x ≡ M t x
  smoothed_one zero x = turned_one N M b.turned c.turned (λ y. smoothed_high 1 y (omega arith)) x
  smoothed_one (suc t) x = smoothed_high (suc t) x (omega arith)

module _ (made d : ℕ) (L N M : Links) (bound : IsMadeUpTo made L) (live : d ≢ 0) where
  pub removed_one : (k : Kind) (i : ℕ) → Laws k L → IsRemovable k L i d → IsRemoved k i d L N → IsRemoved k i d L M → (t x : ℕ) → N t x ≡ M t x
  removed_one alpha i w r b c = bridged_one alpha i _ _ L N M b c (removal_ends made d L bound live alpha i w (λ e. absurd (alpha_not e)) r) (inl refl)
    where
      alpha_not : alpha ≡ beta → ⊥
      alpha_not e = cc (e)
  removed_one beta zero w r b c = smoothed_one _ L N M b c (run_ends (made + d) _ L (vertex_smoothed L w made d live bound r))
  removed_one beta (suc i) w r b c = bridged_one beta (suc i) _ _ L N M b c (removal_ends made d L bound live beta (suc i) w (λ e. λ f. absurd (omega arith)) r) (sides beta (suc i) (λ e f. absurd (omega arith)))

  pub contracted_one : (k : Kind) (i : ℕ) → Laws k L → IsContractible k L i d → IsContracted k i d L N → IsContracted k i d L M → (t x : ℕ) → N t x ≡ M t x
  contracted_one k zero w r b c = absurd (r.each d here)
  contracted_one k (suc i) w r b c = bridged_one k (suc i) _ _ L N M b c (contraction_ends made d L bound live k (suc i) w r) (sides k (suc i) (λ e f. absurd (omega arith)))
