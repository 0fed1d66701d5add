-- Removal at a new dart of an insertion in a generalized map is possible and gives all links back.
use Rattle.std.proofs.Common.{ℕ, suc, ◌≡◌, ◌≢◌, refl, sym, ⊎_elim, ◌∙◌}
use Rattle.map_defs.specs.Kind.{alpha, beta}
use Rattle.map_defs.specs.Links.{Links}
use Rattle.map_defs.specs.Laws.{Laws}
use Rattle.map_defs.specs.Cells.{InCell}
use Rattle.map_defs.specs.Births.{IsFresh}
use Rattle.map_defs.specs.Walks.{Walk, step}
use Rattle.map_defs.specs.Removal.{Lands, across_removed, IsRemovable, IsRemoved}
use Rattle.map_defs.specs.Insertion.{IsInsertable, IsInserted}
use Rattle.link_laws.proofs.Basics.{by_cases, same_or_not}
use Rattle.link_laws.proofs.Walking.{walk_one}
use Rattle.remove_laws.proofs.TotalSteps.{step_free, step_there}
use Rattle.insert_laws.proofs.Fresh.{IsNew}
use Rattle.link_laws.proofs.CellOf.{all_alpha, all_beta}
use Rattle.back_laws.proofs.Grown.{GrowsFrom}
use Rattle.back_laws.proofs.Taken.{old_outside, new_inside, commutes_new, walk_steps, walk_links, walk_stops, gone_back, kept_back}

module _ (i : ℕ) (K : ℕ → Type 0) (P : ℕ → ℕ → ℕ → Type 0) (star : ℕ → ℕ) (L : Links) (w : Laws alpha L) (can : IsInsertable alpha i K P L) (fresh : IsFresh L K star) (N : Links) (s : IsInserted alpha i K P star L N) (b : ℕ) (hb : K b) (grows : GrowsFrom alpha i K P L b) (x0 : ℕ) (h0 : K x0) where
  pub alpha_removable : IsRemovable alpha N i (star x0)
  alpha_removable = record {
    each = commutes_new alpha i K P star L w can fresh all_alpha N s b hb grows x0 h0;
    apart = tt;
  }

  module _ (M : Links) (r : IsRemoved alpha i (star x0) N M) where
    own_back : (x : ℕ) → (IsNew K star x → ⊥) → M i x ≡ L i x
    own_back x n =
        let outside : InCell alpha N i (star x0) x → ⊥ = old_outside alpha i K P star L w can fresh all_alpha N s b hb grows x0 h0 x n in
        by_cases (K x) (M i x) (L i x)
        (λ h. let p : Lands alpha x (step L i x) (M i x) = r.lands x (step L i x) outside (walk_steps alpha i K P star L w can fresh all_alpha N s b hb grows x0 h0 x h) in
        ⊎_elim
        (λ (z : L i x ≡ 0). p.1 (step_free L i x z) ∙ sym z)
        (λ (m : L i x ≢ 0). let a : step L i x ≡ L i x = step_there L i x m in
        p.0 (λ e. w.apart i x refl (can.dart x h) (sym a ∙ e)) ∙ a)
        (same_or_not (L i x) 0))
        (λ h. let p : Lands alpha x (L i x) (M i x) = r.lands x (L i x) outside (walk_stops alpha i K P star L w can fresh all_alpha N s b hb grows x0 h0 (across_removed alpha N i) x n h) in
        ⊎_elim
        (λ (z : x ≡ 0). let a : M i 0 ≡ 0 = r.nothing i in cc (w.nil i))
        (λ (m : x ≢ 0). p.0 (λ e. w.apart i x refl m e))
        (same_or_not x 0))

    pub alpha_back : (t x : ℕ) → M t x ≡ L t x
    alpha_back t x = by_cases (IsNew K star x) (M t x) (L t x)
        (λ v. rw v.2 (gone_back alpha i K P star L w can fresh all_alpha N s b hb grows x0 h0 (across_removed alpha N i) M r t v.0 v.1))
        (λ n. ⊎_elim
        (λ (e : t ≡ i). rw e (own_back x n))
        (λ (o : t ≢ i). kept_back alpha i K P star L w can fresh all_alpha N s b hb grows x0 h0 (across_removed alpha N i) M r t x n o)
        (same_or_not t i))

-- and the same of a face in a combinatorial map
module _ (c : ℕ) (K : ℕ → Type 0) (P : ℕ → ℕ → ℕ → Type 0) (star : ℕ → ℕ) (L : Links) (w : Laws beta L) (can : IsInsertable beta (suc (suc c)) K P L) (fresh : IsFresh L K star) (N : Links) (s : IsInserted beta (suc (suc c)) K P star L N) (b : ℕ) (hb : K b) (grows : GrowsFrom beta (suc (suc c)) K P L b) (x0 : ℕ) (h0 : K x0) where
  walk_ends : (x : ℕ) → (IsNew K star x → ⊥) → (y : ℕ) → Walk (InCell beta N (suc (suc c)) (star x0)) (across_removed beta N (suc (suc c))) (N (suc (suc c)) x) y → y ≡ L (suc (suc c)) x
  walk_ends x n y p = by_cases (K x) y (L (suc (suc c)) x)
      (λ h. walk_one p (walk_links beta (suc (suc c)) K P star L w can fresh all_beta N s b hb grows x0 h0 x h))
      (λ h. walk_one p (walk_stops beta (suc (suc c)) K P star L w can fresh all_beta N s b hb grows x0 h0 (across_removed beta N (suc (suc c))) x n h))

  new_outside : (x : ℕ) → (InCell beta N (suc (suc c)) (star x0) x → ⊥) → IsNew K star x → ⊥
  new_outside x o v = o (rw v.2 (new_inside beta (suc (suc c)) K P star L w can fresh all_beta N s b hb grows x0 h0 v.0 v.1))

  pub beta_removable : IsRemovable beta N (suc (suc c)) (star x0)
  beta_removable = record {
    each = commutes_new beta (suc (suc c)) K P star L w can fresh all_beta N s b hb grows x0 h0;
    apart = λ x hx out p. w.apart (suc (suc c)) x refl hx (sym (walk_ends x (new_outside x out) x p));
  }

  module _ (M : Links) (r : IsRemoved beta (suc (suc c)) (star x0) N M) where
    own_back_beta : (x : ℕ) → (IsNew K star x → ⊥) → M (suc (suc c)) x ≡ L (suc (suc c)) x
    own_back_beta x n =
        let outside : InCell beta N (suc (suc c)) (star x0) x → ⊥ = old_outside beta (suc (suc c)) K P star L w can fresh all_beta N s b hb grows x0 h0 x n in
        by_cases (K x) (M (suc (suc c)) x) (L (suc (suc c)) x)
        (λ h. r.lands x (L (suc (suc c)) x) outside (walk_links beta (suc (suc c)) K P star L w can fresh all_beta N s b hb grows x0 h0 x h))
        (λ h. r.lands x (L (suc (suc c)) x) outside (walk_stops beta (suc (suc c)) K P star L w can fresh all_beta N s b hb grows x0 h0 (across_removed beta N (suc (suc c))) x n h))

    pub beta_back : (t x : ℕ) → M t x ≡ L t x
    beta_back t x = by_cases (IsNew K star x) (M t x) (L t x)
        (λ v. rw v.2 (gone_back beta (suc (suc c)) K P star L w can fresh all_beta N s b hb grows x0 h0 (across_removed beta N (suc (suc c))) M r t v.0 v.1))
        (λ n. ⊎_elim
        (λ (e : t ≡ suc (suc c)). rw e (own_back_beta x n))
        (λ (o : t ≢ suc (suc c)). kept_back beta (suc (suc c)) K P star L w can fresh all_beta N s b hb grows x0 h0 (across_removed beta N (suc (suc c))) M r t x n o)
        (same_or_not t (suc (suc c))))
