-- Whether a remaining dart is joined to itself by a link that is drawn across a cell, told by the darts of the cell.
use Rattle.std.proofs.Common.{ℕ, ◌≡◌, ◌≢◌, ◌≤◌, ◌↔◌, true, false, List, Contains, Option, ◌==◌, eq-eqb, sym, ◌∙◌, subst, inl, inr}
use Rattle.std.proofs.lemmas.Bool.{false≢true, eqb-true}
use Rattle.map_defs.specs.Kind.{beta}
use Rattle.map_defs.specs.Links.{Links}
use Rattle.map_defs.specs.Laws.{Laws}
use Rattle.map_defs.specs.Walks.{stop}
use Rattle.map_defs.specs.Removal.{JoinsNoDart}
use Rattle.link_laws.proofs.Basics.{inverse_own}
use Rattle.link_laws.proofs.Walking.{walk_one}
use Rattle.remove_laws.proofs.BetaCrossed.{own_back}
use Rattle.cell_edit.proofs.WalkTurns.{listed-told}
use Rattle.beta_edit.specs.Crossing.{drawn_step, DrawsTo, IsDrawnBack}

-- it is told of two darts by their numbers whether they are one
same-tells : (m n x y : ℕ) → m ≡ x → n ≡ y → ((m == n) ≡ true) ↔ (x ≡ y)
same-tells m n x y e f = ((λ h. sym e ∙ eqb-true m n h ∙ f), λ h. eq-eqb m n (e ∙ h ∙ sym f))

module _ (L : Links) (w : Laws beta L) (t : ℕ) (high : 2 ≤ t) (beside : Option ℕ) (keys : List ℕ) (nothing : Contains keys 0 → ⊥) where
  pub joins-none : ((b : ℕ) → Contains keys b → IsDrawnBack L beside t keys b → ⊥) → JoinsNoDart L t (Contains keys) (drawn_step L beside t)
  joins-none none x dart out walk = elim (listed-told keys (L t x)) [
    | inl has ↦ (
        let some : L t x ≢ 0 = λ free. nothing (subst (Contains keys) free has) in
        let back : L t (L t x) ≡ x = own_back L w t x high some in
        none (L t x) has ((λ free. dart (sym back ∙ free)), (λ had. out (subst (Contains keys) back had)), subst (DrawsTo L beside t keys (L t x)) (sym back) walk))
    | inr beyond ↦ w.apart t x (inverse_own beta t high) dart (sym (walk_one walk (stop beyond)))
  ]

  pub drawn-back-none : JoinsNoDart L t (Contains keys) (drawn_step L beside t) → (b : ℕ) → Contains keys b → IsDrawnBack L beside t keys b → ⊥
  drawn-back-none joins b has back =
      joins (L t b) back.0 back.1 (subst (λ x. DrawsTo L beside t keys x (L t b)) (sym (own_back L w t b high back.0)) back.2)

-- ---- the walk was followed from b, beyond whose link t lies the remaining dart x
module _ (L : Links) (beside : Option ℕ) (t : ℕ) (keys : List ℕ) (b x : ℕ) (some : L t b ≢ 0) (is : x ≡ L t b) (out : Contains keys x → ⊥) where
  -- it leads to y
  pub end-tells : (m n y : ℕ) → m ≡ y → n ≡ x → DrawsTo L beside t keys b y → ((m == n) ≡ true) ↔ IsDrawnBack L beside t keys b
  end-tells m n y e f walk =
      let same = same-tells m n y x e f in (
        (λ h. (some, (λ has. out (subst (Contains keys) (sym is) has)), subst (DrawsTo L beside t keys b) (same.0 h ∙ is) walk)),
        λ back. same.1 (walk_one walk (subst (DrawsTo L beside t keys b) (sym is) back.2)),
      )

  -- it has no end
  pub endless-tells : ((y : ℕ) → DrawsTo L beside t keys b y → ⊥) → (false ≡ true) ↔ IsDrawnBack L beside t keys b
  endless-tells none = ((λ e. absurd (false≢true e)), λ back. absurd (none (L t b) back.2))
