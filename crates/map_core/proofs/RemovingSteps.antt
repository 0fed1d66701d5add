-- What the machine does where a cell is removed or contracted, by what the plans answer.
use Rattle.std.proofs.Common.{◌≡◌, ℕ, ◌<◌, Result, Ok, Err, refl, sym, subst, inl, inr}
use Rattle.map_kind.specs.declared.refusal.Refused.{Refused}
use Rattle.map_kind.specs.declared.refusal.Refused.TheVariants as why
use Rattle.map_defs.specs.Kind.{Kind}
use Rattle.map_defs.specs.Links.{Links}
use Rattle.map_defs.specs.Rows.{Rows, links_of, IsLive}
use Rattle.map_defs.specs.Cells.{InCell}
use Rattle.map_defs.specs.Edits.{Edit, after_edit}
use Rattle.machine_defs.specs.State.{State, Content, steps_to}
use Rattle.map_defs.specs.Values.{Hook}
use Rattle.machine_defs.specs.Relinking.{IsRelinked}
use Rattle.map_defs.specs.Removal.{IsRemovable, IsRemoved}
use Rattle.map_defs.specs.Contraction.{IsContractible, IsContracted}
use Rattle.machine_defs.specs.Script.{Remove, Contract}
use Rattle.machine_defs.specs.Machine.{Step}
use Rattle.machine_defs.specs.Text as text
use Rattle.machine_defs.specs.Kept.{IsLawfulContent}
use Rattle.label_laws.specs.Contents.{IsCarriedOn}
use Rattle.map_core.proofs.Present.{seen_as, seen-is, seen-sound, seen-begun, relinked}
use Rattle.cell_edit.specs.Removing.{PlansEnding}
use Rattle.cell_edit.specs.Planning.{PlansRemoval, PlansContraction}
use Rattle.map_core.specs.Calls.{Does}
use Rattle.map_kind.specs.declared.done.Done.{Done}

module _ (k : Kind) (n : ℕ) (rows : Rows) (hook : Hook) (s : State) (kind : s.present.kind ≡ k) (dim : s.present.dim ≡ n) (same : rows ≡ s.present.rows) (kept : IsLawfulContent s.present) (i d : ℕ)
    (low : n < i → ⊥) (live : IsLive s.present.rows d) where
  abbrev Here : Content
  Here = seen_as k n rows s.present

  view : Here ≡ s.present
  view = seen-is k n rows s.present kind dim same

  -- a removal that is refused
  pub remove-refused : (x y : ℕ) → x ≡ i → y ≡ d → (r : Refused) (result : Result Done Refused) → result ≡ Err r → PlansRemoval k n rows x y (Err r) → Does hook s (Remove i d) result s
  remove-refused x y is_x is_y why.NoMemory result is plan = rw is refl
  remove-refused x y is_x is_y (why.Line refusal) result is plan =
      let cannot : IsRemovable k (links_of rows) i d → ⊥ = rw (is_x, is_y) at plan.1 in
      let fail = subst (λ (c : Content). (c.dim < i → ⊥) × (IsRemovable c.kind (links_of c.rows) i d → ⊥)) view (low, cannot) in
      rw (is, plan.0) (inr (fail.0, inr (live, inl (fail.1, refl, refl))))

  -- a contraction that is refused
  pub contract-refused : (x y : ℕ) → x ≡ i → y ≡ d → (r : Refused) (result : Result Done Refused) → result ≡ Err r → PlansContraction k n rows x y (Err r) → Does hook s (Contract i d) result s
  contract-refused x y is_x is_y why.NoMemory result is plan = rw is refl
  contract-refused x y is_x is_y (why.Line refusal) result is plan =
      let cannot : IsContractible k (links_of rows) i d → ⊥ = rw (is_x, is_y) at plan.1 in
      let fail = subst (λ (c : Content). (c.dim < i → ⊥) × (IsContractible c.kind (links_of c.rows) i d → ⊥)) view (low, cannot) in
      rw (is, plan.0) (inr (fail.0, inr (live, inl (fail.1, refl, refl))))

  module _ (edit : Edit)
      (new : State) (next : Content) (carried : IsCarriedOn hook s.present (after_edit n edit s.present.rows) next)
      (made : new ≡ steps_to s next) where
    on : IsCarriedOn hook Here (after_edit n edit rows) next
    on = subst (λ (c : Content). IsCarriedOn hook c (after_edit n edit c.rows) next) (sym view) carried

    -- no dart is born, and those of C end
    cell-ended : (C : ℕ → Type 0) (Becomes : Links → Type 0) → PlansEnding k n rows C Becomes edit → IsRelinked hook Here 0 C Becomes next
    cell-ended C Becomes plan =
        subst (λ (born : ℕ). IsRelinked hook Here born C Becomes next) plan.births
        (relinked k n rows edit (seen-sound k n rows s.present kind dim same kept) (seen-begun rows s.present same kept) plan.fits C (λ x. ((plan.members x).1, (plan.members x).0)) hook s.present next on Becomes plan.becomes)

    -- a removal that is obeyed
    pub remove-obeyed : (x y : ℕ) → x ≡ i → y ≡ d → PlansRemoval k n rows x y (Ok edit) → Step hook s (Remove i d) (text.Done 0 0) new
    remove-obeyed x y is_x is_y plan =
        let can : PlansRemoval k n rows i d (Ok edit) = subst (λ (u : ℕ). PlansRemoval k n rows u d (Ok edit)) is_x (subst (λ (u : ℕ). PlansRemoval k n rows x u (Ok edit)) is_y plan) in
        let passes = subst (λ (c : Content). (c.dim < i → ⊥) × IsRemovable c.kind (links_of c.rows) i d
        × IsRelinked hook c 0 (InCell c.kind (links_of c.rows) i d) (IsRemoved c.kind i d (links_of c.rows)) next) view
        (low, can.0, cell-ended (InCell k (links_of rows) i d) (IsRemoved k i d (links_of rows)) can.1) in
        inr (passes.0, inr (live, inr (passes.1, (next, passes.2, refl, made))))

    -- a contraction that is obeyed
    pub contract-obeyed : (x y : ℕ) → x ≡ i → y ≡ d → PlansContraction k n rows x y (Ok edit) → Step hook s (Contract i d) (text.Done 0 0) new
    contract-obeyed x y is_x is_y plan =
        let can : PlansContraction k n rows i d (Ok edit) = subst (λ (u : ℕ). PlansContraction k n rows u d (Ok edit)) is_x (subst (λ (u : ℕ). PlansContraction k n rows x u (Ok edit)) is_y plan) in
        let passes = subst (λ (c : Content). (c.dim < i → ⊥) × IsContractible c.kind (links_of c.rows) i d
        × IsRelinked hook c 0 (InCell c.kind (links_of c.rows) i d) (IsContracted c.kind i d (links_of c.rows)) next) view
        (low, can.0, cell-ended (InCell k (links_of rows) i d) (IsContracted k i d (links_of rows)) can.1) in
        inr (passes.0, inr (live, inr (passes.1, (next, passes.2, refl, made))))
