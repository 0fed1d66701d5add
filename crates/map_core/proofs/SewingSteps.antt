-- What the machine does where darts are sewn or unsewn, by what the plans answer.
use Rattle.std.proofs.Common.{◌≡◌, ◌≢◌, ℕ, ◌<◌, ◌⊎◌, length, [], Result, Err, refl, sym, ap, subst, inl, inr, arith}
use Rattle.map_kind.specs.declared.refusal.Refusal.TheVariants as told
use Rattle.map_kind.specs.declared.refusal.Refused.{Refused}
use Rattle.map_kind.specs.declared.refusal.Refused.TheVariants as why
use Rattle.map_defs.specs.Kind.{Kind, beta, inverse, IsDistant}
use Rattle.map_defs.specs.Rows.{Rows, links_of, IsLive}
use Rattle.map_defs.specs.Edits.{Edit, Fits, after_edit}
use Rattle.machine_defs.specs.State.{State, Content, steps_to}
use Rattle.map_defs.specs.Values.{Hook}
use Rattle.map_defs.specs.Pairs.{IsGood}
use Rattle.map_defs.specs.Links.{Links}
use Rattle.machine_defs.specs.Relinking.{IsRelinked, NoDart}
use Rattle.map_defs.specs.Sewing.{SewnPairs, IsSewable, IsSewn, IsUnsewn}
use Rattle.machine_defs.specs.Script.{Sew, Unsew}
use Rattle.machine_defs.specs.Machine.{Step, AreFree, ArePaired, links_in}
use Rattle.machine_defs.specs.Text as text
use Rattle.machine_defs.specs.Kept.{IsLawfulContent}
use Rattle.label_laws.specs.Contents.{IsCarriedOn}
use Rattle.map_core.specs.Calls.{Does}
use Rattle.map_kind.specs.declared.done.Done.{Done}
use Rattle.map_core.proofs.Present.{seen_as, seen-is, seen-sound, seen-begun, relinked}

-- the number is no link that can be sewn
abbrev IsNoLink : Content → ℕ → Type 0
IsNoLink c i = (c.dim < i) ⊎ ((c.kind ≡ beta) × (i ≡ 0))

module _ (k : Kind) (n : ℕ) (rows : Rows) (hook : Hook) (s : State) (kind : s.present.kind ≡ k) (dim : s.present.dim ≡ n) (same : rows ≡ s.present.rows) (kept : IsLawfulContent s.present) (i d : ℕ)
    (link : ((n < i) ⊎ ((k ≡ beta) × (i ≡ 0))) → ⊥) (one : IsLive s.present.rows d) where
  abbrev Here : Content
  Here = seen_as k n rows s.present

  view : Here ≡ s.present
  view = seen-is k n rows s.present kind dim same

  -- a sewing that is refused
  pub sew-refused : (e : ℕ) → IsLive s.present.rows e → (x y z : ℕ) → x ≡ i → y ≡ d → z ≡ e
      → (r : Refused) (result : Result Done Refused) → result ≡ Err r
      → (r ≡ why.Line told.NotFree → (links_of rows x y ≢ 0) ⊎ (links_of rows (inverse k x) z ≢ 0))
      → (r ≡ why.Line told.Unsewable → (links_of rows x y ≡ 0) × (links_of rows (inverse k x) z ≡ 0)
      × (IsGood k (links_of rows) (IsDistant k x) (SewnPairs k (links_of rows) x y z) → ⊥))
      → (r ≡ why.NoMemory) ⊎ ((r ≡ why.Line told.NotFree) ⊎ (r ≡ why.Line told.Unsewable))
      → Does hook s (Sew i d e) result s
  sew-refused e other x y z is_x is_y is_z r result is not-free unsewable (inl memory) = rw (is, memory) refl
  sew-refused e other x y z is_x is_y is_z r result is not-free unsewable (inr (inl blocked)) =
      let free : (links_of rows i d ≡ 0) × (links_of rows (inverse k i) e ≡ 0) → ⊥ = λ ends.
      elim (rw (is_x, is_y, is_z) at not-free blocked) [ inl near ↦ near ends.0 | inr far ↦ far ends.1 ] in
      let fails = subst (λ (c : Content). (IsNoLink c i → ⊥) × (AreFree c i d e → ⊥)) view (link, free) in
      rw (is, blocked) (inr (fails.0, inr (one, inr (other, inl (fails.1, refl, refl)))))
  sew-refused e other x y z is_x is_y is_z r result is not-free unsewable (inr (inr unpaired)) =
      let bad = rw (is_x, is_y, is_z) at unsewable unpaired in
      let fails = subst (λ (c : Content). (IsNoLink c i → ⊥) × AreFree c i d e × (ArePaired c i d e → ⊥)) view (link, (bad.0, bad.1), bad.2) in
      rw (is, unpaired) (inr (fails.0, inr (one, inr (other, inr (fails.1, inl (fails.2, refl, refl))))))

  module _ (edit : Edit) (fits : Fits k n rows edit) (births : edit.births ≡ 0)
      (deaths : edit.deaths ≡ []) (new : State) (next : Content) (carried : IsCarriedOn hook s.present (after_edit n edit s.present.rows) next)
      (made : new ≡ steps_to s next) where
    on : IsCarriedOn hook Here (after_edit n edit rows) next
    on = subst (λ (c : Content). IsCarriedOn hook c (after_edit n edit c.rows) next) (sym view) carried

    -- no dart is born and none ends
    links-alone : (Becomes : Links → Type 0) → Becomes (links_of (after_edit n edit rows))
        → IsRelinked hook Here 0 NoDart Becomes next
    links-alone Becomes becomes =
        subst (λ (born : ℕ). IsRelinked hook Here born NoDart Becomes next) births
        (relinked k n rows edit (seen-sound k n rows s.present kind dim same kept) (seen-begun rows s.present same kept) fits NoDart (λ x. (λ none. absurd none, λ at. absurd (omega (arith, at.1, ap length deaths)))) hook s.present next on Becomes becomes)

    -- a sewing that is obeyed
    pub sew-obeyed : (e : ℕ) → IsLive s.present.rows e → (x y z : ℕ) → x ≡ i → y ≡ d → z ≡ e → IsSewable k (links_of rows) x y z
        → IsSewn k x y z (links_of rows) (links_of (after_edit n edit rows)) → Step hook s (Sew i d e) (text.Done 0 0) new
    sew-obeyed e other x y z is_x is_y is_z able sewn =
        let can : IsSewable k (links_of rows) i d e = rw (← is_x, ← is_y, ← is_z) able in
        let done : IsSewn k i d e (links_of rows) (links_of (after_edit n edit rows)) = rw (← is_x, ← is_y, ← is_z) sewn in
        let passes = subst (λ (c : Content). (IsNoLink c i → ⊥) × AreFree c i d e × ArePaired c i d e × IsRelinked hook c 0 NoDart (IsSewn c.kind i d e (links_in c)) next) view
        (link, (can.near, can.far), can.good, links-alone (IsSewn k i d e (links_of rows)) done) in
        inr (passes.0, inr (one, inr (other, inr (passes.1, inr (passes.2, (next, passes.3, refl, made))))))

    -- an unsewing that is obeyed
    pub unsew-obeyed : (x y : ℕ) → x ≡ i → y ≡ d → links_of rows x y ≢ 0
        → IsUnsewn k x y (links_of rows) (links_of (after_edit n edit rows)) → Step hook s (Unsew i d) (text.Done 0 0) new
    unsew-obeyed x y is_x is_y linked unsewn =
        let there : links_of rows i d ≢ 0 = rw (← is_x, ← is_y) linked in
        let done : IsUnsewn k i d (links_of rows) (links_of (after_edit n edit rows)) = rw (← is_x, ← is_y) unsewn in
        let passes = subst (λ (c : Content). (IsNoLink c i → ⊥) × (links_in c i d ≢ 0) × IsRelinked hook c 0 NoDart (IsUnsewn c.kind i d (links_in c)) next) view
        (link, there, links-alone (IsUnsewn k i d (links_of rows)) done) in
        inr (passes.0, inr (one, inr (passes.1, (next, passes.2, refl, made))))
