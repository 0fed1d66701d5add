-- What the content is after a line that makes darts or changes links, and ends no dart.
use Rattle.std.proofs.Common.{◌≡◌, ℕ, ◌≤◌, List, [], ◌∷◌, Option, None, slice_index_or, refl, sym, ap, ◌∙◌, subst, inl}
use Rattle.map_defs.specs.Links.{Links}
use Rattle.map_defs.specs.Rows.{IsLive}
use Rattle.map_defs.specs.Edits.{free_row}
use Rattle.map_defs.specs.Values.{Hook, Rule}
use Rattle.machine_defs.specs.State.{State, Content, rule_at, with_born, steps_to}
use Rattle.machine_defs.specs.Relinking.{IsRelinked, NoDart, AreCarriedBy}
use Rattle.machine_defs.specs.Text.{Reply}
use Rattle.machine_defs.specs.Script as says
use Rattle.machine_defs.specs.Script.{Line}
use Rattle.machine_defs.specs.Machine.{Step, Effect, InsertsDarts, HangsEdges, Relinks, checks}
use Rattle.machine_laws.proofs.Judging.{judged-kept}
use Rattle.total_laws.specs.Totals.{IsSumShare, KeepsTotals, OnlyMakesDarts}

-- darts are born behind the old ones, or none is
pub data IsBehind (c next : Content) : Type 0 where
  same : next ≡ c → IsBehind c next
  born : (rows : List (List ℕ)) → next ≡ with_born c rows → IsBehind c next

-- the same, or links were changed, no dart ended and the values were carried
pub data Leads (hook : Hook) (c next : Content) : Type 0 where
  behind : IsBehind c next → Leads hook c next
  carried : next.kind ≡ c.kind → next.rules ≡ c.rules → ((d : ℕ) → IsLive c.rows d → IsLive next.rows d)
      → ((i : ℕ) → i ≤ c.dim → AreCarriedBy hook c next i (rule_at c i)) → Leads hook c next

present-is : (s new : State) (next : Content) → new ≡ steps_to s next → new.present ≡ next
present-is s new next e = ap (λ (t : State). t.present) e

module _ (hook : Hook) (s : State) where
  changed : (births : ℕ) (Becomes : Links → Type 0) (next : Content) (new : State) → IsRelinked hook s.present births NoDart Becomes next
      → new ≡ steps_to s next → Leads hook s.present new.present
  changed births Becomes next new r e = subst (λ (m : Content). Leads hook s.present m) (sym (present-is s new next e))
      (carried r.kind r.rules (λ d live. (r.live d).1 (inl live, λ ended. ended)) r.values)

  inserted : (K : ℕ → Type 0) (Becomes : (ℕ → ℕ) → Links → Type 0) (reply : Reply) (new : State) → InsertsDarts hook s K Becomes reply new
      → Leads hook s.present new.present
  inserted K Becomes reply new f = changed f.0 (Becomes f.2.star) f.1 new f.2.relinked f.4

  hung : (K : ℕ → Type 0) (Becomes : (ℕ → ℕ) → (ℕ → ℕ) → Links → Type 0) (reply : Reply) (new : State) → HangsEdges hook s K Becomes reply new
      → Leads hook s.present new.present
  hung K Becomes reply new f = changed f.0 (Becomes f.2.star f.2.tip) f.1 new f.2.relinked f.4

  relinked : (Becomes : Links → Type 0) (reply : Reply) (new : State) → Relinks hook s Becomes reply new → Leads hook s.present new.present
  relinked Becomes reply new f = changed 0 Becomes f.0 new f.1 f.3

  effect-leads : (line : Line) → KeepsTotals line → (reply : Reply) (new : State) → Effect hook s line reply new → Leads hook s.present new.present
  effect-leads (says.Polygon sides) k reply new e = behind (born _ (present-is s new _ e.1))
  effect-leads says.Dart k reply new e = behind (born (free_row s.present.dim ∷ []) (present-is s new _ e.1))
  effect-leads (says.Sew i d e) k reply new f = relinked _ reply new f
  effect-leads (says.Unsew i d) k reply new f = relinked _ reply new f
  effect-leads (says.Vertex d) k reply new f = inserted _ _ reply new f
  effect-leads (says.Edge d e) k reply new f = inserted _ _ reply new f
  effect-leads (says.Face path) k reply new f = inserted _ _ reply new f
  effect-leads (says.Close i) k reply new f = inserted _ _ reply new f
  effect-leads (says.Dangle d) k reply new f = hung _ _ reply new f
  effect-leads (says.Center d) k reply new f = hung _ _ reply new f
  effect-leads line k reply new f = absurd k

  pub step-leads : (line : Line) → KeepsTotals line → (reply : Reply) (new : State) → Step hook s line reply new → Leads hook s.present new.present
  step-leads line k reply new step =
      judged-kept s (Effect hook s line) (λ (t : State). Leads hook s.present t.present) reply new (checks hook s line) (behind (same refl))
      (λ passes. effect-leads line k reply new) step

  effect-behind : (line : Line) → OnlyMakesDarts line → (reply : Reply) (new : State) → Effect hook s line reply new → IsBehind s.present new.present
  effect-behind (says.Polygon sides) k reply new e = born _ (present-is s new _ e.1)
  effect-behind says.Dart k reply new e = born (free_row s.present.dim ∷ []) (present-is s new _ e.1)
  effect-behind line k reply new f = absurd k

  pub step-behind : (line : Line) → OnlyMakesDarts line → (reply : Reply) (new : State) → Step hook s line reply new → IsBehind s.present new.present
  step-behind line k reply new step =
      judged-kept s (Effect hook s line) (λ (t : State). IsBehind s.present t.present) reply new (checks hook s line) (same refl)
      (λ passes. effect-behind line k reply new) step

-- the rule stays
pub rule-stays : (hook : Hook) (i : ℕ) (c next : Content) → Leads hook c next → IsSumShare c i → IsSumShare next i
rule-stays hook i c next (behind (same e)) is = rw e is
rule-stays hook i c next (behind (born rows e)) is = rw e is
rule-stays hook i c next (carried kind rules live values) is =
    ap (λ (rs : List (Option Rule)). slice_index_or rs i None) rules ∙ is
