-- Undo leads where the steps of a log, taken back, lead.
use Rattle.std.proofs.Common.{◌≡◌, ℕ, List, sym, ap, ◌∙◌, subst, inl, inr}
use Rattle.map_defs.specs.Values.{Hook}
use Rattle.machine_defs.specs.State.{State, Mark}
use Rattle.machine_defs.specs.Kept.{IsLawfulState}
use Rattle.machine_defs.specs.Difference.{Difference, AreDifferences}
use Rattle.machine_defs.specs.Marking.{since}
use Rattle.machine_defs.specs.Script as says
use Rattle.machine_defs.specs.Text.{Reply, Logged}
use Rattle.machine_defs.specs.Machine.{Step}
use Rattle.journal_laws.specs.Following.{all_taken_back}
use Rattle.machine_laws.specs.Tracing.{AreTraced}
use Rattle.machine_laws.proofs.Marked.{mark-one}
use Rattle.machine_laws.proofs.Traced.{leads-back}

logged-one : (steps steps' : List Difference) → Logged steps ≡ Logged steps' → steps ≡ steps'
logged-one steps steps' e = cc

module _ (hook : Hook) (s : State) (name : List ℕ) (steps : List Difference) (reply : Reply) (same new : State) (kept : IsLawfulState s) (traced : AreTraced s) where
  pub undone-is : Step hook s (says.Log name) (Logged steps) same → Step hook s (says.Undo name) reply new → all_taken_back steps s.present ≡ new.present
  undone-is (inl refused) undo = absurd (let e = refused.1 in cc)
  undone-is (inr (has, told)) (inl refused) = absurd (refused.0 has)
  undone-is (inr (has, told)) (inr (has', undo)) =
      let are = subst (AreDifferences (since s told.1)) (sym (logged-one steps told.3.0 told.3.2)) told.3.1 in
      let one = (mark-one s.marks name kept.marked.named told.0 undo.0 told.1 undo.1 told.2 undo.2).1 in
      leads-back s kept traced name told.0 told.1 told.2 steps are
      ∙ ap (λ (mark : Mark). mark.content) one ∙ sym (ap (λ (state : State). state.present) undo.3.1)
