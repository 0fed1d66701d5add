-- The states to which the machine's lines lead, and what all states keep.
use Rattle.std.proofs.Common.{◌≡◌, ℕ, ◌+◌, List, [], ◌∷◌, ◌++◌, All, sym, subst, arith}
use Rattle.std.proofs.lemmas.List.Elements.{All-push, All-take}
use Rattle.machine_defs.specs.State.{Content, State, Mark, Undone, steps_to}
use Rattle.machine_defs.specs.Kept.{IsLawfulContent, AreMarksKept, IsLawfulState}
use Rattle.machine_defs.specs.Marking.{IsMark, HasMark, with_mark, undone_to, back_to, forth_to}
use Rattle.journal_laws.specs.Following.{Follows}
use Rattle.machine_laws.specs.Tracing.{AreTraced}
use Rattle.machine_laws.proofs.Marked.{at-mark, marks-set, marks-left, all-front, all-last}
use Rattle.machine_laws.proofs.Keeping.{kept-step}
use Rattle.machine_laws.proofs.Traced.{step-traced, mark-traced, undo-traced, redo-traced}

-- What a line leads to: the same state, a content that follows the present one, one more mark, an earlier state, or the one
-- before the last undo.
pub data Leads (s new : State) : Type 0 where
  to_same : new ≡ s → Leads s new
  to_next : (next : Content) → IsLawfulContent next → Follows s.present next → new ≡ steps_to s next → Leads s new
  to_marked : (name : List ℕ) → (HasMark s.marks name → ⊥) → new ≡ with_mark s name → Leads s new
  to_earlier : (name : List ℕ) (k : ℕ) (mark : Mark) → IsMark s.marks name k mark → new ≡ back_to s k mark → Leads s new
  to_undone : (others : List Undone) (last : Undone) → s.undone ≡ others ++ last ∷ [] → new ≡ forth_to others last → Leads s new

-- what an undo took back is kept
abbrev IsUndoneKept : Undone → Type 0
IsUndoneKept u = IsLawfulContent u.present × All IsLawfulContent u.past × All (λ m. IsLawfulContent m.content) u.marks × AreMarksKept u.marks u.past u.present

mark-kept : (s : State) (name : List ℕ) → IsLawfulState s → (HasMark s.marks name → ⊥) → IsLawfulState (with_mark s name)
mark-kept s name kept free = record {
  present = kept.present;
  past = kept.past;
  marks = All-push (λ m. IsLawfulContent m.content) s.marks _ kept.marks kept.present;
  marked = marks-set s.marks s.past s.present kept.marked name free;
  undone = λ p z h. absurd (omega arith);
}

undo-kept : (s : State) (name : List ℕ) (k : ℕ) (mark : Mark) → IsLawfulState s → IsMark s.marks name k mark → IsLawfulState (back_to s k mark)
undo-kept s name k mark kept is = record {
  present = at-mark (λ m. IsLawfulContent m.content) s.marks name k mark kept.marks is;
  past = All-take IsLawfulContent mark.place s.past kept.past;
  marks = All-take (λ m. IsLawfulContent m.content) (k + 1) s.marks kept.marks;
  marked = marks-left s.marks s.past s.present kept.marked name k mark is;
  undone = All-push IsUndoneKept s.undone (undone_to s mark) kept.undone (kept.present, kept.past, kept.marks, kept.marked);
}

redo-kept : (s : State) (others : List Undone) (last : Undone) → IsLawfulState s → s.undone ≡ others ++ last ∷ [] → IsLawfulState (forth_to others last)
redo-kept s others last kept e =
    let all = subst (λ (us : List Undone). All IsUndoneKept us) e kept.undone in
    let one = all-last IsUndoneKept others last all in
    record { present = one.0; past = one.1; marks = one.2; marked = one.3; undone = all-front IsUndoneKept others last all }

pub leads-kept : (s new : State) → IsLawfulState s → Leads s new → IsLawfulState new
leads-kept s new kept (to_same e) = subst IsLawfulState (sym e) kept
leads-kept s new kept (to_next next is f e) = subst IsLawfulState (sym e) (kept-step s next kept is)
leads-kept s new kept (to_marked name free e) = subst IsLawfulState (sym e) (mark-kept s name kept free)
leads-kept s new kept (to_earlier name k mark is e) = subst IsLawfulState (sym e) (undo-kept s name k mark kept is)
leads-kept s new kept (to_undone others last is e) = subst IsLawfulState (sym e) (redo-kept s others last kept is)

pub leads-traced : (s new : State) → IsLawfulState s → AreTraced s → Leads s new → AreTraced new
leads-traced s new kept traced (to_same e) = subst AreTraced (sym e) traced
leads-traced s new kept traced (to_next next is f e) = subst AreTraced (sym e) (step-traced s next traced f)
leads-traced s new kept traced (to_marked name free e) = subst AreTraced (sym e) (mark-traced s name traced)
leads-traced s new kept traced (to_earlier name k mark is e) = subst AreTraced (sym e) (undo-traced s kept traced name k mark is)
leads-traced s new kept traced (to_undone others last is e) = subst AreTraced (sym e) (redo-traced s others last traced is)
