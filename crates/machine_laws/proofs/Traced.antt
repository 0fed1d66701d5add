-- The contents that a state keeps follow one another, and the steps since a mark lead back to it.
use Rattle.std.proofs.Common.{◌≡◌, ℕ, zero, suc, ◌+◌, ◌-◌, ◌≤◌, List, [], ◌∷◌, ◌++◌, length, get_or, drop, slice_get, All, refl, sym, ap, ◌∙◌, subst, append_assoc, arith}
use Rattle.std.proofs.lemmas.List.{drop-append-le, get_or-drop, get_or_push, length-append}
use Rattle.std.proofs.lemmas.List.Elements.{All-push}
use Rattle.std.proofs.lemmas.Option.{get_or_from_slice_get}
use Rattle.machine_defs.specs.State.{Content, State, Mark, Undone, kept_past, steps_to}
use Rattle.machine_defs.specs.Kept.{IsLawfulState}
use Rattle.machine_defs.specs.Difference.{Difference, AreDifferences}
use Rattle.machine_defs.specs.Marking.{IsMark, with_mark, undone_to, back_to, forth_to, since}
use Rattle.journal_laws.specs.Following.{Follows, AllFollow, all_put_forward, all_taken_back}
use Rattle.journal_laws.proofs.Chains.{follow-more, follow-front, to-first, to-last}
use Rattle.machine_laws.specs.Tracing.{AreTracedTo, AreTraced}
use Rattle.machine_laws.proofs.Marked.{mark-within, mark-copy, left-front, all-front, all-last}

-- the last contents alone
pub follow-rest : (j : ℕ) (cs : List Content) → AllFollow cs → AllFollow (drop j cs)
follow-rest zero cs follow = follow
follow-rest (suc j) [] follow = tt
follow-rest (suc j) (a ∷ []) follow = follow-rest j [] tt
follow-rest (suc j) (a ∷ b ∷ more) (f, follow) = follow-rest j (b ∷ more) follow

past-traced : (marks : List Mark) (past : List Content) (present next : Content) → AllFollow (past ++ present ∷ []) → Follows present next → AllFollow (kept_past marks past present ++ next ∷ [])
past-traced [] past present next follow f = tt
past-traced (mark ∷ marks) past present next follow f =
    subst AllFollow (sym (append_assoc past (present ∷ []) (next ∷ []))) (follow-more past present next follow f)

-- a step to a content that follows
pub step-traced : (s : State) (next : Content) → AreTraced s → Follows s.present next → AreTraced (steps_to s next)
step-traced s next traced f = record { present = past-traced s.marks s.past s.present next traced.present f; undone = λ p z h. absurd (omega arith) }

-- one more mark
pub mark-traced : (s : State) (name : List ℕ) → AreTraced s → AreTraced (with_mark s name)
mark-traced s name traced = record { present = traced.present; undone = λ p z h. absurd (omega arith) }

abbrev IsUndoneTraced : Undone → Type 0
IsUndoneTraced u = AreTracedTo u.past u.present

-- what the last undo took back
pub redo-traced : (s : State) (others : List Undone) (last : Undone) → AreTraced s → s.undone ≡ others ++ last ∷ [] → AreTraced (forth_to others last)
redo-traced s others last traced e =
    let all = subst (λ (us : List Undone). All IsUndoneTraced us) e traced.undone in
    record { present = all-last IsUndoneTraced others last all; undone = all-front IsUndoneTraced others last all }

-- undo and the steps since a mark
module _ (s : State) (kept : IsLawfulState s) (traced : AreTraced s) (name : List ℕ) (k : ℕ) (mark : Mark) (is : IsMark s.marks name k mark) where
  abbrev whole : List Content
  whole = s.past ++ s.present ∷ []

  within : mark.place ≤ length s.past
  within = mark-within s.marks s.past s.present kept.marked name k mark is

  pub undo-traced : AreTraced (back_to s k mark)
  undo-traced = record {
    present = subst AllFollow (left-front s.marks s.past s.present kept.marked name k mark is) (follow-front (suc mark.place) whole traced.present);
    undone = All-push (λ u. AreTracedTo u.past u.present) s.undone (undone_to s mark) traced.undone traced.present;
  }

  rest-is : drop mark.place whole ≡ since s mark
  rest-is = drop-append-le mark.place s.past (s.present ∷ []) within

  since-follow : AllFollow (since s mark)
  since-follow = subst AllFollow rest-is (follow-rest mark.place whole traced.present)

  since-first : get_or (since s mark) 0 mark.content ≡ mark.content
  since-first =
      ap (λ (cs : List Content). get_or cs 0 mark.content) (sym rest-is) ∙ get_or-drop mark.place whole 0 mark.content
      ∙ get_or_from_slice_get whole (mark.place + 0) mark.content mark.content
      (subst (λ (n : ℕ). slice_get whole n ≡ slice_get whole mark.place) (omega arith) refl ∙ mark-copy s.marks s.past s.present kept.marked name k mark is)

  long : length (since s mark) ≡ length (drop mark.place s.past) + 1
  long = length-append (drop mark.place s.past) (s.present ∷ [])

  since-last : get_or (since s mark) (length (since s mark) - 1) mark.content ≡ s.present
  since-last = get_or_push (drop mark.place s.past) s.present mark.content (length (since s mark) - 1) (omega (arith, long))

  module _ (steps : List Difference) (are : AreDifferences (since s mark) steps) where
    pub leads-back : all_taken_back steps s.present ≡ mark.content
    leads-back =
        ap (all_taken_back steps) (sym since-last) ∙ to-first (since s mark) steps mark.content since-follow are (omega (arith, long)) ∙ since-first

    pub leads-forward : all_put_forward steps mark.content ≡ s.present
    leads-forward =
        ap (all_put_forward steps) (sym since-first) ∙ to-last (since s mark) steps mark.content since-follow are (omega (arith, long)) ∙ since-last

-- a state without past and marks
pub first-traced : (c : Content) → AreTraced (record { present = c; past = []; marks = []; undone = [] })
first-traced c = record { present = tt; undone = λ p z h. absurd (omega arith) }
