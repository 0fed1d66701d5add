-- What the machine does where a mark is set, and where the steps since one are asked for.
use Rattle.std.proofs.Common.{◌≡◌, ℕ, List, [], ◌∷◌, map, Err, refl, sym, ap, ◌∙◌, subst, inl, inr}
use Rattle.map_kind.specs.declared.refusal.Refusal.{Refusal}
use Rattle.map_kind.specs.declared.refusal.Refusal.TheVariants as told_as
use Rattle.map_kind.specs.declared.refusal.Refused.{Refused}
use Rattle.map_kind.specs.declared.refusal.Refused.TheVariants as why
use Rattle.map_defs.specs.Values.{Hook}
use Rattle.machine_defs.specs.State.{Content, Mark as SetMark}
use Rattle.machine_defs.specs.Marking.{IsMark, since}
use Rattle.machine_defs.specs.Difference.{Difference, AreDifferences}
use Rattle.map_defs.specs.Refusal.{NoMark}
use Rattle.machine_defs.specs.Script.{Mark, Log}
use Rattle.machine_defs.specs.Listing.{names_of}
use Rattle.machine_defs.specs.Machine.{Step}
use Rattle.machine_defs.specs.Text as text
use Rattle.journal_laws.specs.Following.{all_put_forward, all_taken_back}
use Rattle.machine_laws.specs.Tracing.{AreTraced}
use Rattle.machine_laws.proofs.Traced.{leads-back, leads-forward}
use Rattle.trail_laws.specs.Trails as trails
use Rattle.trail_laws.specs.Trails.{Placed, Trail, standing_marks, mark_names, steps_since, IsOrdered, marked}
use Rattle.trail_laws.specs.Told.{mark_of, told, IsTraced}
use Rattle.trail_laws.proofs.Naming.{names-told, mark-told, mark-stands, trail-mark, all-kept, undone-follow}
use Rattle.trail_laws.proofs.Reading.{past-follow}
use Rattle.trail_laws.proofs.Marking.{told-marked}
use Rattle.trail_laws.proofs.Returning.{differ-since}
use Rattle.map_core.specs.Calls.{Does}
use Rattle.map_core.proofs.GoingBack.{one-mark}

-- marks that are told have the names of those that stand
names-of-told : (now : Content) (t : Trail) (marks : List Placed) → names_of (map (mark_of now t) marks) ≡ map (λ (m : Placed). m.name) marks
names-of-told now t [] = refl
names-of-told now t (mark ∷ marks) = ap (λ (names : List (List ℕ)). mark.name ∷ names) (names-of-told now t marks)

pub told-names : (now : Content) (t : Trail) → names_of (told now t).marks ≡ mark_names t
told-names now t = names-of-told now t (standing_marks t)

-- in what is told each content follows the one before it
pub told-traced : (now : Content) (t : Trail) → IsTraced now t → IsOrdered t → AreTraced (told now t)
told-traced now t h o = record { present = past-follow now t h o; undone = undone-follow now t o h }

module _ (now : Content) (t : Trail) (h : IsTraced now t) (o : IsOrdered t) (hook : Hook) (name : List ℕ) where
  -- a mark that is refused
  pub mark-refused : (r : Refused) → ((refusal : Refusal) → r ≡ why.Line refusal → (refusal ≡ told_as.MarkTaken) × trails.HasMark t name) → Does hook (told now t) (Mark name) (Err r) (told now t)
  mark-refused (why.Line refusal) taken =
      let is = taken refusal refl in
      rw is.0 (inl ((names-told now t o name).1 is.1, refl, refl))
  mark-refused why.NoMemory taken = refl

  -- one that is set
  pub mark-obeyed : (trails.HasMark t name → ⊥) → (u : Trail) → u ≡ marked t name → Step hook (told now t) (Mark name) (text.Done 0 0) (told now u)
  mark-obeyed free u is = inr (λ has. free ((names-told now t o name).0 has), (refl, ap (told now) is ∙ told-marked now t name h o))

  -- the steps since a mark
  pub log-answered : (k : ℕ) → trails.IsMark t name k → (steps : List Difference) → steps ≡ steps_since t k → Step hook (told now t) (Log name) (text.Logged steps) (told now t)
  log-answered k named steps are =
      let one = mark-told now t o name k named in
      inr ((k, one.0, one.1), (k, one.0, one.1, (steps, subst (AreDifferences (since (told now t) one.0)) (sym are) (differ-since now t name k h o (mark-stands now t o name k one.0 one.1) one.0 one.1), refl, refl)))

  pub log-refused : (trails.HasMark t name → ⊥) → Step hook (told now t) (Log name) (text.Refused NoMark) (told now t)
  log-refused none = inl (λ has. none ((names-told now t o name).0 has), refl, refl)

  -- and where they lead
  module _ (k : ℕ) (named : trails.IsMark t name k) (steps : List Difference) (are : steps ≡ steps_since t k) (i : ℕ) (mark : SetMark) (is : IsMark (told now t).marks name i mark) where
    differ : AreDifferences (since (told now t) mark) steps
    differ =
        let same : i ≡ k = one-mark t o name k i named (trail-mark now t o name i mark is) in
        subst (AreDifferences (since (told now t) mark)) (ap (steps_since t) same ∙ sym are)
        (differ-since now t name i h o (mark-stands now t o name i mark is) mark is)

    pub log-back : all_taken_back steps now ≡ mark.content
    log-back = leads-back (told now t) (all-kept now t o h) (told-traced now t h o) name i mark is steps differ

    pub log-forward : all_put_forward steps mark.content ≡ now
    log-forward = leads-forward (told now t) (all-kept now t o h) (told-traced now t h o) name i mark is steps differ
