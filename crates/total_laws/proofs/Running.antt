-- A script of lines that keep totals keeps the total.
use Rattle.std.proofs.Common.{◌≡◌, ℕ, List, [], ◌∷◌, Some, sym, ap, ◌∙◌, subst, inl, inr}
use Rattle.map_defs.specs.Values.{Value, Hook}
use Rattle.map_defs.specs.TextWords.{words_of}
use Rattle.machine_defs.specs.State.{Content, State}
use Rattle.machine_defs.specs.Kept.{IsLawfulState}
use Rattle.machine_defs.specs.Listing.{listed_total}
use Rattle.machine_defs.specs.Text.{Reply}
use Rattle.machine_defs.specs.Script.{Line, line_of}
use Rattle.machine_defs.specs.Machine.{Step, Obeys, blank, unread, obeyed, Run}
use Rattle.machine_laws.proofs.OneStep.{step-kept}
use Rattle.machine_laws.proofs.Runs.{obeys-kept}
use Rattle.total_laws.specs.Totals.{HasTotal, IsSumShare, KeepsTotals, SumsStayWithin, EachKeepsTotals}
use Rattle.total_laws.proofs.Places.{has-listing}
use Rattle.total_laws.proofs.Dimension.{one-total, listing-total, settled, totals-by}
use Rattle.total_laws.proofs.Leading.{step-leads, rule-stays}
use Rattle.total_laws.proofs.Stepping.{listed-stays}

-- one step
pub step-total : (hook : Hook) (s new : State) (line : Line) (reply : Reply) (i : ℕ) (total after : Value) → IsLawfulState s → IsSumShare s.present i
    → KeepsTotals line → Step hook s line reply new → SumsStayWithin hook i s.present new.present
    → HasTotal s.present i total → HasTotal new.present i after → total ≡ after
step-total hook s new line reply i total after kept rule keeps step within has has' =
    let lawful = (step-kept hook s kept line reply new step).present in
    totals-by s.present new.present kept.present.places lawful.places i
    (listed-stays hook i s.present new.present kept.present lawful rule within (step-leads hook s line keeps reply new step)) total after has has'

module _ (hook : Hook) (i : ℕ) where
  abbrev Stays : Content → Content → Type 0
  Stays c next = IsSumShare next i × ((total after : Value) → HasTotal c i total → HasTotal next i after → total ≡ after)

  same-stays : (c next : Content) → next ≡ c → IsSumShare c i → Stays c next
  same-stays c next e rule = (
    subst (λ (m : Content). IsSumShare m i) (sym e) rule,
    λ total after p q. one-total c i total after p (subst (λ (m : Content). HasTotal m i after) e q),
  )

  step-stays : (s : State) (words : List (List ℕ)) (here : List Reply) (new : State) → IsLawfulState s → IsLawfulState new → IsSumShare s.present i
      → ((told : Line) → line_of words ≡ Some told → KeepsTotals told) → SumsStayWithin hook i s.present new.present
      → Obeys hook s words here new → Stays s.present new.present
  step-stays s words here new kept after rule keeps within (blank n e f) = same-stays s.present new.present (ap (λ (t : State). t.present) f) rule
  step-stays s words here new kept after rule keeps within (unread first more are none e f) = same-stays s.present new.present (ap (λ (t : State). t.present) f) rule
  step-stays s words here new kept after rule keeps within (obeyed line reply told step e) =
      let leads = step-leads hook s line (keeps line told) reply new step in (
        rule-stays hook i s.present new.present leads rule,
        totals-by s.present new.present kept.present.places after.present.places i
            (listed-stays hook i s.present new.present kept.present after.present rule within leads),
      )

  pub run-stays : (s : State) (lines : List (List ℕ)) (replies : List Reply) (new : State) → IsLawfulState s → IsSumShare s.present i
      → Run hook s lines replies new → EachKeepsTotals hook i s lines → Stays s.present new.present
  run-stays s [] replies new kept rule r keeps = same-stays s.present new.present (ap (λ (t : State). t.present) r.1) rule
  run-stays s (line ∷ lines) replies new kept rule r keeps =
      let after = obeys-kept hook s (words_of line) r.0 r.2 kept r.3 in
      let each = keeps r.0 r.2 r.3 in
      let first : Stays s.present r.2.present = elim each.0 [
        | inl e ↦ same-stays s.present r.2.present e rule
        | inr p ↦ step-stays s (words_of line) r.0 r.2 kept after rule p.0 p.1 r.3
      ] in
      let rest = run-stays r.2 lines r.1 new after first.0 r.4 each.1 in (
        rest.0,
        λ total last p q. settled _ (has-listing r.2.present after.present.places) total last (λ there.
            first.1 total (listed_total i there.0) p (listing-total r.2.present i there.0 there.1)
            ∙ rest.1 (listed_total i there.0) last (listing-total r.2.present i there.0 there.1) q),
      )
