-- Each soak has a summary.
use Rattle.std.proofs.Common.{ℕ, zero, suc, ◌+◌, ◌%◌, List, [], ◌∷◌, ◌++◌, length, Option, Some, None, refl, arith}
use Rattle.std.specs.Prelude.{codes}
use Rattle.map_defs.specs.Kind.{Kind}
use Rattle.map_defs.specs.Rows.{made}
use Rattle.map_defs.specs.Values.{Hook}
use Rattle.machine_defs.specs.State.{State, empty_state}
use Rattle.machine_defs.specs.Kept.{IsLawfulState}
use Rattle.machine_defs.specs.Script.{Line, Rule}
use Rattle.machine_defs.specs.Text.{Reply, Counts, reply_text, any_refused, run_status}
use Rattle.machine_defs.specs.Listing.{listed_total}
use Rattle.machine_defs.specs.Soaking.{Takes, TakesSquares, Soaks, SoakAnswer, square_lines, drawn, next_seed, accepted, soak_line}
use Rattle.machine_laws.specs.Tracing.{AreTraced}
use Rattle.machine_laws.proofs.Traced.{first-traced}
use Rattle.machine_laws.proofs.OneStep.{step-kept, step-traced}
use Rattle.machine_laws.proofs.Begun.{empty-kept}
use Rattle.answer_laws.specs.Answering.{NotNot}
use Rattle.answer_laws.proofs.RunFound.{step_found, needs_traced}
use Rattle.answer_laws.proofs.Questions.{counts_found, dimension_listed}

module _ (hook : Hook) where
  -- a state that keeps what the states of a run keep, to which something leads
  abbrev Reached : (List Reply → State → Type 0) → Type 0
  Reached leads = (replies : List Reply) × (new : State) × leads replies new × IsLawfulState new × AreTraced new

  takes_found : (s : State) (lines : List Line) → IsLawfulState s → AreTraced s → NotNot (Reached (Takes hook s lines))
  takes_found s [] kept traced never = never ([], s, (refl, refl), kept, traced)
  takes_found s (line ∷ lines) kept traced never =
      step_found hook s line kept (needs_traced s traced line) (λ step.
      takes_found step.1 lines (step-kept hook s kept line step.0 step.1 step.2) (step-traced hook s kept traced line step.0 step.1 step.2) (λ rest.
      never (step.0 ∷ rest.0, rest.1, (step.0, rest.0, step.1, step.2, rest.2, refl), rest.3, rest.4)))

  squares_found : (kind : Kind) (before : Option ℕ) (seed count : ℕ) (s : State) → IsLawfulState s → AreTraced s → NotNot (Reached (TakesSquares hook kind before seed count s))
  squares_found kind before seed zero s kept traced never = never ([], s, (refl, refl), kept, traced)
  squares_found kind before seed (suc count) s kept traced never =
      takes_found s (square_lines kind before (made s.present.rows + 1) (drawn (next_seed seed) % 1000) (drawn (next_seed (next_seed seed)) % 4)) kept traced (λ here.
      squares_found kind (Some (made s.present.rows + 1)) (next_seed (next_seed seed)) count here.1 here.3 here.4 (λ rest.
      never (here.0 ++ rest.0, rest.1, (here.0, rest.0, here.1, here.2, rest.2, refl), rest.3, rest.4)))

  soaks_found : (kind : Kind) (seed count : ℕ) → NotNot (Reached (Soaks hook kind seed count))
  soaks_found kind seed count never =
      let kept = empty-kept kind 2 (omega arith) in
      takes_found (empty_state kind 2) (Rule 2 (codes "sum") (codes "share") ∷ []) kept (first-traced _) (λ first.
      let begun = first.2 in
      squares_found kind None seed count first.1 first.3 first.4 (λ rest.
      never (begun.0 ∷ rest.0, rest.1, (begun.0, rest.0, first.1, rw begun.4.1 begun.3, rest.2, refl), rest.3, rest.4)))

  pub soak_found : (kind : Kind) (seed count : ℕ) → NotNot ((text : List ℕ) × (status : ℕ) × SoakAnswer hook kind seed count text status)
  soak_found kind seed count never =
      soaks_found kind seed count (λ soak.
      dimension_listed soak.1.present soak.3.present.places 2 (λ values.
      counts_found soak.1.present.kind soak.1.present.dim soak.1.present.rows (λ counts.
      never (
        soak_line (length soak.0) (accepted soak.0) (listed_total 2 values.0).a ++ reply_text (Counts counts.0),
        run_status (any_refused soak.0),
        (soak.0, soak.1, values.0, counts.0, soak.2, values.1, counts.1, refl, refl),
      ))))
