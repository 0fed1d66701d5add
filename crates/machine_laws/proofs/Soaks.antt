-- A soak has one summary.
use Rattle.std.proofs.Common.{◌≡◌, ℕ, zero, suc, ◌+◌, ◌%◌, List, [], ◌∷◌, ◌++◌, length, Option, Some, None, sym, ap, ap₂, ◌∙◌, subst, arith}
use Rattle.std.specs.Prelude.{codes}
use Rattle.map_defs.specs.Kind.{Kind}
use Rattle.map_defs.specs.Rows.{made}
use Rattle.map_defs.specs.Values.{Hook}
use Rattle.machine_defs.specs.State.{State, empty_state}
use Rattle.machine_defs.specs.Kept.{IsLawfulState}
use Rattle.machine_defs.specs.Script.{Line, Rule}
use Rattle.machine_defs.specs.Text.{Reply, Counts, reply_text, any_refused, run_status}
use Rattle.machine_defs.specs.Listing.{ListValue, ListsValuesIn, listed_total}
use Rattle.map_defs.specs.Counts.{AreCounts}
use Rattle.machine_defs.specs.Soaking.{Takes, TakesSquares, Soaks, SoakAnswer, square_lines, drawn, next_seed, accepted, soak_line}
use Rattle.machine_laws.proofs.OneStep.{step-one-kept, step-kept}
use Rattle.machine_laws.proofs.ValueLists.{one-dimension}
use Rattle.machine_laws.proofs.Answers.{counts-one}
use Rattle.machine_laws.proofs.Begun.{empty-kept}

module _ (hook : Hook) where
  -- steps keep what every state keeps
  pub takes-kept : (s : State) (lines : List Line) (replies : List Reply) (new : State) → IsLawfulState s → Takes hook s lines replies new → IsLawfulState new
  takes-kept s [] replies new kept t = subst IsLawfulState (sym t.1) kept
  takes-kept s (line ∷ lines) replies new kept t = takes-kept t.2 lines t.1 new (step-kept hook s kept line t.0 t.2 t.3) t.4

  takes-one : (s : State) (lines : List Line) (replies replies' : List Reply) (new new' : State) → IsLawfulState s → Takes hook s lines replies new → Takes hook s lines replies' new'
      → (replies ≡ replies') × (new ≡ new')
  takes-one s [] replies replies' new new' kept t u = (t.0 ∙ sym u.0, t.1 ∙ sym u.1)
  takes-one s (line ∷ lines) replies replies' new new' kept t u =
      let first = step-one-kept hook s kept line t.0 u.0 t.2 u.2 t.3 u.3 in
      let rest = takes-one u.2 lines t.1 u.1 new new' (step-kept hook s kept line u.0 u.2 u.3) (subst (λ (m : State). Takes hook m lines t.1 new) first.1 t.4) u.4 in
      (t.5 ∙ ap₂ (λ (r : Reply) (rs : List Reply). r ∷ rs) first.0 rest.0 ∙ sym u.5, rest.1)

  -- the lines of the next square
  abbrev lines_for : Kind → Option ℕ → ℕ → State → List Line
  lines_for kind before seed s = square_lines kind before (made s.present.rows + 1) (drawn (next_seed seed) % 1000) (drawn (next_seed (next_seed seed)) % 4)

  pub squares-kept : (kind : Kind) (before : Option ℕ) (seed count : ℕ) (s : State) (replies : List Reply) (new : State) → IsLawfulState s → TakesSquares hook kind before seed count s replies new → IsLawfulState new
  squares-kept kind before seed zero s replies new kept t = subst IsLawfulState (sym t.1) kept
  squares-kept kind before seed (suc count) s replies new kept t =
      squares-kept kind (Some (made s.present.rows + 1)) (next_seed (next_seed seed)) count t.2 t.1 new (takes-kept s (lines_for kind before seed s) t.0 t.2 kept t.3) t.4

  squares-one : (kind : Kind) (before : Option ℕ) (seed count : ℕ) (s : State) (replies replies' : List Reply) (new new' : State) → IsLawfulState s
      → TakesSquares hook kind before seed count s replies new → TakesSquares hook kind before seed count s replies' new' → (replies ≡ replies') × (new ≡ new')
  squares-one kind before seed zero s replies replies' new new' kept t u = (t.0 ∙ sym u.0, t.1 ∙ sym u.1)
  squares-one kind before seed (suc count) s replies replies' new new' kept t u =
      let here = takes-one s (lines_for kind before seed s) t.0 u.0 t.2 u.2 kept t.3 u.3 in
      let rest = squares-one kind (Some (made s.present.rows + 1)) (next_seed (next_seed seed)) count u.2 t.1 u.1 new new' (takes-kept s (lines_for kind before seed s) u.0 u.2 kept u.3)
      (subst (λ (m : State). TakesSquares hook kind (Some (made s.present.rows + 1)) (next_seed (next_seed seed)) count m t.1 new) here.1 t.4) u.4 in
      (t.5 ∙ ap₂ (λ (r : List Reply) (rs : List Reply). r ++ rs) here.0 rest.0 ∙ sym u.5, rest.1)

  soaks-one : (kind : Kind) (seed count : ℕ) (replies replies' : List Reply) (new new' : State) → Soaks hook kind seed count replies new → Soaks hook kind seed count replies' new'
      → (replies ≡ replies') × (new ≡ new')
  soaks-one kind seed count replies replies' new new' t u =
      let kept = empty-kept kind 2 (omega arith) in
      let line = Rule 2 (codes "sum") (codes "share") in
      let first = step-one-kept hook (empty_state kind 2) kept line t.0 u.0 t.2 u.2 t.3 u.3 in
      let rest = squares-one kind None seed count u.2 t.1 u.1 new new' (step-kept hook (empty_state kind 2) kept line u.0 u.2 u.3)
      (subst (λ (m : State). TakesSquares hook kind None seed count m t.1 new) first.1 t.4) u.4 in
      (t.5 ∙ ap₂ (λ (r : Reply) (rs : List Reply). r ∷ rs) first.0 rest.0 ∙ sym u.5, rest.1)

  pub soak-one : (kind : Kind) (seed count : ℕ) (one other : List ℕ) (status status' : ℕ) → SoakAnswer hook kind seed count one status → SoakAnswer hook kind seed count other status'
      → (one ≡ other) × (status ≡ status')
  soak-one kind seed count one other status status' a b =
      let same = soaks-one kind seed count a.0 b.0 a.1 b.1 a.4 b.4 in
      let values : a.2 ≡ b.2 = one-dimension b.1.present 2 a.2 b.2 (subst (λ (s : State). ListsValuesIn s.present 2 a.2) same.1 a.5) b.5 in
      let counts : a.3 ≡ b.3 = counts-one b.1.present.kind b.1.present.dim b.1.present.rows a.3 b.3 (subst (λ (s : State). AreCounts s.present.kind s.present.dim s.present.rows a.3) same.1 a.6) b.6 in (
        a.7 ∙ ap₂ (λ (r : List Reply) (t : List ℕ). soak_line (length r) (accepted r) (listed_total 2 a.2).a ++ t) same.0 (ap (λ (cs : List ℕ). reply_text (Counts cs)) counts)
            ∙ ap (λ (vs : List ListValue). soak_line (length b.0) (accepted b.0) (listed_total 2 vs).a ++ reply_text (Counts b.3)) values ∙ sym b.7,
        a.8 ∙ ap (λ (r : List Reply). run_status (any_refused r)) same.0 ∙ sym b.8,
      )
