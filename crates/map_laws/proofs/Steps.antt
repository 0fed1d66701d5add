-- Lines that are obeyed pass all their checks, and lines that pass them are not refused.
use Rattle.std.proofs.Common.{ℕ, ◌≡◌, List, [], ◌∷◌, inl, inr}
use Rattle.map_defs.specs.Refusal.{Refusal}
use Rattle.map_defs.specs.Values.{Hook}
use Rattle.machine_defs.specs.State.{State}
use Rattle.machine_defs.specs.Script.{Line}
use Rattle.machine_defs.specs.Text.{Reply, Done, Refused}
use Rattle.machine_defs.specs.Machine.{Check, Step, Effect, Judged, FailsFor, checks}
use Rattle.machine_laws.proofs.Judging.{AreOrdered, AllPass, ordered, judged-fails, judged-unchanged}
use Rattle.machine_laws.proofs.OneStep.{effect-refuses}

judged-obeyed : (s : State) (effect : Reply → State → Type 0) (reply : Reply) (new : State) → ((r : Refusal) → reply ≡ Refused r → ⊥)
    → (list : List Check) → Judged s list effect reply new → AllPass list × effect reply new
judged-obeyed s effect reply new no_refusal [] j = (tt, j)
judged-obeyed s effect reply new no_refusal (check ∷ more) (inl j) = absurd (no_refusal check.refusal j.1)
judged-obeyed s effect reply new no_refusal (check ∷ more) (inr j) =
    let rest = judged-obeyed s effect reply new no_refusal more j.1 in ((j.0, rest.0), rest.1)

pub obeyed : (hook : Hook) (s : State) (line : Line) (first count : ℕ) (new : State) → Step hook s line (Done first count) new
    → AllPass (checks hook s line) × Effect hook s line (Done first count) new
obeyed hook s line first count new step =
    judged-obeyed s (Effect hook s line) (Done first count) new (λ r e. cc (e)) (checks hook s line) step

none-fails : (list : List Check) → AreOrdered list → AllPass list → (r : Refusal) → FailsFor list r → ⊥
none-fails [] o p r f = f
none-fails (check ∷ more) o p r (inl f) = o.0 p.0 f.1
none-fails (check ∷ more) o p r (inr f) = none-fails more o.2 p.1 r f

-- what passes all checks is not refused
pub not-refused : (hook : Hook) (s : State) (line : Line) → AllPass (checks hook s line) → (r : Refusal) (new : State) → Step hook s line (Refused r) new → ⊥
not-refused hook s line passes r new step =
    none-fails (checks hook s line) (ordered hook s line) passes r
    (judged-fails s (Effect hook s line) r new (effect-refuses hook s line r new) (checks hook s line) step)

-- what is refused leaves the state as it was
pub refused-same : (hook : Hook) (s : State) (line : Line) (r : Refusal) (new : State) → Step hook s line (Refused r) new → new ≡ s
refused-same hook s line r new step = judged-unchanged s (Effect hook s line) r new (effect-refuses hook s line r new) (checks hook s line) step
