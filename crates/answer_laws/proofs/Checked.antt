-- Each check fails or passes, so a line has an answer where its effect has one.
use Rattle.std.proofs.Common.{◌⊎◌, List, [], ◌∷◌, refl, inl, inr}
use Rattle.map_defs.specs.Values.{Hook}
use Rattle.machine_defs.specs.State.{State}
use Rattle.machine_defs.specs.Script as says
use Rattle.machine_defs.specs.Script.{Line}
use Rattle.machine_defs.specs.Text.{Reply, Refused}
use Rattle.machine_defs.specs.Machine.{Check, checks, Judged}
use Rattle.machine_laws.proofs.Judging.{AllPass}
use Rattle.answer_laws.specs.Answering.{NotNot}
use Rattle.answer_laws.proofs.Choosing.{either_way}

-- something has this effect
abbrev pub Has : (Reply → State → Type 0) → Type 0
Has effect = (reply : Reply) × (new : State) × effect reply new

-- no check neither fails nor passes
abbrev AreDecided : List Check → Type 0
AreDecided [] = Unit {0}
AreDecided (check ∷ more) = NotNot (check.fails ⊎ check.passes) × AreDecided more

if-decided : (P : Type 0) → NotNot (P ⊎ (P → ⊥))
if-decided P = either_way P

unless-decided : (P : Type 0) → NotNot ((P → ⊥) ⊎ P)
unless-decided P never = either_way P (λ c. elim c [ inl p ↦ never (inr p) | inr n ↦ never (inl n) ])

pub decided : (hook : Hook) (s : State) (line : Line) → AreDecided (checks hook s line)
decided hook s (says.Polygon sides) = (if-decided _, (if-decided _, tt))
decided hook s says.Dart = (if-decided _, tt)
decided hook s (says.Del d) = (unless-decided _, (unless-decided _, tt))
decided hook s (says.Sew i d e) = (if-decided _, (unless-decided _, (unless-decided _, (unless-decided _, (unless-decided _, tt)))))
decided hook s (says.Unsew i d) = (if-decided _, (unless-decided _, (if-decided _, tt)))
decided hook s (says.Vertex d) = (unless-decided _, (if-decided _, tt))
decided hook s (says.Edge d e) = (unless-decided _, (unless-decided _, (unless-decided _, (if-decided _, (unless-decided _, (if-decided _, tt))))))
decided hook s (says.Face path) = (if-decided _, (unless-decided _, (unless-decided _, (unless-decided _, (unless-decided _, (if-decided _, tt))))))
decided hook s (says.Remove i d) = (if-decided _, (unless-decided _, (unless-decided _, tt)))
decided hook s (says.Contract i d) = (if-decided _, (unless-decided _, (unless-decided _, tt)))
decided hook s says.Dual = (unless-decided _, tt)
decided hook s (says.Close i) = (if-decided _, (if-decided _, tt))
decided hook s (says.Dangle d) = (unless-decided _, (unless-decided _, (if-decided _, tt)))
decided hook s (says.Center d) = (unless-decided _, (unless-decided _, (if-decided _, tt)))
decided hook s (says.Rule i merge split) = (if-decided _, (unless-decided _, tt))
decided hook s (says.Set i d value) = (if-decided _, (unless-decided _, (if-decided _, tt)))
decided hook s (says.Clear i d) = (if-decided _, (unless-decided _, (if-decided _, tt)))
decided hook s (says.Mark name) = (if-decided _, tt)
decided hook s (says.Undo name) = (unless-decided _, tt)
decided hook s (says.Redo name) = (unless-decided _, tt)
decided hook s (says.Log name) = (unless-decided _, tt)
decided hook s (says.Value i d) = (if-decided _, (unless-decided _, tt))
decided hook s (says.Cell i d) = (if-decided _, (unless-decided _, tt))
decided hook s (says.Same i d e) = (if-decided _, (unless-decided _, (unless-decided _, tt)))
decided hook s (says.Free i d) = (if-decided _, (unless-decided _, tt))
decided hook s (says.Removable i d) = (if-decided _, (unless-decided _, tt))
decided hook s (says.Contractible i d) = (if-decided _, (unless-decided _, tt))
decided hook s (says.Sewable i d e) = (if-decided _, (unless-decided _, (unless-decided _, tt)))
decided hook s says.Count = tt
decided hook s says.Show = tt
decided hook s says.Off = (if-decided _, (if-decided _, (if-decided _, tt)))

pub judged_found : (s : State) (effect : Reply → State → Type 0) (list : List Check) → AreDecided list → (AllPass list → NotNot (Has effect)) → NotNot (Has (Judged s list effect))
judged_found s effect [] d found never = found tt never
judged_found s effect (check ∷ more) d found never = d.0 (λ c. elim c [
  | inl fails ↦ never (Refused check.refusal, s, inl (fails, refl, refl))
  | inr passes ↦ judged_found s effect more d.1 (λ rest. found (passes, rest)) (λ j. never (j.0, j.1, inr (passes, j.2)))
])
