-- Lists of checks: the first that fails has the least number.
use Rattle.std.proofs.Common.{◌≡◌, ℕ, ◌≤◌, List, [], ◌∷◌, sym, ap, ◌∙◌, subst, inl, inr, arith, lit≤}
use Rattle.map_defs.specs.Refusal.{Refusal, number}
use Rattle.map_defs.specs.Values.{Hook}
use Rattle.machine_defs.specs.State.{State}
use Rattle.machine_defs.specs.Script as says
use Rattle.machine_defs.specs.Script.{Line}
use Rattle.machine_defs.specs.Text.{Reply, Refused}
use Rattle.machine_defs.specs.Machine.{Check, checks, Judged, FailsFor}

-- each check of the list has at least the number n
abbrev AllAbove : ℕ → List Check → Type 0
AllAbove n [] = Unit {0}
AllAbove n (check ∷ more) = (n ≤ number check.refusal) × AllAbove n more

-- no check passes and fails, and the numbers do not fall
abbrev pub AreOrdered : List Check → Type 0
AreOrdered [] = Unit {0}
AreOrdered (check ∷ more) = (check.passes → check.fails → ⊥) × AllAbove (number check.refusal) more × AreOrdered more

above : (n : ℕ) (list : List Check) (q : Refusal) → AllAbove n list → FailsFor list q → n ≤ number q
above n [] q all f = absurd f
above n (check ∷ more) q all (inl f) = let h = all.0 in let e = ap number f.0 in omega arith
above n (check ∷ more) q all (inr f) = above n more q all.1 f

-- a check that fails where P holds, and one that fails where it does not
if-apart : (P : Type 0) → (P → ⊥) → P → ⊥
if-apart P free h = free h

unless-apart : (P : Type 0) → P → (P → ⊥) → ⊥
unless-apart P h free = free h

pub ordered : (hook : Hook) (s : State) (line : Line) → AreOrdered (checks hook s line)
ordered hook s (says.Polygon sides) = (if-apart _, (lit≤ tt, tt), (if-apart _, tt, tt))
ordered hook s says.Dart = (if-apart _, tt, tt)
ordered hook s (says.Del d) = (unless-apart _, (lit≤ tt, tt), (unless-apart _, tt, tt))
ordered hook s (says.Sew i d e) = (
  if-apart _,
  (lit≤ tt, (lit≤ tt, (lit≤ tt, (lit≤ tt, tt)))),
  (
    unless-apart _,
    (lit≤ tt, (lit≤ tt, (lit≤ tt, tt))),
    (unless-apart _, (lit≤ tt, (lit≤ tt, tt)), (unless-apart _, (lit≤ tt, tt), (unless-apart _, tt, tt))),
  ),
)
ordered hook s (says.Unsew i d) = (if-apart _, (lit≤ tt, (lit≤ tt, tt)), (unless-apart _, (lit≤ tt, tt), (if-apart _, tt, tt)))
ordered hook s (says.Cell i d) = (if-apart _, (lit≤ tt, tt), (unless-apart _, tt, tt))
ordered hook s (says.Same i d e) = (if-apart _, (lit≤ tt, (lit≤ tt, tt)), (unless-apart _, (lit≤ tt, tt), (unless-apart _, tt, tt)))
ordered hook s (says.Free i d) = (if-apart _, (lit≤ tt, tt), (unless-apart _, tt, tt))
ordered hook s (says.Sewable i d e) = (if-apart _, (lit≤ tt, (lit≤ tt, tt)), (unless-apart _, (lit≤ tt, tt), (unless-apart _, tt, tt)))
ordered hook s says.Count = tt
ordered hook s says.Show = tt
ordered hook s (says.Vertex d) = (unless-apart _, (lit≤ tt, tt), (if-apart _, tt, tt))
ordered hook s (says.Edge d e) = (
  unless-apart _,
  (lit≤ tt, (lit≤ tt, (lit≤ tt, (lit≤ tt, (lit≤ tt, tt))))),
  (
    unless-apart _,
    (lit≤ tt, (lit≤ tt, (lit≤ tt, (lit≤ tt, tt)))),
    (
      unless-apart _,
      (lit≤ tt, (lit≤ tt, (lit≤ tt, tt))),
      (if-apart _, (lit≤ tt, (lit≤ tt, tt)), (unless-apart _, (lit≤ tt, tt), (if-apart _, tt, tt))),
    ),
  ),
)
ordered hook s (says.Face path) = (
  if-apart _,
  (lit≤ tt, (lit≤ tt, (lit≤ tt, (lit≤ tt, (lit≤ tt, tt))))),
  (
    unless-apart _,
    (lit≤ tt, (lit≤ tt, (lit≤ tt, (lit≤ tt, tt)))),
    (
      unless-apart _,
      (lit≤ tt, (lit≤ tt, (lit≤ tt, tt))),
      (unless-apart _, (lit≤ tt, (lit≤ tt, tt)), (unless-apart _, (lit≤ tt, tt), (if-apart _, tt, tt))),
    ),
  ),
)
ordered hook s (says.Remove i d) = (if-apart _, (lit≤ tt, (lit≤ tt, tt)), (unless-apart _, (lit≤ tt, tt), (unless-apart _, tt, tt)))
ordered hook s (says.Contract i d) = (if-apart _, (lit≤ tt, (lit≤ tt, tt)), (unless-apart _, (lit≤ tt, tt), (unless-apart _, tt, tt)))
ordered hook s says.Dual = (unless-apart _, tt, tt)
ordered hook s (says.Close i) = (if-apart _, (lit≤ tt, tt), (if-apart _, tt, tt))
ordered hook s (says.Dangle d) = (unless-apart _, (lit≤ tt, (lit≤ tt, tt)), (unless-apart _, (lit≤ tt, tt), (if-apart _, tt, tt)))
ordered hook s (says.Center d) = (unless-apart _, (lit≤ tt, (lit≤ tt, tt)), (unless-apart _, (lit≤ tt, tt), (if-apart _, tt, tt)))
ordered hook s (says.Rule i merge split) = (if-apart _, (lit≤ tt, tt), (unless-apart _, tt, tt))
ordered hook s (says.Set i d value) = (if-apart _, (lit≤ tt, (lit≤ tt, tt)), (unless-apart _, (lit≤ tt, tt), (if-apart _, tt, tt)))
ordered hook s (says.Clear i d) = (if-apart _, (lit≤ tt, (lit≤ tt, tt)), (unless-apart _, (lit≤ tt, tt), (if-apart _, tt, tt)))
ordered hook s (says.Mark name) = (if-apart _, tt, tt)
ordered hook s (says.Undo name) = (unless-apart _, tt, tt)
ordered hook s (says.Redo name) = (unless-apart _, tt, tt)
ordered hook s (says.Log name) = (unless-apart _, tt, tt)
ordered hook s (says.Value i d) = (if-apart _, (lit≤ tt, tt), (unless-apart _, tt, tt))
ordered hook s (says.Removable i d) = (if-apart _, (lit≤ tt, tt), (unless-apart _, tt, tt))
ordered hook s (says.Contractible i d) = (if-apart _, (lit≤ tt, tt), (unless-apart _, tt, tt))
ordered hook s says.Off = (if-apart _, (lit≤ tt, (lit≤ tt, tt)), (if-apart _, (lit≤ tt, tt), (if-apart _, tt, tt)))

refused-is : (r q : Refusal) → Refused r ≡ Refused q → r ≡ q
refused-is r q e = cc

module _ (s : State) (effect : Reply → State → Type 0) (r : Refusal) (new : State) (never : effect (Refused r) new → ⊥) where
  pub judged-fails : (list : List Check) → Judged s list effect (Refused r) new → FailsFor list r
  judged-fails [] j = absurd (never j)
  judged-fails (check ∷ more) (inl j) = inl (sym (refused-is r check.refusal j.1), j.0)
  judged-fails (check ∷ more) (inr j) = inr (judged-fails more j.1)

  pub judged-least : (list : List Check) → AreOrdered list → Judged s list effect (Refused r) new → (q : Refusal) → FailsFor list q → number r ≤ number q
  judged-least [] o j q f = absurd f
  judged-least (check ∷ more) o (inl j) q (inl f) = let e = ap number (refused-is r check.refusal j.1 ∙ f.0) in omega arith
  judged-least (check ∷ more) o (inl j) q (inr f) = let e = ap number (refused-is r check.refusal j.1) in let h = above (number check.refusal) more q o.1 f in omega arith
  judged-least (check ∷ more) o (inr j) q (inl f) = absurd (o.0 j.0 f.1)
  judged-least (check ∷ more) o (inr j) q (inr f) = judged-least more o.2 j.1 q f

  pub judged-unchanged : (list : List Check) → Judged s list effect (Refused r) new → new ≡ s
  judged-unchanged [] j = absurd (never j)
  judged-unchanged (check ∷ more) (inl j) = j.2
  judged-unchanged (check ∷ more) (inr j) = judged-unchanged more j.1

pub judged-accepted : (s : State) (effect : Reply → State → Type 0) (reply : Reply) (new : State) (list : List Check) → AreOrdered list
    → ((r : Refusal) → reply ≡ Refused r → ⊥) → Judged s list effect reply new → (q : Refusal) → FailsFor list q → ⊥
judged-accepted s effect reply new [] o no_refusal j q f = f
judged-accepted s effect reply new (check ∷ more) o no_refusal (inl j) q f = no_refusal check.refusal j.1
judged-accepted s effect reply new (check ∷ more) o no_refusal (inr j) q (inl f) = o.0 j.0 f.1
judged-accepted s effect reply new (check ∷ more) o no_refusal (inr j) q (inr f) = judged-accepted s effect reply new more o.2 no_refusal j.1 q f

-- all checks pass
abbrev pub AllPass : List Check → Type 0
AllPass [] = Unit {0}
AllPass (check ∷ more) = check.passes × AllPass more

-- What holds of two outcomes where both are refused alike, and where both are effects, holds of all.
pub judged-both : (s : State) (effect : Reply → State → Type 0) (one other : Reply) (new new' : State) (P : Type 0)
    → ((r : Refusal) → one ≡ Refused r → other ≡ Refused r → new ≡ s → new' ≡ s → P)
    → (list : List Check) → AreOrdered list → (AllPass list → effect one new → effect other new' → P)
    → Judged s list effect one new → Judged s list effect other new' → P
judged-both s effect one other new new' P refused [] o same j k = same tt j k
judged-both s effect one other new new' P refused (check ∷ more) o same (inl j) (inl k) = refused check.refusal j.1 k.1 j.2 k.2
judged-both s effect one other new new' P refused (check ∷ more) o same (inl j) (inr k) = absurd (o.0 k.0 j.0)
judged-both s effect one other new new' P refused (check ∷ more) o same (inr j) (inl k) = absurd (o.0 j.0 k.0)
judged-both s effect one other new new' P refused (check ∷ more) o same (inr j) (inr k) =
    judged-both s effect one other new new' P refused more o.2 (λ passes. same (j.0, passes)) j.1 k.1

-- what holds of a state holds after the judgement, where the effect keeps it
pub judged-kept : (s : State) (effect : Reply → State → Type 0) (P : State → Type 0) (reply : Reply) (new : State) (list : List Check) → P s
    → (AllPass list → effect reply new → P new) → Judged s list effect reply new → P new
judged-kept s effect P reply new [] h keeps j = keeps tt j
judged-kept s effect P reply new (check ∷ more) h keeps (inl j) = subst P (sym j.2) h
judged-kept s effect P reply new (check ∷ more) h keeps (inr j) = judged-kept s effect P reply new more h (λ passes. keeps (j.0, passes)) j.1
