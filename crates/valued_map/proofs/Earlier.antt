-- What steps that led to a content tell of the content before them: which links and lives may be others.
use Rattle.std.proofs.Common.{ℕ, suc, ◌≡◌, ◌≢◌, ◌+◌, ◌<◌, ◌≤◌, ◌==◌, Bool, false, inl, inr, refl, ap, subst, ◌∙◌, List, [], ◌∷◌, length, get_or, drop, Contains, arith}
use Rattle.std.specs.Prelude.{if◌then◌else◌}
use Rattle.map_defs.specs.Rows.{IsLive, links_of, made}
use Rattle.map_defs.specs.Edits.{Change, before_edit}
use Rattle.machine_defs.specs.State.{Content}
use Rattle.machine_defs.specs.Difference.{Difference, IsDifference, first_born}
use Rattle.machine_defs.specs.Kept.{IsLawfulContent}
use Rattle.link_laws.proofs.Basics.{same_or_not}
use Rattle.link_laws.proofs.RowFacts.{live_or_free}
use Rattle.edit_laws.proofs.RowWrites.{live-within}
use Rattle.journal_laws.specs.Following.{Follows, all_taken_back}
use Rattle.valued_map.specs.Undoing.{AreStepsTo, no_step, rows_before}

-- the same, one step after another
abbrev pub AreStepsOn : Content → List Difference → Type 0
AreStepsOn now [] = IsLawfulContent now
AreStepsOn now (s ∷ ss) = IsLawfulContent (all_taken_back (s ∷ ss) now) × Follows (all_taken_back (s ∷ ss) now) (all_taken_back ss now)
    × IsDifference (all_taken_back (s ∷ ss) now) (all_taken_back ss now) s × AreStepsOn now ss

steps-later : (now : Content) (s : Difference) (ss : List Difference) → AreStepsTo now (s ∷ ss) → AreStepsTo now ss
steps-later now s ss to = record {
  kept = λ j h. to.kept (suc j) (omega arith);
  follow = λ j h.
      let e : suc j + 1 ≡ suc (j + 1) = omega arith in
      subst (λ (m : ℕ). Follows (all_taken_back (drop j ss) now) (all_taken_back (drop m (s ∷ ss)) now)) e (to.follow (suc j) (omega arith));
  differ = λ j d h.
      let e : suc j + 1 ≡ suc (j + 1) = omega arith in
      subst (λ (m : ℕ). IsDifference (all_taken_back (drop j ss) now) (all_taken_back (drop m (s ∷ ss)) now) (get_or ss j d)) e (to.differ (suc j) d (omega arith));
}

pub steps-on : (now : Content) (steps : List Difference) → AreStepsTo now steps → AreStepsOn now steps
steps-on now [] to = to.kept 0 (omega arith)
steps-on now (s ∷ ss) to = (to.kept 0 (omega arith), to.follow 0 (omega arith), to.differ 0 no_step (omega arith), steps-on now ss (steps-later now s ss to))

pub kind-before : (now : Content) (steps : List Difference) → (all_taken_back steps now).kind ≡ now.kind
kind-before now [] = refl
kind-before now (s ∷ ss) = kind-before now ss

pub dim-before : (now : Content) (steps : List Difference) → (all_taken_back steps now).dim ≡ now.dim
dim-before now [] = refl
dim-before now (s ∷ ss) = dim-before now ss

pub rows-are : (now : Content) (steps : List Difference) → (all_taken_back steps now).rows ≡ rows_before now.dim steps now.rows
rows-are now [] = refl
rows-are now (s ∷ ss) =
    ap (λ (n : ℕ). before_edit n s.edit (all_taken_back ss now).rows) (dim-before now ss)
    ∙ ap (before_edit now.dim s.edit) (rows-are now ss)

-- something of a later step is something of the steps
pub later : (s : Difference) (ss : List Difference) (t : Difference) → Contains ss t → Contains (s ∷ ss) t
later s ss t c = (suc c.0, (let lt : c.0 < length ss = c.1 in omega arith), c.2)

pub first : (s : Difference) (ss : List Difference) → Contains (s ∷ ss) s
first s ss = (0, omega arith, refl)

-- a link that differs now was changed by some step
pub link-changed : (now : Content) (steps : List Difference) → AreStepsOn now steps → (t x : ℕ)
    → links_of (all_taken_back steps now).rows t x ≢ links_of now.rows t x
    → (s : Difference) × Contains steps s × (c : Change) × Contains s.edit.changes c × (c.dart ≡ x) × (c.link ≡ t)
link-changed now [] on t x differ = absurd (differ refl)
link-changed now (s ∷ ss) on t x differ = elim (same_or_not (links_of (all_taken_back ss now).rows t x) (links_of now.rows t x)) [
  | inl same ↦
      let c : Change = record { dart = x; link = t; old = links_of (all_taken_back (s ∷ ss) now).rows t x; new = links_of (all_taken_back ss now).rows t x } in
      (s, first s ss, c, (on.2.links c).1 (refl, refl, λ e. differ (e ∙ same)), refl, refl)
  | inr other ↦ let f = link-changed now ss on.3 t x other in (f.0, later s ss f.0 f.1, f.2, f.3, f.4, f.5)
]

-- a dart that lived before and does not now was ended by some step
pub life-ended : (now : Content) (steps : List Difference) → AreStepsOn now steps → (x : ℕ) → IsLive (all_taken_back steps now).rows x → (IsLive now.rows x → ⊥)
    → (s : Difference) × Contains steps s × Contains s.edit.deaths x
life-ended now [] on x live dead = absurd (dead live)
life-ended now (s ∷ ss) on x live dead = elim (live_or_free (all_taken_back ss now).rows x) [
  | inl next ↦ let f = life-ended now ss on.3 x next dead in (f.0, later s ss f.0 f.1, f.2)
  | inr gone ↦ (s, first s ss, (on.2.ended x).1 (live, gone.0))
]

-- where darts are born, the number of the first is told
first-told : (a : Content) (births : ℕ) → 1 ≤ births → first_born a births ≡ made a.rows + 1
first-told a births some = ap (λ (b : Bool). if b then 0 else made a.rows + 1) (nonzero births some)
  where
    nonzero : (m : ℕ) → 1 ≤ m → (m == 0) ≡ false
    nonzero m h = grind arith

-- a dart that lives after a step and not before it was born in it
step-born : (a b : Content) (s : Difference) → Follows a b → IsDifference a b s → (x : ℕ) → IsLive b.rows x → (IsLive a.rows x → ⊥) → (s.first ≤ x) × (x < s.first + s.edit.births)
step-born a b s follows differ x live dead = elim (follows.ended x live) [
  | inl before ↦ absurd (dead before)
  | inr above ↦
      let within : x < length b.rows = live-within b.rows x live in
      let born = differ.born in
      let begun = follows.begun in
      let some : 1 ≤ s.edit.births = omega (arith, above, within, born, begun) in
      let told : s.first ≡ made a.rows + 1 = differ.first ∙ first-told a s.edit.births some in
      (omega (arith, above, told), omega (arith, within, born, begun, told))
]

-- a dart that lives now and did not before was born in some step
pub life-begun : (now : Content) (steps : List Difference) → AreStepsOn now steps → (x : ℕ) → IsLive now.rows x → (IsLive (all_taken_back steps now).rows x → ⊥)
    → (s : Difference) × Contains steps s × ((s.first ≤ x) × (x < s.first + s.edit.births))
life-begun now [] on x live dead = absurd (dead live)
life-begun now (s ∷ ss) on x live dead = elim (live_or_free (all_taken_back ss now).rows x) [
  | inl next ↦ (s, first s ss, step-born (all_taken_back (s ∷ ss) now) (all_taken_back ss now) s on.1 on.2 x next dead)
  | inr gone ↦ let f = life-begun now ss on.3 x live gone.0 in (f.0, later s ss f.0 f.1, f.2)
]
