-- The live darts of a map that is made from nothing.
use Rattle.std.proofs.Common.{◌≡◌, ◌↔◌, ℕ, zero, suc, ◌+◌, ◌≤◌, List, [], ◌∷◌, length, Option, Some, None, is_some, refl, sym, ap, ◌∙◌, arith}
use Rattle.std.proofs.lemmas.Bool.{false≢true}
use Rattle.map_defs.specs.Kind.{Kind}
use Rattle.map_defs.specs.Rows.{row_at, links_of, IsLive, IsSound}
use Rattle.map_defs.specs.Edits.{Edit, Fits, with_births, with_changes, after_edit}
use Rattle.edit_laws.proofs.RowWrites.{live-within}
use Rattle.edit_laws.proofs.EditSteps.{linked-nothing, buried-none}
use Rattle.edit_laws.proofs.EditSound.{length-after}
use Rattle.edit_laws.proofs.EditBack.{born-live}

nothing-made : (n : ℕ) (e : Edit) → row_at (after_edit n e (None ∷ [])) 0 ≡ None
nothing-made n e = buried-none e.deaths (with_changes n e (None ∷ [])) 0 (linked-nothing e.changes (with_births n e.births (None ∷ [])) refl)

pub live-low : (n : ℕ) (e : Edit) (d : ℕ) → IsLive (after_edit n e (None ∷ [])) d → 1 ≤ d
live-low n e zero live = absurd (false≢true (sym (ap (λ (o : Option (List ℕ)). is_some o) (nothing-made n e)) ∙ live))
live-low n e (suc d) live = omega arith

pub live-high : (n : ℕ) (e : Edit) (d : ℕ) → IsLive (after_edit n e (None ∷ [])) d → d ≤ e.births
live-high n e d live = omega (arith, live-within (after_edit n e (None ∷ [])) d live, length-after n e (None ∷ []))

-- the map without darts
no-links : (i d : ℕ) → links_of (None ∷ []) i d ≡ 0
no-links i zero = refl
no-links i (suc d) = refl

pub none-sound : (k : Kind) (n : ℕ) → IsSound k n (None ∷ [])
none-sound k n = record {
  nothing = refl;
  live = λ i x linked. absurd (linked (no-links i x));
  back = λ i x linked. absurd (linked (no-links i x));
  wide = wide;
  few = omega arith;
}
  where
    wide : (d : ℕ) (row : List ℕ) → row_at (None ∷ []) d ≡ Some row → length row ≡ n + 1
    wide zero row is = absurd (cc (is))
    wide (suc d) row is = absurd (cc (is))

-- Just the darts live that were made.
pub live-made : (k : Kind) (n : ℕ) (e : Edit) → Fits k n (None ∷ []) e → (d : ℕ) → IsLive (after_edit n e (None ∷ [])) d ↔ ((1 ≤ d) × (d ≤ e.births))
live-made k n e fits d = (
  λ live. (live-low n e d live, live-high n e d live),
  λ h. born-live k n (None ∷ []) e (none-sound k n) fits d h.0 (let high = h.1 in omega arith),
)
