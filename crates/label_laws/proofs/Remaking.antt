-- What an edit that fits leaves of a map besides its links.
use Rattle.std.proofs.Common.{◌≡◌, ℕ, ◌+◌, ◌<◌, ◌≤◌, ◌⊎◌, ◌↔◌, List, length, Option, Some, None, is_some, IsSome, refl, sym, ap, ◌∙◌, arith, inl, inr}
use Rattle.std.specs.Prelude.{Contains}
use Rattle.std.proofs.lemmas.Bool.{cases_lt, false≢true}
use Rattle.std.proofs.lemmas.List.{get_or_default}
use Rattle.map_defs.specs.Kind.{Kind}
use Rattle.map_defs.specs.Rows.{Rows, row_at, made, IsLive, IsSound, AreWide}
use Rattle.map_defs.specs.Edits.{Edit, with_births, with_changes, after_edit, Fits}
use Rattle.edit_laws.proofs.RowWrites.{births-wide, births-old, live-within}
use Rattle.edit_laws.proofs.EditSteps.{linked-live, linked-wide, buried-wide, buried-dead, buried-none}
use Rattle.edit_laws.proofs.EditSound.{length-births}
use Rattle.edit_laws.proofs.EditLinks.{lives-on}
use Rattle.edit_laws.proofs.EditBack.{born-live}

none-or-some : (o : Option (List ℕ)) → (o ≡ None) ⊎ IsSome o
none-or-some None = inl refl
none-or-some (Some row) = inr refl

dead : (rows : Rows) (d : ℕ) → row_at rows d ≡ None → IsLive rows d → ⊥
dead rows d none live = false≢true (sym (ap is_some none) ∙ live)

module _ (k : Kind) (n : ℕ) (rows : Rows) (e : Edit) (sound : IsSound k n rows) (begun : 0 < length rows) (fits : Fits k n rows e)
    (Ended : ℕ → Type 0) (ended : (d : ℕ) → Ended d ↔ Contains e.deaths d) where
  -- a dart that lives after the edit lived before it or was born
  pub lived : (d : ℕ) → IsLive (after_edit n e rows) d → IsLive rows d ⊎ ((made rows < d) × (d ≤ made rows + e.births))
  lived d live = elim (none-or-some (row_at (with_changes n e rows) d)) [
    | inl none ↦ absurd (dead (after_edit n e rows) d (buried-none e.deaths (with_changes n e rows) d none) live)
    | inr some ↦
        let there : IsLive (with_births n e.births rows) d = sym (linked-live e.changes (with_births n e.births rows) d) ∙ some in
        let within = live-within (with_births n e.births rows) d there in
        elim (cases_lt d (length rows)) [
          | inl old ↦ inl (sym (ap is_some (births-old n e.births rows d old)) ∙ there)
          | inr new ↦ inr (omega arith, omega (arith, length-births n e.births rows))
        ]
  ]

  -- and did not end
  pub not-ended : (d : ℕ) → IsLive (after_edit n e rows) d → Ended d → ⊥
  not-ended d live end =
      let at = (ended d).0 end in
      dead (after_edit n e rows) d (sym (ap (row_at (after_edit n e rows)) at.2) ∙ buried-dead e.deaths (with_changes n e rows) at.0 d at.1) live

  lives : (d : ℕ) → IsLive rows d ⊎ ((made rows < d) × (d ≤ made rows + e.births)) → (Ended d → ⊥) → IsLive (after_edit n e rows) d
  lives d (inl old) stays = lives-on k n rows e sound fits d old (λ p z h same. stays ((ended d).1 (p, h, get_or_default e.deaths p d z h ∙ sym same)))
  lives d (inr born) stays = born-live k n rows e sound fits d (omega (arith, born.0)) (omega (arith, born.1))

  pub live-after : (d : ℕ) → IsLive (after_edit n e rows) d ↔ ((IsLive rows d ⊎ ((made rows < d) × (d ≤ made rows + e.births))) × (Ended d → ⊥))
  live-after d = (λ live. (lived d live, not-ended d live), λ told. lives d told.0 told.1)

  pub wide-after : AreWide n (after_edit n e rows)
  wide-after = buried-wide n e.deaths (with_changes n e rows) (linked-wide n e.changes (with_births n e.births rows) (births-wide n e.births rows sound.wide))
