-- The darts that live after an edit that fits: they lived before it, or it bore them.
use Rattle.std.proofs.Common.{◌≢◌, ℕ, ◌+◌, ◌<◌, ◌≤◌, ◌⊎◌, length, is_some, sym, ap, ◌∙◌, inl, inr, arith}
use Rattle.std.specs.Prelude.{All}
use Rattle.std.proofs.lemmas.Bool.{cases_lt, false≢true}
use Rattle.map_defs.specs.Kind.{Kind}
use Rattle.map_defs.specs.Rows.{Rows, row_at, IsLive, IsSound}
use Rattle.map_defs.specs.Edits.{Edit, with_births, with_changes, after_edit, Fits}
use Rattle.edit_laws.proofs.RowWrites.{births-old, live-within}
use Rattle.edit_laws.proofs.EditSteps.{linked-live, buried-other}
use Rattle.edit_laws.proofs.EditLinks.{ended}
use Rattle.edit_laws.proofs.EditSound.{length-after}

module _ (k : Kind) (n : ℕ) (rows : Rows) (e : Edit) (sound : IsSound k n rows) (fits : Fits k n rows e) (d : ℕ) (live : IsLive (after_edit n e rows) d) where
  -- it is not one that ends
  pub never-ended : All (λ (c : ℕ). d ≢ c) e.deaths
  never-ended p z h same =
      let gone = ended k n rows e sound fits p z h in
      false≢true (sym (ap is_some (ap (row_at (after_edit n e rows)) same ∙ gone)) ∙ live)

  live-started : IsLive (with_births n e.births rows) d
  live-started =
      sym (ap is_some (buried-other e.deaths (with_changes n e rows) d never-ended) ∙ linked-live e.changes (with_births n e.births rows) d) ∙ live

  pub lived-or-born : IsLive rows d ⊎ ((length rows ≤ d) × (d < length rows + e.births))
  lived-or-born = elim (cases_lt d (length rows)) [
    | inl old ↦ inl (sym (ap is_some (births-old n e.births rows d old)) ∙ live-started)
    | inr new ↦ inr (new, let high = live-within (after_edit n e rows) d live in omega (arith, length-after n e rows))
  ]
