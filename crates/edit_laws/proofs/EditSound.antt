-- Sound rows stay sound under an edit that fits.
use Rattle.std.proofs.Common.{◌≡◌, ◌≢◌, ℕ, ◌+◌, ◌<◌, ◌≤◌, List, length, get_or, replicate, Option, Some, None, is_some, sym, ap, ◌∙◌, arith}
use Rattle.std.specs.Prelude.{All}
use Rattle.std.proofs.lemmas.List.{length-append, length-replicate}
use Rattle.map_defs.specs.Kind.{Kind, inverse}
use Rattle.map_defs.specs.Rows.{Rows, row_at, links_of, entry_of, made, made_max, IsLive, IsSound}
use Rattle.map_defs.specs.Edits.{Edit, free_row, with_births, with_changes, after_edit, Fits}
use Rattle.edit_laws.proofs.RowWrites.{some_unless, births-wide, births-old, live-within}
use Rattle.edit_laws.proofs.EditSteps.{linked-length, linked-live, linked-wide, linked-nothing, buried-length, buried-none, buried-wide, buried-links}

pub length-births : (n births : ℕ) (rows : Rows) → length (with_births n births rows) ≡ length rows + births
length-births n births rows =
    length-append rows (replicate births (Some (free_row n))) ∙ ap (λ (m : ℕ). length rows + m) (length-replicate births (Some (free_row n)))

pub length-after : (n : ℕ) (e : Edit) (rows : Rows) → length (after_edit n e rows) ≡ length rows + e.births
length-after n e rows =
    buried-length e.deaths (with_changes n e rows) ∙ linked-length e.changes (with_births n e.births rows) ∙ length-births n e.births rows

module _ (k : Kind) (n : ℕ) (rows : Rows) (e : Edit) (begun : 0 < length rows) (sound : IsSound k n rows) (fits : Fits k n rows e) where
  same-links : (i x : ℕ) → links_of (after_edit n e rows) i x ≡ links_of (with_changes n e rows) i x
  same-links = buried-links e.deaths (with_changes n e rows) fits.free

  nothing-after : row_at (after_edit n e rows) 0 ≡ None
  nothing-after =
      buried-none e.deaths (with_changes n e rows) 0
      (linked-nothing e.changes (with_births n e.births rows) (births-old n e.births rows 0 begun ∙ sound.nothing))

  back-after : (i x : ℕ) → links_of (after_edit n e rows) i x ≢ 0 → links_of (after_edit n e rows) (inverse k i) (links_of (after_edit n e rows) i x) ≡ x
  back-after i x linked =
      ap (links_of (after_edit n e rows) (inverse k i)) (same-links i x)
      ∙ same-links (inverse k i) (links_of (with_changes n e rows) i x)
      ∙ fits.back i x (λ none. linked (same-links i x ∙ none))

  live-after : (i x : ℕ) → links_of (after_edit n e rows) i x ≢ 0 → IsLive (after_edit n e rows) (links_of (after_edit n e rows) i x)
  live-after i x linked =
      let back = back-after i x linked in
      let dead : row_at (after_edit n e rows) (links_of (after_edit n e rows) i x) ≡ None → ⊥ = λ none.
      let zeroth : x ≡ 0 = sym back ∙ ap (λ (o : Option (List ℕ)). entry_of o (inverse k i)) none in
      linked (ap (links_of (after_edit n e rows) i) zeroth ∙ ap (λ (o : Option (List ℕ)). entry_of o i) nothing-after) in
      some_unless (row_at (after_edit n e rows) (links_of (after_edit n e rows) i x)) dead

  -- The rows after the edit are sound.
  pub after-sound : made rows + e.births ≤ made_max → IsSound k n (after_edit n e rows)
  after-sound few = record {
    nothing = nothing-after;
    live = live-after;
    back = back-after;
    wide = buried-wide n e.deaths (with_changes n e rows) (linked-wide n e.changes (with_births n e.births rows) (births-wide n e.births rows sound.wide));
    few = omega (arith, length-after n e rows);
  }

-- the darts that end still live after the changes
pub living-changes : (k : Kind) (n : ℕ) (rows : Rows) (e : Edit) → Fits k n rows e → All (IsLive (with_changes n e rows)) e.deaths
living-changes k n rows e fits p z h =
    let d : ℕ = get_or e.deaths p z in
    let lives = fits.living p z h in
    linked-live e.changes (with_births n e.births rows) d ∙ ap is_some (births-old n e.births rows d (live-within rows d lives)) ∙ lives
