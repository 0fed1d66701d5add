-- What an edit that fits makes of the links and of the darts: each change's new entry, and all else as it was.
use Rattle.std.proofs.Common.{◌≡◌, ◌≢◌, ℕ, zero, suc, ◌+◌, ◌≤◌, List, [], ◌∷◌, length, get_or, Option, None, Some, is_some, IsSome, refl, ap, ◌∙◌, arith}
use Rattle.std.specs.Prelude.{All, option_map, slice_set}
use Rattle.std.specs.List.{AllPairs}
use Rattle.std.proofs.lemmas.Bool.{false≢true}
use Rattle.std.proofs.lemmas.List.{get_or-set_same}
use Rattle.map_defs.specs.Kind.{Kind}
use Rattle.map_defs.specs.Rows.{Rows, row_at, links_of, entry_of, IsLive, IsSound}
use Rattle.map_defs.specs.Edits.{Change, Edit, with_births, with_entry, linked, with_changes, after_edit, Fits}
use Rattle.edit_laws.proofs.RowWrites.{IsWide, row-same, links-untouched, live-entry, wide-entry, births-links, births-wide, births-old, live-within}
use Rattle.edit_laws.proofs.EditSteps.{linked-live, buried-links, buried-dead, buried-other}

entry-written : (n : ℕ) (o : Option (List ℕ)) (link to : ℕ) → IsSome o → ((row : List ℕ) → o ≡ Some row → length row ≡ n + 1) → link ≤ n
    → entry_of (option_map (λ (row : List ℕ). slice_set row link to) o) link ≡ to
entry-written n None link to some wide within = absurd (false≢true some)
entry-written n (Some row) link to some wide within = get_or-set_same row link to 0 (omega (arith, wide row refl))

links-written : (n : ℕ) (rows : Rows) (d link to : ℕ) → IsWide n rows → IsLive rows d → link ≤ n → links_of (with_entry rows d link to) link d ≡ to
links-written n rows d link to wide live within =
    ap (λ (o : Option (List ℕ)). entry_of o link) (row-same rows d link to) ∙ entry-written n (row_at rows d) link to live (wide d) within

-- a place that no change names keeps its entry
pub untouched : (cs : List Change) (rows : Rows) (i d : ℕ) → All (λ (c : Change). d ≡ c.dart → i ≡ c.link → ⊥) cs → links_of (linked cs rows) i d ≡ links_of rows i d
untouched [] rows i d other = refl
untouched (c ∷ cs) rows i d other =
    untouched cs (with_entry rows c.dart c.link c.new) i d (λ k z h. other (suc k) z (omega arith))
    ∙ links-untouched rows c.dart c.link c.new d i (other 0 c (omega arith))

-- a place that a change names has its new entry
pub touched : (n : ℕ) (cs : List Change) (rows : Rows) → IsWide n rows → All (λ (c : Change). IsLive rows c.dart) cs → All (λ (c : Change). c.link ≤ n) cs
    → AllPairs (λ (b c : Change). b.dart ≡ c.dart → b.link ≡ c.link → ⊥) cs → All (λ (c : Change). links_of (linked cs rows) c.link c.dart ≡ c.new) cs
touched n [] rows wide live within once k z h = absurd (omega arith)
touched n (c ∷ cs) rows wide live within once zero z h =
    untouched cs (with_entry rows c.dart c.link c.new) c.link c.dart (λ k y l. once 0 (suc k) y (omega arith) (omega arith))
    ∙ links-written n rows c.dart c.link c.new wide (live 0 c (omega arith)) (within 0 c (omega arith))
touched n (c ∷ cs) rows wide live within once (suc k) z h =
    touched n cs (with_entry rows c.dart c.link c.new) (wide-entry n rows c.dart c.link c.new wide)
    (λ p y l. live-entry rows c.dart c.link c.new (get_or cs p y).dart ∙ live (suc p) y (omega arith))
    (λ p y l. within (suc p) y (omega arith))
    (λ i j y m l. once (suc i) (suc j) y (omega arith) (omega arith)) k z (omega arith)

module _ (k : Kind) (n : ℕ) (rows : Rows) (e : Edit) (sound : IsSound k n rows) (fits : Fits k n rows e) where
  -- the burials change no link
  pub links-changed : (i x : ℕ) → links_of (after_edit n e rows) i x ≡ links_of (with_changes n e rows) i x
  links-changed = buried-links e.deaths (with_changes n e rows) fits.free

  -- each change's link is the new one
  pub links-at : All (λ (c : Change). links_of (after_edit n e rows) c.link c.dart ≡ c.new) e.changes
  links-at p z h =
      links-changed (get_or e.changes p z).link (get_or e.changes p z).dart
      ∙ touched n e.changes (with_births n e.births rows) (births-wide n e.births rows sound.wide) fits.darts fits.links fits.once p z h

  -- all other links are as before
  pub links-else : (i d : ℕ) → All (λ (c : Change). d ≡ c.dart → i ≡ c.link → ⊥) e.changes → links_of (after_edit n e rows) i d ≡ links_of rows i d
  links-else i d other = links-changed i d ∙ untouched e.changes (with_births n e.births rows) i d other ∙ births-links n e.births rows i d

  -- the darts that end are not live, and the others live on
  pub ended : All (λ (d : ℕ). row_at (after_edit n e rows) d ≡ None) e.deaths
  ended = buried-dead e.deaths (with_changes n e rows)

  pub lives-on : (x : ℕ) → IsLive rows x → All (λ (d : ℕ). x ≢ d) e.deaths → IsLive (after_edit n e rows) x
  lives-on x live other =
      ap is_some (buried-other e.deaths (with_changes n e rows) x other) ∙ linked-live e.changes (with_births n e.births rows) x
      ∙ ap is_some (births-old n e.births rows x (live-within rows x live)) ∙ live
