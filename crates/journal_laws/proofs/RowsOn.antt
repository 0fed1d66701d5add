-- The edit of a difference fits the rows that it leads on from, and leads to the next rows.
use Rattle.std.proofs.Common.{◌≡◌, ◌≢◌, ℕ, ◌+◌, ◌<◌, ◌≤◌, ◌⊎◌, List, length, get_or, Some, is_some, refl, sym, ap, ◌∙◌, subst, inl, inr, arith, AllPairs}
use Rattle.std.specs.Prelude.{All}
use Rattle.std.proofs.lemmas.Bool.{cases_lt}
use Rattle.std.proofs.lemmas.List.Elements.{All-contains, Contains-get_or}
use Rattle.std.proofs.lemmas.List.Kept.{AllPairs-from_increasing}
use Rattle.map_defs.specs.Kind.{Kind, inverse}
use Rattle.map_defs.specs.Rows.{Rows, row_at, links_of, IsLive}
use Rattle.map_defs.specs.Edits.{Change, with_births, linked, with_changes, after_edit, before_edit, Fits}
use Rattle.machine_defs.specs.State.{Content}
use Rattle.machine_defs.specs.Difference.{Difference, IsDifference}
use Rattle.link_laws.proofs.Basics.{by_cases, stable}
use Rattle.link_laws.proofs.RowFacts.{live_or_free, linked_live, rows_dimension}
use Rattle.link_laws.proofs.SameRows.{same_rows}
use Rattle.edit_laws.proofs.RowWrites.{births-links, births-wide, births-old, births-new, live-within}
use Rattle.edit_laws.proofs.EditSteps.{linked-wide, buried-wide, buried-links}
use Rattle.edit_laws.proofs.EditLinks.{untouched, touched, lives-on}
use Rattle.edit_laws.proofs.EditSound.{length-after}
use Rattle.edit_laws.proofs.EditBack.{before-after, born-live}
use Rattle.journal_laws.specs.Following.{Follows}
use Rattle.journal_laws.proofs.EditLives.{never-ended, lived-or-born}

live-births : (n births : ℕ) (rows : Rows) (d : ℕ) → IsLive rows d → IsLive (with_births n births rows) d
live-births n births rows d live = ap is_some (births-old n births rows d (live-within rows d live)) ∙ live

live-born : (n births : ℕ) (rows : Rows) (d : ℕ) → length rows ≤ d → d < length rows + births → IsLive (with_births n births rows) d
live-born n births rows d low high = ap is_some (births-new n births rows d low high)

dead-free : (rows : Rows) (i d : ℕ) → (IsLive rows d → ⊥) → links_of rows i d ≡ 0
dead-free rows i d dead = stable (links_of rows i d) 0 (λ linked. dead (linked_live rows i d linked))

module _ (a b : Content) (s : Difference) (f : Follows a b) (is : IsDifference a b s) where
  within : (d : ℕ) → IsLive b.rows d → d < length a.rows + s.edit.births
  within d live = let low = live-within b.rows d live in omega (arith, is.born)

  -- a dart that lives before or after has a row beside the births
  changed-lives : (d : ℕ) → IsLive a.rows d ⊎ IsLive b.rows d → IsLive (with_births a.dim s.edit.births a.rows) d
  changed-lives d (inl live) = live-births a.dim s.edit.births a.rows d live
  changed-lives d (inr live) = elim (f.ended d live) [
    | inl old ↦ live-births a.dim s.edit.births a.rows d old
    | inr new ↦ live-born a.dim s.edit.births a.rows d (let begun = f.begun in omega arith) (within d live)
  ]

  change-lives : (i d : ℕ) → links_of a.rows i d ≢ links_of b.rows i d → IsLive a.rows d ⊎ IsLive b.rows d
  change-lives i d differ = elim (live_or_free a.rows d) [
    | inl live ↦ inl live
    | inr free ↦ inr (linked_live b.rows i d (λ none. differ (free.1 i ∙ sym none)))
  ]

  pub darts : All (λ (c : Change). IsLive (with_births a.dim s.edit.births a.rows) c.dart) s.edit.changes
  darts p z h =
      let c : Change = get_or s.edit.changes p z in
      let m = (is.links c).0 (Contains-get_or s.edit.changes p z h) in
      changed-lives c.dart (change-lives c.link c.dart (λ same. m.2 (m.0 ∙ same ∙ sym m.1)))

  pub low-links : All (λ (c : Change). c.link ≤ a.dim) s.edit.changes
  low-links p z h = elim (cases_lt a.dim c.link) [
    | inl above ↦ absurd
        (m.2 (m.0 ∙ rows_dimension a.dim a.rows f.sound.wide c.link c.dart above
        ∙ sym (rows_dimension b.dim b.rows f.next_sound.wide c.link c.dart (let dims = f.dim in omega arith)) ∙ sym m.1))
    | inr low ↦ low
  ]
    where
      c : Change
      c = get_or s.edit.changes p z

      m : (c.old ≡ links_of a.rows c.link c.dart) × (c.new ≡ links_of b.rows c.link c.dart) × (c.old ≢ c.new)
      m = (is.links c).0 (Contains-get_or s.edit.changes p z h)

  pub stands : All (λ (c : Change). links_of a.rows c.link c.dart ≡ c.old) s.edit.changes
  stands p z h = sym ((is.links (get_or s.edit.changes p z)).0 (Contains-get_or s.edit.changes p z h)).0

  pub once : AllPairs (λ (b c : Change). b.dart ≡ c.dart → b.link ≡ c.link → ⊥) s.edit.changes
  once i j z h l same link = elim (is.links_ordered i j z h l) [ inl p ↦ omega arith | inr p ↦ (let q = p.1 in omega arith) ]

  -- after the changes the links are the next ones
  pub links-on : (i d : ℕ) → links_of (with_changes a.dim s.edit a.rows) i d ≡ links_of b.rows i d
  links-on i d = by_cases (links_of a.rows i d ≡ links_of b.rows i d) (links_of (with_changes a.dim s.edit a.rows) i d) (links_of b.rows i d) kept changed
    where
      kept : links_of a.rows i d ≡ links_of b.rows i d → links_of (with_changes a.dim s.edit a.rows) i d ≡ links_of b.rows i d
      kept same =
          let other : All (λ (c : Change). d ≡ c.dart → i ≡ c.link → ⊥) s.edit.changes = λ p z h dart link.
          let c : Change = get_or s.edit.changes p z in
          let m = (is.links c).0 (Contains-get_or s.edit.changes p z h) in
          m.2 (m.0 ∙ ap (λ (j : ℕ). links_of a.rows j c.dart) (sym link) ∙ ap (links_of a.rows i) (sym dart) ∙ same
          ∙ ap (links_of b.rows i) dart ∙ ap (λ (j : ℕ). links_of b.rows j c.dart) link ∙ sym m.1) in
          untouched s.edit.changes (with_births a.dim s.edit.births a.rows) i d other ∙ births-links a.dim s.edit.births a.rows i d ∙ same

      changed : (links_of a.rows i d ≡ links_of b.rows i d → ⊥) → links_of (with_changes a.dim s.edit a.rows) i d ≡ links_of b.rows i d
      changed differ =
          let c : Change = record { dart = d; link = i; old = links_of a.rows i d; new = links_of b.rows i d } in
          All-contains (λ (c : Change). links_of (with_changes a.dim s.edit a.rows) c.link c.dart ≡ c.new) s.edit.changes c
          (touched a.dim s.edit.changes (with_births a.dim s.edit.births a.rows) (births-wide a.dim s.edit.births a.rows f.sound.wide) darts low-links once)
          ((is.links c).1 (refl, refl, differ))

  back-on : (i x : ℕ) → links_of (with_changes a.dim s.edit a.rows) i x ≢ 0
      → links_of (with_changes a.dim s.edit a.rows) (inverse a.kind i) (links_of (with_changes a.dim s.edit a.rows) i x) ≡ x
  back-on i x linked =
      ap (links_of (with_changes a.dim s.edit a.rows) (inverse a.kind i)) (links-on i x)
      ∙ links-on (inverse a.kind i) (links_of b.rows i x)
      ∙ ap (λ (k : Kind). links_of b.rows (inverse k i) (links_of b.rows i x)) (sym f.kind)
      ∙ f.next_sound.back i x (λ none. linked (links-on i x ∙ none))

  pub difference-fits : Fits a.kind a.dim a.rows s.edit
  difference-fits = record {
    darts = darts;
    links = low-links;
    stands = stands;
    once = once;
    back = back-on;
    living = λ p z h. ((is.ended (get_or s.edit.deaths p z)).0 (Contains-get_or s.edit.deaths p z h)).0;
    ends = λ i j z h l same. let up = AllPairs-from_increasing s.edit.deaths is.ended_ascending i j z h l in omega arith;
    free = λ p z h i.
        let d : ℕ = get_or s.edit.deaths p z in
        links-on i d ∙ dead-free b.rows i d ((is.ended d).0 (Contains-get_or s.edit.deaths p z h)).1;
  }

  lives-next : (d : ℕ) → IsLive (after_edit a.dim s.edit a.rows) d → IsLive b.rows d
  lives-next d live = elim (lived-or-born a.kind a.dim a.rows s.edit f.sound difference-fits d live) [
    | inl lived ↦ elim (live_or_free b.rows d) [
      | inl next ↦ next
      | inr dead ↦ absurd
          (All-contains (λ (c : ℕ). d ≢ c) s.edit.deaths d (never-ended a.kind a.dim a.rows s.edit f.sound difference-fits d live)
          ((is.ended d).1 (lived, dead.0)) refl)
    ]
    | inr new ↦ f.born d (let low = new.0 in let begun = f.begun in omega arith) (let high = new.1 in omega (arith, is.born))
  ]

  lives-after : (d : ℕ) → IsLive b.rows d → IsLive (after_edit a.dim s.edit a.rows) d
  lives-after d live = elim (f.ended d live) [
    | inl old ↦ lives-on a.kind a.dim a.rows s.edit f.sound difference-fits d old (λ p z h same.
        ((is.ended (get_or s.edit.deaths p z)).0 (Contains-get_or s.edit.deaths p z h)).1 (subst (IsLive b.rows) same live))
    | inr new ↦ born-live a.kind a.dim a.rows s.edit f.sound difference-fits d (let begun = f.begun in omega arith) (within d live)
  ]

  pub rows-on : after_edit a.dim s.edit a.rows ≡ b.rows
  rows-on =
      same_rows a.dim (after_edit a.dim s.edit a.rows) b.rows
      (buried-wide a.dim s.edit.deaths (with_changes a.dim s.edit a.rows)
      (linked-wide a.dim s.edit.changes (with_births a.dim s.edit.births a.rows) (births-wide a.dim s.edit.births a.rows f.sound.wide)))
      (subst (λ (m : ℕ). (d : ℕ) (row : List ℕ) → row_at b.rows d ≡ Some row → length row ≡ m + 1) f.dim f.next_sound.wide)
      (length-after a.dim s.edit a.rows ∙ sym is.born)
      (λ d. (lives-next d, lives-after d))
      (λ i d low. buried-links s.edit.deaths (with_changes a.dim s.edit a.rows) difference-fits.free i d ∙ links-on i d)

  pub rows-back : before_edit a.dim s.edit b.rows ≡ a.rows
  rows-back = ap (before_edit a.dim s.edit) (sym rows-on) ∙ before-after a.kind a.dim a.rows s.edit f.sound difference-fits
