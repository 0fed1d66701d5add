-- The edit of the changes from the links of rows to other links: it fits, and makes those links.
use Rattle.std.proofs.Common.{ℕ, ◌≡◌, ◌≢◌, ◌<◌, ◌≤◌, List, [], length, get_or, is_some, sym, ap, ◌∙◌, inl, inr, arith}
use Rattle.std.specs.Prelude.{All}
use Rattle.std.proofs.lemmas.Bool.{false≢true}
use Rattle.std.proofs.lemmas.List.Elements.{All-contains, Contains-get_or}
use Rattle.map_defs.specs.Kind.{Kind}
use Rattle.map_defs.specs.Links.{Links, HasDimension}
use Rattle.map_defs.specs.Laws.{Laws}
use Rattle.map_defs.specs.Rows.{Rows, row_at, links_of, made, IsLive, IsSound}
use Rattle.map_defs.specs.Edits.{Change, Edit, with_births, after_edit, Fits}
use Rattle.link_laws.proofs.Basics.{same_or_not}
use Rattle.link_laws.proofs.RowFacts.{live_or_free, rows_dimension}
use Rattle.edit_laws.proofs.RowWrites.{births-links, births-wide, births-old, live-within}
use Rattle.edit_laws.proofs.EditLinks.{touched, untouched}
use Rattle.dual_map.specs.Differences.{map_changes}
use Rattle.link_rows.proofs.DualEntries.{AreFreeAlike}
use Rattle.dual_map.proofs.ChangeLists.{TellsChange, map-of, map-has, map-pairs}

-- the changes from the links of rows to others, and the edit that makes them
abbrev pub changes : ℕ → Rows → Links → List Change
changes n rows N = map_changes n (links_of rows) N (made rows)

abbrev pub changing : ℕ → Rows → Links → Edit
changing n rows N = record { births = 0; deaths = []; changes = changes n rows N }

module _ (k : Kind) (n : ℕ) (rows : Rows) (sound : IsSound k n rows) (N : Links) (alike : AreFreeAlike (links_of rows) N) where
  -- a dart with a link that differs is live
  differ-live : (i d : ℕ) → links_of rows i d ≢ N i d → IsLive rows d
  differ-live i d other = elim (live_or_free rows d) [
    | inl lives ↦ lives
    | inr none ↦ absurd (other (none.1 i ∙ sym (alike d none.1 i)))
  ]

  live-some : (d : ℕ) → IsLive rows d → (1 ≤ d) × (d ≤ made rows)
  live-some d live =
      let some : d ≢ 0 = λ is. false≢true (sym (ap is_some (ap (row_at rows) is ∙ sound.nothing)) ∙ live) in
      let low : d < length rows = live-within rows d live in
      (omega arith, omega arith)

  each : (P : Change → Type 0) → ((c : Change) → c.link ≤ n → TellsChange (links_of rows) N c → P c) → All P (changes n rows N)
  each P f p z h =
      let c : Change = get_or (changes n rows N) p z in
      let e = map-of (links_of rows) N n (made rows) c (Contains-get_or (changes n rows N) p z h) in
      f c e.0 e.1

  lives : All (λ (c : Change). IsLive (with_births n 0 rows) c.dart) (changes n rows N)
  lives = each (λ c. IsLive (with_births n 0 rows) c.dart) (λ c low t.
      let live : IsLive rows c.dart = differ-live c.link c.dart (λ same. t.differ (t.old ∙ same ∙ sym t.new)) in
      ap is_some (births-old n 0 rows c.dart (live-within rows c.dart live)) ∙ live)

  within : All (λ (c : Change). c.link ≤ n) (changes n rows N)
  within = each (λ c. c.link ≤ n) (λ c low t. low)

  -- no change is of a link that is the same
  pub changes-differ : All (λ (c : Change). c.old ≢ c.new) (changes n rows N)
  changes-differ = each (λ c. c.old ≢ c.new) (λ c low t. t.differ)

  written : (i d : ℕ) → i ≤ n → links_of rows i d ≢ N i d → links_of (after_edit n (changing n rows N) rows) i d ≡ N i d
  written i d low other =
      let live = live-some d (differ-live i d other) in
      let c : Change = record { dart = d; link = i; old = links_of rows i d; new = N i d } in
      All-contains (λ (b : Change). links_of (after_edit n (changing n rows N) rows) b.link b.dart ≡ b.new) (changes n rows N) c
      (touched n (changes n rows N) (with_births n 0 rows) (births-wide n 0 rows sound.wide) lives within (map-pairs (links_of rows) N n (made rows)))
      (map-has (links_of rows) N n (made rows) d i live.0 live.1 low other)

  left : (i d : ℕ) → ((c : Change) → c.link ≤ n → TellsChange (links_of rows) N c → d ≡ c.dart → i ≡ c.link → ⊥) → links_of (after_edit n (changing n rows N) rows) i d ≡ links_of rows i d
  left i d none =
      untouched (changes n rows N) (with_births n 0 rows) i d (each (λ c. d ≡ c.dart → i ≡ c.link → ⊥) none)
      ∙ births-links n 0 rows i d

  -- the links after the edit
  pub changed-links : (i d : ℕ) → i ≤ n → links_of (after_edit n (changing n rows N) rows) i d ≡ N i d
  changed-links i d low = elim (same_or_not (links_of rows i d) (N i d)) [
    | inl same ↦ left i d (λ c _ t dart link. t.differ (t.old ∙ rw (dart, link) at same ∙ sym t.new)) ∙ same
    | inr other ↦ written i d low other
  ]

  pub changed-above : HasDimension n (links_of (after_edit n (changing n rows N) rows))
  changed-above i d above = left i d (λ c low t dart link. omega arith) ∙ rows_dimension n rows sound.wide i d above

  pub changes-fit : Laws k (links_of (after_edit n (changing n rows N) rows))
      → Fits k n rows (changing n rows N)
  changes-fit w = record {
    darts = lives;
    links = within;
    stands = each (λ c. links_of rows c.link c.dart ≡ c.old) (λ c low t. sym t.old);
    once = map-pairs (links_of rows) N n (made rows);
    back = w.back;
    living = λ p z h. absurd (omega arith);
    ends = λ a b z h l. absurd (omega arith);
    free = λ p z h. absurd (omega arith);
  }
