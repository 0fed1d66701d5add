-- An edit whose changes stand in another order does the same.
use Rattle.std.proofs.Common.{◌≡◌, ◌≢◌, ℕ, zero, suc, ◌≤◌, ◌⊎◌, List, [], ◌∷◌, get_or, is_some, refl, sym, ap, ◌∙◌, subst, inl, inr, arith, Contains, AllPairs}
use Rattle.std.specs.Prelude.{All}
use Rattle.std.specs.List.Sorted.{IsPermutation}
use Rattle.std.proofs.lemmas.Bool.{cases_eq}
use Rattle.std.proofs.lemmas.List.Elements.{All-contains, Contains-get_or}
use Rattle.std.proofs.lemmas.List.Sorted.{All-permutation, Contains-permutation, IsPermutation-sym}
use Rattle.map_defs.specs.Kind.{Kind, inverse}
use Rattle.map_defs.specs.Rows.{Rows, row_at, links_of, IsLive, IsSound}
use Rattle.map_defs.specs.Edits.{Change, Edit, with_births, linked, with_changes, after_edit, buried, Fits}
use Rattle.link_laws.proofs.SameRows.{same_rows}
use Rattle.edit_laws.proofs.RowWrites.{IsWide, births-wide}
use Rattle.edit_laws.proofs.EditSteps.{linked-length, linked-live, linked-wide}
use Rattle.edit_laws.proofs.EditLinks.{untouched, touched}
use Rattle.journal_laws.proofs.Reordered.{AllPairs-permutation}

-- the two changes name different links
abbrev pub AreApart : Change → Change → Type 0
AreApart b c = b.dart ≡ c.dart → b.link ≡ c.link → ⊥

-- a change of the list names the link i of dart d
abbrev pub Names : List Change → ℕ → ℕ → Type 0
Names cs i d = (c : Change) × Contains cs c × (c.dart ≡ d) × (c.link ≡ i)

-- a link is named or not
pub named-or-not : (cs : List Change) (i d : ℕ) → Names cs i d ⊎ All (λ (c : Change). d ≡ c.dart → i ≡ c.link → ⊥) cs
named-or-not [] i d = inr (λ k z h. absurd (omega arith))
named-or-not (c ∷ cs) i d = on (cases_eq c.dart d) (cases_eq c.link i) (named-or-not cs i d)
  where
    none : (d ≡ c.dart → i ≡ c.link → ⊥) → All (λ (b : Change). d ≡ b.dart → i ≡ b.link → ⊥) cs → All (λ (b : Change). d ≡ b.dart → i ≡ b.link → ⊥) (c ∷ cs)
    none first rest zero z h = first
    none first rest (suc k) z h = rest k z (omega arith)

    on : (c.dart ≡ d) ⊎ (c.dart ≡ d → ⊥) → (c.link ≡ i) ⊎ (c.link ≡ i → ⊥) → Names cs i d ⊎ All (λ (b : Change). d ≡ b.dart → i ≡ b.link → ⊥) cs
        → Names (c ∷ cs) i d ⊎ All (λ (b : Change). d ≡ b.dart → i ≡ b.link → ⊥) (c ∷ cs)
    on (inl dart) (inl link) rest = inl (c, (zero, omega arith, refl), dart, link)
    on dart link (inl (b, (k, h, e), at, of)) = inl (b, (suc k, omega arith, e), at, of)
    on (inr other) link (inr rest) = inr (none (λ dart link. other (sym dart)) rest)
    on (inl dart) (inr other) (inr rest) = inr (none (λ dart link. other (sym link)) rest)

-- changes of two lists with the same members, each link named once, lead to the same rows
module _ (n : ℕ) (cs ds : List Change) (rows : Rows) (wide : IsWide n rows)
    (live : All (λ (c : Change). IsLive rows c.dart) cs) (low : All (λ (c : Change). c.link ≤ n) cs) (once : AllPairs AreApart cs)
    (live' : All (λ (c : Change). IsLive rows c.dart) ds) (low' : All (λ (c : Change). c.link ≤ n) ds) (once' : AllPairs AreApart ds)
    (to : (c : Change) → Contains cs c → Contains ds c) (back : (c : Change) → Contains ds c → Contains cs c) where
  same-links : (i d : ℕ) → links_of (linked ds rows) i d ≡ links_of (linked cs rows) i d
  same-links i d = on (named-or-not cs i d)
    where
      on : Names cs i d ⊎ All (λ (c : Change). d ≡ c.dart → i ≡ c.link → ⊥) cs → links_of (linked ds rows) i d ≡ links_of (linked cs rows) i d
      on (inl (c, held, dart, link)) =
          let there : links_of (linked ds rows) c.link c.dart ≡ c.new =
          All-contains (λ (c : Change). links_of (linked ds rows) c.link c.dart ≡ c.new) ds c (touched n ds rows wide live' low' once') (to c held) in
          let here : links_of (linked cs rows) c.link c.dart ≡ c.new =
          All-contains (λ (c : Change). links_of (linked cs rows) c.link c.dart ≡ c.new) cs c (touched n cs rows wide live low once) held in
          subst (λ (x : ℕ). links_of (linked ds rows) i x ≡ links_of (linked cs rows) i x) dart
          (subst (λ (j : ℕ). links_of (linked ds rows) j c.dart ≡ links_of (linked cs rows) j c.dart) link (there ∙ sym here))
      on (inr none) =
          untouched ds rows i d (λ p z h. All-contains (λ (c : Change). d ≡ c.dart → i ≡ c.link → ⊥) cs (get_or ds p z) none (back (get_or ds p z) (Contains-get_or ds p z h)))
          ∙ sym (untouched cs rows i d none)

  pub same-linked : linked ds rows ≡ linked cs rows
  same-linked =
      same_rows n (linked ds rows) (linked cs rows) (linked-wide n ds rows wide) (linked-wide n cs rows wide)
      (linked-length ds rows ∙ sym (linked-length cs rows))
      (λ d.
      let e : is_some (row_at (linked ds rows) d) ≡ is_some (row_at (linked cs rows) d) = linked-live ds rows d ∙ sym (linked-live cs rows d) in
      ((λ h. sym e ∙ h), (λ h. e ∙ h)))
      (λ i d h. same-links i d)

module _ (k : Kind) (n : ℕ) (rows : Rows) (e : Edit) (changes : List Change) (sound : IsSound k n rows) (fits : Fits k n rows e)
    (moved : IsPermutation e.changes changes) where
  darts : All (λ (c : Change). IsLive (with_births n e.births rows) c.dart) changes
  darts = All-permutation (λ (c : Change). IsLive (with_births n e.births rows) c.dart) e.changes changes moved fits.darts

  low-links : All (λ (c : Change). c.link ≤ n) changes
  low-links = All-permutation (λ (c : Change). c.link ≤ n) e.changes changes moved fits.links

  once : AllPairs AreApart changes
  once = AllPairs-permutation AreApart (λ b c h dart link. h (sym dart) (sym link)) e.changes changes moved fits.once

  pub with-changes-ordered : with_changes n (record e { changes = changes }) rows ≡ with_changes n e rows
  with-changes-ordered =
      same-linked n e.changes changes (with_births n e.births rows) (births-wide n e.births rows sound.wide)
      fits.darts fits.links fits.once darts low-links once
      (λ c h. Contains-permutation e.changes changes c moved h)
      (λ c h. Contains-permutation changes e.changes c (IsPermutation-sym e.changes changes moved) h)

  pub fits-ordered : Fits k n rows (record e { changes = changes })
  fits-ordered = record {
    darts = darts;
    links = low-links;
    stands = All-permutation (λ (c : Change). links_of rows c.link c.dart ≡ c.old) e.changes changes moved fits.stands;
    once = once;
    back = subst (λ (r : Rows). (i x : ℕ) → links_of r i x ≢ 0 → links_of r (inverse k i) (links_of r i x) ≡ x) (sym with-changes-ordered) fits.back;
    living = fits.living;
    ends = fits.ends;
    free = subst (λ (r : Rows). All (λ (d : ℕ). (i : ℕ) → links_of r i d ≡ 0) e.deaths) (sym with-changes-ordered) fits.free;
  }

  pub after-ordered : after_edit n (record e { changes = changes }) rows ≡ after_edit n e rows
  after-ordered = ap (buried e.deaths) with-changes-ordered
