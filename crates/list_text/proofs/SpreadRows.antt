-- The rows of a listing, put at the places of their darts one after the other, and their links.
use Rattle.std.proofs.Common.{◌≡◌, ◌≢◌, ℕ, zero, suc, ◌+◌, ◌<◌, ◌≤◌, ◌==◌, Bool, true, false, cond, List, [], ◌∷◌, ◌++◌, length, get_or, set, take, Option, Some, None, is_some, IsSome, refl, sym, ap, ◌∙◌, subst, inl, inr, arith}
use Rattle.std.specs.Prelude.{slice_index, All}
use Rattle.std.proofs.lemmas.Bool.{cases_lt, cases_eq, false≢true, eqb-true}
use Rattle.std.proofs.lemmas.Bool.Decides.{nat_tests}
use Rattle.std.proofs.lemmas.List.{length-set, length-replicate, length-take-le, take-map, take_more, get_or-take, get_or-set_same, get_or-set_other, get_or_past}
use Rattle.map_defs.specs.Rows.{Rows, row_at, links_of, entry_of, IsLive, AreWide}
use Rattle.map_defs.specs.Edits.{with_births}
use Rattle.edit_laws.proofs.RowWrites.{births-old, births-new, births-links}
use Rattle.edit_laws.proofs.EditSound.{length-births}
use Rattle.machine_defs.specs.Listing.{ListRow}
use Rattle.machine_defs.specs.ListingFaults.{row_in, HasRow, links_in}
use Rattle.row_laws.specs.Rows.{dart_of, darts_of, Ascend, IsRow, IsMadeRow, AreRows}
use Rattle.list_text.specs.Spread.{row_or_free, AreSpread}
use Rattle.row_laws.proofs.RowsRead.{darts-long}
use Rattle.row_laws.proofs.RowsAt.{rises}
use Rattle.row_laws.proofs.RowPlaces.{place-of}

-- a dart with a row is a dart that was made
pub row-made : (n made : ℕ) (rows : List ListRow) (d : ℕ) → All (IsRow n) rows → All (IsMadeRow made) rows → HasRow rows d → (0 < d) × (d ≤ made)
row-made n made [] d each within has = absurd (false≢true has)
row-made n made (row ∷ rows) d each within has =
    at (row.dart == d) refl has (row-made n made rows d (λ k r h. each (suc k) r (omega arith)) (λ k r h. within (suc k) r (omega arith)))
  where
    at : (b : Bool) → row.dart == d ≡ b → IsSome (cond b (Some row.links) (row_in rows d)) → (HasRow rows d → (0 < d) × (d ≤ made)) → (0 < d) × (d ≤ made)
    at true e has later =
        let same : row.dart ≡ d = eqb-true row.dart d e in
        let some = (each 0 row (omega arith)).0 in
        let low = within 0 row (omega arith) in
        (omega (arith, same, some), omega (arith, same, low))
    at false e has later = later has

-- a dart without a row
pub row-none : (rows : List ListRow) (d : ℕ) → (HasRow rows d → ⊥) → row_in rows d ≡ None
row-none rows d none = at (row_in rows d) none
  where
    at : (o : Option (List ℕ)) → (IsSome o → ⊥) → o ≡ None
    at None none = refl
    at (Some row) none = absurd (none refl)

-- a row has the entries 0 to n
row-wide : (n : ℕ) (rows : List ListRow) (d : ℕ) → All (IsRow n) rows → length (row_or_free n (row_in rows d)) ≡ n + 1
row-wide n [] d each = length-replicate (n + 1) (let z : ℕ = 0 in z)
row-wide n (row ∷ rows) d each = at (row.dart == d) (row-wide n rows d (λ k r h. each (suc k) r (omega arith)))
  where
    at : (b : Bool) → length (row_or_free n (row_in rows d)) ≡ n + 1 → length (row_or_free n (cond b (Some row.links) (row_in rows d))) ≡ n + 1
    at true later = (each 0 row (omega arith)).1
    at false later = later

-- one row more behind the others
row-behind : (rows : List ListRow) (row : ListRow) (d : ℕ) → d ≢ row.dart → row_in (rows ++ row ∷ []) d ≡ row_in rows d
row-behind [] row d other = let no : row.dart == d ≡ false = grind (arith, nat_tests) in rw no refl
row-behind (first ∷ rows) row d other = ap (λ (o : Option (List ℕ)). cond (first.dart == d) (Some first.links) o) (row-behind rows row d other)

row-last : (rows : List ListRow) (row : ListRow) → (HasRow rows row.dart → ⊥) → row_in (rows ++ row ∷ []) row.dart ≡ Some row.links
row-last [] row none = let same : row.dart == row.dart ≡ true = grind (arith, nat_tests) in rw same refl
row-last (first ∷ rows) row none = at (first.dart == row.dart) none (row-last rows row)
  where
    at : (b : Bool) → (IsSome (cond b (Some first.links) (row_in rows row.dart)) → ⊥) → ((HasRow rows row.dart → ⊥) → row_in (rows ++ row ∷ []) row.dart ≡ Some row.links)
        → cond b (Some first.links) (row_in (rows ++ row ∷ []) row.dart) ≡ Some row.links
    at true none later = absurd (none refl)
    at false none later = later none

-- the dart of the row at a place
pub dart-here : (rows : List ListRow) (p : ℕ) (row : ListRow) → p < length rows → row ≡ get_or rows p row → slice_index (darts_of rows) p ≡ row.dart
dart-here [] p row h is = absurd (omega arith)
dart-here (first ∷ rows) zero row h is = ap dart_of (sym is)
dart-here (first ∷ rows) (suc p) row h is = dart-here rows p row (omega arith) is

-- the rows before a place have not its dart
before-none : (rows : List ListRow) (p : ℕ) → Ascend rows → p < length rows → HasRow (take p rows) (slice_index (darts_of rows) p) → ⊥
before-none rows p up low has =
    let found = place-of (take p rows) (slice_index (darts_of rows) p) has in
    let long = length-take-le p rows (omega arith) in
    let all = darts-long rows in
    let less : found.0 < p = omega (arith, found.1, long) in
    let dart : slice_index (darts_of rows) found.0 ≡ slice_index (darts_of rows) p =
    sym (get_or-take p (darts_of rows) found.0 0 less) ∙ (ap (λ (ds : List ℕ). slice_index ds found.0) (take-map dart_of p rows) ∙ found.2) in
    let rise = rises (darts_of rows) up found.0 p less (omega (arith, all)) in
    omega (arith, rise, dart)

-- at first all darts that were made are free
pub spread-none : (n made : ℕ) → AreSpread n made [] (with_births n made (None ∷ []))
spread-none n made = record {
  long = length-births n made (None ∷ []) ∙ omega arith;
  nothing = births-old n made (None ∷ []) 0 (omega arith);
  each = λ d some low. births-new n made (None ∷ []) d (omega arith) (omega arith);
}

pub spread-live : (n made : ℕ) (rows : List ListRow) (R : Rows) → AreSpread n made rows R → (d : ℕ) → 0 < d → d ≤ made → IsLive R d
spread-live n made rows R spread d some low = ap is_some (spread.each d some low)

pub spread-wide : (n made : ℕ) (rows : List ListRow) (R : Rows) → All (IsRow n) rows → AreSpread n made rows R → AreWide n R
spread-wide n made rows R each spread zero row is = absurd (let e : None ≡ Some row = sym spread.nothing ∙ is in cc)
spread-wide n made rows R each spread (suc d) row is = elim (cases_lt made (suc d)) [
  | inl high ↦
      let long = spread.long in
      let none : row_at R (suc d) ≡ None = get_or_past R (suc d) None (omega (arith, long)) in
      absurd (let e : None ≡ Some row = sym none ∙ is in cc)
  | inr low ↦
      let both : Some (row_or_free n (row_in rows (suc d))) ≡ Some row = sym (spread.each (suc d) (omega arith) low) ∙ is in
      let same : row_or_free n (row_in rows (suc d)) ≡ row = cc in
      ap length (sym same) ∙ row-wide n rows (suc d) each
]

spread-behind : (n made : ℕ) (rows : List ListRow) (row : ListRow) (R : Rows) → (HasRow rows row.dart → ⊥) → IsRow n row → IsMadeRow made row
    → AreSpread n made rows R → AreSpread n made (rows ++ row ∷ []) (set R row.dart (Some row.links))
spread-behind n made rows row R none is within spread = record {
  long = length-set R row.dart (Some row.links) ∙ spread.long;
  nothing = get_or-set_other R row.dart 0 (Some row.links) None (λ e. omega (arith, e, is.0)) ∙ spread.nothing;
  each = λ d some low. elim (cases_eq d row.dart) [
    | inl same ↦
        let long = spread.long in
        let there : row_at (set R row.dart (Some row.links)) row.dart ≡ Some row.links = get_or-set_same R row.dart (Some row.links) None (omega (arith, long, within)) in
        ap (row_at (set R row.dart (Some row.links))) same ∙ (there ∙ sym (ap (λ (o : Option (List ℕ)). Some (row_or_free n o)) (ap (row_in (rows ++ row ∷ [])) same ∙ row-last rows row none)))
    | inr other ↦
        get_or-set_other R row.dart d (Some row.links) None other ∙ (spread.each d some low ∙ sym (ap (λ (o : Option (List ℕ)). Some (row_or_free n o)) (row-behind rows row d other)))
  ];
}

-- one row more is put at its dart's place
pub spread-more : (n made : ℕ) (rows : List ListRow) (p : ℕ) (row : ListRow) (R : Rows) → AreRows n rows → All (IsMadeRow made) rows → p < length rows → row ≡ get_or rows p row
    → AreSpread n made (take p rows) R → AreSpread n made (take (p + 1) rows) (set R row.dart (Some row.links))
spread-more n made rows p row R are within low is spread =
    let more : take (p + 1) rows ≡ take p rows ++ row ∷ [] = take_more rows p row low ∙ ap (λ (r : ListRow). take p rows ++ r ∷ []) (sym is) in
    let dart : slice_index (darts_of rows) p ≡ row.dart = dart-here rows p row low is in
    rw more (spread-behind n made (take p rows) row R (λ has. before-none rows p are.ascending low (rw dart has)) (subst (IsRow n) (sym is) (are.each p row low)) (subst (IsMadeRow made) (sym is) (within p row low)) spread)

-- the links are those that the rows tell
pub spread-links : (n made : ℕ) (rows : List ListRow) (R : Rows) → All (IsRow n) rows → All (IsMadeRow made) rows → AreSpread n made rows R
    → (i d : ℕ) → links_of R i d ≡ links_in rows i d
spread-links n made rows R each within spread i d = elim (cases_lt made d) [
  | inl high ↦
      let long = spread.long in
      let past : row_at R d ≡ None = get_or_past R d None (omega (arith, long)) in
      outside past (λ has. let low = (row-made n made rows d each within has).1 in omega (arith, low))
  | inr low ↦ elim (cases_lt 0 d) [
    | inl some ↦ ap (λ (o : Option (List ℕ)). entry_of o i) (spread.each d some low) ∙ entry (row_in rows d)
    | inr none ↦
        let e : d ≡ 0 = omega arith in
        outside (ap (row_at R) e ∙ spread.nothing) (λ has. let some = (row-made n made rows d each within has).0 in omega (arith, some))
  ]
]
  where
    outside : row_at R d ≡ None → (HasRow rows d → ⊥) → links_of R i d ≡ links_in rows i d
    outside none missing = ap (λ (o : Option (List ℕ)). entry_of o i) (none ∙ sym (row-none rows d missing))

    entry : (o : Option (List ℕ)) → entry_of (Some (row_or_free n o)) i ≡ entry_of o i
    entry None = births-links n 1 [] i 0
    entry (Some row) = refl
