-- The counts of the map of the new numbers are those of the rows.
use Rattle.std.proofs.Common.{◌≡◌, ℕ, zero, suc, ◌+◌, ◌<◌, ◌↔◌, List, [], ◌∷◌, length, map, get_or, Option, Some, None, is_some, IsSome, refl, sym, ap, ◌∙◌, subst, inl, inr, arith}
use Rattle.std.specs.Prelude.{slice_index, filter, Contains}
use Rattle.std.proofs.lemmas.Bool.{cases_lt, false≢true}
use Rattle.std.proofs.lemmas.List.{length-map, get_or-map, get_or_default, get_or_past}
use Rattle.map_defs.specs.Kind.{Kind}
use Rattle.map_defs.specs.Cells.{NamesCell, NamesComponent}
use Rattle.map_defs.specs.Rows.{Rows, row_at, links_of, IsLive, live_count}
use Rattle.map_defs.specs.Counts.{HasCount, AreCounts, AreCountsAmong}
use Rattle.machine_defs.specs.Listing.{ListRow}
use Rattle.machine_defs.specs.ListingFaults.{HasRow, links_in, IsLawful}
use Rattle.row_laws.specs.Rows.{darts_of, AreRows}
use Rattle.list_text.specs.Ranks.{AreRanked}
use Rattle.list_text.proofs.Ranking.{old, old-next, old-rises, names, names-component}
use Rattle.row_laws.proofs.RowPlaces.{has-row, place-of}

-- where all are there, a filter keeps them
filter-all : {A : Type 0} (xs : List (Option A)) → ((q : ℕ) → q < length xs → IsSome (get_or xs q None)) → length (filter is_some xs) ≡ length xs
filter-all [] all = refl
filter-all (Some x ∷ xs) all = ap suc (filter-all xs (λ q h. all (suc q) (omega arith)))
filter-all (None ∷ xs) all = absurd (false≢true (all 0 (omega arith)))

-- all numbers but 0 are live
live-all : (R : Rows) (m : ℕ) → length R ≡ m + 1 → row_at R 0 ≡ None → ((q : ℕ) → q < m → IsLive R (q + 1)) → live_count R ≡ m
live-all [] m long nothing live = absurd (omega arith)
live-all (Some row ∷ R) m long nothing live = absurd cc
live-all (None ∷ R) m long nothing live =
    filter-all R (λ q h. let e : q + 1 ≡ suc q = omega arith in rw e at (live q (omega (arith, long)))) ∙ omega (arith, long)

module _ (k : Kind) (n : ℕ) (rows : List ListRow) (R : Rows) (are : AreRows n rows) (lawful : (p : ℕ) → p < length rows → IsLawful k rows (slice_index (darts_of rows) p)) (ranked : AreRanked n rows R) where
  -- a live number is that of a place
  number-of : (x : ℕ) → IsLive R x → (p : ℕ) × (p < length rows) × (x ≡ p + 1)
  number-of zero live = absurd (false≢true (rw ranked.nothing at live))
  number-of (suc p) live = elim (cases_lt p (length rows)) [
    | inl low ↦ (p, low, omega arith)
    | inr high ↦
        let long = ranked.long in
        let none : row_at R (suc p) ≡ None = get_or_past R (suc p) None (omega (arith, long)) in
        absurd (false≢true (rw none at live))
  ]

  -- so many numbers, so many darts
  recounted : (P Q : ℕ → Type 0) (count : ℕ) → ((p : ℕ) → p < length rows → P (p + 1) ↔ Q (slice_index (darts_of rows) p)) → HasCount (λ d. IsLive R d × P d) count → HasCount (λ d. HasRow rows d × Q d) count
  recounted P Q count alike has = record {
    numbers = map (old rows) has.numbers;
    ascending = λ j h. let more = long in rises j (omega (arith, more, h));
    members = λ d. (forth d, back d);
    counted = long ∙ has.counted;
  }
    where
      long : length (map (old rows) has.numbers) ≡ length has.numbers
      long = length-map has.numbers (old rows)

      at : (j : ℕ) → j < length has.numbers → slice_index (map (old rows) has.numbers) j ≡ old rows (slice_index has.numbers j)
      at j h = get_or-map (old rows) has.numbers j 0 0 h

      member : (j : ℕ) → j < length has.numbers → IsLive R (slice_index has.numbers j) × P (slice_index has.numbers j)
      member j h = (has.members (slice_index has.numbers j)).0 (j, h, get_or_default has.numbers j (slice_index has.numbers j) 0 h)

      rises : (j : ℕ) → j + 1 < length has.numbers → slice_index (map (old rows) has.numbers) j < slice_index (map (old rows) has.numbers) (j + 1)
      rises j h =
          let place = number-of (slice_index has.numbers (j + 1)) (member (j + 1) h).0 in
          let up = old-rises k n rows R are lawful ranked (slice_index has.numbers j) (slice_index has.numbers (j + 1)) (has.ascending j h) (omega (arith, place.1, place.2)) in
          rw (at j (omega arith), at (j + 1) h) up

      forth : (d : ℕ) → Contains (map (old rows) has.numbers) d → HasRow rows d × Q d
      forth d (j, h, is) =
          let low : j < length has.numbers = omega (arith, h, long) in
          let lives = member j low in
          let place = number-of (slice_index has.numbers j) lives.0 in
          let number : old rows (slice_index has.numbers j) ≡ slice_index (darts_of rows) place.0 = ap (old rows) place.2 ∙ old-next rows place.0 in
          let dart : slice_index (darts_of rows) place.0 ≡ d = sym number ∙ (sym (at j low) ∙ (get_or_default (map (old rows) has.numbers) j 0 d h ∙ is)) in
          (subst (HasRow rows) dart (has-row rows place.0 place.1), subst Q dart ((alike place.0 place.1).0 (subst P place.2 lives.1)))

      back : (d : ℕ) → HasRow rows d × Q d → Contains (map (old rows) has.numbers) d
      back d (row, holds) =
          let place = place-of rows d row in
          let number = (alike place.0 place.1).1 (subst Q (sym place.2) holds) in
          let found = (has.members (place.0 + 1)).1 (ranked.live place.0 place.1, number) in
          let low : found.0 < length (map (old rows) has.numbers) = omega (arith, found.1, long) in
          let same : slice_index has.numbers found.0 ≡ place.0 + 1 = get_or_default has.numbers found.0 0 (place.0 + 1) found.1 ∙ found.2 in
          (found.0, low, get_or_default (map (old rows) has.numbers) found.0 d 0 low ∙ (at found.0 found.1 ∙ (ap (old rows) same ∙ (old-next rows place.0 ∙ place.2))))

  pub counts-alike : (counts : List ℕ) → AreCounts k n R counts → AreCountsAmong k n (HasRow rows) (length rows) (links_in rows) counts
  counts-alike counts of = record {
    long = of.long;
    darts = of.darts ∙ live-all R (length rows) ranked.long ranked.nothing ranked.live;
    cells = λ i low. recounted (NamesCell k (links_of R) i) (NamesCell k (links_in rows) i) _ (names k n rows R are lawful ranked i) (of.cells i low);
    components = recounted (NamesComponent (links_of R)) (NamesComponent (links_in rows)) _ (names-component k n rows R are lawful ranked) of.components;
  }
