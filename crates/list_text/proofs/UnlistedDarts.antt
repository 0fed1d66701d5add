-- The darts that have no row, found between the rows.
use Rattle.std.proofs.Common.{◌≡◌, ℕ, zero, suc, ◌+◌, ◌-◌, ◌<◌, ◌≤◌, List, [], ◌∷◌, ◌++◌, length, Contains, sym, subst, inl, inr, arith, append_assoc}
use Rattle.std.specs.Prelude.{slice_index, All}
use Rattle.std.specs.List.{range_with_len}
use Rattle.std.proofs.lemmas.Bool.{cases_lt}
use Rattle.std.proofs.lemmas.List.{append-nil}
use Rattle.std.proofs.lemmas.List.Elements.{Contains-get_or, Contains-append_left, Contains-push, Contains-push_cases}
use Rattle.machine_defs.specs.Listing.{ListRow}
use Rattle.machine_defs.specs.ListingFaults.{HasRow}
use Rattle.row_laws.specs.Rows.{darts_of, Ascend, IsRow}
use Rattle.list_text.specs.Spread.{AreUnlisted}
use Rattle.row_laws.proofs.RowsRead.{darts-long, rising-push}
use Rattle.row_laws.proofs.RowsAt.{rises, not_below}
use Rattle.list_text.proofs.Ranking.{dart-some}
use Rattle.row_laws.proofs.RowPlaces.{has-row, place-of}

-- The darts below `next` that have no row are found; the rows before a place are those of darts below it.
pub record ArePassed (made : ℕ) (rows : List ListRow) (p next : ℕ) (ds : List ℕ) : Type 0 where
  pub unlisted : AreUnlisted rows next ds
  pub some : 0 < next
  pub within : next ≤ made + 1
  pub before : (q : ℕ) → q < p → slice_index (darts_of rows) q < next
  pub ahead : (q : ℕ) → p ≤ q → q < length rows → next ≤ slice_index (darts_of rows) q

-- one dart more that has no row
unlisted-push : (rows : List ListRow) (a : ℕ) (ds : List ℕ) → 0 < a → (HasRow rows a → ⊥) → AreUnlisted rows a ds → AreUnlisted rows (a + 1) (ds ++ a ∷ [])
unlisted-push rows a ds some none found = record {
  ascending = rising-push ds a found.ascending (λ any. ((found.members (slice_index ds (length ds - 1))).0 (Contains-get_or ds (length ds - 1) 0 (omega arith))).1);
  members = λ d. (
    λ has. elim (Contains-push_cases ds a d has) [
      | inl before ↦ let is = (found.members d).0 before in (is.0, omega (arith, is.1), is.2)
      | inr same ↦ (omega (arith, same), omega (arith, same), rw same at none)
    ],
    λ is. elim (cases_lt d a) [
      | inl low ↦ Contains-append_left ds (a ∷ []) d ((found.members d).1 (is.0, low, is.2))
      | inr high ↦ let same : a ≡ d = omega (arith, is.1) in subst (Contains (ds ++ a ∷ [])) same (Contains-push ds a)
    ],
  );
}

-- so many darts more that have no row
unlisted-more : (rows : List ListRow) (n a : ℕ) (ds : List ℕ) → 0 < a → ((d : ℕ) → a ≤ d → d < a + n → HasRow rows d → ⊥) → AreUnlisted rows a ds → AreUnlisted rows (a + n) (ds ++ range_with_len a n)
unlisted-more rows zero a ds some none found = let e : a + 0 ≡ a = omega arith in rw (e, append-nil ds) found
unlisted-more rows (suc n) a ds some none found =
    let e : a + suc n ≡ a + 1 + n = omega arith in
    rw (e, sym (append_assoc ds (a ∷ []) (range_with_len (a + 1) n)))
    (unlisted-more rows n (a + 1) (ds ++ a ∷ []) (omega arith) (λ d low high. none d (omega arith) (omega arith)) (unlisted-push rows a ds some (none a (omega arith) (omega arith)) found))

unlisted-to : (rows : List ListRow) (a end : ℕ) (ds : List ℕ) → 0 < a → a ≤ end → ((d : ℕ) → a ≤ d → d < end → HasRow rows d → ⊥) → AreUnlisted rows a ds → AreUnlisted rows end (ds ++ range_with_len a (end - a))
unlisted-to rows a end ds some low none found =
    let e : a + (end - a) ≡ end = omega arith in
    subst (λ (m : ℕ). AreUnlisted rows m (ds ++ range_with_len a (end - a))) e (unlisted-more rows (end - a) a ds some (λ d least less. none d least (omega arith)) found)

-- a dart that has a row is passed
unlisted-skip : (rows : List ListRow) (e : ℕ) (ds : List ℕ) → HasRow rows e → AreUnlisted rows e ds → AreUnlisted rows (e + 1) ds
unlisted-skip rows e ds has found = record {
  ascending = found.ascending;
  members = λ d. (
    λ in_ds. let is = (found.members d).0 in_ds in (is.0, omega (arith, is.1), is.2),
    λ is. elim (cases_lt d e) [
      | inl low ↦ (found.members d).1 (is.0, low, is.2)
      | inr high ↦ let same : e ≡ d = omega (arith, is.1) in absurd (is.2 (subst (HasRow rows) same has))
    ],
  );
}

pub passed-none : (n made : ℕ) (rows : List ListRow) → All (IsRow n) rows → ArePassed made rows 0 1 []
passed-none n made rows each = record {
  unlisted = record { ascending = λ k h. absurd (omega arith); members = λ d. ((λ has. absurd (omega (arith, has.1))), λ is. absurd (omega (arith, is.0, is.1))) };
  some = omega arith;
  within = omega arith;
  before = λ q h. absurd (omega arith);
  ahead = λ q low h. let some = dart-some n q rows each h in omega (arith, some);
}

-- one row more is passed
pub passed-more : (made : ℕ) (rows : List ListRow) (p next e : ℕ) (ds : List ℕ) → Ascend rows → p < length rows → slice_index (darts_of rows) p ≡ e → e ≤ made
    → ArePassed made rows p next ds → ArePassed made rows (p + 1) (e + 1) (ds ++ range_with_len next (e - next))
passed-more made rows p next e ds up low dart made_at passed = record {
  unlisted = unlisted-skip rows e (ds ++ range_with_len next (e - next)) (subst (HasRow rows) dart (has-row rows p low))
      (unlisted-to rows next e ds passed.some (let least = passed.ahead p (omega arith) low in omega (arith, least, dart)) between passed.unlisted);
  some = omega arith;
  within = omega arith;
  before = λ q h. let most = not_below (darts_of rows) up q p (omega arith) (omega (arith, low, darts-long rows)) in omega (arith, most, dart);
  ahead = λ q h within. let less = rises (darts_of rows) up p q (omega arith) (omega (arith, within, darts-long rows)) in omega (arith, less, dart);
}
  where
    between : (d : ℕ) → next ≤ d → d < e → HasRow rows d → ⊥
    between d least less has =
        let found = place-of rows d has in
        elim (cases_lt found.0 p) [
          | inl before ↦ let below = passed.before found.0 before in omega (arith, below, found.2, least)
          | inr after ↦
              let most = not_below (darts_of rows) up p found.0 after (omega (arith, found.1, darts-long rows)) in
              omega (arith, most, dart, found.2, less)
        ]

-- all rows are passed
pub passed-all : (made : ℕ) (rows : List ListRow) (p next : ℕ) (ds : List ℕ) → length rows ≤ p → ArePassed made rows p next ds
    → AreUnlisted rows (made + 1) (ds ++ range_with_len next (made + 1 - next))
passed-all made rows p next ds high passed = unlisted-to rows next (made + 1) ds passed.some passed.within behind passed.unlisted
  where
    behind : (d : ℕ) → next ≤ d → d < made + 1 → HasRow rows d → ⊥
    behind d least less has =
        let found = place-of rows d has in
        let below = passed.before found.0 (omega (arith, found.1, high)) in
        omega (arith, below, found.2, least)
