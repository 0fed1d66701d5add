-- As many darts live as rows stand, where the darts with rows are the live ones.
use Rattle.std.proofs.Common.{◌≡◌, ℕ, suc, ◌+◌, ◌-◌, ◌≤◌, ◌<◌, ◌==◌, ◌↔◌, Bool, true, false, cond, List, [], ◌∷◌, length, Option, Some, None, IsSome, refl, sym, ap, subst, inl, inr, arith}
use Rattle.std.specs.Prelude.{AllPairs}
use Rattle.std.proofs.lemmas.Bool.{cases_lt, eqb-true, false≢true}
use Rattle.std.proofs.lemmas.Bool.Decides.{nat_tests}
use Rattle.std.proofs.lemmas.List.Kept.{AllPairs-from_increasing}
use Rattle.map_defs.specs.Rows.{Rows, IsLive, live_count}
use Rattle.machine_defs.specs.Listing.{ListRow}
use Rattle.machine_defs.specs.ListingFaults.{row_in, HasRow}
use Rattle.row_laws.specs.Rows.{darts_of, Ascend}
use Rattle.row_laws.proofs.RowsRead.{darts-long}
use Rattle.row_laws.proofs.RowsAt.{row-missing}
use Rattle.row_laws.proofs.RowPlaces.{has-row}

-- each dart is below those of the later rows
abbrev AreRising : List ListRow → Type 0
AreRising rows = AllPairs (λ (x y : ℕ). x < y) (darts_of rows)

-- the later rows are of higher darts than the first
above-first : (row : ListRow) (rows : List ListRow) (d : ℕ) → AreRising (row ∷ rows) → HasRow rows d → row.dart < d
above-first row rows d up has = elim (cases_lt row.dart d) [
  | inl less ↦ less
  | inr low ↦
      let long = darts-long rows in
      let none = row-missing rows d (λ k h e. let less = up 0 (suc k) 0 (omega arith) (omega (arith, h, long)) in omega (arith, less, low, e)) in
      absurd (false≢true (rw none at has))
]

-- the rows from place p on, beside the darts that are not below p
counted : (R : Rows) (p : ℕ) (rows : List ListRow) → AreRising rows → ((d : ℕ) → IsLive R d ↔ HasRow rows (p + d)) → ((d : ℕ) → HasRow rows d → p ≤ d) → live_count R ≡ length rows
counted [] p [] up alike low = refl
counted [] p (row ∷ rows) up alike low =
    let has = has-row (row ∷ rows) 0 (omega arith) in
    let le = low row.dart has in
    let at : row.dart ≡ p + (row.dart - p) = omega (arith, le) in
    absurd (false≢true ((alike (row.dart - p)).1 (subst (HasRow (row ∷ rows)) at has)))
counted (None ∷ R) p rows up alike low = counted R (p + 1) rows up behind above
  where
    next : (d : ℕ) → p + suc d ≡ p + 1 + d
    next d = omega arith

    behind : (d : ℕ) → IsLive R d ↔ HasRow rows (p + 1 + d)
    behind d = (λ live. subst (HasRow rows) (next d) ((alike (suc d)).0 live), λ has. (alike (suc d)).1 (subst (HasRow rows) (sym (next d)) has))

    above : (d : ℕ) → HasRow rows d → p + 1 ≤ d
    above d has = elim (cases_lt p d) [
      | inl less ↦ omega (arith, less)
      | inr high ↦
          let le = low d has in
          let here : d ≡ p + 0 = omega (arith, le, high) in
          absurd (false≢true ((alike 0).1 (subst (HasRow rows) here has)))
    ]
counted (Some links ∷ R) p [] up alike low = absurd (false≢true ((alike 0).0 refl))
counted (Some links ∷ R) p (row ∷ rows) up alike low = ap suc (counted R (p + 1) rows (λ i j d less within. up (suc i) (suc j) d (omega arith) (omega arith)) behind above)
  where
    first : row.dart ≡ p + 0
    first = at (row.dart == p + 0) refl ((alike 0).0 refl)
      where
        at : (b : Bool) → row.dart == p + 0 ≡ b → IsSome (cond b (Some row.links) (row_in rows (p + 0))) → row.dart ≡ p + 0
        at true e has = eqb-true row.dart (p + 0) e
        at false e has =
            let less = above-first row rows (p + 0) up has in
            let le = low row.dart (has-row (row ∷ rows) 0 (omega arith)) in
            absurd (omega (arith, less, le))

    later : (d : ℕ) → row_in (row ∷ rows) (p + suc d) ≡ row_in rows (p + 1 + d)
    later d =
        let is = first in
        let other : row.dart == p + suc d ≡ false = grind (arith, nat_tests, is) in
        let next : p + suc d ≡ p + 1 + d = omega arith in
        rw other (ap (row_in rows) next)

    behind : (d : ℕ) → IsLive R d ↔ HasRow rows (p + 1 + d)
    behind d = (
      λ live. subst (λ (o : Option (List ℕ)). IsSome o) (later d) ((alike (suc d)).0 live),
      λ has. (alike (suc d)).1 (subst (λ (o : Option (List ℕ)). IsSome o) (sym (later d)) has),
    )

    above : (d : ℕ) → HasRow rows d → p + 1 ≤ d
    above d has = let is = first in let less = above-first row rows d up has in omega (arith, is, less)

-- where the darts with rows are the live ones, there is a row for each live dart
pub live_count-rows : (rows : List ListRow) (R : Rows) → Ascend rows → ((d : ℕ) → IsLive R d ↔ HasRow rows d) → live_count R ≡ length rows
live_count-rows rows R up alike = counted R 0 rows (AllPairs-from_increasing (darts_of rows) up) from-first (λ d has. omega arith)
  where
    from-first : (d : ℕ) → IsLive R d ↔ HasRow rows (0 + d)
    from-first d = let same : d ≡ 0 + d = omega arith in subst (λ (x : ℕ). IsLive R d ↔ HasRow rows x) same (alike d)
