-- The ranks of darts, told one after the other.
use Rattle.std.proofs.Common.{◌≡◌, ◌≢◌, ℕ, zero, suc, ◌+◌, ◌-◌, ◌<◌, ◌≤◌, ◌⊎◌, List, length, refl, sym, ap, ◌∙◌, inl, inr, arith}
use Rattle.std.specs.Prelude.{slice_index, slice_set, All, Contains}
use Rattle.std.specs.List.Sorted.{IsStrictlyIncreasing}
use Rattle.std.proofs.lemmas.Bool.{cases_lt, cases_eq}
use Rattle.std.proofs.lemmas.List.{length-set, get_or-set_same, get_or-set_other, get_or_past, get_or_default}
use Rattle.std.proofs.lemmas.List.Kept.{AllPairs-from_increasing}
use Rattle.half_defs.specs.Halves.{origin}
use Rattle.orient_half.specs.Ranks.{IsRank}

-- the darts are numbered from 1 to at most made
abbrev pub AreMade : ℕ → List ℕ → Type 0
AreMade made darts = All (λ d. (1 ≤ d) × (d ≤ made)) darts

-- The ranks of the first p darts stand in the table, and 0 everywhere else.
pub record AreRankedUpTo (darts : List ℕ) (made p : ℕ) (table : List ℕ) : Type 0 where
  pub long : length table ≡ made + 1
  pub told : (k : ℕ) → k < p → slice_index table (slice_index darts k) ≡ k + 1
  pub whole : (d : ℕ) → (slice_index table d ≡ 0) ⊎ ((k : ℕ) × (k < p) × (slice_index table d ≡ k + 1) × (slice_index darts k ≡ d))

pub origin-next : (darts : List ℕ) (k : ℕ) → origin darts (k + 1) ≡ slice_index darts k
origin-next darts k = let e : k + 1 ≡ suc k = omega arith in rw e refl

pub some-rank : (r : ℕ) → r ≢ 0 → 1 ≤ r
some-rank zero some = absurd (some refl)
some-rank (suc r) some = omega arith

pub origin-past : (darts : List ℕ) (r : ℕ) → ((1 ≤ r) × (r ≤ length darts) → ⊥) → origin darts r ≡ 0
origin-past darts zero outside = refl
origin-past darts (suc k) outside = get_or_past darts k 0 (elim (cases_lt k (length darts)) [
  | inl low ↦ absurd (outside (omega arith, omega arith))
  | inr high ↦ high
])

-- a number is a rank, or not
pub within-or-not : (m r : ℕ) → ((1 ≤ r) × (r ≤ m)) ⊎ ((1 ≤ r) × (r ≤ m) → ⊥)
within-or-not m zero = inr (λ low. let some = low.0 in omega arith)
within-or-not m (suc k) = elim (cases_lt k m) [
  | inl low ↦ inl (omega arith, omega arith)
  | inr high ↦ inr (λ low. let most = low.1 in omega arith)
]

-- a dart has a rank
pub rank-of : (darts : List ℕ) (d : ℕ) → Contains darts d → (s : ℕ) × (1 ≤ s) × (s ≤ length darts) × (origin darts s ≡ d)
rank-of darts d has = (has.0 + 1, omega arith, omega (arith, has.1), origin-next darts has.0 ∙ get_or_default darts has.0 0 d has.1 ∙ has.2)

module _ (darts : List ℕ) (made : ℕ) (up : IsStrictlyIncreasing darts) (within : AreMade made darts) where
  earlier : (j k : ℕ) → j < k → k < length darts → slice_index darts j ≢ slice_index darts k
  earlier j k less low same = let below = AllPairs-from_increasing darts up j k 0 less low in omega arith

  pub ranked-more : (p d : ℕ) (table : List ℕ) → p < length darts → d ≡ slice_index darts p → AreRankedUpTo darts made p table → AreRankedUpTo darts made (p + 1) (slice_set table d (p + 1))
  ranked-more p d table low is are = record {
    long = length-set table d (p + 1) ∙ are.long;
    told = λ k less. elim (cases_lt k p) [
      | inl below ↦
          get_or-set_other table d (slice_index darts k) (p + 1) 0 (λ same. earlier k p below low (same ∙ is)) ∙ are.told k below
      | inr above ↦
          let same : k ≡ p = omega arith in
          ap (λ (x : ℕ). slice_index (slice_set table d (p + 1)) x) (ap (slice_index darts) same ∙ sym is) ∙ put ∙ ap (λ (x : ℕ). x + 1) (sym same)
    ];
    whole = λ e. elim (cases_eq e d) [
      | inl same ↦ inr (p, omega arith, ap (slice_index (slice_set table d (p + 1))) same ∙ put, sym is ∙ sym same)
      | inr other ↦ kept e other (are.whole e)
    ];
  }
    where
      put : slice_index (slice_set table d (p + 1)) d ≡ p + 1
      put = get_or-set_same table d (p + 1) 0 (let most = (within p 0 low).1 in let long = are.long in omega (arith, most, long, is))

      kept : (e : ℕ) → e ≢ d → (slice_index table e ≡ 0) ⊎ ((k : ℕ) × (k < p) × (slice_index table e ≡ k + 1) × (slice_index darts k ≡ e))
          → (slice_index (slice_set table d (p + 1)) e ≡ 0) ⊎ ((k : ℕ) × (k < p + 1) × (slice_index (slice_set table d (p + 1)) e ≡ k + 1) × (slice_index darts k ≡ e))
      kept e other (inl free) = inl (get_or-set_other table d e (p + 1) 0 other ∙ free)
      kept e other (inr has) = inr (has.0, omega (arith, has.1), get_or-set_other table d e (p + 1) 0 other ∙ has.2, has.3)

  -- the table tells the ranks
  pub ranked-all : (p : ℕ) (table : List ℕ) → p ≡ length darts → AreRankedUpTo darts made p table → (d : ℕ) → IsRank darts d (slice_index table d)
  ranked-all p table end are d = at (are.whole d)
    where
      zero-free : (r : ℕ) → slice_index table 0 ≡ r → 0 ≡ r
      zero-free r is = none (are.whole 0)
        where
          none : (slice_index table 0 ≡ 0) ⊎ ((k : ℕ) × (k < p) × (slice_index table 0 ≡ k + 1) × (slice_index darts k ≡ 0)) → 0 ≡ r
          none (inl free) = sym free ∙ is
          none (inr has) = absurd (let some = (within has.0 0 (omega (arith, has.1))).0 in omega (arith, some, has.3))

      found : (s : ℕ) → s ≤ length darts → origin darts s ≡ d → s ≡ slice_index table d
      found zero low same = zero-free (slice_index table d) (ap (slice_index table) same)
      found (suc k) low same = omega (arith, are.told k (omega arith), ap (slice_index table) same)

      at : (slice_index table d ≡ 0) ⊎ ((k : ℕ) × (k < p) × (slice_index table d ≡ k + 1) × (slice_index darts k ≡ d)) → IsRank darts d (slice_index table d)
      at (inl free) = record { within = omega arith; found = found; has = λ some. absurd (some free) }
      at (inr has) = record {
        within = omega (arith, has.1, has.2);
        found = found;
        has = λ some. ap (origin darts) has.2 ∙ origin-next darts has.0 ∙ has.3;
      }

  -- there are no more darts than were made
  pub few-darts : length darts ≤ made
  few-darts = elim (cases_lt 0 (length darts)) [
    | inl some ↦
        let last = (within (length darts - 1) 0 (omega arith)).1 in
        let high = rises (length darts - 1) (omega arith) in omega (arith, last, high)
    | inr none ↦ omega arith
  ]
    where
      rises : (k : ℕ) → k < length darts → k + 1 ≤ slice_index darts k
      rises zero low = (within 0 0 low).0
      rises (suc k) low = let before = rises k (omega arith) in let more = up k (omega arith) in let e : k + 1 ≡ suc k = omega arith in omega (arith, before, rw e at more)
