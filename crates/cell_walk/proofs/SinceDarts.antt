-- The darts of a walk that were found since some moment.
use Rattle.std.proofs.Common.{◌≡◌, ℕ, ◌+◌, ◌-◌, ◌<◌, ◌↔◌, List, ◌++◌, length, take, drop, get_or, nat_eq, Contains, refl, sym, ap, subst, ◌∙◌, inl, inr, arith, IsPermutation, nat_cmp}
use Rattle.std.proofs.lemmas.Bool.{cases_lt, false≢true, eq-eqb}
use Rattle.std.proofs.lemmas.List.{get_or-drop, get_or-take, length-take, length-drop, take-append-drop}
use Rattle.std.proofs.lemmas.List.Sorted.{IsPermutation-append_right}
use Rattle.std.proofs.lemmas.Map.Keys.{apart_from_distinct, IsDistinct-from_apart}
use Rattle.std.specs.List.{IsDistinct}
use Rattle.std.specs.List.Sorted.{IsSorted, IsStrictlyIncreasing}
use Rattle.cell_walk.specs.Visits.{ListsOnce}
use Rattle.cell_walk.proofs.FoundDarts.{ascending-distinct, distinct-moved, sorted-same}

-- a dart stands at one place
one-place : (darts : List ℕ) (d i j : ℕ) → IsDistinct nat_eq darts → i < j → j < length darts → get_or darts i d ≡ d → get_or darts j d ≡ d → ⊥
one-place darts d i j apart lt low first second =
    false≢true (sym (apart_from_distinct nat_eq darts i j d apart lt low) ∙ (rw (first, second) (eq-eqb d d refl)))

since-has : (darts : List ℕ) (place : ℕ) → IsDistinct nat_eq darts → (d : ℕ) → Contains (drop place darts) d ↔ (Contains darts d × (Contains (take place darts) d → ⊥))
since-has darts place apart d = (to, from)
  where
    to : Contains (drop place darts) d → Contains darts d × (Contains (take place darts) d → ⊥)
    to has =
        let low : place + has.0 < length darts = omega (arith, has.1, length-drop place darts) in
        let at : get_or darts (place + has.0) d ≡ d = sym (get_or-drop place darts has.0 d) ∙ has.2 in (
          (place + has.0, low, at),
          λ early.
              let before : early.0 < place = omega (arith, early.1, length-take place darts) in
              one-place darts d early.0 (place + has.0) apart (omega arith) low (sym (get_or-take place darts early.0 d before) ∙ early.2) at,
        )

    from : Contains darts d × (Contains (take place darts) d → ⊥) → Contains (drop place darts) d
    from h = elim (cases_lt h.0.0 place) [
      | inl early ↦ absurd (h.1 (h.0.0, omega (arith, h.0.1, length-take place darts), get_or-take place darts h.0.0 d early ∙ h.0.2))
      | inr late ↦ (h.0.0 - place, omega (arith, h.0.1, length-drop place darts), get_or-drop place darts (h.0.0 - place) d ∙ (let e : place + (h.0.0 - place) ≡ h.0.0 = omega arith in rw e h.0.2))
    ]

pub since-members : (Told : List ℕ → Type 0) (darts sorted : List ℕ) (place : ℕ) → ListsOnce Told darts → IsPermutation (drop place darts) sorted
    → (d : ℕ) → Contains sorted d ↔ (Contains darts d × (Contains (take place darts) d → ⊥))
since-members Told darts sorted place lists moved d =
    let same = sorted-same (drop place darts) sorted moved d in
    let here = since-has darts place lists.apart d in
    (λ has. here.0 (same.0 has), λ h. same.1 (here.1 h))

pub since-ascending : (Told : List ℕ → Type 0) (darts sorted : List ℕ) (place : ℕ) → ListsOnce Told darts → IsPermutation (drop place darts) sorted → IsSorted nat_cmp sorted → IsStrictlyIncreasing sorted
since-ascending Told darts sorted place lists moved ordered =
    ascending-distinct (drop place darts) sorted
    (IsDistinct-from_apart nat_eq (drop place darts) (λ i j d lt low.
    rw (get_or-drop place darts i d, get_or-drop place darts j d)
    (apart_from_distinct nat_eq darts (place + i) (place + j) d lists.apart (omega arith) (omega (arith, low, length-drop place darts)))))
    moved ordered

-- the list has the same darts when those since some moment are moved
pub since-once : (Marked : ℕ → Type 0) (old new : List ℕ) (place : ℕ) → take place new ≡ take place old → IsPermutation (drop place old) (drop place new)
    → ListsOnce (λ found. (d : ℕ) → Marked d ↔ Contains found d) old → ListsOnce (λ found. (d : ℕ) → Marked d ↔ Contains found d) new
since-once Marked old new place before moved lists =
    record {
      apart = distinct-moved old new all lists.apart;
      told = λ d. (λ marked. (sorted-same old new all d).1 ((lists.told d).0 marked), λ has. (lists.told d).1 ((sorted-same old new all d).0 has));
    }
  where
    all : IsPermutation old new
    all =
        subst (λ (xs : List ℕ). IsPermutation xs new) (take-append-drop place old)
        (subst (IsPermutation (take place old ++ drop place old)) (ap (λ (xs : List ℕ). xs ++ drop place new) (sym before) ∙ take-append-drop place new)
        (IsPermutation-append_right (take place old) (drop place old) (drop place new) moved))
