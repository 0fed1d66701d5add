-- Lists of the darts that have a property which is told of each dart.
use Rattle.std.proofs.Common.{ℕ, zero, suc, ◌≡◌, ◌⊎◌, ◌≤◌, Option, None, List, [], ◌∷◌, length, filter, cond, Contains, Bool, true, false, refl, sym, ap, ◌∙◌, subst, inl, inr, arith}
use Rattle.std.specs.List.{range_with_len}
use Rattle.std.specs.List.Sorted.{IsStrictlyIncreasing}
use Rattle.std.proofs.lemmas.Bool.{cases_lt, false≢true}
use Rattle.std.proofs.lemmas.List.{get_or_past}
use Rattle.std.proofs.lemmas.List.Kept.{IsStrictlyIncreasing-filter}
use Rattle.map_defs.specs.Rows.{Rows, made, IsLive}
use Rattle.half_defs.specs.Halves.{AreOrigins}
use Rattle.value_laws.proofs.Rising.{held_case, held_first, held_later, held_none}
use Rattle.half_laws.proofs.DoubleSigns.{counted_ascending, counted_members}

-- what a filter keeps of a list
module _ (test : ℕ → Bool) where
  kept_if : (x d : ℕ) (xs : List ℕ) (b : Bool) → test x ≡ b → Contains (cond b (x ∷ filter test xs) (filter test xs)) d → ((x ≡ d) × (test d ≡ true)) ⊎ Contains (filter test xs) d
  kept_if x d xs false e h = inr h
  kept_if x d xs true e h = elim (held_case x (filter test xs) d h) [ inl same ↦ inl (same, ap test (sym same) ∙ e) | inr later ↦ inr later ]

  kept_first : (x : ℕ) (xs : List ℕ) (b : Bool) → b ≡ true → Contains (cond b (x ∷ filter test xs) (filter test xs)) x
  kept_first x xs false e = absurd (false≢true e)
  kept_first x xs true e = held_first x (filter test xs)

  kept_later : (x d : ℕ) (xs : List ℕ) (b : Bool) → Contains (filter test xs) d → Contains (cond b (x ∷ filter test xs) (filter test xs)) d
  kept_later x d xs false h = h
  kept_later x d xs true h = held_later x (filter test xs) d h

  pub kept_is : (xs : List ℕ) (d : ℕ) → Contains (filter test xs) d → Contains xs d × (test d ≡ true)
  kept_is [] d h = absurd (held_none d h)
  kept_is (x ∷ xs) d h = elim (kept_if x d xs (test x) refl h) [
    | inl (same, passes) ↦ (subst (Contains (x ∷ xs)) same (held_first x xs), passes)
    | inr later ↦ let is = kept_is xs d later in (held_later x xs d is.0, is.1)
  ]

  pub is_kept : (xs : List ℕ) (d : ℕ) → Contains xs d → test d ≡ true → Contains (filter test xs) d
  is_kept [] d h passes = absurd (held_none d h)
  is_kept (x ∷ xs) d h passes = elim (held_case x xs d h) [
    | inl same ↦ subst (Contains (filter test (x ∷ xs))) same (kept_first x xs (test x) (ap test same ∙ passes))
    | inr later ↦ kept_later x d xs (test x) (is_kept xs d later passes)
  ]

-- a question that is answered, as a test
module _ (Has : ℕ → Type 0) where
  answer : (d : ℕ) → Has d ⊎ (Has d → ⊥) → Bool
  answer d (inl yes_has) = true
  answer d (inr no_has) = false

  answer_has : (d : ℕ) (told : Has d ⊎ (Has d → ⊥)) → answer d told ≡ true → Has d
  unfolding answer
  answer_has d (inl has) e = has
  answer_has d (inr out) e = absurd (false≢true e)

  has_answer : (d : ℕ) (told : Has d ⊎ (Has d → ⊥)) → Has d → answer d told ≡ true
  unfolding answer
  has_answer d (inl has) h = refl
  has_answer d (inr out) h = absurd (out h)

  out_answer : (d : ℕ) (told : Has d ⊎ (Has d → ⊥)) → (Has d → ⊥) → answer d told ≡ false
  unfolding answer
  out_answer d (inl has) out = absurd (out has)
  out_answer d (inr no_has) out = refl

  module _ (told : (d : ℕ) → Has d ⊎ (Has d → ⊥)) where
    pub told_test : ℕ → Bool
    told_test d = answer d (told d)

    pub test_has : (d : ℕ) → told_test d ≡ true → Has d
    unfolding told_test
    test_has d e = answer_has d (told d) e

    pub has_test : (d : ℕ) → Has d → told_test d ≡ true
    unfolding told_test
    has_test d h = has_answer d (told d) h

    pub out_test : (d : ℕ) → (Has d → ⊥) → told_test d ≡ false
    unfolding told_test
    out_test d out = out_answer d (told d) out

    -- the origins among the darts of an ascending list
    pub origins_among : (xs : List ℕ) → IsStrictlyIncreasing xs → ((d : ℕ) → Has d → Contains xs d) → (origins : List ℕ) × AreOrigins Has origins
    origins_among xs up there = (
      filter told_test xs,
      record {
        ascending = IsStrictlyIncreasing-filter told_test xs up;
        members = λ d. ((λ h. test_has d (kept_is told_test xs d h).1), λ h. is_kept told_test xs d (there d h) (has_test d h));
      },
    )

    -- and among those from 1 to a bound
    pub origins_there : (bound : ℕ) → (Has 0 → ⊥) → ((d : ℕ) → Has d → d ≤ bound) → (origins : List ℕ) × AreOrigins Has origins
    origins_there bound none low = origins_among (range_with_len 1 bound) (counted_ascending bound) (λ d h. (counted_members bound d).1 (dart d h, low d h))
      where
        dart : (d : ℕ) → Has d → 1 ≤ d
        dart zero h = absurd (none h)
        dart (suc d) h = omega arith

-- a test tells each dart, and so do rows
pub test_told : (b : Bool) → (b ≡ true) ⊎ (b ≡ true → ⊥)
test_told true = inl refl
test_told false = inr false≢true

pub live_made : (rows : Rows) (d : ℕ) → IsLive rows d → d ≤ made rows
live_made rows d live = elim (cases_lt d (length rows)) [
  | inl within ↦ omega arith
  | inr past ↦ absurd (false≢true (let e = get_or_past rows d (let o : Option (List ℕ) = None in o) past in rw e at live))
]
