-- Lists that were sorted, or that only some elements of stayed in.
use Rattle.std.proofs.Common.{◌≡◌, ℕ, zero, suc, ◌+◌, ◌<◌, ◌≤◌, ◌⊎◌, ◌↔◌, Bool, true, false, List, [], ◌∷◌, length, get_or, refl, sym, ap, ◌∙◌, subst, inl, inr, arith, add-one, Contains, AllPairs, nat_cmp}
use Rattle.std.specs.Prelude.{All}
use Rattle.std.specs.List.{items_where_true}
use Rattle.std.specs.List.Retain.{IsFiltered, ReturnsInTurn}
use Rattle.std.specs.Ordering.{is_lt, ordering_then}
use Rattle.std.specs.declared.cmp.Ordering.TheVariants.{Less, Equal}
use Rattle.std.proofs.lemmas.Bool.{cases_lt, cases_eq, false≢true}
use Rattle.std.proofs.lemmas.List.Kept.{AllPairs-cons}
use Rattle.std.proofs.lemmas.Map.Keys.{ge_from_not_lt}
use Rattle.std.specs.Cmp.{nat_cmp_is}

first-or-later : {X : Type 0} (x y : X) (xs : List X) → Contains (x ∷ xs) y → (x ≡ y) ⊎ Contains xs y
first-or-later x y xs (zero, lt, is) = inl is
first-or-later x y xs (suc k, lt, is) = inr (k, omega arith, is)

first-there : {X : Type 0} (x : X) (xs : List X) → Contains (x ∷ xs) x
first-there x xs = (zero, omega arith, refl)

later-there : {X : Type 0} (x y : X) (xs : List X) → Contains xs y → Contains (x ∷ xs) y
later-there x y xs (k, lt, is) = (suc k, omega arith, is)

module _ {X F : Type 0} (R : F → X → Bool → F → Type 0) (P : X → Type 0) (f : F)
    (h : (x : X) (b : Bool) (g : F) → R f x b g → (b ≡ true → P x) × (b ≡ false → P x → ⊥) × (g ≡ f)) where
  kept-are : (bs : List Bool) (xs : List X) (g q : F) → g ≡ f → length bs ≡ length xs → ReturnsInTurn R g bs xs q → (y : X)
      → Contains (items_where_true bs xs) y ↔ (Contains xs y × P y)
  kept-are [] [] g q same e t y = ((λ c. absurd (let lt : c.0 < 0 = c.1 in omega arith)), λ c. absurd (let lt : c.0.0 < 0 = c.0.1 in omega arith))
  kept-are [] (x ∷ xs) g q same e t y = absurd (omega (arith, e))
  kept-are (b ∷ bs) [] g q same e t y = absurd (omega (arith, e))
  kept-are (true ∷ bs) (x ∷ xs) g q same e (j, r, rest) y =
      let one = h x true j (subst (λ (k : F). R k x true j) same r) in
      let more = kept-are bs xs j q one.2 (omega (arith, e)) rest y in (
        λ c. (elim (first-or-later x y (items_where_true bs xs) c) [
          | inl is ↦ (subst (Contains (x ∷ xs)) is (first-there x xs), subst P is (one.0 refl))
          | inr later ↦ (let there = more.0 later in (later-there x y xs there.0, there.1))
        ]),
        λ c. (elim (first-or-later x y xs c.0) [
          | inl is ↦ subst (Contains (x ∷ items_where_true bs xs)) is (first-there x (items_where_true bs xs))
          | inr later ↦ later-there x y (items_where_true bs xs) (more.1 (later, c.1))
        ]),
      )
  kept-are (false ∷ bs) (x ∷ xs) g q same e (j, r, rest) y =
      let one = h x false j (subst (λ (k : F). R k x false j) same r) in
      let more = kept-are bs xs j q one.2 (omega (arith, e)) rest y in (
        λ c. (let there = more.0 c in (later-there x y xs there.0, there.1)),
        λ c. (elim (first-or-later x y xs c.0) [
          | inl is ↦ absurd (one.1 refl (subst P (sym is) c.1))
          | inr later ↦ more.1 (later, c.1)
        ]),
      )

  -- what stayed are just the elements that meet P
  pub retained-are : (xs ys : List X) → IsFiltered R f xs ys → (y : X) → Contains ys y ↔ (Contains xs y × P y)
  retained-are xs ys (bs, q, e, t, is) y =
      subst (λ (zs : List X). Contains zs y ↔ (Contains xs y × P y)) (sym is) (kept-are bs xs f q refl e t y)

skip-second : {X : Type 0} (B : X → X → Type 0) (x y : X) (xs : List X) → AllPairs B (x ∷ y ∷ xs) → AllPairs B (x ∷ xs)
skip-second B x y xs all zero zero d lt within = absurd (omega arith)
skip-second B x y xs all zero (suc j) d lt within = all zero (suc (suc j)) d (omega arith) (omega arith)
skip-second B x y xs all (suc i) zero d lt within = absurd (omega arith)
skip-second B x y xs all (suc i) (suc j) d lt within = all (suc (suc i)) (suc (suc j)) d (omega arith) (omega arith)

-- and they stand in the same order
front-all : {X : Type 0} (B : X → X → Type 0) (x : X) (bs : List Bool) (xs : List X) → AllPairs B (x ∷ xs) → All (B x) (items_where_true bs xs)
front-all B x [] xs all k d lt = absurd (omega arith)
front-all B x (b ∷ bs) [] all k d lt = absurd (omega arith)
front-all B x (true ∷ bs) (y ∷ xs) all zero d lt = all 0 1 y (omega arith) (omega arith)
front-all B x (true ∷ bs) (y ∷ xs) all (suc k) d lt = front-all B x bs xs (skip-second B x y xs all) k d (omega arith)
front-all B x (false ∷ bs) (y ∷ xs) all k d lt = front-all B x bs xs (skip-second B x y xs all) k d lt

pub order-kept : {X : Type 0} (B : X → X → Type 0) (bs : List Bool) (xs : List X) → AllPairs B xs → AllPairs B (items_where_true bs xs)
order-kept B [] xs all = λ i j d lt within. absurd (omega arith)
order-kept B (b ∷ bs) [] all = λ i j d lt within. absurd (omega arith)
order-kept B (true ∷ bs) (x ∷ xs) all = AllPairs-cons B x (items_where_true bs xs) (front-all B x bs xs all) (order-kept B bs xs (λ i j d lt within. all (suc i) (suc j) d (omega arith) (omega arith)))
order-kept B (false ∷ bs) (x ∷ xs) all = order-kept B bs xs (λ i j d lt within. all (suc i) (suc j) d (omega arith) (omega arith))

pub retained-ordered : {X F : Type 0} (R : F → X → Bool → F → Type 0) (B : X → X → Type 0) (f : F) (xs ys : List X) → IsFiltered R f xs ys → AllPairs B xs → AllPairs B ys
retained-ordered R B f xs ys (bs, q, e, t, is) all = subst (AllPairs B) (sym is) (order-kept B bs xs all)

-- each pair of a list in whose neighbours a relation holds that joins
pub pairs-from-neighbours : {X : Type 0} (B : X → X → Type 0) (join : (x y z : X) → B x y → B y z → B x z) (xs : List X)
    → ((k : ℕ) (d : X) → k + 1 < length xs → B (get_or xs k d) (get_or xs (k + 1) d)) → AllPairs B xs
pairs-from-neighbours B join xs next i j d lt within = go j lt within
  where
    after : (j : ℕ) → suc j < length xs → B (get_or xs j d) (get_or xs (suc j) d)
    after j inside = subst (λ (h : ℕ). B (get_or xs j d) (get_or xs h d)) (add-one j) (next j d (omega arith))

    go : (j : ℕ) → i < j → j < length xs → B (get_or xs i d) (get_or xs j d)
    go zero lt within = absurd (omega arith)
    go (suc j) lt within = elim (cases_eq i j) [
      | inl same ↦ subst (λ (h : ℕ). B (get_or xs h d) (get_or xs (suc j) d)) (sym same) (after j (omega arith))
      | inr other ↦ join (get_or xs i d) (get_or xs j d) (get_or xs (suc j) d) (go j (omega arith) (omega arith)) (after j (omega arith))
    ]

-- a pair of numbers that is not less than another, where they differ, comes after it
pub pair-after : (a b c d : ℕ) → is_lt (ordering_then (nat_cmp c a) (nat_cmp d b)) ≡ false → (a ≡ c → b ≡ d → ⊥) → (a < c) ⊎ ((a ≡ c) × (b < d))
pair-after a b c d not-less apart = elim (cases_lt a c) [
  | inl lt ↦ inl lt
  | inr ge ↦ elim (cases_eq a c) [
    | inl same ↦ inr (same, (let le = ge_from_not_lt d b (tied (nat_cmp_is c a Equal (sym same))) in let other = apart same in below le (λ e. other e)))
    | inr other ↦ absurd (false≢true (sym not-less ∙ less (nat_cmp_is c a Less (omega arith))))
  ]
]
  where
    tied : Equal ≡ nat_cmp c a → is_lt (nat_cmp d b) ≡ false
    tied e = ap (λ o. is_lt (ordering_then o (nat_cmp d b))) e ∙ not-less

    less : Less ≡ nat_cmp c a → is_lt (ordering_then (nat_cmp c a) (nat_cmp d b)) ≡ true
    less e = ap (λ o. is_lt (ordering_then o (nat_cmp d b))) (sym e)

    below : b ≤ d → (b ≡ d → ⊥) → b < d
    below le other = omega arith
