-- Lists: what holds of each element after a push and after a sort, and sorts by keys that differ.
use Rattle.std.proofs.Common.{◌≡◌, ◌≢◌, ◌⊎◌, inl, inr, ℕ, zero, suc, ◌+◌, ◌<◌, ◌≤◌, List, [], ◌∷◌, ◌++◌, length, get_or, slice_index, false, nat_eq, Contains, map, IsPermutation, refl, sym, ◌∙◌, ap, subst, arith}
use Rattle.std.proofs.lemmas.Bool.Decides.{nat_tests}
use Rattle.std.proofs.lemmas.List.{get_or_default}
use Rattle.std.proofs.lemmas.List.Elements.{Contains-get_or}
use Rattle.std.proofs.lemmas.List.Sorted.{All-permutation, Contains-permutation, IsPermutation-map}
use Rattle.std.proofs.lemmas.List.Kept.{AllPairs-from_increasing}
use Rattle.std.proofs.lemmas.Map.Keys.{IsDistinct-IsPermutation, IsStrictlyIncreasing-from_distinct, IsDistinct-from_apart}
use Rattle.std.specs.List.{IsDistinct}
use Rattle.std.specs.List.Sorted.{IsStrictlyIncreasing, IsNonDecreasing, IsNonDecreasingBy}

module _ {X : Type 0} (e : X) where
  -- the elements after a push
  pub at_front : (xs : List X) (x : X) (k : ℕ) → k < length xs → get_or (xs ++ x ∷ []) k e ≡ get_or xs k e
  at_front [] x k h = absurd (omega arith)
  at_front (y ∷ xs) x zero h = refl
  at_front (y ∷ xs) x (suc k) h = at_front xs x k (omega arith)

  pub at_back : (xs : List X) (x : X) → get_or (xs ++ x ∷ []) (length xs) e ≡ x
  at_back [] x = refl
  at_back (y ∷ xs) x = at_back xs x

  pub one_more : (xs : List X) (x : X) → length (xs ++ x ∷ []) ≡ length xs + 1
  one_more [] x = refl
  one_more (y ∷ xs) x = let h = one_more xs x in omega arith

  pub back_or_front : (xs : List X) (x : X) (k : ℕ) → k < length (xs ++ x ∷ []) → (k < length xs) ⊎ (k ≡ length xs)
  back_or_front xs x k h = let n = one_more xs x in grind arith

  -- what holds of each element
  pub each_pushed : (P : X → Type 0) (xs : List X) (x : X) → ((k : ℕ) → k < length xs → P (get_or xs k e)) → P x → (k : ℕ) → k < length (xs ++ x ∷ []) → P (get_or (xs ++ x ∷ []) k e)
  each_pushed P xs x all p k h = elim (back_or_front xs x k h) [
    | inl l ↦ subst P (sym (at_front xs x k l)) (all k l)
    | inr l ↦ subst P (sym (ap (λ j. get_or (xs ++ x ∷ []) j e) l ∙ at_back xs x)) p
  ]

  pub each_moved : (P : X → Type 0) (xs ys : List X) → IsPermutation xs ys → ((k : ℕ) → k < length xs → P (get_or xs k e)) → (k : ℕ) → k < length ys → P (get_or ys k e)
  each_moved P xs ys moved all k h = All-permutation P xs ys moved (λ j d l. subst P (get_or_default xs j e d l) (all j l)) k e h

  -- some element
  pub some_moved : (P : X → Type 0) (xs ys : List X) → IsPermutation xs ys → (k : ℕ) → k < length xs → P (get_or xs k e) → (j : ℕ) × (j < length ys) × P (get_or ys j e)
  some_moved P xs ys moved k h p =
      let there : Contains ys (get_or xs k e) = Contains-permutation xs ys (get_or xs k e) moved (Contains-get_or xs k e h) in
      (there.0, there.1, subst P (sym there.2 ∙ get_or_default ys there.0 (get_or xs k e) e there.1) p)

  pub get_or_mapped : (key : X → ℕ) (xs : List X) (k : ℕ) → k < length xs → slice_index (map key xs) k ≡ key (get_or xs k e)
  get_or_mapped key [] k h = absurd (omega arith)
  get_or_mapped key (x ∷ xs) zero h = refl
  get_or_mapped key (x ∷ xs) (suc k) h = get_or_mapped key xs k (omega arith)

  length_mapped : (key : X → ℕ) (xs : List X) → length (map key xs) ≡ length xs
  length_mapped key [] = refl
  length_mapped key (x ∷ xs) = ap suc (length_mapped key xs)

  -- keys that differ rise after a sort
  pub rising_by_key : (key : X → ℕ) (xs ys : List X) → IsDistinct nat_eq (map key xs) → IsPermutation xs ys → IsNonDecreasingBy key ys → (m n : ℕ) → m < n → n < length ys → key (get_or ys m e) < key (get_or ys n e)
  rising_by_key key xs ys apart moved sorted m n l h =
      subst (λ a. a < key (get_or ys n e)) (get_or_mapped key ys m (omega arith))
      (subst (λ b. slice_index (map key ys) m < b) (get_or_mapped key ys n h) below)
    where
      flat : IsNonDecreasing (map key ys)
      flat i j d le lt =
          let lt' : j < length ys = (let s = length_mapped key ys in omega arith) in
          let a : get_or (map key ys) i d ≡ key (get_or ys i e) = get_or_default (map key ys) i d 0 (omega arith) ∙ get_or_mapped key ys i (omega arith) in
          let b : get_or (map key ys) j d ≡ key (get_or ys j e) = get_or_default (map key ys) j d 0 lt ∙ get_or_mapped key ys j lt' in
          let s = sorted i j e le lt' in
          omega arith

      distinct : IsDistinct nat_eq (map key ys)
      distinct = IsDistinct-IsPermutation nat_eq (λ x y. grind (arith, nat_tests)) (map key xs) (map key ys) (IsPermutation-map key xs ys moved) apart

      below : slice_index (map key ys) m < slice_index (map key ys) n
      below = AllPairs-from_increasing (map key ys) (IsStrictlyIncreasing-from_distinct (map key ys) flat distinct) m n 0 l (let s = length_mapped key ys in omega arith)

  -- keys that differ by place
  pub distinct_by_key : (key : X → ℕ) (xs : List X) → ((m n : ℕ) → m < n → n < length xs → key (get_or xs m e) ≢ key (get_or xs n e)) → IsDistinct nat_eq (map key xs)
  distinct_by_key key xs apart = IsDistinct-from_apart nat_eq (map key xs) (λ m n d l h.
      let h' : n < length xs = (let s = length_mapped key xs in omega arith) in
      let a : get_or (map key xs) m d ≡ key (get_or xs m e) = get_or_default (map key xs) m d 0 (omega arith) ∙ get_or_mapped key xs m (omega arith) in
      let b : get_or (map key xs) n d ≡ key (get_or xs n e) = get_or_default (map key xs) n d 0 h ∙ get_or_mapped key xs n h' in
      differs (get_or (map key xs) m d) (get_or (map key xs) n d) (λ s. apart m n l h' (sym a ∙ s ∙ b)))
    where
      differs : (a b : ℕ) → a ≢ b → nat_eq a b ≡ false
      differs a b h = grind (arith, nat_tests)

pub rises : (xs : List ℕ) → IsStrictlyIncreasing xs → (i j : ℕ) → i < j → j < length xs → slice_index xs i < slice_index xs j
rises xs up i j l h = AllPairs-from_increasing xs up i j 0 l h

pub rises_at_most : (xs : List ℕ) → IsStrictlyIncreasing xs → (i j : ℕ) → i ≤ j → j < length xs → slice_index xs i ≤ slice_index xs j
rises_at_most xs up i j l h = go (case i j l)
  where
    case : (a b : ℕ) → a ≤ b → (a ≡ b) ⊎ (a < b)
    case a b s = grind arith

    go : (i ≡ j) ⊎ (i < j) → slice_index xs i ≤ slice_index xs j
    go (inl e) = let f = ap (slice_index xs) e in omega arith
    go (inr s) = let f = rises xs up i j s h in omega arith

-- a number of the list, by its place
pub place_of : (xs : List ℕ) (x : ℕ) → Contains xs x → (j : ℕ) × (j < length xs) × (slice_index xs j ≡ x)
place_of xs x h = (h.0, h.1, get_or_default xs h.0 0 x h.1 ∙ h.2)

pub held_at : (xs : List ℕ) (j : ℕ) → j < length xs → Contains xs (slice_index xs j)
held_at xs j h = Contains-get_or xs j 0 h
