-- Lists of numbers that rise: they are told by what they hold. And the least number of a set, where it has one.
use Rattle.std.proofs.Common.{ℕ, zero, suc, ◌≡◌, ◌⊎◌, ◌↔◌, ◌≤◌, ◌<◌, inl, inr, refl, sym, ap₂, subst, List, [], ◌∷◌, length, Contains, AllPairs, slice_index, slice_index_or, arith}
use Rattle.std.specs.List.Sorted.{IsStrictlyIncreasing}
use Rattle.std.proofs.lemmas.List.Kept.{AllPairs-from_increasing}

pub held_case : (x : ℕ) (xs : List ℕ) (m : ℕ) → Contains (x ∷ xs) m → (x ≡ m) ⊎ Contains xs m
held_case x xs m h = go h.0 h.1 h.2
  where
    go : (k : ℕ) → k < length (x ∷ xs) → slice_index_or (x ∷ xs) k m ≡ m → (x ≡ m) ⊎ Contains xs m
    go zero l e = inl e
    go (suc k) l e = inr (k, omega arith, e)

pub held_first : (x : ℕ) (xs : List ℕ) → Contains (x ∷ xs) x
held_first x xs = (0, omega arith, refl)

pub held_later : (x : ℕ) (xs : List ℕ) (m : ℕ) → Contains xs m → Contains (x ∷ xs) m
held_later x xs m h = let l : suc h.0 < length (x ∷ xs) = (let g = h.1 in omega arith) in (suc h.0, l, h.2)

pub held_none : (m : ℕ) → Contains [] m → ⊥
held_none m h = let g = h.1 in omega arith

-- in a rising list the first is below the others, and the others rise
pub Rises : List ℕ → Type 0
Rises xs = AllPairs (λ x y. x < y) xs

pub rising_rises : (xs : List ℕ) → IsStrictlyIncreasing xs → Rises xs
unfolding Rises
rising_rises xs r = AllPairs-from_increasing xs r

pub first_below : (x : ℕ) (xs : List ℕ) (m : ℕ) → Rises (x ∷ xs) → Contains xs m → x < m
unfolding Rises
first_below x xs m r h = let g = h.1 in subst (λ z. x < z) h.2 (r 0 (suc h.0) m (omega arith) (omega arith))

pub rest_rises : (x : ℕ) (xs : List ℕ) → Rises (x ∷ xs) → Rises xs
unfolding Rises
rest_rises x xs r i j d h g = r (suc i) (suc j) d (omega arith) (omega arith)

-- the rest of one list lies in the rest of the other
rest_in : (x y : ℕ) (xs ys : List ℕ) → x ≡ y → Rises (x ∷ xs) → (m : ℕ) → Contains xs m → Contains (y ∷ ys) m → Contains ys m
rest_in x y xs ys e r m h g = go (held_case y ys m g)
  where
    go : (y ≡ m) ⊎ Contains ys m → Contains ys m
    go (inl f) = let l = first_below x xs m r h in absurd (omega arith)
    go (inr c) = c

firsts_same : (x y : ℕ) (xs ys : List ℕ) → Rises (x ∷ xs) → Rises (y ∷ ys) → Contains (y ∷ ys) x → Contains (x ∷ xs) y → x ≡ y
firsts_same x y xs ys rx ry cx cy = go (held_case y ys x cx) (held_case x xs y cy)
  where
    go : (y ≡ x) ⊎ Contains ys x → (x ≡ y) ⊎ Contains xs y → x ≡ y
    go (inl e) d = sym e
    go (inr c) (inl e) = e
    go (inr c) (inr d) = let l = first_below y ys x ry c in let m = first_below x xs y rx d in absurd (omega arith)

rises_one : (xs ys : List ℕ) → Rises xs → Rises ys → ((m : ℕ) → Contains xs m → Contains ys m) → ((m : ℕ) → Contains ys m → Contains xs m) → xs ≡ ys
rises_one [] [] rx ry f g = refl
rises_one [] (y ∷ ys) rx ry f g = absurd (held_none y (g y (held_first y ys)))
rises_one (x ∷ xs) [] rx ry f g = absurd (held_none x (f x (held_first x xs)))
rises_one (x ∷ xs) (y ∷ ys) rx ry f g =
    ap₂ (◌∷◌) same (rises_one xs ys (rest_rises x xs rx) (rest_rises y ys ry)
    (λ m h. rest_in x y xs ys same rx m h (f m (held_later x xs m h)))
    (λ m h. rest_in y x ys xs (sym same) ry m h (g m (held_later y ys m h))))
  where
    same : x ≡ y
    same = firsts_same x y xs ys rx ry (f x (held_first x xs)) (g y (held_first y ys))

-- two rising lists with the same members are one
pub rising_one : (xs ys : List ℕ) → IsStrictlyIncreasing xs → IsStrictlyIncreasing ys → ((m : ℕ) → Contains xs m ↔ Contains ys m) → xs ≡ ys
unfolding Rises
rising_one xs ys rx ry e = rises_one xs ys (AllPairs-from_increasing xs rx) (AllPairs-from_increasing ys ry) (λ m. (e m).0) (λ m. (e m).1)

-- in a rising list each number has one place
pub rising_place : (xs : List ℕ) → IsStrictlyIncreasing xs → (i j : ℕ) → i < length xs → j < length xs → slice_index xs i ≡ slice_index xs j → i ≡ j
rising_place xs r i j hi hj e = go (three i j)
  where
    three : (a b : ℕ) → (a ≡ b) ⊎ (a < b) ⊎ (b < a)
    three a b = grind arith

    p : AllPairs (λ x y. x < y) xs
    p = AllPairs-from_increasing xs r

    go : (i ≡ j) ⊎ (i < j) ⊎ (j < i) → i ≡ j
    go (inl f) = f
    go (inr (inl h)) = absurd (let l = p i j 0 h hj in omega arith)
    go (inr (inr h)) = absurd (let l = p j i 0 h hi in omega arith)

-- a list that rises and holds m alone is m alone
pub rising_alone : (xs : List ℕ) (m : ℕ) → IsStrictlyIncreasing xs → ((x : ℕ) → Contains xs x ↔ (x ≡ m)) → xs ≡ m ∷ []
rising_alone xs m r e = rising_one xs (m ∷ []) r (λ k h. absurd (omega arith)) (λ x. (λ h. subst (Contains (m ∷ [])) (sym ((e x).0 h)) (held_first m []), λ h. (e x).1 (at x (held_case m [] x h))))
  where
    at : (x : ℕ) → (m ≡ x) ⊎ Contains [] x → x ≡ m
    at x (inl f) = sym f
    at x (inr c) = absurd (held_none x c)

low_or_above : (u v : ℕ) → (u ≤ v) ⊎ (v < u)
low_or_above u v = grind arith

-- a set that holds a number has a least one, or rather, it is not so that it has none
none_below : (P : ℕ → Type 0) → ((m : ℕ) → P m → ((x : ℕ) → P x → m ≤ x) → ⊥) → (b x : ℕ) → x < b → P x → ⊥
none_below P never zero x h p = omega arith
none_below P never (suc b) x h p = never x p (λ y q. elim (low_or_above x y) [ inl l ↦ l | inr l ↦ absurd (none_below P never b y (omega arith) q) ])

pub has_least : (P : ℕ → Type 0) (x : ℕ) → P x → ((m : ℕ) → P m → ((y : ℕ) → P y → m ≤ y) → ⊥) → ⊥
has_least P x p never = none_below P never (suc x) x (omega arith) p

-- where it is told which numbers lie in the set, it has one
pub find_least : (P : ℕ → Type 0) → ((x : ℕ) → P x ⊎ (P x → ⊥)) → (b : ℕ) → ((m : ℕ) × P m × ((y : ℕ) → P y → m ≤ y)) ⊎ ((y : ℕ) → y < b → P y → ⊥)
find_least P told zero = inr (λ y h p. omega arith)
find_least P told (suc b) = on (find_least P told b) (told b)
  where
    on : ((m : ℕ) × P m × ((y : ℕ) → P y → m ≤ y)) ⊎ ((y : ℕ) → y < b → P y → ⊥) → P b ⊎ (P b → ⊥) → ((m : ℕ) × P m × ((y : ℕ) → P y → m ≤ y)) ⊎ ((y : ℕ) → y < suc b → P y → ⊥)
    on (inl f) t = inl f
    on (inr n) (inl p) = inl (b, p, λ y q. elim (low_or_above b y) [ inl l ↦ l | inr l ↦ absurd (n y l q) ])
    on (inr n) (inr m) = inr (λ y h q. elim (low_or_above b y) [ inl l ↦ m (subst P (last y h l) q) | inr l ↦ n y l q ])
      where
        last : (y : ℕ) → y < suc b → b ≤ y → y ≡ b
        last y h l = omega arith
