-- Two lists in one strict order with the same members are equal.
use Rattle.std.proofs.Common.{◌≡◌, zero, suc, ◌⊎◌, List, [], ◌∷◌, sym, ap, ◌∙◌, subst, refl, inl, inr, arith, Contains, AllPairs}

module _ {X : Type 0} (Before : X → X → Type 0) (apart : (x y : X) → Before x y → Before y x → ⊥) where
  cases : (x y : X) (ys : List X) → Contains (y ∷ ys) x → (x ≡ y) ⊎ Contains ys x
  cases x y ys (zero, h, e) = inl (sym e)
  cases x y ys (suc k, h, e) = inr (k, omega arith, e)

  here : (x : X) (xs : List X) → Contains (x ∷ xs) x
  here x xs = (zero, omega arith, refl)

  there : (x y : X) (ys : List X) → Contains ys x → Contains (y ∷ ys) x
  there x y ys (k, h, e) = (suc k, omega arith, e)

  rest : (x : X) (xs : List X) → AllPairs Before (x ∷ xs) → AllPairs Before xs
  rest x xs o = λ i j d h within. o (suc i) (suc j) d (omega arith) (omega arith)

  -- the first comes before each other one
  first : (x y : X) (xs : List X) → AllPairs Before (x ∷ xs) → Contains xs y → Before x y
  first x y xs o (k, h, e) = subst (Before x) e (o zero (suc k) y (omega arith) (omega arith))

  same-first : (x y : X) (xs ys : List X) → AllPairs Before (x ∷ xs) → AllPairs Before (y ∷ ys)
      → (x ≡ y) ⊎ Contains ys x → (y ≡ x) ⊎ Contains xs y → x ≡ y
  same-first x y xs ys o p (inl e) k = e
  same-first x y xs ys o p (inr h) (inl e) = sym e
  same-first x y xs ys o p (inr h) (inr k) = absurd (apart y x (first y x ys p h) (first x y xs o k))

  other : (x z : X) (xs ys : List X) → AllPairs Before (x ∷ xs) → Contains xs z → (z ≡ x) ⊎ Contains ys z → Contains ys z
  other x z xs ys o h (inr k) = k
  other x z xs ys o h (inl e) = absurd (let own : Before x x = subst (Before x) e (first x z xs o h) in apart x x own own)

  pub one-list : (xs ys : List X) → AllPairs Before xs → AllPairs Before ys → ((x : X) → Contains xs x → Contains ys x)
      → ((x : X) → Contains ys x → Contains xs x) → xs ≡ ys
  one-list [] [] o p f g = refl
  one-list [] (y ∷ ys) o p f g = absurd (let h = (g y (here y ys)).1 in omega arith)
  one-list (x ∷ xs) [] o p f g = absurd (let h = (f x (here x xs)).1 in omega arith)
  one-list (x ∷ xs) (y ∷ ys) o p f g =
      let e : x ≡ y = same-first x y xs ys o p (cases x y ys (f x (here x xs))) (cases y x xs (g y (here y ys))) in
      let to : (z : X) → Contains xs z → Contains ys z = λ z h.
      other x z xs ys o h (subst (λ (u : X). (z ≡ u) ⊎ Contains ys z) (sym e) (cases z y ys (f z (there z x xs h)))) in
      let back : (z : X) → Contains ys z → Contains xs z = λ z h.
      other y z ys xs p h (subst (λ (u : X). (z ≡ u) ⊎ Contains xs z) e (cases z x xs (g z (there z y ys h)))) in
      ap (λ (u : X). u ∷ xs) e ∙ ap (λ (us : List X). y ∷ us) (one-list xs ys (rest x xs o) (rest y ys p) to back)
