-- Elements that a walk has come to.
use Rattle.std.proofs.Common.{ℕ, ◌≡◌, ◌⊎◌, ◌+◌, ◌<◌, inl, inr, sym, ap, subst, ◌∙◌, List, [], ◌∷◌, ◌++◌, length, get_or, take, drop, Contains, arith}
use Rattle.std.proofs.lemmas.List.{take_more, drop_more, take-append-drop}
use Rattle.std.proofs.lemmas.List.Elements.{Contains-append_left, Contains-append_right, Contains-append_cases, Contains-push, Contains-push_cases}

module _ {X : Type 0} where
  -- one element more
  pub among-more : (xs : List X) (k : ℕ) (x y : X) → k < length xs → x ≡ get_or xs k x → Contains (take (k + 1) xs) y → Contains (take k xs) y ⊎ (x ≡ y)
  among-more xs k x y h is c =
      Contains-push_cases (take k xs) x y (subst (λ (ys : List X). Contains ys y) (take_more xs k x h ∙ ap (λ (z : X). take k xs ++ z ∷ []) (sym is)) c)

  pub among-before : (xs : List X) (k : ℕ) (x y : X) → k < length xs → x ≡ get_or xs k x → Contains (take k xs) y → Contains (take (k + 1) xs) y
  among-before xs k x y h is c =
      subst (λ (ys : List X). Contains ys y) (sym (take_more xs k x h ∙ ap (λ (z : X). take k xs ++ z ∷ []) (sym is))) (Contains-append_left (take k xs) (x ∷ []) y c)

  pub among-here : (xs : List X) (k : ℕ) (x : X) → k < length xs → x ≡ get_or xs k x → Contains (take (k + 1) xs) x
  among-here xs k x h is =
      subst (λ (ys : List X). Contains ys x) (sym (take_more xs k x h ∙ ap (λ (z : X). take k xs ++ z ∷ []) (sym is))) (Contains-push (take k xs) x)

  pub among-none : (xs : List X) (y : X) → Contains (take 0 xs) y → ⊥
  among-none xs y c = let lt : c.0 < 0 = c.1 in omega arith

  -- the element and those behind it
  pub rest-is : (xs : List X) (k : ℕ) (x : X) → k < length xs → x ≡ get_or xs k x → drop k xs ≡ x ∷ drop (k + 1) xs
  rest-is xs k x h is = drop_more xs k x h ∙ ap (λ (z : X). z ∷ drop (k + 1) xs) (sym is)

  -- an element stands before a place, at it, or behind it
  pub among-parts : (xs : List X) (k : ℕ) (x y : X) → k < length xs → x ≡ get_or xs k x → Contains xs y → Contains (take k xs) y ⊎ ((x ≡ y) ⊎ Contains (drop (k + 1) xs) y)
  among-parts xs k x y h is c = elim (Contains-append_cases (take (k + 1) xs) (drop (k + 1) xs) y (subst (λ (ys : List X). Contains ys y) (sym (take-append-drop (k + 1) xs)) c)) [
    | inl first ↦ elim (among-more xs k x y h is first) [ inl before ↦ inl before | inr same ↦ inr (inl same) ]
    | inr behind ↦ inr (inr behind)
  ]

  pub among-behind : (xs : List X) (k : ℕ) (y : X) → Contains (drop k xs) y → Contains xs y
  among-behind xs k y c = subst (λ (ys : List X). Contains ys y) (take-append-drop k xs) (Contains-append_right (take k xs) (drop k xs) y c)
