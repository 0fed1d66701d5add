-- Lists of optional rows: a place behind place 0, and the count of those that are there.
use Rattle.std.proofs.Common.{◌≡◌, ℕ, zero, suc, ◌+◌, ◌<◌, ◌≤◌, List, [], ◌∷◌, ◌++◌, length, get_or, set, take, Option, None, Some, is_some, IsSome, Bool, cond, refl, sym, ap, ◌∙◌, inl, inr, arith}
use Rattle.std.specs.Prelude.{filter, option_map}
use Rattle.std.proofs.lemmas.Bool.{cases_lt, false≢true}
use Rattle.std.proofs.lemmas.List.{take_all, take_more}
use Rattle.std.proofs.lemmas.List.Sums.{length-filter, count_by-le-length, sum_by-set}
use Rattle.dart_arena.specs.Stock.{Stock}

module _ {R : Type 0} where
  -- the list behind place 0, at the place one less
  pub row_behind : (xs : List (Option R)) (d p : ℕ) → p + 1 ≡ d → get_or (None ∷ xs) d None ≡ get_or xs p None
  row_behind xs zero p h = absurd (omega arith)
  row_behind xs (suc d) p h = let e : p ≡ d = omega arith in rw e refl

  pub set_behind : (xs : List (Option R)) (d p : ℕ) (o : Option R) → p + 1 ≡ d → set (None ∷ xs) d o ≡ None ∷ set xs p o
  set_behind xs zero p o h = absurd (omega arith)
  set_behind xs (suc d) p o h = let e : p ≡ d = omega arith in rw e refl

  pub set-behind-mapped : (xs : List (Option R)) (d p : ℕ) (f : R → R) → p + 1 ≡ d
      → set (None ∷ xs) d (option_map f (get_or (None ∷ xs) d None)) ≡ None ∷ set xs p (option_map f (get_or xs p None))
  set-behind-mapped xs zero p f h = absurd (omega arith)
  set-behind-mapped xs (suc d) p f h = let e : p ≡ d = omega arith in rw e refl

  pub take_behind : (xs : List (Option R)) (n m : ℕ) → n ≡ m + 1 → take n (None ∷ xs) ≡ None ∷ take m xs
  take_behind xs zero m h = absurd (omega arith)
  take_behind xs (suc n) m h = let e : n ≡ m = omega arith in rw e refl

  -- a row that is there stands within the list
  pub some-within : (xs : List (Option R)) (p : ℕ) → IsSome (get_or xs p None) → p < length xs
  some-within [] p h = absurd (false≢true h)
  some-within (x ∷ xs) zero h = omega arith
  some-within (x ∷ xs) (suc p) h = let deep = some-within xs p h in omega arith

  -- where the last place has a row, there is one behind place 0
  pub last-some : (xs : List (Option R)) → IsSome (get_or (None ∷ xs) (length xs) None) → 0 < length xs
  last-some [] h = absurd (false≢true h)
  last-some (x ∷ xs) h = omega arith

  pub count-le : (xs : List (Option R)) → length (filter is_some xs) ≤ length xs
  count-le xs = rw (length-filter is_some xs) (count_by-le-length is_some xs)

  -- the count after a write
  pub count-set : (xs : List (Option R)) (p : ℕ) (o : Option R) → p < length xs
      → length (filter is_some (set xs p o)) + cond (is_some (get_or xs p None)) 1 0 ≡ length (filter is_some xs) + cond (is_some o) 1 0
  count-set xs p o h = rw (length-filter is_some (set xs p o), length-filter is_some xs) (sum_by-set (λ (x : Option R). cond (is_some x) 1 0) xs p o None h)

  pub count-buried : (xs : List (Option R)) (p : ℕ) → IsSome (get_or xs p None)
      → length (filter is_some (set xs p None)) + 1 ≡ length (filter is_some xs)
  count-buried xs p h = let e = count-set xs p None (some-within xs p h) in let f = rw h at e in omega arith

  pub count-revived : (xs : List (Option R)) (p : ℕ) (row : R) → p < length xs → get_or xs p None ≡ None
      → length (filter is_some (set xs p (Some row))) ≡ length (filter is_some xs) + 1
  count-revived xs p row within h = let e = count-set xs p (Some row) within in let f = rw h at e in omega arith

  pub count-replaced : (xs : List (Option R)) (p : ℕ) (row : R) → IsSome (get_or xs p None)
      → length (filter is_some (set xs p (Some row))) ≡ length (filter is_some xs)
  count-replaced xs p row h = let e = count-set xs p (Some row) (some-within xs p h) in let f = rw h at e in omega arith

  count-mapped-if : (f : R → R) (xs : List (Option R)) (p : ℕ) → is_some (option_map f (get_or xs p None)) ≡ is_some (get_or xs p None)
  count-mapped-if f [] p = refl
  count-mapped-if f (None ∷ xs) zero = refl
  count-mapped-if f (Some x ∷ xs) zero = refl
  count-mapped-if f (x ∷ xs) (suc p) = count-mapped-if f xs p

  set-past : (xs : List (Option R)) (p : ℕ) (o : Option R) → length xs ≤ p → set xs p o ≡ xs
  set-past [] p o h = refl
  set-past (x ∷ xs) zero o h = absurd (omega arith)
  set-past (x ∷ xs) (suc p) o h = ap (λ (ys : List (Option R)). x ∷ ys) (set-past xs p o (omega arith))

  pub count-kept : (xs : List (Option R)) (p : ℕ) (f : R → R)
      → length (filter is_some (set xs p (option_map f (get_or xs p None)))) ≡ length (filter is_some xs)
  count-kept xs p f = elim (cases_lt p (length xs)) [
    | inl within ↦
        let o : Option R = option_map f (get_or xs p None) in
        let e = count-set xs p o within in
        let same : (let m : ℕ = cond (is_some o) 1 0 in m) ≡ cond (is_some (get_or xs p None)) 1 0 = ap (λ (b : Bool). let m : ℕ = cond b 1 0 in m) (count-mapped-if f xs p) in
        omega (arith, e, same)
    | inr past ↦ ap (λ (ys : List (Option R)). length (filter is_some ys)) (set-past xs p (option_map f (get_or xs p None)) past)
  ]

  pub count-pushed : (xs : List (Option R)) (row : R) → length (filter is_some (xs ++ Some row ∷ [])) ≡ length (filter is_some xs) + 1
  count-pushed [] row = refl
  count-pushed (None ∷ xs) row = count-pushed xs row
  count-pushed (Some x ∷ xs) row = omega (arith, count-pushed xs row)

  some-is : (o : Option R) → IsSome o → (row : R) × (o ≡ Some row)
  some-is None h = absurd (false≢true h)
  some-is (Some row) h = (row, refl)

  -- the last one apart
  pub count-last : (xs : List (Option R)) (m : ℕ) → length xs ≡ m + 1 → IsSome (get_or xs m None)
      → length (filter is_some xs) ≡ length (filter is_some (take m xs)) + 1
  count-last xs m is h =
      let row = some-is (get_or xs m None) h in
      let whole : xs ≡ take m xs ++ Some row.0 ∷ [] =
      sym (take_all (m + 1) xs (omega arith)) ∙ take_more xs m None (omega arith) ∙ ap (λ (o : Option R). take m xs ++ o ∷ []) row.1 in
      ap (λ (ys : List (Option R)). length (filter is_some ys)) whole ∙ count-pushed (take m xs) row.0

  -- stocks are the same whose parts are
  pub same-stock : (xs ys : List (Option R)) (a b m n : ℕ) → xs ≡ ys → a ≡ b → m ≡ n
      → (let one : Stock R = record { rows = xs; spare = a; room = m } in one) ≡ record { rows = ys; spare = b; room = n }
  same-stock xs ys a b m n e f h = rw (e, f, h) refl
