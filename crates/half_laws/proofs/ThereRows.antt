-- Rows of the darts from 1 up that have given links.
use Rattle.std.proofs.Common.{ℕ, zero, suc, ◌≡◌, ◌+◌, ◌<◌, ◌≤◌, ◌↔◌, List, ◌∷◌, length, map, Option, Some, None, IsSome, refl, sym, ap, ◌∙◌, subst, inl, inr, arith}
use Rattle.std.specs.List.{range_with_len}
use Rattle.std.proofs.lemmas.Bool.{cases_lt, false≢true}
use Rattle.std.proofs.lemmas.List.{get_or_past}
use Rattle.std.proofs.lemmas.List.FromFn.{get_or-map-range_with_len, length-map-range_with_len}
use Rattle.map_defs.specs.Links.{Links, HasDimension}
use Rattle.map_defs.specs.Rows.{Rows, row_at, entry_of, IsLive, links_of, AreWide}
use Rattle.half_defs.specs.Halves.{HasDarts}

module _ (n m : ℕ) (N : Links) (high : HasDimension n N) (nothing : (i : ℕ) → N i 0 ≡ 0) (past : (i d : ℕ) → m < d → N i d ≡ 0) where
  entries : ℕ → List ℕ
  entries d = map (λ i. N i d) (range_with_len 0 (n + 1))

  row : ℕ → Option (List ℕ)
  row d = Some (entries d)

  rows : Rows
  rows = None ∷ map row (range_with_len 1 m)

  long : length rows ≡ suc m
  unfolding rows
  long = ap suc (length-map-range_with_len row 1 m)

  row_first : row_at rows 0 ≡ None
  unfolding rows
  row_first = refl

  row_within : (d : ℕ) → 1 ≤ d → d ≤ m → row_at rows d ≡ Some (entries d)
  unfolding rows row
  row_within zero low up = absurd (omega arith)
  row_within (suc k) low up = get_or-map-range_with_len row 1 m k (suc k) None (omega arith) (omega arith)

  row_past : (d : ℕ) → m < d → row_at rows d ≡ None
  row_past d up = get_or_past rows d None (omega (arith, long))

  none_dead : (o : Option (List ℕ)) → o ≡ None → IsSome o → ⊥
  none_dead None e h = false≢true h
  none_dead (Some r) e h = cc (e)

  dead : (d : ℕ) → row_at rows d ≡ None → IsLive rows d → ⊥
  dead d e h = none_dead (row_at rows d) e h

  first_dead : (d : ℕ) → d ≡ 0 → row_at rows d ≡ None
  first_dead d e = ap (row_at rows) e ∙ row_first

  live : (d : ℕ) → IsLive rows d ↔ ((1 ≤ d) × (d ≤ m))
  live d = (
    λ h. elim (cases_lt m d) [
      | inl up ↦ absurd (dead d (row_past d up) h)
      | inr low ↦ elim (cases_lt 0 d) [ inl dart ↦ (dart, low) | inr none ↦ absurd (dead d (first_dead d (omega arith)) h) ]
    ],
    λ b. subst (λ (o : Option (List ℕ)). IsSome o) (sym (row_within d b.0 b.1)) refl,
  )

  some_entries : (d : ℕ) (r : List ℕ) → Some (entries d) ≡ Some r → length r ≡ n + 1
  unfolding entries
  some_entries d r e = let same : entries d ≡ r = cc (e) in ap (λ (xs : List ℕ). length xs) (sym same) ∙ length-map-range_with_len (λ i. N i d) 0 (n + 1)

  wide : AreWide n rows
  wide d r e = elim (cases_lt m d) [
    | inl up ↦ absurd (let none = row_past d up in cc (none, e))
    | inr low ↦ elim (cases_lt 0 d) [
      | inl dart ↦ some_entries d r (sym (row_within d dart low) ∙ e)
      | inr none ↦ absurd (let z : row_at rows d ≡ None = first_dead d (omega arith) in cc (z, e))
    ]
  ]

  entry : (i d : ℕ) → entry_of (Some (entries d)) i ≡ N i d
  unfolding entries
  entry i d = elim (cases_lt n i) [
    | inl above ↦ get_or_past (entries d) i 0 (let l = length-map-range_with_len (λ j. N j d) 0 (n + 1) in omega (arith, l)) ∙ sym (high i d above)
    | inr within ↦ get_or-map-range_with_len (λ j. N j d) 0 (n + 1) i i 0 (omega arith) (omega arith)
  ]

  at_none : (i d : ℕ) → row_at rows d ≡ None → N i d ≡ 0 → links_of rows i d ≡ N i d
  at_none i d e free = ap (λ (o : Option (List ℕ)). entry_of o i) e ∙ sym free

  links : (i d : ℕ) → links_of rows i d ≡ N i d
  links i d = elim (cases_lt m d) [
    | inl up ↦ at_none i d (row_past d up) (past i d up)
    | inr low ↦ elim (cases_lt 0 d) [
      | inl dart ↦ ap (λ (o : Option (List ℕ)). entry_of o i) (row_within d dart low) ∙ entry i d
      | inr none ↦ let z : d ≡ 0 = omega arith in at_none i d (first_dead d z) (ap (N i) z ∙ nothing i)
    ]
  ]

  pub rows_there : (told : Rows) × HasDarts n m told × ((i d : ℕ) → links_of told i d ≡ N i d)
  rows_there = (rows, record { made = (omega (arith, long)); live = live; wide = wide }, links)
