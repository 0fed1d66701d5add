-- The changes that the rows of new darts tell, by the entries that they write.
use Rattle.std.proofs.Common.{ℕ, zero, suc, ◌≡◌, ◌≢◌, ◌+◌, ◌<◌, ◌≤◌, ◌⊎◌, List, [], ◌∷◌, length, slice_index, sym, ap, ◌∙◌, inl, inr, eq-eqb, arith}
use Rattle.std.proofs.lemmas.Bool.{ne_eqb, cases_lt}
use Rattle.std.proofs.lemmas.List.{get_or_past}
use Rattle.map_defs.specs.Links.{Links}
use Rattle.map_defs.specs.Edits.{Change}
use Rattle.dart_arena.specs.RowChanges.{row_changes}
use Rattle.link_rows.specs.BornRows.{rows_changes}
use Rattle.link_laws.proofs.Basics.{same_or_not}
use Rattle.cell_edit.specs.Writing.{WritesEntries, IsRowEntry}
use Rattle.cell_edit.proofs.Writings.{writes-none, writes-one, writes-append, writes-same}

-- a number of a list that is not 0 stands within it
pub within-row : (ys : List ℕ) (t : ℕ) → slice_index ys t ≢ 0 → t < length ys
within-row ys t some = elim (cases_lt t (length ys)) [ inl low ↦ low | inr past ↦ absurd (some (get_or_past ys t 0 past)) ]

-- the entries of the row of dart d whose numbers are those of its links from i on
abbrev IsOfRow : ℕ → ℕ → List ℕ → ℕ → ℕ → ℕ → Type 0
IsOfRow d i ys e t y = (q : ℕ) × (q < length ys) × (e ≡ d) × (t ≡ i + q) × (y ≡ slice_index ys q) × (y ≢ 0)

-- ---- the first number of a row, and the others
module _ (L : Links) (d i y : ℕ) (ys : List ℕ) (rest : WritesEntries L (IsOfRow d (i + 1) ys) (row_changes d (i + 1) ys)) where
  abbrev IsFirst : ℕ → ℕ → ℕ → Type 0
  IsFirst e t z = (e ≡ d) × (t ≡ i) × (z ≡ y)

  later : (e t z : ℕ) → IsOfRow d (i + 1) ys e t z → IsOfRow d i (y ∷ ys) e t z
  later e t z (q, low, dart, link, new, some) = (suc q, omega arith, dart, omega arith, new, some)

  first_or_later : (e t z : ℕ) → IsOfRow d i (y ∷ ys) e t z → (IsFirst e t z × (z ≢ 0)) ⊎ IsOfRow d (i + 1) ys e t z
  first_or_later e t z (zero, low, dart, link, new, some) = inl ((dart, omega arith, new), some)
  first_or_later e t z (suc q, low, dart, link, new, some) = inr (q, omega arith, dart, omega arith, new, some)

  row-skips : y ≡ 0 → WritesEntries L (IsOfRow d i (y ∷ ys)) (row_changes d (i + 1) ys)
  row-skips none = writes-same L (IsOfRow d (i + 1) ys) (IsOfRow d i (y ∷ ys)) (row_changes d (i + 1) ys)
      (λ e t z. (later e t z, λ h. other e t z (first_or_later e t z h))) rest
    where
      other : (e t z : ℕ) → (IsFirst e t z × (z ≢ 0)) ⊎ IsOfRow d (i + 1) ys e t z → IsOfRow d (i + 1) ys e t z
      other e t z (inl h) = absurd (h.1 (h.0.2 ∙ none))
      other e t z (inr h) = h

  row-tells : y ≢ 0 → L i d ≡ 0 → WritesEntries L (IsOfRow d i (y ∷ ys)) (record { dart = d; link = i; old = 0; new = y } ∷ row_changes d (i + 1) ys)
  row-tells some free =
      let c : Change = record { dart = d; link = i; old = 0; new = y } in
      writes-same L (λ e t z. IsFirst e t z ⊎ IsOfRow d (i + 1) ys e t z) (IsOfRow d i (y ∷ ys)) (c ∷ row_changes d (i + 1) ys)
      (λ e t z. (to e t z, λ h. from e t z (first_or_later e t z h)))
      (writes-append L IsFirst (IsOfRow d (i + 1) ys) (c ∷ []) (row_changes d (i + 1) ys)
      (λ e t z u h g. omega (arith, h.1, g.3)) (writes-one L c (sym free)) rest)
    where
      to : (e t z : ℕ) → IsFirst e t z ⊎ IsOfRow d (i + 1) ys e t z → IsOfRow d i (y ∷ ys) e t z
      to e t z (inl h) = (0, omega arith, h.0, omega (arith, h.1), h.2, λ none. some (sym h.2 ∙ none))
      to e t z (inr h) = later e t z h

      from : (e t z : ℕ) → (IsFirst e t z × (z ≢ 0)) ⊎ IsOfRow d (i + 1) ys e t z → IsFirst e t z ⊎ IsOfRow d (i + 1) ys e t z
      from e t z (inl h) = inl h.0
      from e t z (inr h) = inr h

module _ (L : Links) where
  row-writes : (d i : ℕ) (ys : List ℕ) → ((t : ℕ) → L t d ≡ 0) → WritesEntries L (IsOfRow d i ys) (row_changes d i ys)
  row-writes d i [] free = writes-none L (IsOfRow d i []) (λ e t y h. omega (arith, h.1))
  row-writes d i (y ∷ ys) free =
      let rest : WritesEntries L (IsOfRow d (i + 1) ys) (row_changes d (i + 1) ys) = row-writes d (i + 1) ys free in
      elim (same_or_not y 0) [
        | inl none ↦ rw (eq-eqb y 0 none) (row-skips L d i y ys rest none)
        | inr some ↦ rw (ne_eqb y 0 some) (row-tells L d i y ys rest some (free i))
      ]

  -- rows of new darts, none of which has links yet
  pub rows-write : (first : ℕ) (rows : List (List ℕ)) → ((t d : ℕ) → first ≤ d → L t d ≡ 0) → WritesEntries L (IsRowEntry first rows) (rows_changes first rows)
  rows-write first [] free = writes-none L (IsRowEntry first []) (λ d t y h. omega (arith, h.1))
  rows-write first (row ∷ rows) free =
      writes-same L (λ d t y. IsOfRow first 0 row d t y ⊎ IsRowEntry (first + 1) rows d t y) (IsRowEntry first (row ∷ rows)) (rows_changes first (row ∷ rows))
      (λ d t y. (to d t y, from d t y))
      (writes-append L (IsOfRow first 0 row) (IsRowEntry (first + 1) rows) (row_changes first 0 row) (rows_changes (first + 1) rows)
      (λ d t y z h g. omega (arith, h.2, g.2)) (row-writes first 0 row (λ t. free t first (omega arith)))
      (rows-write (first + 1) rows (λ t d low. free t d (omega arith))))
    where
      to : (d t y : ℕ) → IsOfRow first 0 row d t y ⊎ IsRowEntry (first + 1) rows d t y → IsRowEntry first (row ∷ rows) d t y
      to d t y (inl (q, low, dart, link, new, some)) = let e : q ≡ t = omega arith in (0, omega arith, omega arith, new ∙ ap (slice_index row) e, some)
      to d t y (inr (p, low, dart, new, some)) = (suc p, omega arith, omega arith, new, some)

      from : (d t y : ℕ) → IsRowEntry first (row ∷ rows) d t y → IsOfRow first 0 row d t y ⊎ IsRowEntry (first + 1) rows d t y
      from d t y (zero, low, dart, new, some) = inl (t, within-row row t (λ none. some (new ∙ none)), omega arith, omega arith, new, some)
      from d t y (suc p, low, dart, new, some) = inr (p, omega arith, omega arith, new, some)
