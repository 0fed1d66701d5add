-- Rows after one write: what stands at each place.
use Rattle.std.proofs.Common.{◌≡◌, ◌≢◌, ℕ, zero, suc, ◌+◌, ◌-◌, ◌<◌, ◌≤◌, List, [], ◌∷◌, length, get_or, set, take, replicate, Option, Some, None, is_some, IsSome, refl, sym, ap, ◌∙◌, inl, inr, arith}
use Rattle.std.specs.Prelude.{option_map, slice_set}
use Rattle.std.proofs.lemmas.List.{get_or-set_same, get_or-set_other, get_or_past, get_or_append_left, get_or-append_right, get_or-take, get_or-replicate, set-set, set-get_or, set_past, take-set-le, length-set, length-take, length-replicate}
use Rattle.std.proofs.lemmas.Bool.{cases_lt, cases_eq, false≢true}
use Rattle.map_defs.specs.Rows.{Rows, row_at, links_of, entry_of, IsLive}
use Rattle.map_defs.specs.Edits.{free_row, with_births, with_entry}

-- each row has the entries 0 to n
abbrev pub IsWide : ℕ → Rows → Type 0
IsWide n rows = (x : ℕ) (row : List ℕ) → row_at rows x ≡ Some row → length row ≡ n + 1

pub some_unless : (o : Option (List ℕ)) → (o ≡ None → ⊥) → IsSome o
some_unless None h = absurd (h refl)
some_unless (Some row) h = refl

-- an entry changed in a row that may be there
abbrev put : ℕ → ℕ → Option (List ℕ) → Option (List ℕ)
put link to o = option_map (λ (row : List ℕ). slice_set row link to) o

entry-other : (o : Option (List ℕ)) (link to j : ℕ) → j ≢ link → entry_of (put link to o) j ≡ entry_of o j
entry-other None link to j h = refl
entry-other (Some row) link to j h = get_or-set_other row link j to 0 h

put-some : (o : Option (List ℕ)) (link to : ℕ) → is_some (put link to o) ≡ is_some o
put-some None link to = refl
put-some (Some row) link to = refl

put-wide : (n : ℕ) (o : Option (List ℕ)) (link to : ℕ) (row : List ℕ) → ((r : List ℕ) → o ≡ Some r → length r ≡ n + 1) → put link to o ≡ Some row → length row ≡ n + 1
put-wide n None link to row wide is = absurd (let e : None ≡ Some row = is in cc)
put-wide n (Some r) link to row wide is =
    let e : slice_set r link to ≡ row = cc in
    ap length (sym e) ∙ length-set r link to ∙ wide r refl

put-back : (o : Option (List ℕ)) (link to : ℕ) → put link (entry_of o link) (put link to o) ≡ o
put-back None link to = refl
put-back (Some row) link to = ap (λ (r : List ℕ). Some r) (set-set row link to (get_or row link 0) ∙ set-get_or row link 0)

-- the row of the dart itself, and of another
pub row-same : (rows : Rows) (d link to : ℕ) → row_at (with_entry rows d link to) d ≡ option_map (λ (row : List ℕ). slice_set row link to) (row_at rows d)
row-same rows d link to = elim (cases_lt d (length rows)) [
  | inl within ↦ get_or-set_same rows d (put link to (row_at rows d)) None within
  | inr past ↦
      let e : row_at rows d ≡ None = get_or_past rows d None past in
      get_or_past (with_entry rows d link to) d None (omega (arith, length-set rows d (put link to (row_at rows d)))) ∙ sym (ap (put link to) e)
]

pub row-other : (rows : Rows) (d link to e : ℕ) → e ≢ d → row_at (with_entry rows d link to) e ≡ row_at rows e
row-other rows d link to e h = get_or-set_other rows d e (put link to (row_at rows d)) None h

-- a link that is not written stays
pub links-untouched : (rows : Rows) (d link to e j : ℕ) → (e ≡ d → j ≡ link → ⊥) → links_of (with_entry rows d link to) j e ≡ links_of rows j e
links-untouched rows d link to e j h = elim (cases_eq e d) [
  | inl same ↦
      let f : links_of (with_entry rows d link to) j d ≡ links_of rows j d = ap (λ (o : Option (List ℕ)). entry_of o j) (row-same rows d link to) ∙ entry-other (row_at rows d) link to j (h same) in
      ap (links_of (with_entry rows d link to) j) same ∙ f ∙ sym (ap (links_of rows j) same)
  | inr other ↦ ap (λ (o : Option (List ℕ)). entry_of o j) (row-other rows d link to e other)
]

-- the same darts live
pub live-entry : (rows : Rows) (d link to e : ℕ) → is_some (row_at (with_entry rows d link to) e) ≡ is_some (row_at rows e)
live-entry rows d link to e = elim (cases_eq e d) [
  | inl same ↦
      ap (λ (x : ℕ). is_some (row_at (with_entry rows d link to) x)) same ∙ ap is_some (row-same rows d link to) ∙ put-some (row_at rows d) link to
      ∙ sym (ap (λ (x : ℕ). is_some (row_at rows x)) same)
  | inr other ↦ ap is_some (row-other rows d link to e other)
]

pub wide-entry : (n : ℕ) (rows : Rows) (d link to : ℕ) → IsWide n rows → IsWide n (with_entry rows d link to)
wide-entry n rows d link to wide x row is = elim (cases_eq x d) [
  | inl same ↦ put-wide n (row_at rows d) link to row (wide d) (sym (row-same rows d link to) ∙ sym (ap (row_at (with_entry rows d link to)) same) ∙ is)
  | inr other ↦ wide x row (sym (row-other rows d link to x other) ∙ is)
]

pub nothing-entry : (rows : Rows) (d link to : ℕ) → row_at rows 0 ≡ None → row_at (with_entry rows d link to) 0 ≡ None
nothing-entry rows d link to none = elim (cases_eq 0 d) [
  | inl same ↦
      ap (row_at (with_entry rows d link to)) same ∙ row-same rows d link to ∙ ap (put link to) (sym (ap (row_at rows) same) ∙ none)
  | inr other ↦ row-other rows d link to 0 other ∙ none
]

-- the entry that stood there, written back
pub entry-back : (rows : Rows) (d link to : ℕ) → with_entry (with_entry rows d link to) d link (links_of rows link d) ≡ rows
entry-back rows d link to =
    ap (λ (o : Option (List ℕ)). set (with_entry rows d link to) d (put link (links_of rows link d) o)) (row-same rows d link to)
    ∙ set-set rows d (put link to (row_at rows d)) (put link (links_of rows link d) (put link to (row_at rows d)))
    ∙ ap (set rows d) (put-back (row_at rows d) link to) ∙ set-get_or rows d None

-- a row taken away
pub none-same : (rows : Rows) (d : ℕ) → row_at (set rows d None) d ≡ None
none-same rows d = elim (cases_lt d (length rows)) [
  | inl within ↦ get_or-set_same rows d None None within
  | inr past ↦ get_or_past (set rows d None) d None (omega (arith, length-set rows d (let o : Option (List ℕ) = None in o)))
]

pub none-stays : (rows : Rows) (d e : ℕ) → row_at rows e ≡ None → row_at (set rows d None) e ≡ None
none-stays rows d e none = elim (cases_eq e d) [
  | inl same ↦ ap (row_at (set rows d None)) same ∙ none-same rows d
  | inr other ↦ get_or-set_other rows d e None None other ∙ none
]

pub none-wide : (n : ℕ) (rows : Rows) (d : ℕ) → IsWide n rows → IsWide n (set rows d None)
none-wide n rows d wide x row is = elim (cases_eq x d) [
  | inl same ↦ absurd (let e : row_at (set rows d None) x ≡ None = ap (row_at (set rows d None)) same ∙ none-same rows d in cc)
  | inr other ↦ wide x row (sym (get_or-set_other rows d x None None other) ∙ is)
]

-- a dart whose links are free, taken away, leaves all links as they were
pub none-links : (rows : Rows) (d : ℕ) → ((i : ℕ) → links_of rows i d ≡ 0) → (i x : ℕ) → links_of (set rows d None) i x ≡ links_of rows i x
none-links rows d free i x = elim (cases_eq x d) [
  | inl same ↦
      ap (λ (y : ℕ). links_of (set rows d None) i y) same ∙ ap (λ (o : Option (List ℕ)). entry_of o i) (none-same rows d) ∙ sym (free i) ∙ sym (ap (links_of rows i) same)
  | inr other ↦ ap (λ (o : Option (List ℕ)). entry_of o i) (get_or-set_other rows d x None None other)
]

-- a dart that lives stands within the rows
pub live-within : (rows : Rows) (x : ℕ) → IsLive rows x → x < length rows
live-within rows x live = elim (cases_lt x (length rows)) [
  | inl below ↦ below
  | inr beyond ↦ absurd (false≢true (let e = get_or_past rows x None beyond in rw e at live))
]

zero_entry : (m i : ℕ) → get_or (replicate m 0) i 0 ≡ (let z : ℕ = 0 in z)
zero_entry zero i = refl
zero_entry (suc m) zero = refl
zero_entry (suc m) (suc i) = zero_entry m i

born-entry : (n births j i : ℕ) → entry_of (get_or (replicate births (Some (free_row n))) j None) i ≡ (let z : ℕ = 0 in z)
born-entry n zero j i = refl
born-entry n (suc births) zero i = zero_entry (n + 1) i
born-entry n (suc births) (suc j) i = born-entry n births j i

born-wide : (n births j : ℕ) (row : List ℕ) → get_or (replicate births (Some (free_row n))) j None ≡ Some row → length row ≡ n + 1
born-wide n zero j row is = absurd (let e : None ≡ Some row = is in cc)
born-wide n (suc births) zero row is = let e : free_row n ≡ row = cc in ap length (sym e) ∙ length-replicate (n + 1) (let z : ℕ = 0 in z)
born-wide n (suc births) (suc j) row is = born-wide n births j row is

-- births change no link
pub births-links : (n births : ℕ) (rows : Rows) (i x : ℕ) → links_of (with_births n births rows) i x ≡ links_of rows i x
births-links n births rows i x = elim (cases_lt x (length rows)) [
  | inl old ↦ ap (λ (o : Option (List ℕ)). entry_of o i) (get_or_append_left rows (replicate births (Some (free_row n))) None x old)
  | inr new ↦
      ap (λ (o : Option (List ℕ)). entry_of o i) (get_or-append_right rows (replicate births (Some (free_row n))) (length rows) x None refl new)
      ∙ born-entry n births (x - length rows) i ∙ sym (ap (λ (o : Option (List ℕ)). entry_of o i) (get_or_past rows x None new))
]

pub births-wide : (n births : ℕ) (rows : Rows) → IsWide n rows → IsWide n (with_births n births rows)
births-wide n births rows wide x row is = elim (cases_lt x (length rows)) [
  | inl old ↦ wide x row (sym (get_or_append_left rows (replicate births (Some (free_row n))) None x old) ∙ is)
  | inr new ↦ born-wide n births (x - length rows) row (sym (get_or-append_right rows (replicate births (Some (free_row n))) (length rows) x None refl new) ∙ is)
]

pub births-old : (n births : ℕ) (rows : Rows) (x : ℕ) → x < length rows → row_at (with_births n births rows) x ≡ row_at rows x
births-old n births rows x h = get_or_append_left rows (replicate births (Some (free_row n))) None x h

pub births-new : (n births : ℕ) (rows : Rows) (x : ℕ) → length rows ≤ x → x < length rows + births → row_at (with_births n births rows) x ≡ Some (free_row n)
births-new n births rows x low high =
    get_or-append_right rows (replicate births (Some (free_row n))) (length rows) x None refl low
    ∙ get_or-replicate births (x - length rows) (Some (free_row n)) None (omega arith)

-- a write, before or after a cut
pub set-take : {X : Type 0} (m : ℕ) (xs : List X) (i : ℕ) (x : X) → set (take m xs) i x ≡ take m (set xs i x)
set-take zero xs i x = refl
set-take (suc m) [] i x = refl
set-take (suc m) (y ∷ xs) zero x = refl
set-take (suc m) (y ∷ xs) (suc i) x = ap (λ (ys : List _). y ∷ ys) (set-take m xs i x)

pub entry-take : (m : ℕ) (rows : Rows) (d link to : ℕ) → with_entry (take m rows) d link to ≡ take m (with_entry rows d link to)
entry-take m rows d link to = elim (cases_lt d m) [
  | inl within ↦
      ap (λ (o : Option (List ℕ)). set (take m rows) d (put link to o)) (get_or-take m rows d None within) ∙ set-take m rows d (put link to (row_at rows d))
  | inr past ↦
      set_past (take m rows) d (put link to (row_at (take m rows) d)) (omega (arith, length-take m rows))
      ∙ sym (take-set-le m rows d (put link to (row_at rows d)) past)
]
