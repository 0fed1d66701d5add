-- The rows of a listing, one dart after another.
use Rattle.std.proofs.Common.{◌≡◌, ℕ, ◌+◌, ◌<◌, List, [], ◌∷◌, ◌++◌, length, get_or, take, map, Option, Some, None, IsSome, refl, sym, ap, ◌∙◌, append_assoc, arith}
use Rattle.std.specs.List.{range_with_len}
use Rattle.std.proofs.lemmas.Bool.{false≢true}
use Rattle.std.proofs.lemmas.List.{take_more, length-take-le, ext_get_or}
use Rattle.std.proofs.lemmas.List.FromFn.{length-map-range_with_len, get_or-map-range_with_len}
use Rattle.map_defs.specs.Rows.{Rows, row_at, links_of, entry_of, IsLive, AreWide}
use Rattle.machine_defs.specs.Listing.{live_rows_from}

-- Lists of what stands at numbered places, as rows or rules: where each place adds its own, one more place adds its own at the
-- end.
module _ {X Y : Type 0} (list_from : ℕ → List X → List Y) (none : (d : ℕ) → list_from d [] ≡ []) (next : (d : ℕ) (x : X) (xs : List X) → list_from d (x ∷ xs) ≡ list_from d (x ∷ []) ++ list_from (d + 1) xs) where
  from-append : (d : ℕ) (xs more : List X) → list_from d (xs ++ more) ≡ list_from d xs ++ list_from (d + length xs) more
  from-append d [] more = ap (λ (n : ℕ). list_from n more) (omega arith) ∙ ap (λ (ys : List Y). ys ++ list_from (d + 0) more) (sym (none d))
  from-append d (x ∷ xs) more =
      next d x (xs ++ more) ∙ ap (λ (ys : List Y). list_from d (x ∷ []) ++ ys) (from-append (d + 1) xs more ∙ ap (λ (n : ℕ). list_from (d + 1) xs ++ list_from n more) (omega arith))
      ∙ sym (append_assoc (list_from d (x ∷ [])) (list_from (d + 1) xs) (list_from (d + length (x ∷ xs)) more))
      ∙ ap (λ (ys : List Y). ys ++ list_from (d + length (x ∷ xs)) more) (sym (next d x xs))

  pub from-more : (xs : List X) (k : ℕ) (z : X) → k < length xs → list_from 0 (take (k + 1) xs) ≡ list_from 0 (take k xs) ++ list_from k (get_or xs k z ∷ [])
  from-more xs k z h =
      let len : 0 + length (take k xs) ≡ k = omega (arith, length-take-le k xs (omega arith)) in
      ap (list_from 0) (take_more xs k z h) ∙ from-append 0 (take k xs) (get_or xs k z ∷ []) ∙ ap (λ (n : ℕ). list_from 0 (take k xs) ++ list_from n (get_or xs k z ∷ [])) len

-- one more dart
pub live_rows-more : (rows : Rows) (k : ℕ) → k < length rows
    → live_rows_from 0 (take (k + 1) rows) ≡ live_rows_from 0 (take k rows) ++ live_rows_from k (row_at rows k ∷ [])
live_rows-more rows k h = from-more live_rows_from (λ d. refl) next rows k None h
  where
    next : (d : ℕ) (o : Option (List ℕ)) (rows : Rows) → live_rows_from d (o ∷ rows) ≡ live_rows_from d (o ∷ []) ++ live_rows_from (d + 1) rows
    next d None rows = refl
    next d (Some row) rows = refl

-- a row is the list of its entries
row-read : (row : List ℕ) (n : ℕ) → length row ≡ n → map (λ (i : ℕ). get_or row i 0) (range_with_len 0 n) ≡ row
row-read row n long =
    let read : ℕ → ℕ = λ i. get_or row i 0 in
    let len = length-map-range_with_len read 0 n in
    ext_get_or 0 (map read (range_with_len 0 n)) row (omega arith)
    (λ i h. get_or-map-range_with_len read 0 n i i 0 (omega arith) (omega arith))

-- the row of a live dart has the dart's links
pub live_row-links : (n : ℕ) (rows : Rows) (d : ℕ) → AreWide n rows → IsLive rows d
    → record { dart = d; links = map (λ (i : ℕ). links_of rows i d) (range_with_len 0 (n + 1)) } ∷ [] ≡ live_rows_from d (row_at rows d ∷ [])
live_row-links n rows d wide live = go (row_at rows d) live (wide d)
  where
    go : (o : Option (List ℕ)) → IsSome o → ((row : List ℕ) → o ≡ Some row → length row ≡ n + 1)
        → record { dart = d; links = map (λ (i : ℕ). entry_of o i) (range_with_len 0 (n + 1)) } ∷ [] ≡ live_rows_from d (o ∷ [])
    go None some long = absurd (false≢true some)
    go (Some row) some long = ap (λ (links : List ℕ). record { dart = d; links = links } ∷ []) (row-read row (n + 1) (long row refl))
