-- Links that are put into a row at once, and the same links as changes.
use Rattle.std.proofs.Common.{ℕ, suc, ◌≡◌, ◌≢◌, ◌+◌, ◌<◌, List, [], ◌∷◌, ◌++◌, length, get_or, set, take, replicate, Option, None, Some, refl, sym, ap, ◌∙◌, inl, inr, arith, append_assoc, length-append}
use Rattle.std.specs.Prelude.{option_map}
use Rattle.std.proofs.lemmas.Bool.{cases_eq, cases_lt, ne_eqb}
use Rattle.std.proofs.lemmas.List.{set-set, set-get_or, set_at, get_or-set_same, length-set, length-take-le, take_more}
use Rattle.std.proofs.Math.ListN.{get_or-eq_default}
use Rattle.map_defs.specs.Rows.{Rows, row_at}
use Rattle.map_defs.specs.Edits.{with_entry, linked, free_row}
use Rattle.dart_arena.specs.RowChanges.{row_changes, with_link, with_links}

pub with_link-some : (j y : ℕ) (row : List ℕ) → y ≢ 0 → with_link j y row ≡ set row j y
with_link-some j y row some = rw (ne_eqb y 0 some) refl

pub with_link-none : (j y : ℕ) (row : List ℕ) → y ≡ 0 → with_link j y row ≡ row
with_link-none j y row none = rw none refl

-- one more number behind
pub with_links-more : (i : ℕ) (ys : List ℕ) (y : ℕ) (row : List ℕ) → with_links i (ys ++ y ∷ []) row ≡ with_link (i + length ys) y (with_links i ys row)
with_links-more i [] y row = let e : i + 0 ≡ i = omega arith in rw e refl
with_links-more i (z ∷ zs) y row =
    let e : i + 1 + length zs ≡ i + suc (length zs) = omega arith in
    with_links-more (i + 1) zs y (with_link i z row) ∙ ap (λ j. with_link j y (with_links (i + 1) zs (with_link i z row))) e

mapped-none : (i : ℕ) (o : Option (List ℕ)) → option_map (with_links i []) o ≡ o
mapped-none i None = refl
mapped-none i (Some row) = refl

mapped-twice : (f g : List ℕ → List ℕ) (o : Option (List ℕ)) → option_map g (option_map f o) ≡ option_map (λ row. g (f row)) o
mapped-twice f g None = refl
mapped-twice f g (Some row) = refl

mapped-same : (f g : List ℕ → List ℕ) → ((row : List ℕ) → f row ≡ g row) → (o : Option (List ℕ)) → option_map f o ≡ option_map g o
mapped-same f g same None = refl
mapped-same f g same (Some row) = ap (λ (r : List ℕ). Some r) (same row)

-- what is put in the place of a row stands there, also where that is past the end
row-put : (rows : Rows) (d : ℕ) (f : List ℕ → List ℕ) → row_at (set rows d (option_map f (row_at rows d))) d ≡ option_map f (row_at rows d)
row-put rows d f = elim (cases_lt d (length rows)) [
  | inl low ↦ get_or-set_same rows d (option_map f (row_at rows d)) None low
  | inr high ↦
      let none : row_at rows d ≡ None = get_or-eq_default rows None high in
      get_or-eq_default (set rows d (option_map f (row_at rows d))) None (omega (arith, length-set rows d (option_map f (row_at rows d))))
      ∙ sym (ap (option_map f) none)
]

-- an entry, and then the links behind it
entry-then : (rows : Rows) (d i y : ℕ) (ys : List ℕ) → set (with_entry rows d i y) d (option_map (with_links (i + 1) ys) (row_at (with_entry rows d i y) d))
    ≡ set rows d (option_map (λ row. with_links (i + 1) ys (set row i y)) (row_at rows d))
entry-then rows d i y ys =
    ap (λ o. set (with_entry rows d i y) d (option_map (with_links (i + 1) ys) o)) (row-put rows d (λ row. set row i y))
    ∙ set-set rows d (option_map (λ row. set row i y) (row_at rows d)) (option_map (with_links (i + 1) ys) (option_map (λ row. set row i y) (row_at rows d)))
    ∙ ap (set rows d) (mapped-twice (λ row. set row i y) (with_links (i + 1) ys) (row_at rows d))

-- the changes of a dart's links put the same numbers into its row
pub linked-row : (d i : ℕ) (ys : List ℕ) (rows : Rows) → linked (row_changes d i ys) rows ≡ set rows d (option_map (with_links i ys) (row_at rows d))
linked-row d i [] rows = sym (ap (set rows d) (mapped-none i (row_at rows d)) ∙ set-get_or rows d None)
linked-row d i (y ∷ ys) rows = elim (cases_eq y 0) [
  | inl none ↦
      rw none (linked-row d (i + 1) ys rows)
      ∙ ap (set rows d) (mapped-same (with_links (i + 1) ys) (with_links i (y ∷ ys)) (λ row. ap (with_links (i + 1) ys) (sym (with_link-none i y row none))) (row_at rows d))
  | inr some ↦
      rw (ne_eqb y 0 some) (linked-row d (i + 1) ys (with_entry rows d i y))
      ∙ entry-then rows d i y ys
      ∙ ap (set rows d) (mapped-same (λ row. with_links (i + 1) ys (set row i y)) (with_links i (y ∷ ys)) (λ row. ap (with_links (i + 1) ys) (sym (with_link-some i y row some))) (row_at rows d))
]

-- one number more of a list of numbers
pub with_links-next : (links : List ℕ) (p : ℕ) (row : List ℕ) → p < length links
    → with_links 0 (take (p + 1) links) row ≡ with_link p (get_or links p 0) (with_links 0 (take p links) row)
with_links-next links p row low =
    ap (λ ys. with_links 0 ys row) (take_more links p 0 low)
    ∙ with_links-more 0 (take p links) (get_or links p 0) row
    ∙ ap (λ j. with_link j (get_or links p 0) (with_links 0 (take p links) row)) at
  where
    at : 0 + length (take p links) ≡ p
    at = let e = length-take-le p links (omega arith) in omega arith

-- a number put at the first of some links that are all free, behind others
put-behind : (i y : ℕ) (front rest : List ℕ) → length front ≡ i → with_link i y (front ++ 0 ∷ rest) ≡ front ++ y ∷ rest
put-behind i y front rest at = elim (cases_eq y 0) [
  | inl none ↦ with_link-none i y (front ++ 0 ∷ rest) none ∙ ap (λ (z : ℕ). front ++ z ∷ rest) (sym none)
  | inr some ↦ with_link-some i y (front ++ 0 ∷ rest) some ∙ set_at front 0 rest y i at
]

-- as many numbers as there are free links behind others
with_links-all : (i : ℕ) (ys front : List ℕ) → length front ≡ i → with_links i ys (front ++ replicate (length ys) 0) ≡ front ++ ys
with_links-all i [] front at = refl
with_links-all i (y ∷ ys) front at =
    let rest : List ℕ = replicate (length ys) 0 in
    let long : length (front ++ y ∷ []) ≡ i + 1 = omega (arith, length-append front (y ∷ [])) in
    ap (with_links (i + 1) ys) (put-behind i y front rest at ∙ sym (append_assoc front (y ∷ []) rest))
    ∙ with_links-all (i + 1) ys (front ++ y ∷ []) long
    ∙ append_assoc front (y ∷ []) ys

-- all links of a dart that has none yet
pub linked-whole : (n d : ℕ) (ys : List ℕ) (rows : Rows) → row_at rows d ≡ Some (free_row n) → length ys ≡ n + 1
    → linked (row_changes d 0 ys) rows ≡ set rows d (option_map (λ row. ys) (row_at rows d))
linked-whole n d ys rows bare wide =
    linked-row d 0 ys rows ∙ ap (set rows d) (ap (option_map (with_links 0 ys)) bare ∙ whole ∙ sym (ap (option_map (λ row. ys)) bare))
  where
    whole : Some (with_links 0 ys (free_row n)) ≡ Some ys
    whole = ap (λ (r : List ℕ). Some r) (ap (λ (m : ℕ). with_links 0 ys (replicate m 0)) (sym wide) ∙ with_links-all 0 ys [] refl)
