-- Rows under keys in a slab: what is read and written where.
use Rattle.std.proofs.Common.{◌≡◌, ◌≢◌, ℕ, zero, suc, ◌<◌, List, [], ◌∷◌, ◌++◌, length, get_or, set, take, Option, None, Some, is_some, refl, sym, ap, ◌∙◌, inl, inr, arith, length-set}
use Rattle.std.specs.Prelude.{option_map, count_by}
use Rattle.std.proofs.lemmas.Bool.{cases_eq, cases_lt}
use Rattle.std.proofs.lemmas.List.{get_or-set_other, get_or_past, ext_get_or, length-map}
use Rattle.std.proofs.lemmas.List.Sums.{length-filter}
use Rattle.slab.specs.Slab.{Slab, get, slab_len}
use Rattle.dart_arena.specs.Layout.{row_under, rows_under, with_row}
use Rattle.dart_arena.proofs.RowLemmas.{count-kept}

pub rows-length : (s : Slab (List ℕ)) (keys : List ℕ) → length (rows_under s keys) ≡ length keys
rows-length s keys = length-map keys (row_under s)

pub rows-at : (s : Slab (List ℕ)) (keys : List ℕ) (p : ℕ) → get_or (rows_under s keys) p None ≡ row_under s (get_or keys p 0)
rows-at s [] p = refl
rows-at s (k ∷ keys) zero = refl
rows-at s (k ∷ keys) (suc p) = rows-at s keys p

pub rows-set : (s : Slab (List ℕ)) (keys : List ℕ) (p k : ℕ) → rows_under s (set keys p k) ≡ set (rows_under s keys) p (row_under s k)
rows-set s [] p k = refl
rows-set s (j ∷ keys) zero k = refl
rows-set s (j ∷ keys) (suc p) k = ap (λ (rows : List (Option (List ℕ))). row_under s j ∷ rows) (rows-set s keys p k)

pub rows-pushed : (s : Slab (List ℕ)) (keys : List ℕ) (k : ℕ) → rows_under s (keys ++ k ∷ []) ≡ rows_under s keys ++ row_under s k ∷ []
rows-pushed s [] k = refl
rows-pushed s (j ∷ keys) k = ap (λ (rows : List (Option (List ℕ))). row_under s j ∷ rows) (rows-pushed s keys k)

pub rows-taken : (s : Slab (List ℕ)) (m : ℕ) (keys : List ℕ) → rows_under s (take m keys) ≡ take m (rows_under s keys)
rows-taken s zero keys = refl
rows-taken s (suc m) [] = refl
rows-taken s (suc m) (j ∷ keys) = ap (λ (rows : List (Option (List ℕ))). row_under s j ∷ rows) (rows-taken s m keys)

-- the rows are the same where those under the keys are
pub rows-same : (a b : Slab (List ℕ)) (keys : List ℕ) → ((p : ℕ) → p < length keys → row_under a (get_or keys p 0) ≡ row_under b (get_or keys p 0))
    → rows_under a keys ≡ rows_under b keys
rows-same a b keys same =
    ext_get_or None (rows_under a keys) (rows_under b keys) (rows-length a keys ∙ sym (rows-length b keys))
    (λ p h. rows-at a keys p ∙ same p (omega (arith, rows-length a keys)) ∙ sym (rows-at b keys p))

-- a key at a place is within the list
pub key-within : (keys : List ℕ) (p : ℕ) → get_or keys p 0 ≢ 0 → p < length keys
key-within keys p h = elim (cases_lt p (length keys)) [
  | inl below ↦ below
  | inr past ↦ absurd (h (get_or_past keys p 0 past))
]

-- a change of what stands at a place
changed-at : {X : Type 0} (xs : List (Option X)) (k : ℕ) (f : X → X) → get_or (set xs k (option_map f (get_or xs k None))) k None ≡ option_map f (get_or xs k None)
changed-at [] k f = refl
changed-at (x ∷ xs) zero f = refl
changed-at (x ∷ xs) (suc k) f = changed-at xs k f

changed-count : {X : Type 0} (xs : List (Option X)) (k : ℕ) (f : X → X)
    → count_by is_some (set xs k (option_map f (get_or xs k None))) ≡ count_by is_some xs
changed-count xs k f =
    sym (length-filter is_some (set xs k (option_map f (get_or xs k None)))) ∙ count-kept xs k f ∙ length-filter is_some xs

pub under-changed : (s : Slab (List ℕ)) (k : ℕ) (f : List ℕ → List ℕ) → row_under (with_row s k f) k ≡ option_map f (row_under s k)
under-changed s zero f = refl
under-changed s (suc k) f = changed-at s.slots k f

pub under-other : (s : Slab (List ℕ)) (k j : ℕ) (f : List ℕ → List ℕ) → j ≢ k → row_under (with_row s k f) j ≡ row_under s j
under-other s zero j f other = refl
under-other s (suc k) zero f other = refl
under-other s (suc k) (suc j) f other =
    get_or-set_other s.slots k j (option_map f (get s k)) None (λ same. other (ap suc same))

pub len-changed : (s : Slab (List ℕ)) (k : ℕ) (f : List ℕ → List ℕ) → slab_len (with_row s k f) ≡ slab_len s
len-changed s zero f = refl
len-changed s (suc k) f = changed-count s.slots k f

pub capacity-changed : (s : Slab (List ℕ)) (k : ℕ) (f : List ℕ → List ℕ) → (with_row s k f).capacity ≡ s.capacity
capacity-changed s zero f = refl
capacity-changed s (suc k) f = refl

some-mapped : (f : List ℕ → List ℕ) (o : Option (List ℕ)) → is_some (option_map f o) ≡ is_some o
some-mapped f None = refl
some-mapped f (Some row) = refl

-- whether there is a row under a key stays the same
pub some-changed : (s : Slab (List ℕ)) (k j : ℕ) (f : List ℕ → List ℕ) → is_some (row_under (with_row s k f) j) ≡ is_some (row_under s j)
some-changed s k j f = elim (cases_eq j k) [
  | inl same ↦ ap (λ (i : ℕ). is_some (row_under (with_row s k f) i)) same ∙ ap is_some (under-changed s k f) ∙ some-mapped f (row_under s k) ∙ sym (ap (λ (i : ℕ). is_some (row_under s i)) same)
  | inr other ↦ ap is_some (under-other s k j f other)
]

-- no two places have one key
abbrev pub AreOnce : List ℕ → Type 0
AreOnce keys = (p q : ℕ) → get_or keys p 0 ≢ 0 → get_or keys q 0 ≡ get_or keys p 0 → q ≡ p

pub set-there : {X : Type 0} (xs : List (Option X)) (p : ℕ) (o : Option X) → p < length xs → get_or (set xs p o) p None ≡ o
set-there [] p o h = absurd (omega arith)
set-there (x ∷ xs) zero o h = refl
set-there (x ∷ xs) (suc p) o h = set-there xs p o (omega arith)

key-other : (keys : List ℕ) (p q : ℕ) (s : Slab (List ℕ)) (f : List ℕ → List ℕ) → AreOnce keys → q ≢ p
    → row_under (with_row s (get_or keys p 0) f) (get_or keys q 0) ≡ row_under s (get_or keys q 0)
key-other keys p q s f once other = elim (cases_eq (get_or keys p 0) 0) [
  | inl none ↦ rw none refl
  | inr key ↦ under-other s (get_or keys p 0) (get_or keys q 0) f (λ same. other (once p q key same))
]

-- the rows after a change of that at a place
pub rows-changed : (s : Slab (List ℕ)) (keys : List ℕ) (p : ℕ) (f : List ℕ → List ℕ) → AreOnce keys
    → rows_under (with_row s (get_or keys p 0) f) keys ≡ set (rows_under s keys) p (option_map f (get_or (rows_under s keys) p None))
rows-changed s keys p f once =
    let k : ℕ = get_or keys p 0 in
    let o : Option (List ℕ) = option_map f (get_or (rows_under s keys) p None) in
    let far = rows-length s keys in
    let long : length (rows_under (with_row s k f) keys) ≡ length (set (rows_under s keys) p o) =
    rows-length (with_row s k f) keys ∙ sym far ∙ sym (length-set (rows_under s keys) p o) in
    ext_get_or None (rows_under (with_row s k f) keys) (set (rows_under s keys) p o) long
    (λ q h. rows-at (with_row s k f) keys q ∙ elim (cases_eq q p) [
      | inl same ↦
          let within : p < length (rows_under s keys) = omega (arith, rows-length (with_row s k f) keys) in
          rw same (under-changed s k f ∙ sym (ap (option_map f) (rows-at s keys p)) ∙ sym (set-there (rows_under s keys) p o within))
      | inr other ↦ key-other keys p q s f once other ∙ sym (rows-at s keys q) ∙ sym (get_or-set_other (rows_under s keys) p q o None other)
    ])
