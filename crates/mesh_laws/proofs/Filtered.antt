-- The sides between two points, among all sides.
use Rattle.std.proofs.Common.{◌≡◌, ℕ, zero, suc, ◌<◌, min, max, Bool, true, false, cond, ◌&&◌, ◌==◌, List, [], ◌∷◌, ◌++◌, length, filter, refl, sym, ap, ◌∙◌, inl, inr, eq-eqb, arith}
use Rattle.std.proofs.lemmas.Bool.{and_parts, eqb-true, cases_lt}
use Rattle.std.proofs.lemmas.List.{get_or_append_left, get_or_push, length_push, append-nil}
use Rattle.std.proofs.lemmas.List.Elements.{filter-append}
use Rattle.map_defs.specs.MeshMap.{Side, is_between, has_ends, is_oriented}
use Rattle.mesh_laws.specs.Sides.{no_side, side_of, kind_of}

-- what a filter keeps stands in the list
pub found_at : (p : Side → Bool) (xs : List Side) (i : ℕ) → i < length (filter p xs)
    → (j : ℕ) × (j < length xs) × (side_of xs j ≡ side_of (filter p xs) i) × (p (side_of (filter p xs) i) ≡ true)
found_at p [] i h = absurd (omega arith)
found_at p (x ∷ xs) i h = at (p x) refl (found_at p xs) i h
  where
    at : (b : Bool) → p x ≡ b → ((i : ℕ) → i < length (filter p xs) → (j : ℕ) × (j < length xs) × (side_of xs j ≡ side_of (filter p xs) i) × (p (side_of (filter p xs) i) ≡ true))
        → (i : ℕ) → i < length (cond b (x ∷ filter p xs) (filter p xs))
        → (j : ℕ) × (j < suc (length xs)) × (side_of (x ∷ xs) j ≡ side_of (cond b (x ∷ filter p xs) (filter p xs)) i) × (p (side_of (cond b (x ∷ filter p xs) (filter p xs)) i) ≡ true)
    at true e more zero h = (0, omega arith, refl, e)
    at true e more (suc i) h = let m = more i (omega arith) in (suc m.0, omega arith, m.2, m.3)
    at false e more i h = let m = more i h in (suc m.0, omega arith, m.2, m.3)

-- what stands in the list and passes is kept by a filter, and a later one stands later
pub kept_at : (p : Side → Bool) (xs : List Side) (j : ℕ) → j < length xs → p (side_of xs j) ≡ true → (i : ℕ) × (i < length (filter p xs)) × (side_of (filter p xs) i ≡ side_of xs j)
kept_at p [] j h e = absurd (omega arith)
kept_at p (x ∷ xs) zero h e = rw e (0, omega arith, refl)
kept_at p (x ∷ xs) (suc j) h e = at (p x) (kept_at p xs j (omega arith) e)
  where
    at : (b : Bool) → (i : ℕ) × (i < length (filter p xs)) × (side_of (filter p xs) i ≡ side_of xs j)
        → (i : ℕ) × (i < length (cond b (x ∷ filter p xs) (filter p xs))) × (side_of (cond b (x ∷ filter p xs) (filter p xs)) i ≡ side_of xs j)
    at true m = (suc m.0, omega arith, m.2)
    at false m = m

pub not-true : (b : Bool) → (b ≡ true → ⊥) → b ≡ false
not-true true h = absurd (h refl)
not-true false h = refl

pub oriented-is : (o : Bool) → is_oriented (kind_of o) ≡ o
oriented-is true = refl
oriented-is false = refl

-- a side between two points lies between those of each side between them
pub between-ends : (low high : ℕ) (s t : Side) → is_between low high t ≡ true → has_ends s t ≡ true → is_between low high s ≡ true
between-ends low high s t e f =
    let p = and_parts (min t.from t.to == low) (max t.from t.to == high) e in
    let q = and_parts (min t.from t.to == min s.from s.to) (max t.from t.to == max s.from s.to) f in
    let l : min s.from s.to ≡ low = sym (eqb-true (min t.from t.to) (min s.from s.to) q.0) ∙ eqb-true (min t.from t.to) low p.0 in
    let h : max s.from s.to ≡ high = sym (eqb-true (max t.from t.to) (max s.from s.to) q.1) ∙ eqb-true (max t.from t.to) high p.1 in
    rw (l, h) (sym (both low high))
  where
    both : (m n : ℕ) → true ≡ (m == m) && (n == n)
    both m n = rw (eq-eqb m m refl, eq-eqb n n refl) refl

-- sides that are numbered by their places stay so with one more
pub numbered-on : (sides : List Side) (s : Side) → ((i : ℕ) → i < length sides → (side_of sides i).number ≡ i) → s.number ≡ length sides
    → (i : ℕ) → i < length (sides ++ s ∷ []) → (side_of (sides ++ s ∷ []) i).number ≡ i
numbered-on sides s numbers number i h = elim (cases_lt i (length sides)) [
  | inl lt ↦ ap (λ (x : Side). x.number) (get_or_append_left sides (s ∷ []) no_side i lt) ∙ numbers i lt
  | inr le ↦ let at : length sides ≡ i = omega (arith, length_push sides s) in ap (λ (x : Side). x.number) (get_or_push sides s no_side i at) ∙ (number ∙ at)
]

-- the sides that a filter keeps, where one more passes or does not
pub filter-more : (p : Side → Bool) (sides : List Side) (s : Side) → p s ≡ true → filter p (sides ++ s ∷ []) ≡ filter p sides ++ s ∷ []
filter-more p sides s e = filter-append p sides (s ∷ []) ∙ rw e refl

pub filter-same : (p : Side → Bool) (sides : List Side) (s : Side) → p s ≡ false → filter p (sides ++ s ∷ []) ≡ filter p sides
filter-same p sides s e = filter-append p sides (s ∷ []) ∙ rw e (append-nil (filter p sides))

-- the two points of a side are those between which it lies
pub ends-of : (low high : ℕ) (s : Side) → is_between low high s ≡ true → (min s.from s.to ≡ low) × (max s.from s.to ≡ high)
ends-of low high s e =
    let p = and_parts (min s.from s.to == low) (max s.from s.to == high) e in
    (eqb-true (min s.from s.to) low p.0, eqb-true (max s.from s.to) high p.1)
