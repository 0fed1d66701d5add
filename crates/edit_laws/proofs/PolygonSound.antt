-- Rows to which a circle of darts is appended keep what they keep.
use Rattle.std.proofs.Common.{◌≡◌, ◌≢◌, ℕ, zero, suc, ◌+◌, ◌-◌, ◌<◌, ◌≤◌, List, [], ◌++◌, length, get_or, map, replicate, Option, Some, None, refl, sym, ap, ◌∙◌, arith, inl, inr, ◌⊎◌}
use Rattle.std.proofs.lemmas.List.{get_or_append_left, get_or-append-add, get_or-map, get_or_past, length-append, length-map, length-replicate}
use Rattle.std.proofs.lemmas.Bool.{cases_lt, cases_eq}
use Rattle.map_defs.specs.Kind.{Kind, alpha, beta, inverse, IsDistant}
use Rattle.map_defs.specs.Laws.{Laws}
use Rattle.map_defs.specs.Rows.{Rows, IsSound, row_at, links_of, entry_of, made, made_max, IsLive}
use Rattle.map_defs.specs.Polygon.{row_of}
use Rattle.link_laws.proofs.Basics.{inverse_own}
use Rattle.edit_laws.proofs.RowWrites.{some_unless, live-within}
use Rattle.edit_laws.proofs.PolygonRing.{AreRing}

zero_entry : (m i : ℕ) → get_or (replicate m 0) i 0 ≡ (let z : ℕ = 0 in z)
zero_entry zero i = refl
zero_entry (suc m) zero = refl
zero_entry (suc m) (suc i) = zero_entry m i

-- rows behind which others stand
row-old : (rows : Rows) (ys : List (List ℕ)) (x : ℕ) → x < length rows → row_at (rows ++ map (λ (row : List ℕ). Some row) ys) x ≡ row_at rows x
row-old rows ys x h = get_or_append_left rows (map (λ (row : List ℕ). Some row) ys) None x h

row-new : (rows : Rows) (ys : List (List ℕ)) (j : ℕ) → j < length ys → row_at (rows ++ map (λ (row : List ℕ). Some row) ys) (length rows + j) ≡ Some (get_or ys j [])
row-new rows ys j h =
    get_or-append-add rows (map (λ (row : List ℕ). Some row) ys) j None ∙ get_or-map (λ (row : List ℕ). Some row) ys j [] None h

row-past : (rows : Rows) (ys : List (List ℕ)) (x : ℕ) → length rows + length ys ≤ x → row_at (rows ++ map (λ (row : List ℕ). Some row) ys) x ≡ None
row-past rows ys x h =
    get_or_past (rows ++ map (λ (row : List ℕ). Some row) ys) x None
    (omega (arith, length-append rows (map (λ (row : List ℕ). Some row) ys), length-map ys (λ (row : List ℕ). Some row)))

-- links 0 and 1, or a higher one
data Level : ℕ → Type 0 where
  low : {i : ℕ} → i ≤ 1 → Level i
  high : {i : ℕ} → 2 ≤ i → Level i

level : (i : ℕ) → Level i
level i = elim (cases_lt i 2) [ inl below ↦ low (omega arith) | inr above ↦ high above ]

inverse-low : (k : Kind) (i : ℕ) → i ≤ 1 → inverse k i ≤ 1
inverse-low alpha i h = h
inverse-low beta zero h = omega arith
inverse-low beta (suc zero) h = omega arith
inverse-low beta (suc (suc i)) h = absurd (omega arith)

-- of two distant links one is above 1
far-high : (k : Kind) (i j : ℕ) → IsDistant k i j → (2 ≤ i) ⊎ (2 ≤ j)
unfolding IsDistant
far-high alpha i j (inl up) = inr (omega arith)
far-high alpha i j (inr down) = inl (omega arith)
far-high beta (suc (suc i)) j far = inl (omega arith)
far-high beta i (suc (suc j)) far = inr (omega arith)
far-high beta zero zero (inl up) = absurd (omega arith)
far-high beta zero zero (inr down) = absurd (omega arith)
far-high beta zero (suc zero) (inl up) = absurd (omega arith)
far-high beta zero (suc zero) (inr down) = absurd (omega arith)
far-high beta (suc zero) zero (inl up) = absurd (omega arith)
far-high beta (suc zero) zero (inr down) = absurd (omega arith)
far-high beta (suc zero) (suc zero) (inl up) = absurd (omega arith)
far-high beta (suc zero) (suc zero) (inr down) = absurd (omega arith)

-- where a number lies among the old darts and the new ones
data Spot (first count x : ℕ) : Type 0 where
  old : x < first → Spot first count x
  new : (m : ℕ) → m < count → x ≡ first + m → Spot first count x
  past : first + count ≤ x → Spot first count x

spot : (first count x : ℕ) → Spot first count x
spot first count x =
    elim (cases_lt x first) [
      | inl below ↦ old below
      | inr above ↦ elim (cases_lt (x - first) count) [
        | inl within ↦ new (x - first) within (omega arith)
        | inr beyond ↦ past (omega arith)
      ]
    ]

module _ (k : Kind) (n : ℕ) (rows : Rows) (count : ℕ) (ys : List (List ℕ)) (E : ℕ → ℕ → ℕ) (wide : 1 ≤ n) (begun : 0 < length rows)
    (sound : IsSound k n rows) (ring : AreRing k n (length rows) count ys E) where
  abbrev after : Rows
  after = rows ++ map (λ (row : List ℕ). Some row) ys

  at-old : (i x : ℕ) → x < length rows → links_of after i x ≡ links_of rows i x
  at-old i x h = ap (λ (o : Option (List ℕ)). entry_of o i) (row-old rows ys x h)

  at-past : (i x : ℕ) → length rows + count ≤ x → links_of after i x ≡ (let z : ℕ = 0 in z)
  at-past i x h = ap (λ (o : Option (List ℕ)). entry_of o i) (row-past rows ys x (omega (arith, ring.long)))

  row-is : (m : ℕ) → m < count → row_at after (length rows + m) ≡ Some (row_of n (length rows + E 0 m) (length rows + E 1 m))
  row-is m h = row-new rows ys m (omega (arith, ring.long)) ∙ ap (λ (row : List ℕ). Some row) (ring.at m h)

  at-new : (i m : ℕ) → m < count → links_of after i (length rows + m) ≡ get_or (row_of n (length rows + E 0 m) (length rows + E 1 m)) i 0
  at-new i m h = ap (λ (o : Option (List ℕ)). entry_of o i) (row-is m h)

  at-low : (i m : ℕ) → i ≤ 1 → m < count → links_of after i (length rows + m) ≡ length rows + E i m
  at-low zero m l h = at-new 0 m h
  at-low (suc zero) m l h = at-new 1 m h
  at-low (suc (suc i)) m l h = absurd (omega arith)

  at-high : (i m : ℕ) → 2 ≤ i → m < count → links_of after i (length rows + m) ≡ (let z : ℕ = 0 in z)
  at-high zero m l h = absurd (omega arith)
  at-high (suc zero) m l h = absurd (omega arith)
  at-high (suc (suc i)) m l h = at-new (suc (suc i)) m h ∙ zero_entry (n - 1) i

  nothing-after : row_at after 0 ≡ None
  nothing-after = row-old rows ys 0 begun ∙ sound.nothing

  at-none : (i : ℕ) → links_of after i 0 ≡ (let z : ℕ = 0 in z)
  at-none i = ap (λ (o : Option (List ℕ)). entry_of o i) nothing-after

  -- an old link leads to an old dart, or nowhere
  old-within : (i x : ℕ) → links_of rows i x < length rows
  old-within i x = elim (cases_eq (links_of rows i x) 0) [
    | inl none ↦ omega arith
    | inr linked ↦ live-within rows (links_of rows i x) (sound.live i x linked)
  ]

  back-at : (i x : ℕ) → Level i → Spot (length rows) count x → links_of after i x ≢ 0 → links_of after (inverse k i) (links_of after i x) ≡ x
  back-at i x l (old below) linked =
      let is : links_of after i x ≡ links_of rows i x = at-old i x below in
      ap (links_of after (inverse k i)) is ∙ at-old (inverse k i) (links_of rows i x) (old-within i x)
      ∙ sound.back i x (λ none. linked (is ∙ none))
  back-at i x (low l) (new m h is) linked =
      let e : links_of after i x ≡ length rows + E i m = ap (links_of after i) is ∙ at-low i m l h in
      ap (links_of after (inverse k i)) e ∙ at-low (inverse k i) (E i m) (inverse-low k i l) (ring.ring.within i m l h)
      ∙ ap (λ (p : ℕ). length rows + p) (ring.ring.back i m l h) ∙ sym is
  back-at i x (high l) (new m h is) linked = absurd (linked (ap (links_of after i) is ∙ at-high i m l h))
  back-at i x l (past beyond) linked = absurd (linked (at-past i x beyond))

  back-after : (i x : ℕ) → links_of after i x ≢ 0 → links_of after (inverse k i) (links_of after i x) ≡ x
  back-after i x = back-at i x (level i) (spot (length rows) count x)

  live-after : (i x : ℕ) → links_of after i x ≢ 0 → IsLive after (links_of after i x)
  live-after i x linked =
      let e = back-after i x linked in
      let dead : row_at after (links_of after i x) ≡ None → ⊥ = λ none.
      let zeroth : x ≡ 0 = sym e ∙ ap (λ (o : Option (List ℕ)). entry_of o (inverse k i)) none in
      linked (ap (links_of after i) zeroth ∙ at-none i) in
      some_unless (row_at after (links_of after i x)) dead

  wide-row : (a b : ℕ) → length (row_of n a b) ≡ n + 1
  wide-row a b = omega (arith, length-replicate (n - 1) (let z : ℕ = 0 in z))

  wide-at : (x : ℕ) (row : List ℕ) → Spot (length rows) count x → row_at after x ≡ Some row → length row ≡ n + 1
  wide-at x row (old below) is = sound.wide x row (sym (row-old rows ys x below) ∙ is)
  wide-at x row (new m h x-is) is =
      let e : row_of n (length rows + E 0 m) (length rows + E 1 m) ≡ row = let f = row-is m h in cc in
      ap length (sym e) ∙ wide-row (length rows + E 0 m) (length rows + E 1 m)
  wide-at x row (past beyond) is = absurd (let f = row-past rows ys x (omega (arith, ring.long)) in cc)

  -- The rows with the circle behind them are sound.
  pub ring-sound : made rows + count ≤ made_max → IsSound k n after
  ring-sound few = record {
    nothing = nothing-after;
    live = live-after;
    back = back-after;
    wide = λ x row. wide-at x row (spot (length rows) count x);
    few = omega (arith, few, ring.long, length-append rows (map (λ (row : List ℕ). Some row) ys), length-map ys (λ (row : List ℕ). Some row));
  }

  module _ (laws : Laws k (links_of rows)) where
    apart-at : (i x : ℕ) → inverse k i ≡ i → x ≢ 0 → Level i → Spot (length rows) count x → links_of after i x ≢ x
    apart-at i x own dart l (old below) same = laws.apart i x own dart (sym (at-old i x below) ∙ same)
    apart-at i x own dart (low l) (new m h is) same =
        let e : length rows + E i m ≡ length rows + m = sym (at-low i m l h) ∙ sym (ap (links_of after i) is) ∙ same ∙ is in
        ring.ring.apart i m own l h (omega arith)
    apart-at i x own dart (high l) (new m h is) same = dart (sym same ∙ ap (links_of after i) is ∙ at-high i m l h)
    apart-at i x own dart l (past beyond) same = dart (sym same ∙ at-past i x beyond)

    -- a link above 1 of a new dart is free, and so is that of whatever a new dart is linked to
    beyond-at : (i j m : ℕ) → 2 ≤ j → m < count → Level i → links_of after j (links_of after i (length rows + m)) ≡ (let z : ℕ = 0 in z)
    beyond-at i j m up h (low l) = ap (links_of after j) (at-low i m l h) ∙ at-high j (E i m) up (ring.ring.within i m l h)
    beyond-at i j m up h (high l) = ap (links_of after j) (at-high i m l h) ∙ at-none j

    square-new : (i j m : ℕ) → m < count → (2 ≤ i) ⊎ (2 ≤ j)
        → links_of after (inverse k i) (links_of after j (length rows + m)) ≡ links_of after (inverse k j) (links_of after i (length rows + m))
    square-new i j m h (inl up) =
        ap (λ (t : ℕ). links_of after t (links_of after j (length rows + m))) (inverse_own k i up) ∙ beyond-at j i m up h (level j)
        ∙ sym (ap (links_of after (inverse k j)) (at-high i m up h) ∙ at-none (inverse k j))
    square-new i j m h (inr up) =
        ap (links_of after (inverse k i)) (at-high j m up h) ∙ at-none (inverse k i)
        ∙ sym (ap (λ (t : ℕ). links_of after t (links_of after i (length rows + m))) (inverse_own k j up) ∙ beyond-at i j m up h (level i))

    square-at : (i j x : ℕ) → IsDistant k i j → Spot (length rows) count x
        → links_of after (inverse k i) (links_of after j x) ≡ links_of after (inverse k j) (links_of after i x)
    square-at i j x far (old below) =
        ap (links_of after (inverse k i)) (at-old j x below) ∙ at-old (inverse k i) (links_of rows j x) (old-within j x)
        ∙ laws.square i j x far
        ∙ sym (ap (links_of after (inverse k j)) (at-old i x below) ∙ at-old (inverse k j) (links_of rows i x) (old-within i x))
    square-at i j x far (new m h is) =
        ap (λ (y : ℕ). links_of after (inverse k i) (links_of after j y)) is ∙ square-new i j m h (far-high k i j far)
        ∙ sym (ap (λ (y : ℕ). links_of after (inverse k j) (links_of after i y)) is)
    square-at i j x far (past beyond) =
        ap (links_of after (inverse k i)) (at-past j x beyond) ∙ at-none (inverse k i)
        ∙ sym (ap (links_of after (inverse k j)) (at-past i x beyond) ∙ at-none (inverse k j))

    -- The links of the rows with the circle behind them keep the laws.
    pub ring-lawful : Laws k (links_of after)
    ring-lawful = record {
      nil = at-none;
      back = back-after;
      apart = λ i x own dart. apart-at i x own dart (level i) (spot (length rows) count x);
      square = λ i j x far. square-at i j x far (spot (length rows) count x);
    }
