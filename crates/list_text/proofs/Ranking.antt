-- The map of the new numbers, and that its cells are those of the rows.
use Rattle.std.proofs.Common.{◌≡◌, ◌≢◌, ℕ, zero, suc, ◌+◌, ◌<◌, ◌≤◌, ◌↔◌, List, [], ◌∷◌, length, Option, Some, None, refl, sym, ap, ◌∙◌, subst, inl, inr, arith}
use Rattle.std.specs.Prelude.{slice_index, All}
use Rattle.std.proofs.lemmas.Bool.{cases_lt, cases_eq, false≢true}
use Rattle.std.proofs.lemmas.List.{get_or_past}
use Rattle.map_defs.specs.Kind.{Kind, inverse}
use Rattle.map_defs.specs.LinkWords.{through, through_second, IsCellWord}
use Rattle.map_defs.specs.Cells.{InOrbit, here, onward, Leads, IsLinked, NamesCell, NamesComponent}
use Rattle.map_defs.specs.Rows.{Rows, row_at, links_of, entry_of, IsLive, IsSound}
use Rattle.machine_defs.specs.Listing.{ListRow}
use Rattle.machine_defs.specs.ListingFaults.{row_in, HasRow, links_in, IsLawful}
use Rattle.row_laws.specs.Rows.{darts_of, IsRow, AreRows}
use Rattle.list_text.specs.Ranks.{IsRank, AreRanked}
use Rattle.row_laws.proofs.RowsRead.{darts-long}
use Rattle.row_laws.proofs.RowsAt.{rises, link-above, row-missing}

-- the old number of a new one
abbrev pub old : List ListRow → ℕ → ℕ
old rows zero = 0
old rows (suc p) = slice_index (darts_of rows) p

pub old-next : (rows : List ListRow) (q : ℕ) → old rows (q + 1) ≡ slice_index (darts_of rows) q
old-next rows q = let e : q + 1 ≡ suc q = omega arith in rw e refl

past : (xs : List ℕ) (i : ℕ) → length xs ≤ i → slice_index xs i ≡ 0
past [] i h = refl
past (x ∷ xs) zero h = absurd (omega arith)
past (x ∷ xs) (suc i) h = past xs i (omega arith)

pub dart-some : (n p : ℕ) (rows : List ListRow) → All (IsRow n) rows → p < length rows → 0 < slice_index (darts_of rows) p
dart-some n p [] each h = absurd (omega arith)
dart-some n zero (row ∷ rows) each h = (each 0 row (omega arith)).0
dart-some n (suc p) (row ∷ rows) each h = dart-some n p rows (λ q r g. each (suc q) r (omega arith)) (omega arith)

module _ (k : Kind) (n : ℕ) (rows : List ListRow) (R : Rows) (are : AreRows n rows) (lawful : (p : ℕ) → p < length rows → IsLawful k rows (slice_index (darts_of rows) p)) (ranked : AreRanked n rows R) where
  some_dart : (p : ℕ) → p < length rows → 0 < slice_index (darts_of rows) p
  some_dart p h = dart-some n p rows are.each h

  no_zero : row_in rows 0 ≡ None
  no_zero = row-missing rows 0 (λ p h e. let some = some_dart p h in omega arith)

  -- links above n, and those of numbers that are no dart's, are free
  free-above : (i x : ℕ) → n < i → links_of R i x ≡ 0
  free-above i x high = at (row_at R x) refl
    where
      at : (o : Option (List ℕ)) → row_at R x ≡ o → entry_of o i ≡ 0
      at None e = refl
      at (Some row) e = let wide = ranked.wide x row e in past row i (omega (arith, wide))

  free-beyond : (i x : ℕ) → length rows < x → links_of R i x ≡ 0
  free-beyond i x high = let long = ranked.long in let none : row_at R x ≡ None = get_or_past R x None (omega (arith, long)) in ap (λ (o : Option (List ℕ)). entry_of o i) none

  free-nothing : (i : ℕ) → links_of R i 0 ≡ 0
  free-nothing i = ap (λ (o : Option (List ℕ)). entry_of o i) ranked.nothing

  linked : (i p : ℕ) → p < length rows → IsRank rows (links_in rows i (slice_index (darts_of rows) p)) (links_of R i (p + 1))
  linked i p h = elim (cases_lt n i) [
    | inl high ↦ inl (free-above i (p + 1) high, λ has. let free = link-above n rows i (slice_index (darts_of rows) p) are.each high in no-row (rw free at has))
    | inr low ↦ ranked.before i p low h
  ]
    where
      no-row : HasRow rows 0 → ⊥
      no-row has = false≢true (rw no_zero at has)

  old-link : (i p : ℕ) → p < length rows → (links_in rows i (slice_index (darts_of rows) p) ≡ old rows (links_of R i (p + 1))) × (links_of R i (p + 1) ≤ length rows)
  old-link i p h = of_rank (linked i p h)
    where
      of_rank : IsRank rows (links_in rows i (slice_index (darts_of rows) p)) (links_of R i (p + 1))
          → (links_in rows i (slice_index (darts_of rows) p) ≡ old rows (links_of R i (p + 1))) × (links_of R i (p + 1) ≤ length rows)
      of_rank (inl (free, none)) = elim (cases_eq (links_in rows i (slice_index (darts_of rows) p)) 0) [
        | inl e ↦ rw (free, e) (refl, omega arith)
        | inr some ↦ absurd (none (lawful p h i some).live)
      ]
      of_rank (inr (q, is, low, at)) = (sym at ∙ (sym (old-next rows q) ∙ ap (old rows) (sym is)), omega (arith, is, low))

  link-old : (i x : ℕ) → x ≤ length rows → (links_in rows i (old rows x) ≡ old rows (links_of R i x)) × (links_of R i x ≤ length rows)
  link-old i zero h = rw (no_zero, free-nothing i) (refl, omega arith)
  link-old i (suc p) h =
      let e : p + 1 ≡ suc p = omega arith in
      rw e at (old-link i p (omega arith))

  through-old : (first : ℕ) (second : Option ℕ) (x : ℕ) → x ≤ length rows
      → (through_second (links_in rows) second (links_in rows first (old rows x)) ≡ old rows (through_second (links_of R) second (links_of R first x))) × (through_second (links_of R) second (links_of R first x) ≤ length rows)
  through-old first None x h = link-old first x h
  through-old first (Some j) x h =
      let a = link-old first x h in
      let b = link-old j (links_of R first x) a.1 in
      (ap (links_in rows j) a.0 ∙ b.0, b.1)

  pub old-rises : (x y : ℕ) → x < y → y ≤ length rows → old rows x < old rows y
  old-rises zero zero less h = absurd (omega arith)
  old-rises zero (suc q) less h = some_dart q (omega arith)
  old-rises (suc p) zero less h = absurd (omega arith)
  old-rises (suc p) (suc q) less h = let long = darts-long rows in rises (darts_of rows) are.ascending p q (omega arith) (omega (arith, long))

  old-some : (y : ℕ) → y ≢ 0 → y ≤ length rows → old rows y ≢ 0
  old-some zero some h e = some refl
  old-some (suc q) some h e = let more = some_dart q (omega arith) in omega (arith, more)

  old-one : (x y : ℕ) → x ≤ length rows → y ≤ length rows → old rows x ≡ old rows y → x ≡ y
  old-one x y h g e = elim (cases_lt x y) [
    | inl less ↦ let up = old-rises x y less g in absurd (omega (arith, up))
    | inr more ↦ elim (cases_lt y x) [
      | inl less ↦ let up = old-rises y x less h in absurd (omega (arith, up))
      | inr same ↦ omega arith
    ]
  ]

  -- what steps between new numbers reach, steps between the darts reach, and back
  module _ (S T : ℕ → ℕ → Type 0)
      (there : (x y : ℕ) → x ≤ length rows → S x y → (y ≤ length rows) × T (old rows x) (old rows y))
      (and-back : (x e : ℕ) → x ≤ length rows → T (old rows x) e → (y : ℕ) × (y ≤ length rows) × (old rows y ≡ e) × S x y) where
    forth : (x y : ℕ) → x ≤ length rows → InOrbit S x y → (y ≤ length rows) × InOrbit T (old rows x) (old rows y)
    forth x y h here = (h, here)
    forth x y h (onward {x = z} orbit step) =
        let below = forth x z h orbit in
        let t = there z y below.0 step in
        (t.0, onward below.1 t.1)

    back : (x e : ℕ) → x ≤ length rows → InOrbit T (old rows x) e → (y : ℕ) × (y ≤ length rows) × (old rows y ≡ e) × InOrbit S x y
    back x e h here = (x, h, refl, here)
    back x e h (onward {x = z} orbit step) =
        let b = back x z h orbit in
        let t = and-back b.0 e b.1 (subst (λ (v : ℕ). T v e) (sym b.2) step) in
        (t.0, t.1, t.2, onward b.3 t.3)

    -- a new number is the least of its orbit exactly where the dart is
    least-alike : (p : ℕ) → p < length rows → ((e : ℕ) → InOrbit S (p + 1) e → p + 1 ≤ e) ↔ ((e : ℕ) → InOrbit T (slice_index (darts_of rows) p) e → slice_index (darts_of rows) p ≤ e)
    least-alike p h =
        let next = old-next rows p in (
          λ least e orbit.
              let b = back (p + 1) e (omega arith) (rw (sym next) at orbit) in
              let low = least b.0 b.3 in
              let up : old rows (p + 1) ≤ old rows b.0 = at-most (p + 1) b.0 low b.1 in
              omega (arith, up, b.2, next),
          λ least y orbit.
              let f = forth (p + 1) y (omega arith) orbit in
              let low = least (old rows y) (rw next at f.1) in
              not-below p y low h,
        )
      where
        at-most : (x y : ℕ) → x ≤ y → y ≤ length rows → old rows x ≤ old rows y
        at-most x y low h = elim (cases_lt x y) [
          | inl less ↦ let up = old-rises x y less h in omega (arith, up)
          | inr more ↦ let e : x ≡ y = omega arith in let f : old rows x ≡ old rows y = ap (old rows) e in omega arith
        ]

        not-below : (p y : ℕ) → slice_index (darts_of rows) p ≤ old rows y → p < length rows → p + 1 ≤ y
        not-below p y low h = elim (cases_lt y (p + 1)) [
          | inl less ↦ let up = old-rises y (p + 1) less (omega arith) in let next = old-next rows p in absurd (omega (arith, up, low, next))
          | inr more ↦ more
        ]

  word-there : (i x y : ℕ) → x ≤ length rows → Leads (links_of R) (IsCellWord k i) x y → (y ≤ length rows) × Leads (links_in rows) (IsCellWord k i) (old rows x) (old rows y)
  word-there i x y h (w, word, leads, some) =
      let t = through-old w.first w.second x h in
      let low : y ≤ length rows = subst (λ (v : ℕ). v ≤ length rows) leads t.1 in
      (low, (w, word, t.0 ∙ ap (old rows) leads, old-some y some low))

  word-back : (i x e : ℕ) → x ≤ length rows → Leads (links_in rows) (IsCellWord k i) (old rows x) e → (y : ℕ) × (y ≤ length rows) × (old rows y ≡ e) × Leads (links_of R) (IsCellWord k i) x y
  word-back i x e h (w, word, leads, some) =
      let t = through-old w.first w.second x h in
      let at : old rows (through (links_of R) w x) ≡ e = sym t.0 ∙ leads in
      (through (links_of R) w x, t.1, at, (w, word, refl, λ none. some (sym at ∙ ap (old rows) none)))

  link-there : (x y : ℕ) → x ≤ length rows → IsLinked (links_of R) x y → (y ≤ length rows) × IsLinked (links_in rows) (old rows x) (old rows y)
  link-there x y h (i, leads, some) =
      let t = link-old i x h in
      let low : y ≤ length rows = subst (λ (v : ℕ). v ≤ length rows) leads t.1 in
      (low, (i, t.0 ∙ ap (old rows) leads, old-some y some low))

  link-back : (x e : ℕ) → x ≤ length rows → IsLinked (links_in rows) (old rows x) e → (y : ℕ) × (y ≤ length rows) × (old rows y ≡ e) × IsLinked (links_of R) x y
  link-back x e h (i, leads, some) =
      let t = link-old i x h in
      let at : old rows (links_of R i x) ≡ e = sym t.0 ∙ leads in
      (links_of R i x, t.1, at, (i, refl, λ none. some (sym at ∙ ap (old rows) none)))

  -- a new number names a cell exactly where the dart does
  pub names : (i p : ℕ) → p < length rows → NamesCell k (links_of R) i (p + 1) ↔ NamesCell k (links_in rows) i (slice_index (darts_of rows) p)
  names i p h = least-alike (Leads (links_of R) (IsCellWord k i)) (Leads (links_in rows) (IsCellWord k i)) (word-there i) (word-back i) p h

  -- and a component
  pub names-component : (p : ℕ) → p < length rows → NamesComponent (links_of R) (p + 1) ↔ NamesComponent (links_in rows) (slice_index (darts_of rows) p)
  names-component p h = least-alike (IsLinked (links_of R)) (IsLinked (links_in rows)) link-there link-back p h

  -- the links of the new numbers are those of a map
  pub ranked-sound : length rows ≤ 4194304 → IsSound k n R
  ranked-sound few = record { nothing = ranked.nothing; live = live; back = leads-back; wide = ranked.wide; few = let long = ranked.long in omega (arith, long) }
    where
      live : (i x : ℕ) → links_of R i x ≢ 0 → IsLive R (links_of R i x)
      live i x some = elim (cases_lt (length rows) x) [
        | inl high ↦ absurd (some (free-beyond i x high))
        | inr low ↦ lives (links_of R i x) some (link-old i x low).1
      ]
        where
          lives : (y : ℕ) → y ≢ 0 → y ≤ length rows → IsLive R y
          lives zero some h = absurd (some refl)
          lives (suc q) some h = let e : q + 1 ≡ suc q = omega arith in rw e at (ranked.live q (omega arith))

      leads-back : (i x : ℕ) → links_of R i x ≢ 0 → links_of R (inverse k i) (links_of R i x) ≡ x
      leads-back i zero some = absurd (some (free-nothing i))
      leads-back i (suc p) some = elim (cases_lt (length rows) (suc p)) [
        | inl high ↦ absurd (some (free-beyond i (suc p) high))
        | inr low ↦
            let to = link-old i (suc p) low in
            let from = link-old (inverse k i) (links_of R i (suc p)) to.1 in
            let goes : links_in rows i (old rows (suc p)) ≢ 0 = λ none. old-some (links_of R i (suc p)) some to.1 (sym to.0 ∙ none) in
            let laws = (lawful p (omega arith) i goes).back in
            old-one (links_of R (inverse k i) (links_of R i (suc p))) (suc p) from.1 low (sym from.0 ∙ (ap (links_in rows (inverse k i)) (sym to.0) ∙ laws))
      ]
