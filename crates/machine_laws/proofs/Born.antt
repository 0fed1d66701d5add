-- New darts behind the old ones: the cells of the old darts stay, and the new darts have none of them.
use Rattle.std.proofs.Common.{◌≡◌, ◌≢◌, ℕ, zero, suc, ◌+◌, ◌-◌, ◌<◌, ◌≤◌, List, [], length, get_or, map, replicate, Option, Some, None, IsSome, refl, sym, ap, ◌∙◌, subst, inl, inr, arith}
use Rattle.std.proofs.lemmas.Bool.{cases_lt}
use Rattle.std.proofs.lemmas.List.{get_or_append_left, get_or-append_right, get_or-map, get_or_past, length-append, length-map, length-replicate}
use Rattle.map_defs.specs.Kind.{Kind, inverse}
use Rattle.map_defs.specs.Links.{Links}
use Rattle.map_defs.specs.Laws.{Laws}
use Rattle.map_defs.specs.Rows.{Rows, IsLive, entry_of, links_of, IsSound}
use Rattle.map_defs.specs.LinkWords.{through_second}
use Rattle.map_defs.specs.Cells.{here, onward, InCell}
use Rattle.map_defs.specs.Values.{Value}
use Rattle.map_defs.specs.Carry.{AreEqualOnCells}
use Rattle.machine_defs.specs.State.{Content, with_born, no_values, value_at, rule_at, HasPlaces}
use Rattle.machine_defs.specs.Kept.{IsLawfulContent}
use Rattle.link_laws.proofs.Basics.{same_or_not}
use Rattle.link_laws.proofs.Told.{told_of_laws}
use Rattle.edit_laws.proofs.RowWrites.{live-within}

-- N are the links L with new darts from `first` upwards, which are linked among each other alone
module _ (k : Kind) (L N : Links) (first : ℕ) (low : 1 ≤ first) (old : (t x : ℕ) → x < first → N t x ≡ L t x) (below : (t x : ℕ) → L t x < first) (lawful : Laws k N) where
  new-link : (t x : ℕ) → first ≤ x → N t x ≢ 0 → first ≤ N t x
  new-link t x high linked = elim (cases_lt (N t x) first) [
    | inl under ↦ absurd (let back = lawful.back t x linked in let there = old (inverse k t) (N t x) under in let lies = below (inverse k t) (N t x) in omega (arith, sym there ∙ back))
    | inr above ↦ above
  ]

  old-through : (f : ℕ) (s : Option ℕ) (x : ℕ) → x < first → through_second N s (N f x) ≡ through_second L s (L f x)
  old-through f None x h = old f x h
  old-through f (Some j) x h = ap (N j) (old f x h) ∙ old j (L f x) (below f x)

  new-through : (f : ℕ) (s : Option ℕ) (x : ℕ) → first ≤ x → through_second N s (N f x) ≢ 0 → first ≤ through_second N s (N f x)
  new-through f None x h linked = new-link f x h linked
  new-through f (Some j) x h linked = new-link j (N f x) (new-link f x h (λ none. linked (ap (N j) none ∙ lawful.nil j))) linked

  old-within : (f : ℕ) (s : Option ℕ) (x : ℕ) → through_second L s (L f x) < first
  old-within f None x = below f x
  old-within f (Some j) x = below j (L f x)

  pub old-cell : (i x y : ℕ) → x < first → InCell k N i x y → InCell k L i x y × (y < first)
  old-cell i x y h here = (here, h)
  old-cell i x y h (onward {x = z} {y = y'} o step) =
      let so = old-cell i x z h o in
      let same = old-through step.0.first step.0.second z so.1 in
      (onward so.0 (step.0, step.1, sym same ∙ step.2, step.3), subst (λ (n : ℕ). n < first) (sym same ∙ step.2) (old-within step.0.first step.0.second z))

  pub kept-cell : (i x y : ℕ) → x < first → InCell k L i x y → InCell k N i x y × (y < first)
  kept-cell i x y h here = (here, h)
  kept-cell i x y h (onward {x = z} {y = y'} o step) =
      let so = kept-cell i x z h o in (
        onward so.0 (step.0, step.1, old-through step.0.first step.0.second z so.1 ∙ step.2, step.3),
        subst (λ (n : ℕ). n < first) step.2 (old-within step.0.first step.0.second z),
      )

  pub new-cell : (i x y : ℕ) → first ≤ x → InCell k N i x y → first ≤ y
  new-cell i x y h here = h
  new-cell i x y h (onward {x = z} {y = y'} o step) =
      let so = new-cell i x z h o in
      subst (λ (n : ℕ). first ≤ n) step.2 (new-through step.0.first step.0.second z so (λ none. step.3 (sym step.2 ∙ none)))

pub no-value : (m i : ℕ) → get_or (replicate m None) i None ≡ (let none : Option Value = None in none)
no-value zero i = refl
no-value (suc m) zero = refl
no-value (suc m) (suc i) = no-value m i

-- a content with new darts behind
module _ (c : Content) (kept : IsLawfulContent c) (born : List (List ℕ))
    (sound : IsSound c.kind c.dim (with_born c born).rows) (lawful : Laws c.kind (links_of (with_born c born).rows)) where
  abbrev next : Content
  next = with_born c born

  abbrev rows : Rows
  rows = c.rows

  pub old-row : (x : ℕ) → x < length rows → get_or next.rows x None ≡ get_or rows x None
  old-row x h = get_or_append_left rows (map (λ (row : List ℕ). Some row) born) None x h

  pub old-link : (t x : ℕ) → x < length rows → links_of next.rows t x ≡ links_of rows t x
  old-link t x h = ap (λ (o : Option (List ℕ)). entry_of o t) (old-row x h)

  pub below : (t x : ℕ) → links_of rows t x < length rows
  below t x = elim (same_or_not (links_of rows t x) 0) [
    | inl free ↦ omega (arith, free, kept.begun)
    | inr linked ↦ live-within rows (links_of rows t x) (kept.sound.live t x linked)
  ]

  pub old-value : (i x : ℕ) → x < length rows → value_at next i x ≡ value_at c i x
  old-value i x h = ap (λ (vs : List (Option Value)). get_or vs i None) (get_or_append_left c.values (map (λ (row : List ℕ). no_values c.dim) born) [] x (omega (arith, kept.places.long)))

  new-place : (x m : ℕ) → length rows ≤ x → m ≡ x - length rows → m < length born → get_or next.values x [] ≡ no_values c.dim
  new-place x m h is within =
      get_or-append_right c.values (map (λ (row : List ℕ). no_values c.dim) born) (length rows) x [] kept.places.long h
      ∙ ap (λ (n : ℕ). get_or (map (λ (row : List ℕ). no_values c.dim) born) n []) (sym is)
      ∙ get_or-map (λ (row : List ℕ). no_values c.dim) born m [] [] within

  pub new-value : (i x : ℕ) → length rows ≤ x → value_at next i x ≡ None
  new-value i x h = elim (cases_lt (x - length rows) (length born)) [
    | inl within ↦ ap (λ (vs : List (Option Value)). get_or vs i None)
        (new-place x (x - length rows) h refl within) ∙ no-value (c.dim + 1) i
    | inr beyond ↦ ap (λ (vs : List (Option Value)). get_or vs i None)
        (get_or_past next.values x [] (omega (arith, kept.places.long, length-append c.values (map (λ (row : List ℕ). no_values c.dim) born), length-map born (λ (row : List ℕ). no_values c.dim))))
  ]

  equal : (i : ℕ) → AreEqualOnCells c.kind i (links_of next.rows) (IsLive next.rows) (value_at next i)
  equal i x y live cell = elim (cases_lt x (length rows)) [
    | inl under ↦ (let so = old-cell c.kind (links_of rows) (links_of next.rows) (length rows) kept.begun old-link below lawful i x y under cell in
        old-value i x under ∙ kept.equal i x y (subst (λ (o : Option (List ℕ)). IsSome o) (old-row x under) live) so.0 ∙ sym (old-value i y so.1))
    | inr over ↦ new-value i x over ∙ sym (new-value i y (new-cell c.kind (links_of rows) (links_of next.rows) (length rows) kept.begun old-link below lawful i x y over cell))
  ]

  none : (i x : ℕ) → rule_at next i ≡ None → value_at next i x ≡ None
  none i x is = elim (cases_lt x (length rows)) [ inl under ↦ old-value i x under ∙ kept.none i x is | inr over ↦ new-value i x over ]

  places : HasPlaces next
  places = record {
    long = omega (
      arith,
      kept.places.long,
      length-append c.values (map (λ (row : List ℕ). no_values c.dim) born),
      length-map born (λ (row : List ℕ). no_values c.dim),
      length-append c.rows (map (λ (row : List ℕ). Some row) born),
      length-map born (λ (row : List ℕ). Some row),
    );
    wide = wide;
    none = dead;
  }
    where
      wide : (d : ℕ) → d < length next.rows → length (get_or next.values d []) ≡ c.dim + 1
      wide d h = elim (cases_lt d (length rows)) [
        | inl under ↦ ap (λ (vs : List (Option Value)). length vs) (get_or_append_left c.values (map (λ (row : List ℕ). no_values c.dim) born) [] d (omega (arith, kept.places.long))) ∙ kept.places.wide d under
        | inr over ↦ ap (λ (vs : List (Option Value)). length vs) (new-place d (d - length rows) over refl
            (omega (arith, length-append c.rows (map (λ (row : List ℕ). Some row) born), length-map born (λ (row : List ℕ). Some row)))) ∙ length-replicate (c.dim + 1) None
      ]

      dead : (i d : ℕ) → (IsLive next.rows d → ⊥) → value_at next i d ≡ None
      dead i d gone = elim (cases_lt d (length rows)) [
        | inl under ↦ old-value i d under ∙ kept.places.none i d (λ live. gone (subst (λ (o : Option (List ℕ)). IsSome o) (sym (old-row d under)) live))
        | inr over ↦ new-value i d over
      ]

  pub kept-born : IsLawfulContent next
  kept-born = record {
    flat = kept.flat;
    sound = sound;
    begun = omega (arith, kept.begun, length-append c.rows (map (λ (row : List ℕ). Some row) born));
    lawful = told_of_laws c.kind (links_of next.rows) lawful;
    places = places;
    ruled = kept.ruled;
    equal = equal;
    none = none;
  }
