-- Rows with given links, and values in their places.
use Rattle.std.proofs.Common.{◌≡◌, ◌⊎◌, ◌↔◌, ℕ, ◌+◌, ◌<◌, ◌≤◌, List, [], length, get_or, map, Option, Some, None, IsSome, refl, sym, ap, ◌∙◌, subst, inl, inr, arith}
use Rattle.std.specs.List.{range_with_len}
use Rattle.std.proofs.lemmas.Bool.{cases_lt}
use Rattle.std.proofs.lemmas.List.{get_or_past}
use Rattle.std.proofs.lemmas.List.FromFn.{get_or-map-range_with_len, length-map-range_with_len}
use Rattle.map_defs.specs.Links.{Links, HasDimension}
use Rattle.map_defs.specs.Rows.{Rows, row_at, IsLive, links_of, entry_of, AreWide}
use Rattle.map_defs.specs.Values.{Value}

-- the rows have this length, these live darts and these links
pub record AreBuilt (dim top : ℕ) (Live : ℕ → Type 0) (N : Links) (rows : Rows) : Type 0 where
  pub long : length rows ≡ top
  pub live : (d : ℕ) → IsLive rows d ↔ Live d
  pub wide : AreWide dim rows
  pub links : (i d : ℕ) → links_of rows i d ≡ N i d

module _ (dim top : ℕ) (Live : ℕ → Type 0) (told : (d : ℕ) → Live d ⊎ (Live d → ⊥)) (bound : (d : ℕ) → Live d → d < top)
    (N : Links) (high : HasDimension dim N) (free : (i d : ℕ) → (Live d → ⊥) → N i d ≡ 0) where
  entries : ℕ → List ℕ
  entries d = map (λ i. N i d) (range_with_len 0 (dim + 1))

  row_for : (d : ℕ) → Live d ⊎ (Live d → ⊥) → Option (List ℕ)
  row_for d (inl live) = Some (entries d)
  row_for d (inr dead) = None

  rows : Rows
  rows = map (λ d. row_for d (told d)) (range_with_len 0 top)

  long : length rows ≡ top
  unfolding rows
  long = length-map-range_with_len (λ d. row_for d (told d)) 0 top

  row-within : (d : ℕ) → d < top → row_at rows d ≡ row_for d (told d)
  unfolding rows
  row-within d l = get_or-map-range_with_len (λ e. row_for e (told e)) 0 top d d None l (omega arith)

  row-beyond : (d : ℕ) → top ≤ d → row_at rows d ≡ None
  row-beyond d l = get_or_past rows d None (omega (arith, long))

  none-dead : (o : Option (List ℕ)) → o ≡ None → IsSome o → ⊥
  none-dead None e h = cc (h)
  none-dead (Some row) e h = cc (e)

  live-row : (d : ℕ) (c : Live d ⊎ (Live d → ⊥)) → IsSome (row_for d c) ↔ Live d
  unfolding row_for
  live-row d (inl live) = (λ h. live, λ h. refl)
  live-row d (inr dead) = (λ h. absurd (none-dead None refl h), λ h. absurd (dead h))

  live : (d : ℕ) → IsLive rows d ↔ Live d
  live d = elim (cases_lt d top) [
    | inl within ↦ let same = live-row d (told d) in
        (λ h. same.0 (subst (λ (o : Option (List ℕ)). IsSome o) (row-within d within) h), λ h. subst (λ (o : Option (List ℕ)). IsSome o) (sym (row-within d within)) (same.1 h))
    | inr beyond ↦ (λ h. absurd (none-dead (row_at rows d) (row-beyond d beyond) h), λ h. absurd (let l = bound d h in omega arith))
  ]

  row-wide : (d : ℕ) (c : Live d ⊎ (Live d → ⊥)) (row : List ℕ) → row_for d c ≡ Some row → length row ≡ dim + 1
  unfolding row_for entries
  row-wide d (inl live) row e = let same : entries d ≡ row = cc (e) in ap (λ (r : List ℕ). length r) (sym same) ∙ length-map-range_with_len (λ i. N i d) 0 (dim + 1)
  row-wide d (inr dead) row e = absurd (cc (e))

  wide : AreWide dim rows
  wide d row e = elim (cases_lt d top) [
    | inl within ↦ row-wide d (told d) row (sym (row-within d within) ∙ e)
    | inr beyond ↦ absurd (let none = row-beyond d beyond in cc)
  ]

  entry : (i d : ℕ) (c : Live d ⊎ (Live d → ⊥)) → entry_of (row_for d c) i ≡ N i d
  unfolding row_for entries
  entry i d (inl live) = elim (cases_lt dim i) [
    | inl above ↦ get_or_past (entries d) i 0 (let l = length-map-range_with_len (λ j. N j d) 0 (dim + 1) in omega arith) ∙ sym (high i d above)
    | inr within ↦ get_or-map-range_with_len (λ j. N j d) 0 (dim + 1) i i 0 (omega arith) (omega arith)
  ]
  entry i d (inr dead) = sym (free i d dead)

  links : (i d : ℕ) → links_of rows i d ≡ N i d
  links i d = elim (cases_lt d top) [
    | inl within ↦ ap (λ (o : Option (List ℕ)). entry_of o i) (row-within d within) ∙ entry i d (told d)
    | inr beyond ↦ ap (λ (o : Option (List ℕ)). entry_of o i) (row-beyond d beyond) ∙ sym (free i d (λ h. let l = bound d h in omega arith))
  ]

  pub rows_found : (built : Rows) × AreBuilt dim top Live N built
  rows_found = (rows, record { long = long; live = live; wide = wide; links = links })

-- each value stands in its place
pub record ArePlaced (dim top : ℕ) (V : ℕ → ℕ → Option Value) (values : List (List (Option Value))) : Type 0 where
  pub long : length values ≡ top
  pub wide : (d : ℕ) → d < top → length (get_or values d []) ≡ dim + 1
  pub there : (i d : ℕ) → i ≤ dim → d < top → get_or (get_or values d []) i None ≡ V i d
  pub beyond : (i d : ℕ) → (i ≤ dim → d < top → ⊥) → get_or (get_or values d []) i None ≡ None

module _ (dim top : ℕ) (V : ℕ → ℕ → Option Value) where
  values_of : ℕ → List (Option Value)
  values_of d = map (λ i. V i d) (range_with_len 0 (dim + 1))

  place : List (List (Option Value))
  place = map values_of (range_with_len 0 top)

  at : (d : ℕ) → d < top → get_or place d [] ≡ values_of d
  unfolding place
  at d l = get_or-map-range_with_len values_of 0 top d d [] l (omega arith)

  wide_at : (d : ℕ) → length (values_of d) ≡ dim + 1
  unfolding values_of
  wide_at d = length-map-range_with_len (λ i. V i d) 0 (dim + 1)

  value_in : (i d : ℕ) → i ≤ dim → get_or (values_of d) i None ≡ V i d
  unfolding values_of
  value_in i d l = get_or-map-range_with_len (λ j. V j d) 0 (dim + 1) i i None (omega arith) (omega arith)

  long_place : length place ≡ top
  unfolding place
  long_place = length-map-range_with_len values_of 0 top

  beyond_at : (i d : ℕ) → (i ≤ dim → d < top → ⊥) → get_or (get_or place d []) i None ≡ None
  beyond_at i d out = elim (cases_lt d top) [
    | inl within ↦ ap (λ (vs : List (Option Value)). get_or vs i None) (at d within) ∙ get_or_past (values_of d) i None (above within)
    | inr beyond ↦ ap (λ (vs : List (Option Value)). get_or vs i None) (get_or_past place d [] (omega (arith, long_place)))
  ]
    where
      above : d < top → length (values_of d) ≤ i
      above within = elim (cases_lt dim i) [ inl l ↦ omega (arith, wide_at d) | inr l ↦ absurd (out l within) ]

  pub values_found : (values : List (List (Option Value))) × ArePlaced dim top V values
  values_found = (
    place,
    record {
      long = long_place;
      wide = λ d l. ap (λ (vs : List (Option Value)). length vs) (at d l) ∙ wide_at d;
      there = λ i d l m. ap (λ (vs : List (Option Value)). get_or vs i None) (at d m) ∙ value_in i d l;
      beyond = beyond_at;
    },
  )
