-- A dart without links ends: the cells of the others stay.
use Rattle.std.proofs.Common.{◌≡◌, ◌≢◌, ℕ, ◌+◌, ◌<◌, List, [], length, get_or, slice_set, Option, Some, None, IsSome, refl, sym, ap, ◌∙◌, subst, inl, inr, arith}
use Rattle.std.proofs.lemmas.List.{length-set, get_or-set_same, get_or-set_other, length-replicate}
use Rattle.map_defs.specs.Kind.{Kind}
use Rattle.map_defs.specs.Links.{Links}
use Rattle.map_defs.specs.Laws.{Laws}
use Rattle.map_defs.specs.Rows.{IsLive, links_of, IsSound}
use Rattle.map_defs.specs.LinkWords.{through_second}
use Rattle.map_defs.specs.Cells.{here, onward, InCell}
use Rattle.map_defs.specs.Values.{Value}
use Rattle.map_defs.specs.Carry.{AreEqualOnCells}
use Rattle.machine_defs.specs.State.{Content, without_dart, no_values, value_at, rule_at, HasPlaces}
use Rattle.machine_defs.specs.Kept.{IsLawfulContent}
use Rattle.link_laws.proofs.Basics.{same_or_not}
use Rattle.link_laws.proofs.Told.{told_of_laws}
use Rattle.link_laws.proofs.CellFacts.{cell_back}
use Rattle.edit_laws.proofs.RowWrites.{live-within, none-links}
use Rattle.edit_laws.proofs.KeptLaws.{laws-same}
use Rattle.machine_laws.proofs.Keeping.{laws-of}
use Rattle.machine_laws.proofs.Born.{no-value}

-- links that are the same have the same cells
same-cell : (k : Kind) (L N : Links) → ((t x : ℕ) → N t x ≡ L t x) → (i x y : ℕ) → InCell k N i x y → InCell k L i x y
same-cell k L N same i x y here = here
same-cell k L N same i x y (onward {x = z} {y = y'} o step) =
    onward (same-cell k L N same i x z o) (step.0, step.1, sym (through step.0.second) ∙ step.2, step.3)
  where
    through : (s : Option ℕ) → through_second N s (N step.0.first z) ≡ through_second L s (L step.0.first z)
    through None = same step.0.first z
    through (Some j) = ap (N j) (same step.0.first z) ∙ same j (L step.0.first z)

free_through : (L : Links) → ((t : ℕ) → L t 0 ≡ 0) → (s : Option ℕ) (x : ℕ) → x ≡ 0 → through_second L s x ≡ 0
free_through L nil None x none = none
free_through L nil (Some j) x none = ap (L j) none ∙ nil j

-- a dart without links is alone in its cells
pub alone-cell : (k : Kind) (L : Links) (nil : (t : ℕ) → L t 0 ≡ 0) (i d x : ℕ) → ((t : ℕ) → L t d ≡ 0) → InCell k L i d x → x ≡ d
alone-cell k L nil i d x alone here = refl
alone-cell k L nil i d x alone (onward {x = z} {y = y'} o step) =
    let at : L step.0.first z ≡ 0 = ap (L step.0.first) (alone-cell k L nil i d z alone o) ∙ alone step.0.first in
    absurd (step.3 (sym step.2 ∙ free_through L nil step.0.second (L step.0.first z) at))

-- a content without a dart that has no links
module _ (c : Content) (kept : IsLawfulContent c) (d : ℕ) (live : IsLive c.rows d) (alone : (t : ℕ) → links_of c.rows t d ≡ 0) where
  abbrev next : Content
  next = without_dart c d

  within : d < length c.rows
  within = live-within c.rows d live

  gone : IsLive next.rows d → ⊥
  gone lives = let none : get_or (slice_set c.rows d None) d None ≡ (let n : Option (List ℕ) = None in n) = get_or-set_same c.rows d None None within in cc (subst (λ (o : Option (List ℕ)). IsSome o) none lives)

  same-row : (x : ℕ) → x ≢ d → get_or next.rows x None ≡ get_or c.rows x None
  same-row x other = get_or-set_other c.rows d x None None other

  pub lived : (x : ℕ) → IsLive next.rows x → IsLive c.rows x
  lived x lives = subst (λ (o : Option (List ℕ)). IsSome o) (same-row x (λ e. gone (subst (IsLive next.rows) e lives))) lives

  same-link : (t x : ℕ) → links_of next.rows t x ≡ links_of c.rows t x
  same-link = none-links c.rows d alone

  lawful : Laws c.kind (links_of next.rows)
  lawful = laws-same c.kind (links_of c.rows) (links_of next.rows) same-link (laws-of c kept)

  pub same-value : (i x : ℕ) → x ≢ d → value_at next i x ≡ value_at c i x
  same-value i x other = ap (λ (vs : List (Option Value)). get_or vs i None) (get_or-set_other c.values d x (no_values c.dim) [] other)

  pub its-value : (i : ℕ) → value_at next i d ≡ None
  its-value i = ap (λ (vs : List (Option Value)). get_or vs i None) (get_or-set_same c.values d (no_values c.dim) [] (omega (arith, within, kept.places.long))) ∙ no-value (c.dim + 1) i

  equal : (i : ℕ) → AreEqualOnCells c.kind i (links_of next.rows) (IsLive next.rows) (value_at next i)
  equal i x y lives cell =
      let was : InCell c.kind (links_of c.rows) i x y = same-cell c.kind (links_of c.rows) (links_of next.rows) same-link i x y cell in
      let other : x ≢ d = λ e. gone (subst (IsLive next.rows) e lives) in
      let apart : y ≢ d = λ e. other (alone-cell c.kind (links_of c.rows) (laws-of c kept).nil i d x alone (cell_back c.kind (links_of c.rows) (laws-of c kept) i x d (subst (InCell c.kind (links_of c.rows) i x) e was))) in
      same-value i x other ∙ kept.equal i x y (subst (λ (o : Option (List ℕ)). IsSome o) (same-row x other) lives) was ∙ sym (same-value i y apart)

  none : (i x : ℕ) → rule_at next i ≡ None → value_at next i x ≡ None
  none i x is = elim (same_or_not x d) [ inl e ↦ ap (value_at next i) e ∙ its-value i | inr other ↦ same-value i x other ∙ kept.none i x is ]

  places : HasPlaces next
  places = record {
    long = length-set c.values d (no_values c.dim) ∙ kept.places.long ∙ sym (length-set c.rows d None);
    wide = wide;
    none = dead;
  }
    where
      wide : (x : ℕ) → x < length next.rows → length (get_or next.values x []) ≡ c.dim + 1
      wide x h = elim (same_or_not x d) [
        | inl e ↦ ap (λ (m : ℕ). length (get_or next.values m [])) e ∙ ap (λ (vs : List (Option Value)). length vs) (get_or-set_same c.values d (no_values c.dim) [] (omega (arith, within, kept.places.long))) ∙ length-replicate (c.dim + 1) None
        | inr other ↦ ap (λ (vs : List (Option Value)). length vs) (get_or-set_other c.values d x (no_values c.dim) [] other) ∙ kept.places.wide x (omega (arith, length-set c.rows d None))
      ]

      dead : (i x : ℕ) → (IsLive next.rows x → ⊥) → value_at next i x ≡ None
      dead i x out = elim (same_or_not x d) [
        | inl e ↦ ap (value_at next i) e ∙ its-value i
        | inr other ↦ same-value i x other ∙ kept.places.none i x (λ lives. out (subst (λ (o : Option (List ℕ)). IsSome o) (sym (same-row x other)) lives))
      ]

  pub kept-ended : IsSound c.kind c.dim next.rows → IsLawfulContent next
  kept-ended sound = record {
    flat = kept.flat;
    sound = sound;
    begun = omega (arith, kept.begun, length-set c.rows d None);
    lawful = told_of_laws c.kind (links_of next.rows) lawful;
    places = places;
    ruled = kept.ruled;
    equal = equal;
    none = none;
  }
