-- A change of links that is told leads to a content: rows with these links, and values that are carried.
use Rattle.std.proofs.Common.{◌≡◌, ◌⊎◌, ℕ, ◌+◌, ◌<◌, ◌≤◌, List, [], length, get_or, Option, Some, None, refl, sym, ◌∙◌, subst, inl, inr, arith}
use Rattle.std.proofs.lemmas.Bool.{cases_lt}
use Rattle.map_defs.specs.Links.{Links, HasDimension}
use Rattle.map_defs.specs.Rows.{Rows, made, IsLive, links_of}
use Rattle.map_defs.specs.Cells.{InCell}
use Rattle.map_defs.specs.Values.{Value, Rule, Hook, meaning_of}
use Rattle.map_defs.specs.Carry.{IsCarried, IsValuedWith, known}
use Rattle.machine_defs.specs.State.{Content, value_at, rule_at, HasPlaces}
use Rattle.machine_defs.specs.Kept.{IsLawfulContent}
use Rattle.machine_defs.specs.Relinking.{IsRelinked, AreCarriedBy}
use Rattle.edit_laws.proofs.RowWrites.{live-within}
use Rattle.value_laws.proofs.OfRows.{told_live}
use Rattle.answer_laws.specs.Answering.{NotNot}
use Rattle.answer_laws.proofs.Choosing.{either_way, told_below, choose}
use Rattle.answer_laws.proofs.Building.{AreBuilt, rows_found, ArePlaced, values_found}
use Rattle.answer_laws.proofs.CarriedFound.{carried_found}

-- the darts that live after a change of links
abbrev pub LivesAfter : Content → ℕ → (ℕ → Type 0) → ℕ → Type 0
LivesAfter c births Ended d = (IsLive c.rows d ⊎ ((made c.rows < d) × (d ≤ made c.rows + births))) × (Ended d → ⊥)

-- a value that is carried to a dart of these rows
CarriedTo : Hook → Content → Rows → ℕ → ℕ → Option Rule → Option Value → Type 0
CarriedTo hook c rows i d None v = v ≡ None
CarriedTo hook c rows i d (Some rule) v =
    IsCarried (meaning_of hook rule) (λ x. known (value_at c i x)) (λ x. IsLive c.rows x × IsLive rows x)
    (IsValuedWith c.kind i (links_of c.rows) (value_at c i)) (InCell c.kind (links_of rows) i) d v

-- a dart that does not live has no value
HasValue : Hook → Content → Rows → ℕ → ℕ → Option Value → Type 0
HasValue hook c rows i d v = (IsLive rows d → CarriedTo hook c rows i d (rule_at c i) v) × ((IsLive rows d → ⊥) → v ≡ None)

module _ (hook : Hook) (c : Content) (rows : Rows) where
  carried_to : (i d : ℕ) (rule : Option Rule) → NotNot ((v : Option Value) × CarriedTo hook c rows i d rule v)
  unfolding CarriedTo
  carried_to i d None = λ never. never (None, refl)
  carried_to i d (Some rule) =
      carried_found (meaning_of hook rule) (λ x. known (value_at c i x)) (λ x. IsLive c.rows x × IsLive rows x)
      (IsValuedWith c.kind i (links_of c.rows) (value_at c i)) (InCell c.kind (links_of rows) i)
      (length c.rows) (λ x h. live-within c.rows x h.0) d

  has_value : (i d : ℕ) → NotNot ((v : Option Value) × HasValue hook c rows i d v)
  unfolding HasValue
  has_value i d never = either_way (IsLive rows d) (λ told. elim told [
    | inl live ↦ carried_to i d (rule_at c i) (λ found. never (found.0, (λ h. found.1, λ dead. absurd (dead live))))
    | inr dead ↦ never (None, (λ h. absurd (dead h), λ h. refl))
  ])

  -- values for all darts and dimensions
  all_values : NotNot ((V : ℕ → ℕ → Option Value) × ((i d : ℕ) → i ≤ c.dim → d < length rows → HasValue hook c rows i d (V i d)))
  all_values never =
      choose (λ i (V : ℕ → Option Value). (d : ℕ) → d < length rows → HasValue hook c rows i d (V d)) (λ d. None) (c.dim + 1)
      (λ i l. choose (HasValue hook c rows i) None (length rows) (λ d m. has_value i d))
      (λ found. never (found.0, λ i d l m. found.1 i (omega arith) d m))

module _ (hook : Hook) (c : Content) (kept : IsLawfulContent c) (births : ℕ) (Ended : ℕ → Type 0) (Becomes : Links → Type 0) (N : Links)
    (becomes : Becomes N) (high : HasDimension c.dim N) (free : (i d : ℕ) → (LivesAfter c births Ended d → ⊥) → N i d ≡ 0) where
  bound : (d : ℕ) → LivesAfter c births Ended d → d < length c.rows + births
  bound d (inl live, stays) = let l = live-within c.rows d live in omega arith
  bound d (inr born, stays) = let l = born.1 in omega (arith, kept.begun)

  module _ (rows : Rows) (b : AreBuilt c.dim (length c.rows + births) (LivesAfter c births Ended) N rows) (V : ℕ → ℕ → Option Value)
      (has : (i d : ℕ) → i ≤ c.dim → d < length rows → HasValue hook c rows i d (V i d)) (values : List (List (Option Value))) (p : ArePlaced c.dim (length rows) V values) where
    next : Content
    next = record { kind = c.kind; dim = c.dim; rows = rows; values = values; rules = c.rules }

    within : (d : ℕ) → IsLive rows d → d < length rows
    within d live = live-within rows d live

    value-dead : (i d : ℕ) → (IsLive rows d → ⊥) → get_or (get_or values d []) i None ≡ None
    unfolding HasValue
    value-dead i d dead = elim (cases_lt c.dim i) [
      | inl above ↦ p.beyond i d (λ l m. omega arith)
      | inr low ↦ elim (cases_lt d (length rows)) [
        | inl inside ↦ p.there i d low inside ∙ (has i d low inside).1 dead
        | inr past ↦ p.beyond i d (λ l m. omega arith)
      ]
    ]

    places : HasPlaces next
    unfolding next
    places = record { long = p.long; wide = p.wide; none = value-dead }

    carried : (i : ℕ) → i ≤ c.dim → (rule : Option Rule) → ((d : ℕ) → IsLive rows d → CarriedTo hook c rows i d rule (get_or (get_or values d []) i None)) → AreCarriedBy hook c next i rule
    unfolding next CarriedTo
    carried i low None all = λ d. elim (told_live rows d) [ inl live ↦ all d live | inr dead ↦ value-dead i d dead ]
    carried i low (Some rule) all = λ d live. all d live

    at : (i d : ℕ) → i ≤ c.dim → IsLive rows d → CarriedTo hook c rows i d (rule_at c i) (get_or (get_or values d []) i None)
    unfolding HasValue
    at i d low live = subst (λ (v : Option Value). CarriedTo hook c rows i d (rule_at c i) v) (sym (p.there i d low (within d live))) ((has i d low (within d live)).0 live)

    same : links_of rows ≡ N
    same = λ at i d. b.links i d at

    relinked : IsRelinked hook c births Ended Becomes next
    unfolding next
    relinked = record {
      kind = refl;
      dim = refl;
      long = b.long;
      live = b.live;
      wide = b.wide;
      links = subst Becomes (sym same) becomes;
      rules = refl;
      places = places;
      values = λ i low. carried i low (rule_at c i) (λ d live. at i d low live);
    }

  pub relinked_found : NotNot ((after : Content) × IsRelinked hook c births Ended Becomes after)
  relinked_found never =
      told_below (LivesAfter c births Ended) (length c.rows + births) bound (λ told.
      let found = rows_found c.dim (length c.rows + births) (LivesAfter c births Ended) told bound N high free in
      all_values hook c found.0 (λ chosen.
      let placed = values_found c.dim (length found.0) chosen.0 in
      never (next found.0 found.1 chosen.0 chosen.1 placed.0 placed.1, relinked found.0 found.1 chosen.0 chosen.1 placed.0 placed.1)))
