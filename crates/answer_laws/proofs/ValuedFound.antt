-- A cell of a live dart is given a value, or its value is taken.
use Rattle.std.proofs.Common.{◌≡◌, ℕ, ◌+◌, ◌<◌, ◌≤◌, List, length, Option, None, refl, sym, ◌∙◌, inl, inr, arith}
use Rattle.std.proofs.lemmas.Bool.{cases_lt}
use Rattle.map_defs.specs.Rows.{IsLive, links_of}
use Rattle.map_defs.specs.Cells.{InCell}
use Rattle.map_defs.specs.Values.{Value}
use Rattle.machine_defs.specs.State.{Content, value_at, HasPlaces}
use Rattle.machine_defs.specs.Valuing.{IsValued}
use Rattle.machine_defs.specs.Kept.{IsLawfulContent}
use Rattle.link_laws.proofs.RowFacts.{rows_lead_to_live}
use Rattle.edit_laws.proofs.RowWrites.{live-within}
use Rattle.value_laws.proofs.Touching.{cell_live}
use Rattle.journal_laws.proofs.ContentFacts.{value-above}
use Rattle.machine_laws.proofs.Keeping.{laws-of}
use Rattle.answer_laws.specs.Answering.{NotNot}
use Rattle.answer_laws.proofs.Choosing.{either_way, choose}
use Rattle.answer_laws.proofs.Building.{ArePlaced, values_found}
use Rattle.answer_laws.proofs.DifferenceFound.{past-value}

module _ (c : Content) (kept : IsLawfulContent c) (i d : ℕ) (within : i ≤ c.dim) (live : IsLive c.rows d) (value : Option Value) where
  abbrev Cell : ℕ → Type 0
  Cell = InCell c.kind (links_of c.rows) i d

  in-live : (x : ℕ) → Cell x → IsLive c.rows x
  in-live x h = let w = laws-of c kept in cell_live c.kind (IsLive c.rows) (links_of c.rows) (links_of c.rows) w w (IsLive c.rows) (rows_lead_to_live c.kind c.rows w) i d live h

  Given : ℕ → ℕ → Option Value → Type 0
  Given j x v = (j ≡ i → Cell x → v ≡ value) × ((j ≡ i → Cell x → ⊥) → v ≡ value_at c j x)

  given_some : (j x : ℕ) → NotNot ((v : Option Value) × Given j x v)
  unfolding Given
  given_some j x never = either_way ((j ≡ i) × Cell x) (λ told. elim told [
    | inl h ↦ never (value, (λ e cell. refl, λ none. absurd (none h.0 h.1)))
    | inr n ↦ never (value_at c j x, (λ e cell. absurd (n (e, cell)), λ none. refl))
  ])

  module _ (V : ℕ → ℕ → Option Value) (good : (j : ℕ) → j < c.dim + 1 → (x : ℕ) → x < length c.rows → Given j x (V j x))
      (values : List (List (Option Value))) (p : ArePlaced c.dim (length c.rows) V values) where
    next : Content
    next = record c { values = values }

    given : (x : ℕ) → Cell x → value_at next i x ≡ value
    unfolding next Given
    given x h = let l = live-within c.rows x (in-live x h) in p.there i x within l ∙ (good i (omega arith) x l).0 refl h

    stays : (j x : ℕ) → (j ≡ i → Cell x → ⊥) → value_at next j x ≡ value_at c j x
    unfolding next Given
    stays j x out = elim (cases_lt c.dim j) [
      | inl above ↦ p.beyond j x (λ l m. omega arith) ∙ sym (value-above c kept.places j x above)
      | inr low ↦ elim (cases_lt x (length c.rows)) [
        | inl inside ↦ p.there j x low inside ∙ (good j (omega arith) x inside).1 out
        | inr past ↦ p.beyond j x (λ l m. omega arith) ∙ sym (past-value c kept.places j x past)
      ]
    ]

    places : HasPlaces next
    unfolding next
    places = record { long = p.long; wide = p.wide; none = λ j x dead. stays j x (λ e h. dead (in-live x h)) ∙ kept.places.none j x dead }

    valued : IsValued c i d value next
    unfolding next
    valued = record { kind = refl; dim = refl; rows = refl; rules = refl; places = places; given = given; kept = stays }

  pub valued_found : NotNot ((after : Content) × IsValued c i d value after)
  valued_found never =
      choose (λ j (V : ℕ → Option Value). (x : ℕ) → x < length c.rows → Given j x (V x)) (λ x. None) (c.dim + 1)
      (λ j l. choose (Given j) None (length c.rows) (λ x m. given_some j x)) (λ found.
      let placed = values_found c.dim (length c.rows) found.0 in
      never (next found.0 found.1 placed.0 placed.1, valued found.0 found.1 placed.0 placed.1))
