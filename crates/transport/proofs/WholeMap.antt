-- The values over the whole map, where those of the groups are put at their cells and all others stay.
use Rattle.std.proofs.Common.{◌≡◌, ◌⊎◌, inl, inr, ℕ, ◌<◌, List, length, Option, Some, IsSome, Contains, refl, sym, ◌∙◌, ap, subst}
use Rattle.map_defs.specs.Kind.{Kind}
use Rattle.map_defs.specs.Rows.{Rows, links_of, IsLive, IsSound}
use Rattle.map_defs.specs.Cells.{InCell}
use Rattle.map_defs.specs.Values.{Value, Rule, Hook, meaning_of}
use Rattle.map_defs.specs.Touched.{IsAlike}
use Rattle.map_defs.specs.Carry.{IsCarried, AreCarriedByLabel}
use Rattle.store_defs.specs.Stores.{Store}
use Rattle.store_defs.specs.Groups.{Group, group_at, rule_at, labelled_value, known_value, AreTouchedCells, HasCarriedValue}
use Rattle.transport.proofs.Finding.{sound_classes}
use Rattle.transport.proofs.Gathering.{told_eq}
use Rattle.transport.proofs.CarryFacts.{told_in, find_below}
use Rattle.transport.proofs.OtherCells.{carried_lived}

module _ (k : Kind) (n : ℕ) (rows : Rows) (sound : IsSound k n rows) (label : ℕ → ℕ → Option ℕ) (pool : Store) (hook : Hook) (rules : List (Option Rule)) (touched : ℕ → List ℕ) (groups : List Group)
    (cells : AreTouchedCells k (links_of rows) rules touched groups)
    (values : (m : ℕ) → m < length groups → HasCarriedValue k (links_of rows) (IsLive rows) label pool hook rules (group_at groups m))
    (i : ℕ) (rule : Rule) (ruled : rule_at rules i ≡ Some rule)
    (others : (d : ℕ) → IsLive rows d → ((x : ℕ) → InCell k (links_of rows) i d x → Contains (touched i) x → ⊥)
    → IsCarried (meaning_of hook rule) (known_value pool (label i)) (IsLive rows) (IsAlike (label i)) (InCell k (links_of rows) i) d (labelled_value pool (label i d))) where
  abbrev Holds : ℕ → ℕ → Type 0
  Holds d m = ((group_at groups m).dim ≡ i) × Contains (group_at groups m).darts d

  told_holds : (d m : ℕ) → Holds d m ⊎ (Holds d m → ⊥)
  told_holds d m = elim (told_eq (group_at groups m).dim i) [
    | inl p ↦ elim (told_in (group_at groups m).darts d) [ inl c ↦ inl (p.0, c) | inr c ↦ inr (λ h. c h.1) ]
    | inr p ↦ inr (λ h. p.0 h.0)
  ]

  -- a cell that no group holds has no touched dart
  untouched : (d : ℕ) → ((m : ℕ) → m < length groups → Holds d m → ⊥) → (x : ℕ) → InCell k (links_of rows) i d x → Contains (touched i) x → ⊥
  untouched d none x s t =
      let q = cells.all i x (subst IsSome (sym ruled) refl) t in
      let back : InCell k (links_of rows) (group_at groups q.0).dim x d = subst (λ j. InCell k (links_of rows) j x d) (sym q.2) ((sound_classes k n i rows sound).turn d x s) in
      none q.0 q.1 (q.2, ((cells.cells q.0 q.1).whole x d q.3).1 back)

  -- the value of a group, carried from the darts that lived
  group_value : (d m : ℕ) → m < length groups → Holds d m → IsCarried (meaning_of hook rule) (known_value pool (label i)) (IsLive rows) (IsAlike (label i)) (InCell k (links_of rows) i) d (group_at groups m).value
  group_value d m h (e, c) =
      subst (λ j. IsCarried (meaning_of hook rule) (known_value pool (label j)) (IsLive rows) (IsAlike (label j)) (InCell k (links_of rows) j) d (group_at groups m).value) e
      (values m h rule d (ap (rule_at rules) e ∙ ruled) c)

  -- Before says which darts lived before the change: each live dart with a label did.
  pub whole_map : (Before : ℕ → Type 0) (after : ℕ → Option Value) → ((x c : ℕ) → IsLive rows x → label i x ≡ Some c → Before x)
      → ((m d : ℕ) → m < length groups → (group_at groups m).dim ≡ i → Contains (group_at groups m).darts d → after d ≡ (group_at groups m).value)
      → ((d : ℕ) → IsLive rows d → ((m : ℕ) → m < length groups → (group_at groups m).dim ≡ i → Contains (group_at groups m).darts d → ⊥) → after d ≡ labelled_value pool (label i d))
      → AreCarriedByLabel k i (meaning_of hook rule) Before (label i) (known_value pool (label i)) (links_of rows) (IsLive rows) after
  whole_map Before after lived given kept d live = go (find_below (Holds d) (told_holds d) (length groups))
    where
      both : (r : Option Value) → IsCarried (meaning_of hook rule) (known_value pool (label i)) (IsLive rows) (IsAlike (label i)) (InCell k (links_of rows) i) d r
          → IsCarried (meaning_of hook rule) (known_value pool (label i)) (λ x. Before x × IsLive rows x) (IsAlike (label i)) (InCell k (links_of rows) i) d r
      both r c = carried_lived (meaning_of hook rule) (known_value pool (label i)) Before (IsLive rows) (IsAlike (label i)) (InCell k (links_of rows) i) (λ m x a o. lived x o.0 a o.2) d r c

      go : ((m : ℕ) × (m < length groups) × Holds d m) ⊎ ((m : ℕ) → m < length groups → Holds d m → ⊥)
          → IsCarried (meaning_of hook rule) (known_value pool (label i)) (λ x. Before x × IsLive rows x) (IsAlike (label i)) (InCell k (links_of rows) i) d (after d)
      go (inl (m, h, p)) =
          subst (λ r. IsCarried (meaning_of hook rule) (known_value pool (label i)) (λ x. Before x × IsLive rows x) (IsAlike (label i)) (InCell k (links_of rows) i) d r) (sym (given m d h p.0 p.1))
          (both (group_at groups m).value (group_value d m h p))
      go (inr none) =
          subst (λ r. IsCarried (meaning_of hook rule) (known_value pool (label i)) (λ x. Before x × IsLive rows x) (IsAlike (label i)) (InCell k (links_of rows) i) d r) (sym (kept d live (λ m h e c. none m h (e, c))))
          (both (labelled_value pool (label i d)) (others d live (untouched d none)))
