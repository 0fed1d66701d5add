-- A line that ends no dart keeps the total of a dimension under the rule `sum share`.
use Rattle.std.proofs.Common.{◌≡◌, ℕ, ◌≤◌, List, Option, Some, None, IsSome, sym, ap, ◌∙◌, subst, inl, inr, arith}
use Rattle.std.proofs.lemmas.Bool.{cases_lt}
use Rattle.std.proofs.lemmas.List.{get_or_past}
use Rattle.map_defs.specs.Kind.{Kind}
use Rattle.map_defs.specs.Laws.{Laws}
use Rattle.map_defs.specs.Rows.{IsLive, links_of}
use Rattle.map_defs.specs.Values.{Hook, Rule, Sum, Share}
use Rattle.map_defs.specs.Carry.{AreCarried}
use Rattle.map_defs.specs.Totals.{ListsValuedCells, sum_share}
use Rattle.machine_defs.specs.State.{Content, value_at, rule_at, HasPlaces}
use Rattle.machine_defs.specs.Kept.{IsLawfulContent}
use Rattle.machine_defs.specs.Relinking.{AreCarriedBy}
use Rattle.machine_defs.specs.Listing.{ListValue, ListsValues, listed_total}
use Rattle.link_laws.proofs.RowFacts.{rows_lead_to_live}
use Rattle.value_laws.proofs.OfRows.{told_live}
use Rattle.value_laws.proofs.Touching.{cell_live}
use Rattle.value_laws.proofs.Totalling.{total_stays}
use Rattle.machine_laws.proofs.Keeping.{laws-of}
use Rattle.machine_laws.proofs.ValueLists.{one-listing}
use Rattle.machine_laws.proofs.ListedTotals.{cells_at, listed_is, listed_cells}
use Rattle.machine_laws.proofs.BornValues.{born-listed}
use Rattle.total_laws.specs.Totals.{IsSumShare, SumsStayWithin}
use Rattle.total_laws.proofs.Leading.{IsBehind, same, born, Leads, behind, carried}

-- a dart with a value lives
valued-live : (c : Content) → HasPlaces c → (i d : ℕ) → IsSome (value_at c i d) → IsLive c.rows d
valued-live c places i d some = elim (told_live c.rows d) [
  | inl live ↦ live
  | inr dead ↦ absurd (let none = places.none i d dead in let held : IsSome (value_at c i d) = some in cc)
]

-- a dimension with a rule is one of the map's
ruled-within : (c : Content) → IsLawfulContent c → (i : ℕ) → IsSumShare c i → i ≤ c.dim
ruled-within c kept i rule = elim (cases_lt c.dim i) [
  | inl above ↦ absurd (let none = get_or_past c.rules i None (omega (arith, kept.ruled)) in let some : rule_at c i ≡ Some (record { merge = Sum; split = Share }) = rule in cc)
  | inr within ↦ within
]

-- darts that are born behind the old ones change no value
pub behind-listed : (c next : Content) → IsLawfulContent c → IsLawfulContent next → IsBehind c next → (values others : List ListValue)
    → ListsValues c values → ListsValues next others → values ≡ others
behind-listed c next kept after (same e) values others lists lists' =
    one-listing c values others lists (subst (λ (m : Content). ListsValues m others) e lists')
behind-listed c next kept after (born rows e) values others lists lists' =
    born-listed c kept rows (subst IsLawfulContent e after) values others lists (subst (λ (m : Content). ListsValues m others) e lists')

module _ (hook : Hook) (i : ℕ) (c next : Content) (kept : IsLawfulContent c) (after : IsLawfulContent next) (rule : IsSumShare c i)
    (within : SumsStayWithin hook i c next) where
  carried-listed : next.kind ≡ c.kind → ((d : ℕ) → IsLive c.rows d → IsLive next.rows d)
      → AreCarried c.kind i (sum_share hook) (links_of c.rows) (IsLive c.rows) (value_at c i) (links_of next.rows) (IsLive next.rows) (value_at next i)
      → (values others : List ListValue) → ListsValues c values → ListsValues next others → listed_total i values ≡ listed_total i others
  carried-listed kind live carries values others lists lists' =
      listed_is c i values lists
      ∙ (total_stays c.kind i hook (links_of c.rows) (links_of next.rows) (IsLive c.rows) (IsLive next.rows) w w'
      (λ x y l h. cell_live c.kind (IsLive c.rows) (links_of c.rows) (links_of c.rows) w w (IsLive c.rows) (rows_lead_to_live c.kind c.rows w) i x l h)
      (λ x y l h. cell_live c.kind (IsLive c.rows) (links_of c.rows) (links_of next.rows) w w' (IsLive next.rows) (rows_lead_to_live c.kind next.rows w') i x l h)
      live (value_at c i) (value_at next i) (kept.equal i) carries within (cells_at i values) (cells_at i others)
      (listed_cells c i values lists (valued-live c kept.places i))
      (subst (λ (k : Kind). ListsValuedCells k i (links_of next.rows) (IsLive next.rows) (value_at next i) (cells_at i others)) kind
      (listed_cells next i others lists' (valued-live next after.places i)))
      ∙ sym (listed_is next i others lists'))
    where
      w : Laws c.kind (links_of c.rows)
      w = laws-of c kept

      w' : Laws c.kind (links_of next.rows)
      w' = subst (λ (k : Kind). Laws k (links_of next.rows)) kind (laws-of next after)

  pub listed-stays : Leads hook c next → (values others : List ListValue) → ListsValues c values → ListsValues next others
      → listed_total i values ≡ listed_total i others
  listed-stays (behind b) values others lists lists' = ap (listed_total i) (behind-listed c next kept after b values others lists lists')
  listed-stays (carried kind rules live by_rule) values others lists lists' =
      carried-listed kind live (subst (λ (r : Option Rule). AreCarriedBy hook c next i r) rule (by_rule i (ruled-within c kept i rule))) values others lists lists'
