-- What a change of one cell's value or of one dimension's rule makes of a map with values, and the step that is told.
use Rattle.std.proofs.Common.{◌≡◌, ◌≢◌, ℕ, ◌≤◌, ◌↔◌, Bool, false, IsTrue, List, [], length, slice_set, Option, Some, None, refl, sym, ap, ◌∙◌, subst, inl, inr, arith, Contains}
use Rattle.std.proofs.lemmas.Bool.{cases_eq}
use Rattle.std.proofs.lemmas.List.{get_or-set_same, get_or-set_other}
use Rattle.map_defs.specs.Kind.{Kind}
use Rattle.map_defs.specs.Rows.{Rows, IsLive, links_of, made}
use Rattle.map_defs.specs.Cells.{InCell}
use Rattle.map_defs.specs.Values.{Value, Rule}
use Rattle.map_defs.specs.Edits.{Edit}
use Rattle.machine_defs.specs.State.{Content, value_at, rule_at as rule_in}
use Rattle.machine_defs.specs.Kept.{IsLawfulContent}
use Rattle.machine_defs.specs.Valuing.{IsValued}
use Rattle.machine_defs.specs.Machine.{with_rule}
use Rattle.machine_defs.specs.Difference.{Difference, ValueChange, RuleChange, IsDifference, IsValueBefore, IsRuleBefore}
use Rattle.machine_laws.proofs.Followed.{stays-follows}
use Rattle.store_defs.specs.Stores.{Store}
use Rattle.store_defs.specs.Labelings.{Labeling, KeepsIds, HasPlaces as HasIdPlaces}
use Rattle.journal_laws.specs.Following.{Follows}
use Rattle.journal_laws.specs.Ordering.{IsRowsDifference}
use Rattle.label_laws.specs.Stored.{stored_value}
use Rattle.label_laws.specs.Contents.{content_of, all_rules}
use Rattle.label_laws.specs.Maps.{IsStoredMap}
use Rattle.label_laws.proofs.Showing.{value-shown, kept-shown, rule-shown, rules-long}
use Rattle.label_laws.proofs.Same.{stored_value-alike}
use Rattle.label_laws.proofs.LineSteps.{made_rules, ruled-stored, ruled-content}
use Rattle.valued_map.specs.Told.{IsStep, IsBegun, IsSorted, finished, step_of, AreOldValues, AreNewValues, IsOneRule}
use Rattle.valued_map.proofs.Parts.{parts-differ, no-values-differ, no-rules-differ, none-ordered, told-finished}
use Rattle.valued_map.proofs.SortedEdit.{sorted-nothing}
use Rattle.valued_map.proofs.ListedValues.{olds-differ}

abbrev pub empty_edit : Edit
empty_edit = record { births = 0; deaths = []; changes = [] }

-- the rows stay
rows-stay : (a b : Content) → IsLawfulContent a → IsLawfulContent b → b.kind ≡ a.kind → b.dim ≡ a.dim → b.rows ≡ a.rows → Follows a b
rows-stay a b kept kept' kind dim same =
    stays-follows a b kept kept' kind dim (ap (λ (r : Rows). length r) same) (λ d live. subst (λ (r : Rows). IsLive r d) same live)

nothing-differs : (a b : Content) → b.rows ≡ a.rows → (sorted : Edit) → IsSorted empty_edit sorted → IsRowsDifference a.rows b.rows sorted
nothing-differs a b same sorted order = subst (λ (r : Rows). IsRowsDifference a.rows r sorted) (sym same) (sorted-nothing a.rows sorted order)

-- a cell that gets a value, or whose value is taken
module _ (a b : Content) (kept : IsLawfulContent a) (kept' : IsLawfulContent b) (i d : ℕ) (value : Option Value) (valued : IsValued a i d value b)
    (l m : Labeling) (p q : Store) (before : (h x : ℕ) → value_at a h x ≡ stored_value p l h x) (after : (h x : ℕ) → value_at b h x ≡ stored_value q m h x)
    (asked : Bool) (draft : Option Difference) (begun : IsBegun asked (made a.rows) empty_edit draft) (olds values : List ValueChange)
    (old : IsTrue asked → AreOldValues (λ h x. (h ≡ i) × InCell a.kind (links_of a.rows) i d x) l p olds) (new : AreNewValues m q olds values) where
  value-differs : (sorted : Edit) → IsTrue asked → IsSorted empty_edit sorted → IsDifference a b (step_of (made a.rows) sorted values [])
  value-differs sorted some order =
      parts-differ a b sorted values [] (nothing-differs a b valued.rows sorted order)
      (olds-differ (λ h x. (h ≡ i) × InCell a.kind (links_of a.rows) i d x) l m p q olds values a b before after
      (λ h x out. sym (valued.kept h x (λ same cell. out (same, cell)))) (old some) new)
      (new.ordered (old some).ordered)
      (no-rules-differ a b valued.rules) (none-ordered IsRuleBefore)

  pub value-step : IsStep asked a b (finished draft values [])
  value-step = record {
    follows = rows-stay a b kept kept' valued.kind valued.dim valued.rows;
    kept = kept';
    told = told-finished asked a b empty_edit values [] draft begun value-differs;
  }

-- the same where it is not told
pub value-untold : (a b : Content) → IsLawfulContent a → IsLawfulContent b → (i d : ℕ) (value : Option Value) → IsValued a i d value b → IsStep false a b None
value-untold a b kept kept' i d value valued = record { follows = rows-stay a b kept kept' valued.kind valued.dim valued.rows; kept = kept'; told = tt }

-- a dimension that gets a rule
module _ (k : Kind) (n : ℕ) (rows : Rows) (l m : Labeling) (p : Store) (rules : List (Option Rule)) (s : IsStoredMap k n rows l p rules)
    (i : ℕ) (low : i ≤ n) (rule : Rule) (ids : KeepsIds l m) (made-is : m.made ≡ l.made)
    (here : HasIdPlaces m i) (stay : HasIdPlaces l i → HasIdPlaces m i) (others : (h : ℕ) → h ≢ i → HasIdPlaces m h ↔ HasIdPlaces l h)
    (asked : Bool) (draft : Option Difference) (begun : IsBegun asked (made rows) empty_edit draft) (changes : List RuleChange) (one : IsTrue asked → IsOneRule rules i rule changes) where
  abbrev Next : List (Option Rule)
  Next = slice_set (made_rules n rules) i (Some rule)

  abbrev Was : Content
  Was = content_of k n rows l p rules

  abbrev Is : Content
  Is = content_of k n rows m p Next

  pub ruled : IsStoredMap k n rows m p Next
  ruled = ruled-stored k n rows l m p rules s i low rule ids made-is here stay others

  pub is-ruled : Is ≡ with_rule Was i rule
  is-ruled = ruled-content k n rows l m p rules s i low rule ids made-is here stay others

  rule-here : rule_in Is i ≡ Some rule
  rule-here =
      ap (λ (c : Content). rule_in c i) is-ruled
      ∙ get_or-set_same (all_rules n rules) i (Some rule) None (omega (arith, low, rules-long n rules s.ruled))

  rule-else : (h : ℕ) → h ≢ i → rule_in Is h ≡ rule_in Was h
  rule-else h other = ap (λ (c : Content). rule_in c h) is-ruled ∙ get_or-set_other (all_rules n rules) i h (Some rule) None other

  rules-differ : IsOneRule rules i rule changes → (c : RuleChange) → Contains changes c ↔ ((c.old ≡ rule_in Was c.dim) × (c.new ≡ rule_in Is c.dim) × (c.old ≢ c.new))
  rules-differ is c = (to, back)
    where
      to : Contains changes c → (c.old ≡ rule_in Was c.dim) × (c.new ≡ rule_in Is c.dim) × (c.old ≢ c.new)
      to held =
          let (dim, was, new, differ) = (is.members c).0 held in (
            was ∙ sym (rule-shown n i rules) ∙ ap (rule_in Was) (sym dim),
            new ∙ sym rule-here ∙ ap (rule_in Is) (sym dim),
            differ,
          )

      back : (c.old ≡ rule_in Was c.dim) × (c.new ≡ rule_in Is c.dim) × (c.old ≢ c.new) → Contains changes c
      back (was, new, differ) = elim (cases_eq c.dim i) [
        | inl dim ↦ (is.members c).1 (dim, was ∙ ap (rule_in Was) dim ∙ rule-shown n i rules, new ∙ ap (rule_in Is) dim ∙ rule-here, differ)
        | inr other ↦ absurd (differ (was ∙ sym (rule-else c.dim other) ∙ sym new))
      ]

  rule-differs : (sorted : Edit) → IsTrue asked → IsSorted empty_edit sorted → IsDifference Was Is (step_of (made rows) sorted [] changes)
  rule-differs sorted some order =
      parts-differ Was Is sorted [] changes (nothing-differs Was Is refl sorted order)
      (no-values-differ Was Is (λ h x. value-shown k n rows m p Next ruled h x ∙ stored_value-alike l m p p ids refl h x ∙ sym (value-shown k n rows l p rules s h x))) (none-ordered IsValueBefore)
      (rules-differ (one some)) (one some).ordered

  pub rule-step : IsStep asked Was Is (finished draft [] changes)
  rule-step = record {
    follows = rows-stay Was Is (kept-shown k n rows l p rules s) (kept-shown k n rows m p Next ruled) refl refl refl;
    kept = kept-shown k n rows m p Next ruled;
    told = told-finished asked Was Is empty_edit [] changes draft begun rule-differs;
  }
