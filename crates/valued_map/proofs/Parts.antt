-- The difference of two contents, by its parts, and the step that is told.
use Rattle.std.proofs.Common.{◌≡◌, ◌≢◌, ℕ, ◌<◌, ◌↔◌, Bool, true, false, Option, Some, None, IsTrue, List, [], refl, sym, ap, ◌∙◌, subst, arith, Contains, AllPairs}
use Rattle.map_defs.specs.Rows.{made}
use Rattle.map_defs.specs.Edits.{Edit}
use Rattle.machine_defs.specs.State.{Content, value_at, rule_at}
use Rattle.machine_defs.specs.Difference.{Difference, ValueChange, RuleChange, IsDifference, IsValueBefore, IsRuleBefore}
use Rattle.journal_laws.specs.Ordering.{IsRowsDifference}
use Rattle.valued_map.specs.Told.{IsTold, IsBegun, IsSorted, finished, step_of}

-- the difference of two contents, by its parts
pub parts-differ : (a b : Content) (e : Edit) (values : List ValueChange) (rules : List RuleChange) → IsRowsDifference a.rows b.rows e
    → ((c : ValueChange) → Contains values c ↔ ((c.old ≡ value_at a c.dim c.dart) × (c.new ≡ value_at b c.dim c.dart) × (c.old ≢ c.new))) → AllPairs IsValueBefore values
    → ((c : RuleChange) → Contains rules c ↔ ((c.old ≡ rule_at a c.dim) × (c.new ≡ rule_at b c.dim) × (c.old ≢ c.new))) → AllPairs IsRuleBefore rules
    → IsDifference a b (step_of (made a.rows) e values rules)
parts-differ a b e values rules rows members ordered rules_are rules_ordered = record {
  born = rows.born;
  first = refl;
  ended = rows.ended;
  ended_ascending = rows.ended_ascending;
  links = rows.links;
  links_ordered = rows.links_ordered;
  values = members;
  values_ordered = ordered;
  rules = rules_are;
  rules_ordered = rules_ordered;
}

-- where nothing differs
pub no-values-differ : (a b : Content) → ((i d : ℕ) → value_at b i d ≡ value_at a i d)
    → (c : ValueChange) → Contains [] c ↔ ((c.old ≡ value_at a c.dim c.dart) × (c.new ≡ value_at b c.dim c.dart) × (c.old ≢ c.new))
no-values-differ a b same c = (
  λ h. absurd (let lt : h.0 < 0 = h.1 in omega arith),
  λ h. absurd (h.2 (h.0 ∙ sym (same c.dim c.dart) ∙ sym h.1)),
)

pub no-rules-differ : (a b : Content) → b.rules ≡ a.rules
    → (c : RuleChange) → Contains [] c ↔ ((c.old ≡ rule_at a c.dim) × (c.new ≡ rule_at b c.dim) × (c.old ≢ c.new))
no-rules-differ a b same c = (
  λ h. absurd (let lt : h.0 < 0 = h.1 in omega arith),
  λ h. absurd (h.2 (h.0 ∙ sym (ap (λ rs. rule_at (record a { rules = rs }) c.dim) same) ∙ sym h.1)),
)

pub none-ordered : {X : Type 0} (R : X → X → Type 0) → AllPairs R []
none-ordered R i j d h within = absurd (omega arith)

-- a step that was begun and is finished is told
pub told-finished : (asked : Bool) (a b : Content) (e : Edit) (values : List ValueChange) (rules : List RuleChange) (draft : Option Difference) → IsBegun asked (made a.rows) e draft
    → ((sorted : Edit) → IsTrue asked → IsSorted e sorted → IsDifference a b (step_of (made a.rows) sorted values rules))
    → IsTold asked a b (finished draft values rules)
told-finished false a b e values rules None begun differ = tt
told-finished false a b e values rules (Some step) begun differ = absurd begun
told-finished true a b e values rules None begun differ = absurd begun
told-finished true a b e values rules (Some step) (sorted, order, is) differ =
    subst (λ (s : Difference). IsDifference a b (record { first = s.first; edit = s.edit; values = values; rules = rules })) (sym is) (differ sorted refl order)
