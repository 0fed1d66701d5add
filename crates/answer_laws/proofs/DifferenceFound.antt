-- Contents that follow one another have differences.
use Rattle.std.proofs.Common.{◌≡◌, ◌≢◌, ℕ, suc, ◌+◌, ◌-◌, ◌<◌, ◌≤◌, List, [], ◌∷◌, length, Option, None, All, refl, sym, ap, ◌∙◌, inl, inr, arith}
use Rattle.std.proofs.lemmas.Bool.{cases_lt}
use Rattle.std.proofs.lemmas.List.{get_or_past}
use Rattle.map_defs.specs.Rows.{Rows, IsLive, links_of}
use Rattle.map_defs.specs.Edits.{Change}
use Rattle.map_defs.specs.Values.{Value, Rule}
use Rattle.machine_defs.specs.State.{Content, value_at, rule_at, HasPlaces}
use Rattle.machine_defs.specs.Difference.{Difference, ValueChange, RuleChange, IsLinkBefore, IsValueBefore, IsRuleBefore, first_born, IsDifference, AreDifferences}
use Rattle.link_laws.proofs.Basics.{stable}
use Rattle.link_laws.proofs.RowFacts.{linked_live, rows_dimension}
use Rattle.edit_laws.proofs.RowWrites.{live-within}
use Rattle.journal_laws.specs.Following.{Follows, AllFollow}
use Rattle.journal_laws.proofs.ContentFacts.{value-above}
use Rattle.answer_laws.specs.Answering.{NotNot}
use Rattle.answer_laws.proofs.Listed.{tabled, keyed, ascending}

change_of : ℕ → ℕ → ℕ → ℕ → Change
change_of dart link old new = record { dart = dart; link = link; old = old; new = new }

value_change_of : ℕ → ℕ → Option Value → Option Value → ValueChange
value_change_of dim dart old new = record { dim = dim; dart = dart; old = old; new = new }

rule_change_of : ℕ → Option Rule → Option Rule → RuleChange
rule_change_of dim old new = record { dim = dim; old = old; new = new }

-- a dart past the rows has no links and no values
past-links : (rows : Rows) (i d : ℕ) → length rows ≤ d → links_of rows i d ≡ 0
past-links rows i d past = stable _ _ (λ some. let l = live-within rows d (linked_live rows i d some) in omega arith)

pub past-value : (c : Content) → HasPlaces c → (i d : ℕ) → length c.rows ≤ d → value_at c i d ≡ None
past-value c places i d past = places.none i d (λ live. let l = live-within c.rows d live in omega arith)

module _ (a b : Content) (f : Follows a b) (begun : 1 ≤ length b.rows) where
  grown : length a.rows ≤ length b.rows
  grown = let g = f.grown in let l = f.begun in omega arith

  link_key : ℕ → ℕ → Change
  link_key d i = change_of d i (links_of a.rows i d) (links_of b.rows i d)

  value_key : ℕ → ℕ → ValueChange
  value_key i d = value_change_of i d (value_at a i d) (value_at b i d)

  rule_key : ℕ → RuleChange
  rule_key i = rule_change_of i (rule_at a i) (rule_at b i)

  -- what differs lies within the dimension and the darts that were made
  link-dart : (i d : ℕ) → links_of a.rows i d ≢ links_of b.rows i d → d < length b.rows
  link-dart i d differ = elim (cases_lt d (length b.rows)) [
    | inl within ↦ within
    | inr past ↦ absurd (differ (past-links a.rows i d (let g = grown in omega arith) ∙ sym (past-links b.rows i d past)))
  ]

  link-dim : (i d : ℕ) → links_of a.rows i d ≢ links_of b.rows i d → i < a.dim + 1
  link-dim i d differ = elim (cases_lt a.dim i) [
    | inl above ↦ absurd (differ (rows_dimension a.dim a.rows f.sound.wide i d above ∙ sym (rows_dimension b.dim b.rows f.next_sound.wide i d (let e = f.dim in omega arith))))
    | inr within ↦ omega arith
  ]

  value-dart : (i d : ℕ) → value_at a i d ≢ value_at b i d → d < length b.rows
  value-dart i d differ = elim (cases_lt d (length b.rows)) [
    | inl within ↦ within
    | inr past ↦ absurd (differ (past-value a f.places i d (let g = grown in omega arith) ∙ sym (past-value b f.next_places i d past)))
  ]

  value-dim : (i d : ℕ) → value_at a i d ≢ value_at b i d → i < a.dim + 1
  value-dim i d differ = elim (cases_lt a.dim i) [
    | inl above ↦ absurd (differ (value-above a f.places i d above ∙ sym (value-above b f.next_places i d (let e = f.dim in omega arith))))
    | inr within ↦ omega arith
  ]

  rule-dim : (i : ℕ) → rule_at a i ≢ rule_at b i → i < length a.rules
  rule-dim i differ = elim (cases_lt i (length a.rules)) [
    | inl within ↦ within
    | inr past ↦ absurd (differ (get_or_past a.rules i None past ∙ sym (get_or_past b.rules i None (let e = f.rules in omega arith))))
  ]

  link-rising : (d e i j : ℕ) → d < e → IsLinkBefore (link_key d i) (link_key e j)
  unfolding link_key change_of
  link-rising d e i j less = inl less

  link-along : (d i j : ℕ) → i < j → IsLinkBefore (link_key d i) (link_key d j)
  unfolding link_key change_of
  link-along d i j less = inr (refl, less)

  value-rising : (i j d e : ℕ) → i < j → IsValueBefore (value_key i d) (value_key j e)
  unfolding value_key value_change_of
  value-rising i j d e less = inl less

  value-along : (i d e : ℕ) → d < e → IsValueBefore (value_key i d) (value_key i e)
  unfolding value_key value_change_of
  value-along i d e less = inr (refl, less)

  rule-rising : (i j : ℕ) → i < j → IsRuleBefore (rule_key i) (rule_key j)
  unfolding rule_key rule_change_of
  rule-rising i j less = less

  -- what a change tells
  abbrev TellsLink : Change → Type 0
  TellsLink c = (c.old ≡ links_of a.rows c.link c.dart) × (c.new ≡ links_of b.rows c.link c.dart) × (c.old ≢ c.new)

  abbrev TellsValue : ValueChange → Type 0
  TellsValue c = (c.old ≡ value_at a c.dim c.dart) × (c.new ≡ value_at b c.dim c.dart) × (c.old ≢ c.new)

  abbrev TellsRule : RuleChange → Type 0
  TellsRule c = (c.old ≡ rule_at a c.dim) × (c.new ≡ rule_at b c.dim) × (c.old ≢ c.new)

  link-told : (c : Change) (d i : ℕ) → links_of a.rows i d ≢ links_of b.rows i d → c ≡ link_key d i → TellsLink c
  unfolding link_key change_of
  link-told c d i differ e = rw e (refl, refl, differ)

  link-is : (c : Change) → TellsLink c → c ≡ link_key c.dart c.link
  unfolding link_key change_of
  link-is c t = let one : c ≡ change_of c.dart c.link c.old c.new = refl in one ∙ ap (λ (x : ℕ). change_of c.dart c.link x c.new) t.0 ∙ ap (λ (x : ℕ). change_of c.dart c.link (links_of a.rows c.link c.dart) x) t.1

  value-told : (c : ValueChange) (i d : ℕ) → value_at a i d ≢ value_at b i d → c ≡ value_key i d → TellsValue c
  unfolding value_key value_change_of
  value-told c i d differ e = rw e (refl, refl, differ)

  value-is : (c : ValueChange) → TellsValue c → c ≡ value_key c.dim c.dart
  unfolding value_key value_change_of
  value-is c t = let one : c ≡ value_change_of c.dim c.dart c.old c.new = refl in one ∙ ap (λ (x : Option Value). value_change_of c.dim c.dart x c.new) t.0 ∙ ap (λ (x : Option Value). value_change_of c.dim c.dart (value_at a c.dim c.dart) x) t.1

  rule-told : (c : RuleChange) (i : ℕ) → rule_at a i ≢ rule_at b i → c ≡ rule_key i → TellsRule c
  unfolding rule_key rule_change_of
  rule-told c i differ e = rw e (refl, refl, differ)

  rule-is : (c : RuleChange) → TellsRule c → c ≡ rule_key c.dim
  unfolding rule_key rule_change_of
  rule-is c t = let one : c ≡ rule_change_of c.dim c.old c.new = refl in one ∙ ap (λ (x : Option Rule). rule_change_of c.dim x c.new) t.0 ∙ ap (λ (x : Option Rule). rule_change_of c.dim (rule_at a c.dim) x) t.1

  pub difference_found : NotNot ((s : Difference) × IsDifference a b s)
  difference_found never =
      ascending (λ d. IsLive a.rows d × (IsLive b.rows d → ⊥)) (length a.rows) (λ d h. live-within a.rows d h.0) (λ deaths.
      tabled IsLinkBefore (λ d i. links_of a.rows i d ≢ links_of b.rows i d) link_key (length b.rows) (a.dim + 1) link-rising link-along (λ changes.
      tabled IsValueBefore (λ i d. value_at a i d ≢ value_at b i d) value_key (a.dim + 1) (length b.rows) value-rising value-along (λ values.
      keyed IsRuleBefore (λ i. rule_at a i ≢ rule_at b i) rule_key (length a.rules) rule-rising (λ rules.
      let births : ℕ = length b.rows - length a.rows in
      never (
        record { first = first_born a births; edit = record { births = births; deaths = deaths.0; changes = changes.0 }; values = values.0; rules = rules.0 },
        record {
          born = let g = grown in omega arith;
          first = refl;
          ended = deaths.2;
          ended_ascending = deaths.1;
          links = λ c. (
            λ h. let t = (changes.1.members c).0 h in link-told c t.0 t.2.0 t.2.2.0 t.2.2.1,
            λ t. let differ : links_of a.rows c.link c.dart ≢ links_of b.rows c.link c.dart = λ e. t.2 (t.0 ∙ e ∙ sym t.1) in
                (changes.1.members c).1 (c.dart, link-dart c.link c.dart differ, (c.link, link-dim c.link c.dart differ, (differ, link-is c t))),
          );
          links_ordered = changes.1.ordered;
          values = λ c. (
            λ h. let t = (values.1.members c).0 h in value-told c t.0 t.2.0 t.2.2.0 t.2.2.1,
            λ t. let differ : value_at a c.dim c.dart ≢ value_at b c.dim c.dart = λ e. t.2 (t.0 ∙ e ∙ sym t.1) in
                (values.1.members c).1 (c.dim, value-dim c.dim c.dart differ, (c.dart, value-dart c.dim c.dart differ, (differ, value-is c t))),
          );
          values_ordered = values.1.ordered;
          rules = λ c. (
            λ h. let t = (rules.1.members c).0 h in rule-told c t.0 t.2.0 t.2.1,
            λ t. let differ : rule_at a c.dim ≢ rule_at b c.dim = λ e. t.2 (t.0 ∙ e ∙ sym t.1) in
                (rules.1.members c).1 (c.dim, rule-dim c.dim differ, (differ, rule-is c t)),
          );
          rules_ordered = rules.1.ordered;
        },
      )))))

-- contents in a row have differences between neighbours
pub differences_found : (cs : List Content) → AllFollow cs → All (λ (c : Content). 1 ≤ length c.rows) cs → NotNot ((steps : List Difference) × AreDifferences cs steps)
differences_found [] follow begun = λ never. never ([], refl)
differences_found (a ∷ []) follow begun = λ never. never ([], refl)
differences_found (a ∷ b ∷ more) follow begun = λ never.
    difference_found a b follow.0 (begun 1 a (omega arith)) (λ first.
    differences_found (b ∷ more) follow.1 (λ k d l. begun (suc k) d (omega arith)) (λ rest.
    never (first.0 ∷ rest.0, (first.0, rest.0, refl, first.1, rest.1))))
