-- What the dual makes of a map with values, and the step that is told.
use Rattle.std.proofs.Common.{◌≡◌, ◌≢◌, ℕ, ◌+◌, ◌-◌, ◌<◌, ◌≤◌, ◌⊎◌, ◌↔◌, Bool, false, List, [], length, reverse, IsTrue, Option, None, Err, is_some, refl, sym, ap, ◌∙◌, inl, inr, arith, Contains}
use Rattle.std.proofs.lemmas.Bool.{cases_eq, cases_lt, false≢true}
use Rattle.std.proofs.lemmas.List.{get_or_past, length-reverse}
use Rattle.map_kind.specs.declared.refusal.Refused.{Refused}
use Rattle.map_kind.specs.declared.refusal.Refused.TheVariants as why
use Rattle.map_defs.specs.Kind.{Kind}
use Rattle.map_defs.specs.Laws.{Laws}
use Rattle.map_defs.specs.Rows.{Rows, IsLive, IsSound, row_at, links_of, made, made_max}
use Rattle.map_defs.specs.Values.{Rule}
use Rattle.map_defs.specs.Edits.{Edit, Fits, after_edit}
use Rattle.machine_defs.specs.State.{Content, value_at, rule_at as rule_in}
use Rattle.map_defs.specs.Dual.{IsDual, IsDualable}
use Rattle.machine_defs.specs.Dualling.{IsDualOf}
use Rattle.machine_defs.specs.Difference.{Difference, ValueChange, RuleChange, IsDifference}
use Rattle.machine_laws.proofs.Followed.{stays-follows}
use Rattle.edit_laws.proofs.RowWrites.{live-within}
use Rattle.edit_laws.proofs.EditSound.{length-after, after-sound}
use Rattle.edit_laws.proofs.EditLinks.{lives-on}
use Rattle.journal_laws.proofs.EditLives.{lived-or-born}
use Rattle.store_defs.specs.Stores.{Store}
use Rattle.store_defs.specs.Labelings.{Labeling}
use Rattle.store_defs.specs.Groups.{rule_at}
use Rattle.label_laws.specs.Stored.{stored_value}
use Rattle.label_laws.specs.Contents.{content_of}
use Rattle.label_laws.specs.Maps.{IsStoredMap}
use Rattle.label_laws.specs.Turning.{AreTurned}
use Rattle.label_laws.proofs.Showing.{value-shown, places-shown, kept-shown, rule-shown, rules-long, value-low}
use Rattle.label_laws.proofs.DualLabels.{stored-turned, shown-turned}
use Rattle.kind_edit.specs.Turning.{TakesDual}
use Rattle.valued_map.specs.TakingDual.{BecomesDual}
use Rattle.valued_map.specs.Told.{IsStep, IsBegun, IsSorted, finished, step_of, AreDiffering, AreRuleChanges, IsPlaceBelow, turned_value}
use Rattle.valued_map.proofs.Parts.{parts-differ, told-finished}
use Rattle.valued_map.proofs.SortedEdit.{sorted-difference}
use Rattle.valued_map.proofs.ListedValues.{values-differ}
use Rattle.valued_map.proofs.Edited.{edit-follows}

-- where the dual is not made, the rows are as they were
pub dual-unmade : (k : Kind) (n : ℕ) (old new : Rows) (r : Refused) → TakesDual k n old new (Err r) → new ≡ old
dual-unmade k n old new (why.Line refusal) taken = taken.2
dual-unmade k n old new why.NoMemory taken = taken

-- and so is the map with its values
pub dual-untold : (k : Kind) (n : ℕ) (old new : Rows) (l : Labeling) (p : Store) (rules : List (Option Rule)) (r : Refused) → TakesDual k n old new (Err r)
    → BecomesDual (content_of k n old l p rules) (content_of k n new l p rules) (Err r)
dual-untold k n old new l p rules (why.Line refusal) taken = (taken.0, taken.1, ap (λ (rows : Rows). content_of k n rows l p rules) taken.2)
dual-untold k n old new l p rules why.NoMemory taken = ap (λ (rows : Rows). content_of k n rows l p rules) taken

-- the rows after an edit by which no dart is born and none ends
module _ (k : Kind) (n : ℕ) (rows : Rows) (edit : Edit) (begun : 0 < length rows) (sound : IsSound k n rows) (fits : Fits k n rows edit) (births : edit.births ≡ 0) (deaths : edit.deaths ≡ []) where
  pub plain-few : made rows + edit.births ≤ made_max
  plain-few = let few = sound.few in omega (arith, births)

  pub plain-long : length (after_edit n edit rows) ≡ length rows
  plain-long = omega (arith, length-after n edit rows, births)

  pub plain-live : (d : ℕ) → IsLive (after_edit n edit rows) d ↔ IsLive rows d
  plain-live d = (
    λ live. (elim (lived-or-born k n rows edit sound fits d live) [
      | inl old ↦ old
      | inr new ↦ absurd (let low = new.0 in let high = new.1 in omega (arith, births))
    ]),
    λ live. lives-on k n rows edit sound fits d live (λ j z lt. absurd (omega (arith, lt, ap (λ (ds : List ℕ). length ds) deaths))),
  )

  pub plain-sound : IsSound k n (after_edit n edit rows)
  plain-sound = after-sound k n rows edit begun sound fits plain-few

-- the dual, by an edit
module _ (k : Kind) (n : ℕ) (rows : Rows) (edit : Edit) (l m : Labeling) (p : Store) (rules : List (Option Rule)) (s : IsStoredMap k n rows l p rules)
    (fits : Fits k n rows edit) (few : made rows + edit.births ≤ made_max) (laws : Laws k (links_of (after_edit n edit rows)))
    (able : IsDualable k n (links_of rows) (IsLive rows)) (dual : IsDual k n (links_of rows) (links_of (after_edit n edit rows)))
    (long : length (after_edit n edit rows) ≡ length rows) (live : (d : ℕ) → IsLive (after_edit n edit rows) d ↔ IsLive rows d) (sound : IsSound k n (after_edit n edit rows))
    (turns : AreTurned n l m) (asked : Bool) (draft : Option Difference) (begun : IsBegun asked (made rows) edit draft)
    (values : List ValueChange) (differing : IsTrue asked → AreDiffering (IsPlaceBelow (n + 1) (made rows)) (stored_value p l) (turned_value n l p) values)
    (changes : List RuleChange) (rules_differing : IsTrue asked → AreRuleChanges (length rules) rules (reverse rules) changes) where
  abbrev Turned : Rows
  Turned = after_edit n edit rows

  pub turned-stored : IsStoredMap k n Turned m p (reverse rules)
  turned-stored = stored-turned k n rows Turned l m p rules s turns able dual long live sound laws

  abbrev Map : Content
  Map = content_of k n rows l p rules

  abbrev Its : Content
  Its = content_of k n Turned m p (reverse rules)

  pub is-dual : IsDualOf Map Its
  is-dual = shown-turned k n rows Turned l m p rules s turns able dual long live sound laws

  low-or-none : (i d : ℕ) → IsPlaceBelow (n + 1) (made rows) i d ⊎ (value_at Map i d ≡ value_at Its i d)
  low-or-none i d = go (cases_lt i (n + 1)) (cases_lt d (length rows)) (cases_eq d 0)
    where
      dead : (IsLive rows d → ⊥) → value_at Map i d ≡ value_at Its i d
      dead no-dart = (places-shown k n rows l p rules s).none i d no-dart ∙ sym ((places-shown k n Turned m p (reverse rules) turned-stored).none i d (λ h. no-dart ((live d).0 h)))

      high : n + 1 ≤ i → value_at Map i d ≡ value_at Its i d
      high above = value-low k n rows l p rules s i d above ∙ sym (value-low k n Turned m p (reverse rules) turned-stored i d above)

      go : (i < n + 1) ⊎ (n + 1 ≤ i) → (d < length rows) ⊎ (length rows ≤ d) → (d ≡ 0) ⊎ (d ≡ 0 → ⊥) → IsPlaceBelow (n + 1) (made rows) i d ⊎ (value_at Map i d ≡ value_at Its i d)
      go (inr above) b c = inr (high above)
      go (inl within) (inr beyond) c = inr (dead (λ h. (let in-rows = live-within rows d h in omega arith)))
      go (inl within) (inl early) (inl nothing) = inr (dead (λ h. no-live h))
        where
          no-live : IsLive rows d → ⊥
          no-live h = false≢true (sym (ap is_some (ap (row_at rows) nothing ∙ s.sound.nothing)) ∙ h)
      go (inl within) (inl early) (inr some) = inl (within, omega arith, omega arith)

  turned-values : IsTrue asked → (c : ValueChange) → Contains values c ↔ ((c.old ≡ value_at Map c.dim c.dart) × (c.new ≡ value_at Its c.dim c.dart) × (c.old ≢ c.new))
  turned-values some =
      values-differ (IsPlaceBelow (n + 1) (made rows)) (stored_value p l) (turned_value n l p) values Map Its
      (λ i d place. value-shown k n rows l p rules s i d)
      (λ i d place. is-dual.values i d (let low = place.0 in omega arith) ∙ value-shown k n rows l p rules s (n - i) d)
      low-or-none (differing some)

  turned-rules : IsTrue asked → (c : RuleChange) → Contains changes c ↔ ((c.old ≡ rule_in Map c.dim) × (c.new ≡ rule_in Its c.dim) × (c.old ≢ c.new))
  turned-rules some c = (to, back)
    where
      to : Contains changes c → (c.old ≡ rule_in Map c.dim) × (c.new ≡ rule_in Its c.dim) × (c.old ≢ c.new)
      to held =
          let (low, was, is, differ) = ((rules_differing some).members c).0 held in
          (was ∙ sym (rule-shown n c.dim rules), is ∙ sym (rule-shown n c.dim (reverse rules)), differ)

      back : (c.old ≡ rule_in Map c.dim) × (c.new ≡ rule_in Its c.dim) × (c.old ≢ c.new) → Contains changes c
      back (was, is, differ) =
          let was' : c.old ≡ rule_at rules c.dim = was ∙ rule-shown n c.dim rules in
          let is' : c.new ≡ rule_at (reverse rules) c.dim = is ∙ rule-shown n c.dim (reverse rules) in
          elim (cases_lt c.dim (length rules)) [
            | inl low ↦ ((rules_differing some).members c).1 (low, was', is', differ)
            | inr high ↦ absurd (differ (was' ∙ get_or_past rules c.dim None high
                ∙ sym (get_or_past (reverse rules) c.dim None (omega (arith, high, length-reverse rules))) ∙ sym is'))
          ]

  dual-differs : (sorted : Edit) → IsTrue asked → IsSorted edit sorted → IsDifference Map Its (step_of (made rows) sorted values changes)
  dual-differs sorted some order =
      parts-differ Map Its sorted values changes (sorted-difference k n rows edit sorted s.sound fits order)
      (turned-values some) (differing some).ordered (turned-rules some) (rules_differing some).ordered

  pub dual-step : IsStep asked Map Its (finished draft values changes)
  dual-step = record {
    follows =
        edit-follows k n rows edit l p rules s fits few laws m p (reverse rules) turned-stored
        (rules-long n (reverse rules) turned-stored.ruled ∙ sym (rules-long n rules s.ruled));
    kept = kept-shown k n Turned m p (reverse rules) turned-stored;
    told = told-finished asked Map Its edit values changes draft begun dual-differs;
  }

-- the dual, made in place, of which nothing is told
module _ (k : Kind) (n : ℕ) (rows after : Rows) (l m : Labeling) (p : Store) (rules : List (Option Rule)) (s : IsStoredMap k n rows l p rules)
    (able : IsDualable k n (links_of rows) (IsLive rows)) (dual : IsDual k n (links_of rows) (links_of after)) (long : length after ≡ length rows)
    (live : (d : ℕ) → IsLive after d ↔ IsLive rows d) (sound : IsSound k n after) (laws : Laws k (links_of after)) (turns : AreTurned n l m)
    (turned : List (Option Rule)) (are : turned ≡ reverse rules) where
  pub dual-stored : IsStoredMap k n after m p turned
  dual-stored = rw are (stored-turned k n rows after l m p rules s turns able dual long live sound laws)

  pub dual-shown : IsDualOf (content_of k n rows l p rules) (content_of k n after m p turned)
  dual-shown = rw are (shown-turned k n rows after l m p rules s turns able dual long live sound laws)

  pub dual-stays : IsStep false (content_of k n rows l p rules) (content_of k n after m p turned) None
  dual-stays = record {
    follows =
        stays-follows (content_of k n rows l p rules) (content_of k n after m p turned) (kept-shown k n rows l p rules s) (kept-shown k n after m p turned dual-stored)
        refl refl long (λ d here. (live d).0 here);
    kept = kept-shown k n after m p turned dual-stored;
    told = tt;
  }
