-- What an edit makes of a map with values, and the step that is told.
use Rattle.std.proofs.Common.{◌≡◌, ℕ, ◌+◌, ◌<◌, ◌≤◌, ◌⊎◌, Bool, IsTrue, IsSome, List, [], ◌∷◌, ◌++◌, length, max, map, Option, Some, None, refl, sym, ap, ◌∙◌, inl, inr, arith, Contains}
use Rattle.std.proofs.lemmas.Bool.{cases_lt}
use Rattle.map_defs.specs.Kind.{Kind}
use Rattle.map_defs.specs.Laws.{Laws}
use Rattle.map_defs.specs.Rows.{Rows, IsLive, links_of, made, made_max}
use Rattle.map_defs.specs.Values.{Rule}
use Rattle.map_defs.specs.Edits.{Edit, Fits, after_edit}
use Rattle.machine_defs.specs.State.{Content, value_at}
use Rattle.machine_defs.specs.Difference.{Difference, ValueChange, IsDifference, IsValueBefore, IsRuleBefore}
use Rattle.journal_laws.specs.Following.{Follows}
use Rattle.journal_laws.specs.Ordering.{IsRowsDifference}
use Rattle.journal_laws.proofs.Led.{led-follows}
use Rattle.edit_laws.proofs.EditPlain.{death_edit, death-fits}
use Rattle.edit_laws.proofs.KeptLaws.{death-keeps}
use Rattle.edit_laws.proofs.EditSound.{length-after}
use Rattle.edit_laws.proofs.RowWrites.{live-within}
use Rattle.store_defs.specs.Stores.{Store}
use Rattle.store_defs.specs.Labelings.{Labeling, id_of, KeepsIds, KeepsPlaces}
use Rattle.store_defs.specs.Groups.{Group, rule_at, labelled_value}
use Rattle.label_laws.specs.Contents.{content_of, all_rules}
use Rattle.label_laws.specs.Maps.{IsStoredMap}
use Rattle.label_laws.specs.Changing.{AreTaken, AreRelabelled, IsGroupedBelow}
use Rattle.label_laws.specs.Stored.{stored_value}
use Rattle.label_laws.specs.Touching.{AreGrafted, AreAllTouched}
use Rattle.label_laws.proofs.Showing.{value-shown, places-shown, kept-shown, id-low, stored_value-dead}
use Rattle.label_laws.proofs.Same.{stored_value-alike}
use Rattle.label_laws.proofs.Making.{led, bear-stored, relink-stored, relink-outside, end-stored, end-outside}
use Rattle.valued_map.specs.Told.{IsStep, IsBegun, IsSorted, finished, step_of, IsRelabelledPlace, IsRevaluedPlace, AreOldValues, AreNewValues}
use Rattle.valued_map.proofs.Parts.{parts-differ, no-values-differ, no-rules-differ, none-ordered, told-finished}
use Rattle.valued_map.proofs.SortedEdit.{sorted-difference}
use Rattle.valued_map.proofs.ListedValues.{olds-differ}

-- An edit that fits.
module _ (k : Kind) (n : ℕ) (rows : Rows) (e : Edit) (l : Labeling) (p : Store) (rules : List (Option Rule)) (s : IsStoredMap k n rows l p rules)
    (fits : Fits k n rows e) (few : made rows + e.births ≤ made_max) (laws : Laws k (links_of (after_edit n e rows))) where
  abbrev New : Rows
  New = after_edit n e rows

  abbrev Before : Content
  Before = content_of k n rows l p rules

  module _ (m : Labeling) (q : Store) (after : List (Option Rule)) (stored : IsStoredMap k n New m q after) where
    pub edit-follows : length (all_rules n after) ≡ length (all_rules n rules) → Follows Before (content_of k n New m q after)
    edit-follows long =
        led-follows Before (content_of k n New m q after) e refl refl (led k n rows e l p rules s fits few laws)
        (places-shown k n rows l p rules s) (places-shown k n New m q after stored) long

  pub edit-differs : (sorted : Edit) → IsSorted e sorted → IsRowsDifference rows New sorted
  edit-differs sorted order = sorted-difference k n rows e sorted s.sound fits order

  -- the step of a change whose parts are known
  module _ (asked : Bool) (draft : Option Difference) (begun : IsBegun asked (made rows) e draft) where
    -- new darts
    module _ (m : Labeling) (ids : KeepsIds l m) (places : KeepsPlaces l m) (grown : m.made ≡ max l.made (made rows + e.births))
        (born : List (List ℕ)) (is : New ≡ rows ++ map (λ (row : List ℕ). Some row) born) where
      stored-born : IsStoredMap k n New m p rules
      stored-born = bear-stored k n rows e l p rules s fits few laws m ids places grown born is

      same-values : (i d : ℕ) → value_at (content_of k n New m p rules) i d ≡ value_at Before i d
      same-values i d = value-shown k n New m p rules stored-born i d ∙ stored_value-alike l m p p ids refl i d ∙ sym (value-shown k n rows l p rules s i d)

      bear-differs : (sorted : Edit) → IsTrue asked → IsSorted e sorted → IsDifference Before (content_of k n New m p rules) (step_of (made rows) sorted [] [])
      bear-differs sorted some order =
          parts-differ Before (content_of k n New m p rules) sorted [] [] (edit-differs sorted order)
          (no-values-differ Before (content_of k n New m p rules) same-values) (none-ordered IsValueBefore)
          (no-rules-differ Before (content_of k n New m p rules) refl) (none-ordered IsRuleBefore)

      pub bear-step : IsStep asked Before (content_of k n New m p rules) (finished draft [] [])
      bear-step = record {
        follows = edit-follows m p rules stored-born refl;
        kept = kept-shown k n New m p rules stored-born;
        told = told-finished asked Before (content_of k n New m p rules) e [] [] draft begun bear-differs;
      }

    -- links that change, darts that were born and joined cells, and values with them
    module _ (m : Labeling) (ids : KeepsIds l m) (places : KeepsPlaces l m) (grown : m.made ≡ max l.made (made rows + e.births)) (q : Store) (slots : q.slots ≡ p.slots)
        (g : Labeling) (grafts : AreGrafted k New (made rows) (λ i. IsSome (rule_at rules i)) m g) (groups : List Group) (touched : AreAllTouched k New rules g groups) (m' : Labeling) (q' : Store)
        (r : AreRelabelled (λ i d. ((i < n + 1) × Contains e.deaths d) ⊎ IsGroupedBelow (length groups) groups i d) groups g m' q q')
        (olds values : List ValueChange) (old : IsTrue asked → AreOldValues (IsRevaluedPlace n (made rows) e groups) m q olds) (new : AreNewValues m' q' olds values) where
      abbrev After : Content
      After = content_of k n New m' q' rules

      stored-relinked : IsStoredMap k n New m' q' rules
      stored-relinked = relink-stored k n rows e l p rules s fits few laws m ids places grown q slots g grafts groups touched m' q' r

      -- no dimension above has ids
      above-none : (i d : ℕ) → (i < n + 1 → ⊥) → stored_value q' m' i d ≡ None
      above-none i d high = go (id_of m' i d) refl
        where
          go : (o : Option ℕ) → id_of m' i d ≡ o → stored_value q' m' i d ≡ None
          go None is = ap (labelled_value q') is
          go (Some c) is = absurd (high (id-low k n New m' q' rules stored-relinked i d c is))

      -- a place beyond those that were made has no value
      beyond-none : (i d : ℕ) → made rows < d → (IsRevaluedPlace n (made rows) e groups i d → ⊥) → stored_value q' m' i d ≡ None
      beyond-none i d high out = elim (cases_lt i (n + 1)) [
        | inr above ↦ above-none i d (λ low. omega arith)
        | inl low ↦ elim (cases_lt d (made rows + e.births + 1)) [
          | inl born ↦ absurd (out (inr (low, high, born)))
          | inr past ↦ stored_value-dead k n New m' q' rules stored-relinked i d (λ live. (let within = live-within New d live in let more : length New ≡ length rows + e.births = length-after n e rows in omega (arith, more, s.begun)))
        ]
      ]

      outside-stays : (i d : ℕ) → (IsRevaluedPlace n (made rows) e groups i d → ⊥) → value_at Before i d ≡ value_at After i d
      outside-stays i d out = value-shown k n rows l p rules s i d ∙ same (cases_lt (made rows) d) ∙ sym (value-shown k n New m' q' rules stored-relinked i d)
        where
          same : (made rows < d) ⊎ (d ≤ made rows) → stored_value p l i d ≡ stored_value q' m' i d
          same (inr low) = sym (stored_value-alike l m p q ids slots i d)
              ∙ sym (relink-outside k n rows e l p rules s fits few laws m ids places grown q slots g grafts groups touched m' q' r i d low (λ h. out (inl h)))
          same (inl high) = stored_value-dead k n rows l p rules s i d (λ live. (let within = live-within rows d live in omega arith)) ∙ sym (beyond-none i d high out)

      relink-differs : (sorted : Edit) → IsTrue asked → IsSorted e sorted → IsDifference Before After (step_of (made rows) sorted values [])
      relink-differs sorted some order =
          parts-differ Before After sorted values [] (edit-differs sorted order)
          (olds-differ (IsRevaluedPlace n (made rows) e groups) m m' q q' olds values Before After
          (λ i d. value-shown k n rows l p rules s i d ∙ sym (stored_value-alike l m p q ids slots i d))
          (value-shown k n New m' q' rules stored-relinked) outside-stays (old some) new)
          (new.ordered (old some).ordered)
          (no-rules-differ Before After refl) (none-ordered IsRuleBefore)

      pub relink-step : IsStep asked Before After (finished draft values [])
      relink-step = record {
        follows = edit-follows m' q' rules stored-relinked refl;
        kept = kept-shown k n New m' q' rules stored-relinked;
        told = told-finished asked Before After e values [] draft begun relink-differs;
      }

-- a dart without links ends
module _ (k : Kind) (n : ℕ) (rows : Rows) (dart : ℕ) (l m : Labeling) (p q : Store) (rules : List (Option Rule)) (s : IsStoredMap k n rows l p rules)
    (live : IsLive rows dart) (alone : (h : ℕ) → links_of rows h dart ≡ 0) (taken : AreTaken (λ i d. (i < n + 1) × Contains (dart ∷ []) d) l m p q)
    (asked : Bool) (draft : Option Difference) (begun : IsBegun asked (made rows) (death_edit dart) draft) (olds values : List ValueChange)
    (old : IsTrue asked → AreOldValues (IsRelabelledPlace n (dart ∷ []) []) l p olds) (new : AreNewValues m q olds values) where
  abbrev Left : Rows
  Left = after_edit n (death_edit dart) rows

  fits : Fits k n rows (death_edit dart)
  fits = death-fits k n rows dart s.sound live alone

  left-stored : IsStoredMap k n Left m q rules
  left-stored = end-stored k n rows dart l m p q rules s live alone taken

  abbrev Lived : Content
  Lived = content_of k n rows l p rules

  abbrev Ended : Content
  Ended = content_of k n Left m q rules

  end-differs : (sorted : Edit) → IsTrue asked → IsSorted (death_edit dart) sorted → IsDifference Lived Ended (step_of (made rows) sorted values [])
  end-differs sorted some order =
      parts-differ Lived Ended sorted values [] (sorted-difference k n rows (death_edit dart) sorted s.sound fits order)
      (olds-differ (IsRelabelledPlace n (dart ∷ []) []) l m p q olds values Lived Ended
      (value-shown k n rows l p rules s) (value-shown k n Left m q rules left-stored)
      (λ i d out. value-shown k n rows l p rules s i d ∙ sym (end-outside k n rows dart l m p q rules s live alone taken i d (λ h. out (inl h)))
      ∙ sym (value-shown k n Left m q rules left-stored i d)) (old some) new)
      (new.ordered (old some).ordered)
      (no-rules-differ Lived Ended refl) (none-ordered IsRuleBefore)

  pub end-step : IsStep asked Lived Ended (finished draft values [])
  end-step = record {
    follows = edit-follows k n rows (death_edit dart) l p rules s fits (omega (arith, s.sound.few)) (death-keeps k n rows dart alone s.laws) m q rules left-stored refl;
    kept = kept-shown k n Left m q rules left-stored;
    told = told-finished asked Lived Ended (death_edit dart) values [] draft begun end-differs;
  }
