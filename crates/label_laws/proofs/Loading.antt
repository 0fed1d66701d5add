-- A map that is made from nothing: its 0-cells are given their values, and dimension 0 gets a rule.
use Rattle.std.proofs.Common.{ℕ, zero, suc, ◌≡◌, ◌≢◌, ◌⊎◌, ◌↔◌, ◌+◌, ◌<◌, ◌≤◌, inl, inr, refl, sym, ap, subst, ◌∙◌, List, [], ◌∷◌, ◌++◌, length, get_or, map, slice_set, replicate, Option, Some, None, IsSome, All, Contains, arith}
use Rattle.std.specs.List.Sorted.{IsStrictlyIncreasing}
use Rattle.std.proofs.lemmas.Bool.{false≢true, cases_lt}
use Rattle.std.proofs.lemmas.List.{length_push, length-map, get_or-map, get_or_append_left, get_or_push, get_or_default, length-set}
use Rattle.std.proofs.lemmas.List.Kept.{AllPairs-from_increasing}
use Rattle.map_defs.specs.Kind.{Kind}
use Rattle.map_defs.specs.Links.{Links}
use Rattle.map_defs.specs.Laws.{Laws}
use Rattle.map_defs.specs.Rows.{Rows, IsLive, IsSound, links_of, made}
use Rattle.map_defs.specs.Cells.{InCell, NamesCell}
use Rattle.map_defs.specs.Values.{Place, Rule}
use Rattle.map_defs.specs.Carry.{known}
use Rattle.machine_defs.specs.State.{Content, value_at}
use Rattle.link_laws.proofs.Basics.{same_or_not}
use Rattle.link_laws.proofs.CellFacts.{cell_back}
use Rattle.link_laws.proofs.RowFacts.{rows_lead_to_live}
use Rattle.edit_laws.proofs.RowWrites.{live-within}
use Rattle.value_laws.proofs.Touching.{cell_live}
use Rattle.value_laws.proofs.MapValues.{cell_trans}
use Rattle.store_defs.specs.Stores.{Store}
use Rattle.store_defs.specs.Labelings.{Labeling, id_of, KeepsIds, KeepsPlaces, HasPlaces as HasIdPlaces}
use Rattle.store_defs.specs.Groups.{Group, group_at, no_group, rule_at, labelled_value}
use Rattle.label_laws.specs.Stored.{stored_value, AreStored}
use Rattle.label_laws.specs.Changing.{IsGroupedBelow, AreGroupsGiven}
use Rattle.label_laws.specs.Contents.{all_rules, content_of}
use Rattle.label_laws.specs.Maps.{IsStoredMap}
use Rattle.label_laws.specs.Placing.{IsPlacedCell, ArePlacedCells}
use Rattle.label_laws.specs.Touching.{CanLabel}
use Rattle.label_laws.proofs.Giving.{AreCells, AreUpTo, groups-given, groups-places}
use Rattle.label_laws.proofs.Same.{stored-alike, content-alike}
use Rattle.label_laws.proofs.Showing.{value-shown, rule-shown, rules-long}
use Rattle.label_laws.proofs.LineSteps.{made_rules, made-rules-are, made-rules-long, all-rules-full}

-- the 0-cells of places, one after another
pub placed-begun : (k : Kind) (L : Links) (places : List Place) → ArePlacedCells k L places 0 []
placed-begun k L places = record { long = refl; each = λ n place lt. absurd (omega arith) }

pub placed-more : (k : Kind) (L : Links) (places : List Place) (i : ℕ) (place : Place) (groups : List Group) (g : Group) → i < length places → place ≡ get_or places i place
    → ArePlacedCells k L places i groups → IsPlacedCell k L place g → ArePlacedCells k L places (i + 1) (groups ++ g ∷ [])
placed-more k L places i place groups g lt is a one = record {
  long = length_push groups g ∙ ap (λ (n : ℕ). n + 1) a.long;
  each = λ n other below. each n other below (cases_lt n i);
}
  where
    each : (n : ℕ) (other : Place) → n < i + 1 → (n < i) ⊎ (i ≤ n) → IsPlacedCell k L (get_or places n other) (group_at (groups ++ g ∷ []) n)
    each n other below (inl less) =
        subst (λ (h : Group). IsPlacedCell k L (get_or places n other) h) (sym (get_or_append_left groups (g ∷ []) no_group n (omega (arith, a.long)))) (a.each n other less)
    each n other below (inr more) =
        let at : n ≡ i = omega arith in
        let last : group_at (groups ++ g ∷ []) i ≡ g = get_or_push groups g no_group i a.long in
        subst (λ (m : ℕ). IsPlacedCell k L (get_or places m other) (group_at (groups ++ g ∷ []) m)) (sym at)
        (subst (λ (h : Group). IsPlacedCell k L (get_or places i other) h) (sym last)
        (subst (λ (p : Place). IsPlacedCell k L p g) (is ∙ get_or_default places i place other lt) one))

-- before anything is made no dart is live
none-live : (d : ℕ) → IsLive (None ∷ []) d → ⊥
none-live zero live = false≢true live
none-live (suc d) live = false≢true live

-- There is more place for ids, and place for rules, and nothing else has changed.
module _ (k : Kind) (n : ℕ) (rows : Rows) (l m : Labeling) (p q : Store) (rules : List (Option Rule)) (s : IsStoredMap k n rows l p rules)
    (ids : KeepsIds l m) (slots : q.slots ≡ p.slots) where
  rule-made : (i : ℕ) → rule_at (made_rules n rules) i ≡ rule_at rules i
  rule-made i = ap (λ (rs : List (Option Rule)). rule_at rs i) (made-rules-are n rules) ∙ rule-shown n i rules

  pub prepared-stored : ((i : ℕ) → HasIdPlaces l i → HasIdPlaces m i) → l.made ≤ m.made → IsStoredMap k n rows m q (made_rules n rules)
  prepared-stored places longer = record {
    flat = s.flat;
    high = s.high;
    begun = s.begun;
    sound = s.sound;
    laws = s.laws;
    stored = stored-alike k (links_of rows) (IsLive rows) l m p q ids slots s.stored;
    ruled = inr (made-rules-long n rules s.ruled);
    bare = λ i d none. ids i d ∙ s.bare i d (sym (rule-made i) ∙ none);
    placed = λ i some. places i (s.placed i (subst (λ (o : Option Rule). IsSome o) (rule-made i) some));
    long = omega (arith, s.long, longer);
  }

  pub prepared-content : content_of k n rows m q (made_rules n rules) ≡ content_of k n rows l p rules
  prepared-content =
      let full : all_rules n (made_rules n rules) ≡ all_rules n rules =
      ap (all_rules n) (made-rules-are n rules) ∙ all-rules-full n (all_rules n rules) (rules-long n rules s.ruled) in
      ap (λ (rs : List (Option Rule)). record (content_of k n rows m q rules) { rules = rs }) full ∙ content-alike k n rows l m p q rules ids slots

abbrev no_place : Place
no_place = record { dart = 0; value = known None }

abbrev place_at : List Place → ℕ → Place
place_at places j = get_or places j no_place

abbrev dart_of : Place → ℕ
dart_of place = place.dart

module _ (k : Kind) (n : ℕ) (old new : Rows) (before l : Labeling) (was p : Store) (rules : List (Option Rule)) (s : IsStoredMap k n old before was rules)
    (nothing : old ≡ None ∷ []) (ids : KeepsIds before l) (laws : Laws k (links_of new)) (sound : IsSound k n new) (begun : 0 < length new)
    (long : made new ≤ l.made) (here : HasIdPlaces l 0) (places : List Place)
    (members : (d : ℕ) → Contains (map (λ (place : Place). place.dart) places) d ↔ (IsLive new d × NamesCell k (links_of new) 0 d))
    (ascending : IsStrictlyIncreasing (map (λ (place : Place). place.dart) places))
    (groups : List Group) (are : ArePlacedCells k (links_of new) places (length places) groups) where
  -- no dart has an id yet
  no-id : (i d : ℕ) → id_of l i d ≡ None
  no-id i d = ids i d ∙ go (id_of before i d) refl
    where
      go : (o : Option ℕ) → id_of before i d ≡ o → id_of before i d ≡ None
      go None e = e
      go (Some c) e = absurd (none-live d (subst (λ (r : Rows). IsLive r d) nothing (s.stored.live i d c e)))

  none-stored : AreStored k (links_of new) (IsLive new) l p
  none-stored = record {
    live = λ i d c e. absurd (let f = no-id i d in cc (e, f));
    held = λ i d c e. absurd (let f = no-id i d in cc (e, f));
    whole = λ i d x c e cell. absurd (let f = no-id i d in cc (e, f));
    apart = λ i d j x c e f. absurd (let f = no-id i d in cc (e, f));
  }

  -- the groups are different cells of live darts
  one : (g : ℕ) → g < length groups → IsPlacedCell k (links_of new) (place_at places g) (group_at groups g)
  one g lt = are.each g no_place (omega (arith, are.long))

  dart-at : (g e : ℕ) → g < length groups → get_or (map (λ (place : Place). place.dart) places) g e ≡ dart_of (place_at places g)
  dart-at g e lt = get_or-map (λ (place : Place). place.dart) places g no_place e (omega (arith, are.long))

  named : (g : ℕ) → g < length groups → IsLive new (dart_of (place_at places g)) × NamesCell k (links_of new) 0 (dart_of (place_at places g))
  named g lt = (members (dart_of (place_at places g))).0
      (g, omega (arith, are.long, lt, length-map places (λ (place : Place). place.dart)), dart-at g (dart_of (place_at places g)) lt)

  group-live : (g d : ℕ) → g < length groups → Contains (group_at groups g).darts d → IsLive new d
  group-live g d lt has =
      cell_live k (IsLive new) (links_of new) (links_of new) laws laws (IsLive new) (rows_lead_to_live k new laws) 0 (dart_of (place_at places g)) (named g lt).0 (((one g lt).members d).0 has)

  group-cell : (g d x : ℕ) → g < length groups → Contains (group_at groups g).darts d → Contains (group_at groups g).darts x ↔ InCell k (links_of new) (group_at groups g).dim d x
  group-cell g d x lt has = subst (λ (i : ℕ). Contains (group_at groups g).darts x ↔ InCell k (links_of new) i d x) (sym (one g lt).dim) (
    λ h. cell_trans k (links_of new) 0 d (dart_of (place_at places g)) x (cell_back k (links_of new) laws 0 (dart_of (place_at places g)) d (((one g lt).members d).0 has)) (((one g lt).members x).0 h),
    λ h. ((one g lt).members x).1 (cell_trans k (links_of new) 0 (dart_of (place_at places g)) d x (((one g lt).members d).0 has) h),
  )

  group-apart : (a b d : ℕ) → a < b → b < length groups → (group_at groups a).dim ≡ (group_at groups b).dim → Contains (group_at groups a).darts d → Contains (group_at groups b).darts d → ⊥
  group-apart a b d lt below dims one-has other-has =
      let low : a < length groups = omega arith in
      let rise = AllPairs-from_increasing (map (λ (place : Place). place.dart) places) ascending a b 0 lt (omega (arith, are.long, below, length-map places (λ (place : Place). place.dart))) in
      let joined = cell_trans k (links_of new) 0 (dart_of (place_at places b)) d (dart_of (place_at places a)) (((one b below).members d).0 other-has)
      (cell_back k (links_of new) laws 0 (dart_of (place_at places a)) d (((one a low).members d).0 one-has)) in
      let least : dart_of (place_at places b) ≤ dart_of (place_at places a) = (named b below).1 (dart_of (place_at places a)) joined in
      omega (arith, rise, least, dart-at a 0 low, dart-at b 0 below)

  placed-apart : AreCells k (links_of new) (IsLive new) groups (length groups)
  placed-apart = record { live = group-live; cell = group-cell; apart = group-apart }

  -- place is made for their ids
  pub placed-labelled : (g : ℕ) → g < length groups → CanLabel n l (group_at groups g)
  placed-labelled g lt = record {
    low = omega (arith, (one g lt).dim);
    places = subst (λ (i : ℕ). HasIdPlaces l i) (sym (one g lt).dim) here;
    darts_in = λ d has. (let within = live-within new d (group-live g d lt has) in omega (arith, long));
  }

  -- once they are given, dimension 0 gets a rule
  module _ (m : Labeling) (q : Store) (given : AreGroupsGiven groups (length groups) l m p q) (rule : Rule) where
    abbrev Next : List (Option Rule)
    Next = slice_set (made_rules n rules) 0 (Some rule)

    upto : AreUpTo k (links_of new) (IsLive new) groups (length groups) l m p q
    upto = groups-given k (links_of new) (IsLive new) groups (length groups) placed-apart l p none-stored (λ g d _ _. no-id (group_at groups g).dim d) (length groups) (omega arith) m q given

    -- other dimensions have no ids
    not-grouped : (i d : ℕ) → i ≢ 0 → IsGroupedBelow (length groups) groups i d → ⊥
    not-grouped i d other g = other (g.2 ∙ (one g.0 g.1).dim)

    made-long : length (made_rules n rules) ≡ n + 1
    made-long = made-rules-long n rules s.ruled

    module _ (unruled : all_rules n rules ≡ replicate (n + 1) None) where
      next-is : Next ≡ Some rule ∷ replicate n None
      next-is = ap (λ (rs : List (Option Rule)). slice_set rs 0 (Some rule)) (made-rules-are n rules ∙ unruled)
          ∙ (let e : n + 1 ≡ suc n = omega arith in ap (λ (j : ℕ). slice_set (replicate j None) 0 (Some rule)) e)

      other-rule : (i : ℕ) → i ≢ 0 → rule_at Next i ≡ None
      other-rule zero other = absurd (other refl)
      other-rule (suc i) other = ap (λ (rs : List (Option Rule)). rule_at rs (suc i)) next-is ∙ no-rule n i
        where
          no-rule : (j i : ℕ) → get_or (replicate j None) i None ≡ (let none : Option Rule = None in none)
          no-rule zero i = refl
          no-rule (suc j) zero = refl
          no-rule (suc j) (suc i) = no-rule j i

      pub loaded-stored : IsStoredMap k n new m q Next
      loaded-stored = record {
        flat = s.flat;
        high = s.high;
        begun = begun;
        sound = sound;
        laws = laws;
        stored = upto.stored;
        ruled = inr (length-set (made_rules n rules) 0 (Some rule) ∙ made-long);
        bare = λ i d none. (elim (same_or_not i 0) [
          | inl e ↦ absurd (let some : rule_at Next i ≡ Some rule = ap (rule_at Next) e ∙ ap (λ (rs : List (Option Rule)). rule_at rs 0) next-is in cc (none, some))
          | inr other ↦ upto.ids i d (not-grouped i d other) ∙ no-id i d
        ]);
        placed = λ i some. (elim (same_or_not i 0) [
          | inl e ↦ subst (λ (j : ℕ). HasIdPlaces m j) (sym e) ((after.1 0).1 here)
          | inr other ↦ absurd (false≢true (subst (λ (o : Option Rule). IsSome o) (other-rule i other) some))
        ]);
        long = omega (arith, long, after.0);
      }
        where
          after : (m.made ≡ l.made) × KeepsPlaces l m
          after = groups-places groups (length groups) l m p q given

      abbrev Loaded : Content
      Loaded = content_of k n new m q Next

      pub loaded-rules : Loaded.rules ≡ Some rule ∷ replicate n None
      loaded-rules = ap (all_rules n) next-is

      pub loaded-values : All (λ (place : Place). (d : ℕ) → InCell k (links_of new) 0 place.dart d → value_at Loaded 0 d ≡ Some place.value) places
      loaded-values j place lt d cell =
          let below : j < length groups = omega (arith, are.long) in
          let this = are.each j place lt in
          let has = (this.members d).1 cell in
          value-shown k n new m q Next loaded-stored 0 d
          ∙ subst (λ (i : ℕ). stored_value q m i d ≡ (group_at groups j).value) this.dim (upto.values j d below has) ∙ this.value

      pub loaded-others : (i d : ℕ) → i ≢ 0 → value_at Loaded i d ≡ None
      loaded-others i d other =
          value-shown k n new m q Next loaded-stored i d ∙ upto.others i d (not-grouped i d other) ∙ ap (labelled_value p) (no-id i d)
