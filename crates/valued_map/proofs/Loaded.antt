-- What links and values make of a map without darts.
use Rattle.std.proofs.Common.{ℕ, ◌≡◌, ◌↔◌, ◌+◌, ◌<◌, ◌≤◌, refl, sym, ap, subst, ◌∙◌, List, [], ◌∷◌, length, map, replicate, slice_set, Option, Some, None, Contains, arith}
use Rattle.std.specs.List.Sorted.{IsStrictlyIncreasing}
use Rattle.std.proofs.lemmas.List.{length-map}
use Rattle.map_defs.specs.Kind.{Kind}
use Rattle.map_defs.specs.Laws.{Laws}
use Rattle.map_defs.specs.Rows.{Rows, IsLive, IsSound, links_of, made}
use Rattle.map_defs.specs.Cells.{NamesCell}
use Rattle.map_defs.specs.Values.{Place, Rule}
use Rattle.machine_defs.specs.State.{Content, empty_content}
use Rattle.machine_defs.specs.Loading.{first_copy}
use Rattle.cell_walk.specs.CellLists.{AreCellsOf}
use Rattle.store_defs.specs.Stores.{Store}
use Rattle.store_defs.specs.Labelings.{Labeling, KeepsIds, HasPlaces}
use Rattle.label_laws.proofs.Same.{stored-alike}
use Rattle.store_defs.specs.Groups.{Group}
use Rattle.label_laws.specs.Changing.{AreGroupsGiven}
use Rattle.label_laws.specs.Contents.{all_rules, content_of}
use Rattle.label_laws.specs.Maps.{IsStoredMap}
use Rattle.label_laws.specs.Placing.{ArePlacedCells}
use Rattle.label_laws.specs.Touching.{CanLabel}
use Rattle.label_laws.proofs.Showing.{places-shown, kept-shown}
use Rattle.label_laws.proofs.LineSteps.{made_rules}
use Rattle.label_laws.proofs.Loading.{placed-labelled, loaded-stored, loaded-rules, loaded-values, loaded-others}
use Rattle.valued_map.specs.Made.{IsMadeOf}
use Rattle.valued_map.specs.Placed.{placed_group, placed_groups}
use Rattle.valued_map.proofs.PlacedGroups.{length-placed, placed-at, placed-cells}

module _ (k : Kind) (n : ℕ) (rows : Rows) (before : Labeling) (was : Store) (rules : List (Option Rule)) (s : IsStoredMap k n rows before was rules)
    (empty : content_of k n rows before was rules ≡ empty_content k n)
    (new : Rows) (begun : 0 < length new) (sound : IsSound k n new) (laws : Laws k (links_of new)) where
  no-rows : rows ≡ None ∷ []
  no-rows = ap (λ (c : Content). c.rows) empty

  no-rules : all_rules n rules ≡ replicate (n + 1) None
  no-rules = ap (λ (c : Content). c.rules) empty

  module _ (l : Labeling) (p : Store) (ids : KeepsIds before l) (long : made new ≤ l.made) (here : HasPlaces l 0) (places : List Place)
      (members : (d : ℕ) → Contains (map (λ (place : Place). place.dart) places) d ↔ (IsLive new d × NamesCell k (links_of new) 0 d))
      (ascending : IsStrictlyIncreasing (map (λ (place : Place). place.dart) places))
      (cells : List (List ℕ)) (are : AreCellsOf k (links_of new) 0 (map (λ (place : Place). place.dart) places) cells) where
    abbrev groups : List Group
    groups = placed_groups places cells

    placed : ArePlacedCells k (links_of new) places (length places) groups
    placed = placed-cells places cells k (links_of new) are

    pub load-labelled : (g : ℕ) → g < length places → CanLabel n l (placed_group places cells g)
    load-labelled g low =
        subst (λ (x : Group). CanLabel n l x) (placed-at places cells g low)
        (placed-labelled k n rows new before l was p rules s no-rows ids laws sound begun long here places members ascending groups placed g (omega (arith, low, length-placed places cells)))

    pub load-long : length cells ≡ length places
    load-long = are.long ∙ length-map places (λ (place : Place). place.dart)

    module _ (m : Labeling) (q : Store) (given : AreGroupsGiven groups (length places) l m p q) where
      all-given : AreGroupsGiven groups (length groups) l m p q
      all-given = subst (λ (j : ℕ). AreGroupsGiven groups j l m p q) (sym (length-placed places cells)) given

      abbrev Next : List (Option Rule)
      Next = slice_set (made_rules n rules) 0 (Some first_copy)

      pub load-stored : IsStoredMap k n new m q Next
      load-stored = loaded-stored k n rows new before l was p rules s no-rows ids laws sound begun long here places members ascending groups placed m q all-given first_copy no-rules

      pub load-made : IsMadeOf k n new places (content_of k n new m q Next)
      load-made = record {
        kind = refl;
        dim = refl;
        rows_are = refl;
        rules = loaded-rules k n rows new before l was p rules s no-rows ids laws sound begun long here places members ascending groups placed m q all-given first_copy no-rules;
        places_are = places-shown k n new m q Next load-stored;
        values = loaded-values k n rows new before l was p rules s no-rows ids laws sound begun long here places members ascending groups placed m q all-given first_copy no-rules;
        others = loaded-others k n rows new before l was p rules s no-rows ids laws sound begun long here places members ascending groups placed m q all-given first_copy no-rules;
        kept = kept-shown k n new m q Next load-stored;
      }

-- the same ids with more places
pub roomier-stored : (k : Kind) (n : ℕ) (rows : Rows) (l m : Labeling) (p q : Store) (rules : List (Option Rule)) → IsStoredMap k n rows l p rules → KeepsIds l m
    → ((i : ℕ) → HasPlaces l i → HasPlaces m i) → l.made ≤ m.made → q.slots ≡ p.slots → IsStoredMap k n rows m q rules
roomier-stored k n rows l m p q rules s ids places long slots = record {
  flat = s.flat;
  high = s.high;
  begun = s.begun;
  sound = s.sound;
  laws = s.laws;
  stored = stored-alike k (links_of rows) (IsLive rows) l m p q ids slots s.stored;
  ruled = s.ruled;
  bare = λ i d none. ids i d ∙ s.bare i d none;
  placed = λ i some. places i (s.placed i some);
  long = omega (arith, s.long, long);
}
