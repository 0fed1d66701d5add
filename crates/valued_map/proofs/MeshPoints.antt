-- The points of a map: its 0-cells with values as places, and what they tell of its OFF text.
use Rattle.std.proofs.Common.{◌≡◌, ◌≢◌, ◌⊎◌, inl, inr, ℕ, zero, suc, ◌+◌, ◌<◌, List, [], ◌∷◌, length, map, get_or, slice_index_or, Option, Some, None, Contains, refl, sym, ap, ◌∙◌, arith}
use Rattle.std.specs.List.{AllZip}
use Rattle.std.specs.List.Sorted.{IsStrictlyIncreasing}
use Rattle.std.proofs.lemmas.Bool.{cases_eq}
use Rattle.std.proofs.lemmas.Bool.Decides.{nat_tests}
use Rattle.std.proofs.lemmas.List.{get_or-map, length-map}
use Rattle.std.proofs.lemmas.List.Elements.{Contains-get_or}
use Rattle.map_defs.specs.Kind.{Kind}
use Rattle.map_defs.specs.Rows.{Rows}
use Rattle.map_defs.specs.Values.{Value, Place}
use Rattle.map_defs.specs.Carry.{known}
use Rattle.map_defs.specs.Refusal.{Refusal}
use Rattle.map_defs.specs.OffOfMap.{OffRows, IsCell, AreOffRows, LacksPoint, HasOffText, LacksOffText}
use Rattle.map_kind.specs.declared.refusal.Refused.{Refused}
use Rattle.map_kind.specs.declared.refusal.Refused.TheVariants.{Line, NoMemory}
use Rattle.map_kind.specs.Refusals.{meaning}
use Rattle.machine_defs.specs.Listing.{ListValue, IsBefore}
use Rattle.store_defs.specs.Stores.{Store}
use Rattle.store_defs.specs.Labelings.{Labeling}
use Rattle.label_laws.specs.Stored.{stored_value}
use Rattle.label_laws.specs.Lists.{AreListed, IsNamed}
use Rattle.off_text.specs.MapViews.{placed, IfLine}

place_at : ℕ → Value → Place
place_at d v = record { dart = d; value = v }

abbrev pub place_of : ListValue → Place
place_of v = record { dart = v.dart; value = v.value }

-- what places tell of a dart
placed-told : (w : Option Value) (d : ℕ) (places : List Place) → ((v : Value) → w ≡ Some v → Contains places (place_at d v))
    → ((p : Place) → Contains places p → p.dart ≡ d → w ≡ Some p.value) → placed places d ≡ w
unfolding place_at
placed-told None d [] there told = refl
placed-told (Some v) d [] there told = absurd (let h = there v refl in let low = h.1 in omega arith)
placed-told w d (p ∷ places) there told = by (cases_eq p.dart d) (λ other. placed-told w d places (later other) (λ q h. told q (suc h.0, (let low = h.1 in omega arith), h.2)))
  where
    later : p.dart ≢ d → (v : Value) → w ≡ Some v → Contains places (record { dart = d; value = v })
    later other v is = go (there v is).0 (there v is).1 (there v is).2
      where
        go : (j : ℕ) → j < length (p ∷ places) → slice_index_or (p ∷ places) j (record { dart = d; value = v }) ≡ record { dart = d; value = v } → Contains places (record { dart = d; value = v })
        go zero low e = absurd (other (ap (λ (q : Place). q.dart) e))
        go (suc j) low e = (j, omega arith, e)

    by : (p.dart ≡ d) ⊎ (p.dart ≢ d) → (p.dart ≢ d → placed places d ≡ w) → placed (p ∷ places) d ≡ w
    by (inl same) rest =
        let first : placed (p ∷ places) d ≡ Some p.value = grind (arith, nat_tests, same) in
        first ∙ sym (told p (0, omega arith, refl) same)
    by (inr other) rest =
        let past : placed (p ∷ places) d ≡ placed places d = grind (arith, nat_tests, other) in
        past ∙ rest other

module _ (k : Kind) (rows : Rows) (labels : Labeling) (pool : Store) (values : List ListValue) (a : AreListed labels pool (λ i d. (i ≡ 0) × IsNamed k rows i d) values) where
  zero_value : ListValue
  zero_value = record { dim = 0; dart = 0; value = known None }

  flat : (j : ℕ) → j < length values → (get_or values j zero_value).dim ≡ 0
  flat j low = ((a.members (get_or values j zero_value)).0 (Contains-get_or values j zero_value low)).0.0

  dart_at : (j : ℕ) → j < length values → get_or (map (λ (place : Place). place.dart) (map place_of values)) j 0 ≡ (get_or values j zero_value).dart
  dart_at j low =
      get_or-map (λ (place : Place). place.dart) (map place_of values) j (place_of zero_value) 0 (let long = length-map values place_of in omega arith)
      ∙ ap (λ (place : Place). place.dart) (get_or-map place_of values j zero_value (place_of zero_value) low)

  pub points-rise : IsStrictlyIncreasing (map (λ (place : Place). place.dart) (map place_of values))
  points-rise j low =
      let long = length-map values place_of in
      let longer = length-map (map place_of values) (λ (place : Place). place.dart) in
      let here = dart_at j (omega arith) in
      let next = dart_at (j + 1) (omega arith) in
      let first = flat j (omega arith) in
      let second = flat (j + 1) (omega arith) in
      let less = apart (get_or values j zero_value) (get_or values (j + 1) zero_value) first second (a.ordered j (j + 1) zero_value (omega arith) (omega arith)) in
      omega arith
    where
      apart : (v w : ListValue) → v.dim ≡ 0 → w.dim ≡ 0 → IsBefore v w → v.dart < w.dart
      apart v w p q (inl less) = absurd (omega arith)
      apart v w p q (inr less) = less.1

  module _ (d : ℕ) (cell : IsCell k rows 0 d) where
    there : (v : Value) → stored_value pool labels 0 d ≡ Some v → Contains (map place_of values) (place_at d v)
    unfolding place_at
    there v is =
        let line : ListValue = record { dim = 0; dart = d; value = v } in
        let h = (a.members line).1 ((refl, cell), is) in
        (h.0, (let low = h.1 in let long = length-map values place_of in omega arith), get_or-map place_of values h.0 line (place_of line) h.1 ∙ ap place_of h.2)

    told : (p : Place) → Contains (map place_of values) p → p.dart ≡ d → stored_value pool labels 0 d ≡ Some p.value
    told p h same =
        let low : h.0 < length values = (let l = h.1 in let long = length-map values place_of in omega arith) in
        let v : ListValue = get_or values h.0 zero_value in
        let is : place_of v ≡ p = sym (get_or-map place_of values h.0 zero_value p low) ∙ h.2 in
        let has : stored_value pool labels v.dim v.dart ≡ Some v.value = ((a.members v).0 (Contains-get_or values h.0 zero_value low)).1 in
        let dart : v.dart ≡ d = ap (λ (q : Place). q.dart) is ∙ same in
        ap (stored_value pool labels 0) (sym dart) ∙ ap (λ (i : ℕ). stored_value pool labels i v.dart) (sym (flat h.0 low)) ∙ has ∙ ap (λ (q : Place). Some q.value) is

    pub points-placed : placed (map place_of values) d ≡ stored_value pool labels 0 d
    points-placed = placed-told (stored_value pool labels 0 d) d (map place_of values) there told

-- what is told of a map holds for all values that are the same at its 0-cells
module _ (k : Kind) (rows : Rows) (v w : ℕ → Option Value) (same : (d : ℕ) → IsCell k rows 0 d → v d ≡ w d) where
  points-alike : (vertices : List ℕ) (points : List Value) → ((d : ℕ) → Contains vertices d → IsCell k rows 0 d) → AllZip (λ d point. v d ≡ Some point) vertices points → AllZip (λ d point. w d ≡ Some point) vertices points
  points-alike [] [] cells zip = tt
  points-alike [] (point ∷ points) cells zip = absurd zip
  points-alike (d ∷ vertices) [] cells zip = absurd zip
  points-alike (d ∷ vertices) (point ∷ points) cells zip =
      (sym (same d (cells d (0, omega arith, refl))) ∙ zip.0, points-alike vertices points (λ e h. cells e (suc h.0, (let low = h.1 in omega arith), h.2)) zip.1)

  pub rows-alike : (off : OffRows) → AreOffRows k rows v off → AreOffRows k rows w off
  rows-alike off are = record {
    vertices = are.vertices;
    vertices_listed = are.vertices_listed;
    points = points-alike are.vertices off.points (λ d h. (are.vertices_listed.members d).0 h) are.points;
    cells = are.cells;
    cells_listed = are.cells_listed;
    faces = are.faces;
    edges = are.edges;
  }

  lacks-back : LacksPoint k rows w → LacksPoint k rows v
  lacks-back (d, cell, none) = (d, cell, same d cell ∙ none)

  lacks-on : LacksPoint k rows v → LacksPoint k rows w
  lacks-on (d, cell, none) = (d, cell, sym (same d cell) ∙ none)

  pub text-alike : HasOffText k rows v → HasOffText k rows w
  text-alike has = (has.0, λ lacks. has.1 (lacks-back lacks), has.2)

  reason-alike : (why : Refusal) → LacksOffText k rows v why → LacksOffText k rows w why
  reason-alike why (inl open_face) = inl open_face
  reason-alike why (inr (inl (is, closed, lacks))) = inr (inl (is, closed, lacks-on lacks))
  reason-alike why (inr (inr (is, closed, pointed, thin))) = inr (inr (is, closed, λ lacks. pointed (lacks-back lacks), thin))

  pub refused-alike : (refused : Refused) → IfLine refused (LacksOffText k rows v) → IfLine refused (LacksOffText k rows w)
  refused-alike (Line refusal) why = reason-alike (meaning refusal) why
  refused-alike NoMemory why = tt
