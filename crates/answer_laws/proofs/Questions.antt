-- Each question about a map has an answer: yes or no, a list of darts, counts, and the list of values.
use Rattle.std.proofs.Common.{◌≡◌, ◌↔◌, ℕ, suc, ◌+◌, ◌<◌, ◌≤◌, true, false, List, [], ◌∷◌, ◌++◌, length, map, Option, Some, None, IsSome, Contains, refl, sym, ap, ◌∙◌, subst, inl, inr, arith}
use Rattle.std.specs.Prelude.{slice_index}
use Rattle.std.specs.List.{range_with_len}
use Rattle.std.specs.List.Sorted.{IsStrictlyIncreasing}
use Rattle.std.proofs.lemmas.Bool.{cases_lt}
use Rattle.std.proofs.lemmas.List.{get_or_append_left, get_or_push, length-append}
use Rattle.std.proofs.lemmas.List.FromFn.{get_or-map-range_with_len, length-map-range_with_len}
use Rattle.map_defs.specs.Kind.{Kind}
use Rattle.map_defs.specs.Links.{Links}
use Rattle.map_defs.specs.Laws.{Laws}
use Rattle.map_defs.specs.Rows.{Rows, IsLive, links_of, live_count}
use Rattle.map_defs.specs.Cells.{InCell, NamesCell, NamesComponent}
use Rattle.map_defs.specs.Counts.{HasCount, AreCountsAmong, AreCounts}
use Rattle.map_defs.specs.Values.{Value}
use Rattle.map_defs.specs.Carry.{known}
use Rattle.machine_defs.specs.State.{Content, State, value_at, HasPlaces}
use Rattle.machine_defs.specs.Listing.{ListValue, ListsValues, ListsValuesIn, IsBefore}
use Rattle.machine_defs.specs.Text.{Truth}
use Rattle.machine_defs.specs.Machine.{TellsWhether}
use Rattle.link_laws.proofs.RowFacts.{rows_lead_to_live}
use Rattle.edit_laws.proofs.RowWrites.{live-within}
use Rattle.value_laws.proofs.Touching.{cell_live}
use Rattle.journal_laws.proofs.ContentFacts.{value-above}
use Rattle.answer_laws.specs.Answering.{NotNot}
use Rattle.answer_laws.proofs.Choosing.{either_way, choose}
use Rattle.answer_laws.proofs.Listed.{tabled, keyed, ascending}
use Rattle.answer_laws.proofs.Checked.{Has}

pub tells_found : (s : State) (P : Type 0) → NotNot (Has (TellsWhether s P))
tells_found s P never = either_way P (λ c. elim c [
  | inl p ↦ never (Truth true, s, (true, (λ h. p, λ h. refl), refl, refl))
  | inr n ↦ never (Truth false, s, (false, (λ h. absurd (cc (h)), λ p. absurd (n p)), refl, refl))
])

-- a cell of a live dart
pub cell_found : (k : Kind) (rows : Rows) → Laws k (links_of rows) → (i d : ℕ) → IsLive rows d
    → NotNot ((darts : List ℕ) × IsStrictlyIncreasing darts × ((e : ℕ) → Contains darts e ↔ InCell k (links_of rows) i d e))
cell_found k rows w i d live =
    ascending (InCell k (links_of rows) i d) (length rows)
    (λ e h. live-within rows e (cell_live k (IsLive rows) (links_of rows) (links_of rows) w w (IsLive rows) (rows_lead_to_live k rows w) i d live h))

pub count_found : (P : ℕ → Type 0) (top : ℕ) → ((x : ℕ) → P x → x < top) → NotNot ((count : ℕ) × HasCount P count)
count_found P top bound never = ascending P top bound (λ found. never (length found.0, record { numbers = found.0; ascending = found.1; members = found.2; counted = refl }))

-- links among live darts, of which there are so many, below a bound
module _ (k : Kind) (n : ℕ) (Live : ℕ → Type 0) (live : ℕ) (L : Links) (top : ℕ) (within : (x : ℕ) → Live x → x < top) where
  module _ (cells : ℕ → ℕ) (components : ℕ) where
    middle : List ℕ
    middle = map cells (range_with_len 0 (n + 1))

    counts : List ℕ
    counts = live ∷ (middle ++ components ∷ [])

    long_middle : length middle ≡ n + 1
    unfolding middle
    long_middle = length-map-range_with_len cells 0 (n + 1)

    long : length counts ≡ n + 3
    unfolding counts
    long = let l = length-append middle (components ∷ []) in omega (arith, l, long_middle)

    at_cell : (i : ℕ) → i ≤ n → slice_index counts (i + 1) ≡ cells i
    unfolding counts middle
    at_cell i l =
        let e : suc i ≡ i + 1 = omega arith in
        ap (slice_index counts) (sym e) ∙ get_or_append_left middle (components ∷ []) 0 i (omega (arith, long_middle))
        ∙ get_or-map-range_with_len cells 0 (n + 1) i i 0 (omega arith) (omega arith)

    at_last : slice_index counts (n + 2) ≡ components
    unfolding counts
    at_last = let e : suc (n + 1) ≡ n + 2 = omega arith in ap (slice_index counts) (sym e) ∙ get_or_push middle components 0 (n + 1) long_middle

    are_counts : ((i : ℕ) → i < n + 1 → HasCount (λ d. Live d × NamesCell k L i d) (cells i))
        → HasCount (λ d. Live d × NamesComponent L d) components → AreCountsAmong k n Live live L counts
    unfolding counts
    are_counts each all = record {
      long = long;
      darts = refl;
      cells = λ i l. subst (HasCount (λ d. Live d × NamesCell k L i d)) (sym (at_cell i l)) (each i (omega arith));
      components = subst (HasCount (λ d. Live d × NamesComponent L d)) (sym at_last) all;
    }

  pub counts_among_found : NotNot ((all : List ℕ) × AreCountsAmong k n Live live L all)
  counts_among_found never =
      choose (λ i count. HasCount (λ d. Live d × NamesCell k L i d) count) 0 (n + 1)
      (λ i l. count_found (λ d. Live d × NamesCell k L i d) top (λ x h. within x h.0))
      (λ cells. count_found (λ d. Live d × NamesComponent L d) top (λ x h. within x h.0)
      (λ all. never (counts cells.0 all.0, are_counts cells.0 all.0 cells.1 all.1)))

pub counts_found : (k : Kind) (n : ℕ) (rows : Rows) → NotNot ((all : List ℕ) × AreCounts k n rows all)
counts_found k n rows = counts_among_found k n (IsLive rows) (live_count rows) (links_of rows) (length rows) (live-within rows)

some-known : (o : Option Value) → IsSome o → o ≡ Some (known o)
some-known None h = absurd (cc (h))
some-known (Some v) h = refl

is-some : (o : Option Value) (v : Value) → o ≡ Some v → IsSome o
is-some o v e = rw e refl

module _ (c : Content) (places : HasPlaces c) where
  abbrev Names : ℕ → ℕ → Type 0
  Names i d = IsSome (value_at c i d) × NamesCell c.kind (links_of c.rows) i d

  key : ℕ → ℕ → ListValue
  key i d = record { dim = i; dart = d; value = known (value_at c i d) }

  -- a value stands at a dart that was made, in a dimension of the map
  dimension : (i d : ℕ) (v : Value) → value_at c i d ≡ Some v → i < c.dim + 1
  dimension i d v e = elim (cases_lt c.dim i) [
    | inl above ↦ absurd (let none = value-above c places i d above in cc)
    | inr within ↦ omega arith
  ]

  dart : (i d : ℕ) (v : Value) → value_at c i d ≡ Some v → d < length c.rows
  dart i d v e = elim (cases_lt d (length c.rows)) [
    | inl within ↦ within
    | inr beyond ↦ absurd (let none = places.none i d (λ live. let l = live-within c.rows d live in omega arith) in cc)
  ]

  rising : (i j a b : ℕ) → i < j → IsBefore (key i a) (key j b)
  unfolding key
  rising i j a b less = inl less

  along : (i a b : ℕ) → a < b → IsBefore (key i a) (key i b)
  unfolding key
  along i a b less = inr (refl, less)

  told : (v : ListValue) (i d : ℕ) → Names i d → v ≡ key i d → (value_at c v.dim v.dart ≡ Some v.value) × NamesCell c.kind (links_of c.rows) v.dim v.dart
  unfolding key
  told v i d names e = rw e (some-known (value_at c i d) names.0, names.1)

  same : (v : ListValue) → value_at c v.dim v.dart ≡ Some v.value → v ≡ key v.dim v.dart
  unfolding key
  same v e =
      let value : v.value ≡ known (value_at c v.dim v.dart) = ap known (sym e) in
      ap (λ (x : Value). record { dim = v.dim; dart = v.dart; value = x }) value

  pub values_listed : NotNot ((values : List ListValue) × ListsValues c values)
  values_listed never =
      tabled IsBefore Names key (c.dim + 1) (length c.rows) rising along (λ found.
      never (
        found.0,
        record {
          members = λ v. (
            λ h. let a = (found.1.members v).0 h in told v a.0 a.2.0 a.2.2.0 a.2.2.1,
            λ h. (found.1.members v).1 (v.dim, dimension v.dim v.dart v.value h.0, (v.dart, dart v.dim v.dart v.value h.0, ((is-some _ v.value h.0, h.1), same v h.0))),
          );
          ordered = found.1.ordered;
        },
      ))

  told-in : (v : ListValue) (i d : ℕ) → Names i d → v ≡ key i d → (v.dim ≡ i) × (value_at c i v.dart ≡ Some v.value) × NamesCell c.kind (links_of c.rows) i v.dart
  unfolding key
  told-in v i d names e = rw e (refl, some-known (value_at c i d) names.0, names.1)

  -- the valued cells of one dimension
  pub dimension_listed : (i : ℕ) → NotNot ((values : List ListValue) × ListsValuesIn c i values)
  dimension_listed i never =
      keyed IsBefore (Names i) (key i) (length c.rows) (along i) (λ found.
      never (
        found.0,
        record {
          members = λ v. (
            λ h. let a = (found.1.members v).0 h in told-in v i a.0 a.2.0 a.2.1,
            λ h. (found.1.members v).1 (v.dart, dart i v.dart v.value h.1, ((is-some _ v.value h.1, h.2), subst (λ (j : ℕ). v ≡ key j v.dart) h.0 (same v (rw h.0 h.1)))),
          );
          ordered = found.1.ordered;
        },
      ))
