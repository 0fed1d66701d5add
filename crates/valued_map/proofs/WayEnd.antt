-- The parts of a map at the end of a way through steps.
use Rattle.std.proofs.Common.{ℕ, ◌≡◌, ◌⊎◌, ◌+◌, ◌<◌, ◌≤◌, inl, inr, refl, sym, ap, subst, ◌∙◌, List, [], length, get_or, Option, None, Some, IsSome, Contains, arith}
use Rattle.std.proofs.lemmas.Bool.{false≢true}
use Rattle.map_defs.specs.Kind.{Kind}
use Rattle.map_defs.specs.Laws.{Laws, IsLawful}
use Rattle.map_defs.specs.Rows.{Rows, IsLive, links_of, made, IsSound}
use Rattle.map_defs.specs.Cells.{InCell}
use Rattle.map_defs.specs.Touched.{IsOldCell}
use Rattle.map_defs.specs.Values.{Value, Rule}
use Rattle.machine_defs.specs.State.{Content, value_at, rule_at as rule_in}
use Rattle.machine_defs.specs.Difference.{Difference, RuleChange}
use Rattle.link_laws.proofs.Told.{laws_of_told}
use Rattle.link_laws.proofs.RowFacts.{rows_dimension, rows_lead_to_live}
use Rattle.edit_laws.proofs.RowWrites.{live-within}
use Rattle.value_laws.proofs.OfRows.{told_live}
use Rattle.value_laws.specs.Rerouted.{IsTouchedIn}
use Rattle.value_laws.proofs.Touching.{rerouted_touch}
use Rattle.journal_laws.proofs.ContentFacts.{values-one, same-content}
use Rattle.store_defs.specs.Stores.{Store}
use Rattle.store_defs.specs.Labelings.{Labeling, KeepsIds, KeepsPlaces, HasPlaces as HasIdPlaces}
use Rattle.store_defs.specs.Groups.{Group, group_at, rule_at}
use Rattle.label_laws.specs.Stored.{stored_value, AreStored}
use Rattle.label_laws.specs.Changing.{AreTaken, AreRelabelled, IsGroupedBelow}
use Rattle.label_laws.specs.Contents.{content_of, all_rules}
use Rattle.label_laws.specs.Maps.{IsStoredMap}
use Rattle.label_laws.specs.Touching.{CanLabel}
use Rattle.label_laws.specs.Restoring.{AreRestored}
use Rattle.label_laws.proofs.Giving.{groups-places}
use Rattle.label_laws.proofs.Taking.{taken-as, taken-then}
use Rattle.label_laws.proofs.Same.{stored_value-alike, stored-alike}
use Rattle.label_laws.proofs.Showing.{value-shown, places-shown, rule-shown, ruled-low}
use Rattle.label_laws.proofs.Restored.{IsEarlier, stored-before, stored_value-before, bare-before}
use Rattle.valued_map.specs.Undoing.{HasRoomFor, IsRevalued, IsMapWord}
use Rattle.valued_map.specs.Ways.{other_way, in_turn, rules_along, value_along, all_along, AreStepsAlong, AreEditsAlong, later_end, IsNearStep, IsStepped}
use Rattle.valued_map.specs.declared.way.Way.{Way}
use Rattle.valued_map.proofs.Along.{near-steps, value-stays}
use Rattle.valued_map.proofs.TwoWays.{IsWay, way-of, edits-along, edits-turned}

has-rule : (o : Option Rule) → (o ≡ None → ⊥) → IsSome o
has-rule None none = absurd (none refl)
has-rule (Some rule) none = refl

module _ (k : Kind) (n : ℕ) (rows : Rows) (l : Labeling) (p : Store) (rules : List (Option Rule)) (s : IsStoredMap k n rows l p rules)
    (way : Way) (steps : List Difference) (along : AreStepsAlong way (content_of k n rows l p rules) steps) where
  abbrev Now : Content
  Now = content_of k n rows l p rules

  abbrev Next : Content
  Next = all_along way steps Now

  abbrev After : Rows
  After = Next.rows

  w : IsWay way Now Next steps
  w = way-of way Now steps along

  -- the edits lead from the rows to those at the end
  pub edits-led : (places : ℕ) → HasRoomFor (later_end way steps Now) steps places → AreEditsAlong way k n steps rows After places
  edits-led places room = edits-along way Now steps along places room

  pub rows-there : (places : ℕ) → HasRoomFor (later_end way steps Now) steps places → (there : Rows)
      → ((others : Rows) → AreEditsAlong way k n steps rows others places → there ≡ others) → there ≡ After
  rows-there places room there told = told After (edits-led places room)

  -- and the other way back
  pub edits-back : (places : ℕ) → HasRoomFor (later_end way steps Now) steps places → (there : Rows) → there ≡ After → (turned : Way) → turned ≡ other_way way
      → (most : ℕ) → most ≡ places → AreEditsAlong turned k n steps there rows most
  edits-back places room there is turned way-is most same =
      subst (λ (v : Way). AreEditsAlong v k n steps there rows most) (sym way-is)
      (subst (λ (m : ℕ). AreEditsAlong (other_way way) k n steps there rows m) (sym same)
      (subst (λ (r : Rows). AreEditsAlong (other_way way) k n steps r rows places) (sym is) (edits-turned way k n steps rows After places (edits-led places room))))

  -- rules and values change in the map's dimensions alone
  pub rules-low : (t : Difference) (c : RuleChange) → Contains steps t → Contains t.rules c → c.dim ≤ n
  rules-low = w.rules_low

  pub values-low : (i d : ℕ) → IsRevalued steps i d → i ≤ n
  values-low = w.values_low

  after-sound : IsSound k n After
  after-sound = subst (λ (m : ℕ). IsSound k m After) w.dim (subst (λ (j : Kind). IsSound j Next.dim After) w.kind w.kept.sound)

  after-laws : Laws k (links_of After)
  after-laws = laws_of_told k (links_of After) (subst (λ (j : Kind). IsLawful j (links_of After)) w.kind w.kept.lawful)

  pub there-sound : (there : Rows) → there ≡ After → IsSound k n there
  there-sound there is = subst (λ (r : Rows). IsSound k n r) (sym is) after-sound

  pub there-laws : (there : Rows) → there ≡ After → Laws k (links_of there)
  there-laws there is = subst (λ (r : Rows). Laws k (links_of r)) (sym is) after-laws

  -- a value changes at darts that the labels are for
  pub values-fit : (m : ℕ) → l.made ≡ m → made After ≤ m → (i d : ℕ) → IsRevalued steps i d → d ≤ m
  values-fit m same long i d changed = elim (w.values_made i d changed) [
    | inl low ↦ let most : made rows ≤ l.made = s.long in omega (arith, low, most, same)
    | inr low ↦ omega (arith, low, long)
  ]

  -- the value at the end of the way
  abbrev Is : ℕ → ℕ → Option Value
  Is i d = value_along way (in_turn way steps) i d (stored_value p l i d)

  value-is : (i d : ℕ) → Is i d ≡ value_at Next i d
  value-is i d = ap (λ (v : Option Value). value_along way (in_turn way steps) i d v) (sym (value-shown k n rows l p rules s i d)) ∙ w.values i d

  -- the rules, labels and pool once memory is taken
  module _ (rules0 : List (Option Rule)) (ruled : (rules0 ≡ []) ⊎ (length rules0 ≡ n + 1)) (rules-on : all_rules n rules0 ≡ rules_along way (in_turn way steps) (all_rules n rules)) (l1 : Labeling) (p1 : Store)
      (ids : KeepsIds l l1) (slots : p1.slots ≡ p.slots) where
    next-rules : Next.rules ≡ all_rules n rules0
    next-rules = sym w.rules ∙ sym rules-on

    rule-same : (i : ℕ) → rule_in Next i ≡ rule_at rules0 i
    rule-same i = ap (λ (rs : List (Option Rule)). get_or rs i None) next-rules ∙ rule-shown n i rules0

    some-lives : (i d : ℕ) → IsSome (Is i d) → IsLive After d
    some-lives i d some = elim (told_live After d) [
      | inl live ↦ live
      | inr dead ↦ absurd (false≢true (subst (λ (o : Option Value). IsSome o) (value-is i d ∙ w.kept.places.none i d dead) some))
    ]

    some-ruled : (i d : ℕ) → IsSome (Is i d) → IsSome (rule_at rules0 i)
    some-ruled i d some = has-rule (rule_at rules0 i)
        (λ none. false≢true (subst (λ (o : Option Value). IsSome o) (value-is i d ∙ w.kept.none i d (rule-same i ∙ none)) some))

    cell-equal : (i x y : ℕ) → IsLive After x → InCell k (links_of After) i x y → Is i x ≡ Is i y
    cell-equal i x y live cell =
        value-is i x
        ∙ w.kept.equal i x y live (subst (λ (j : Kind). InCell j (links_of After) i x y) (sym w.kind) cell)
        ∙ sym (value-is i y)

    near-touched : (i x : ℕ) → IsTouchedIn k i (links_of rows) (IsLive rows) (links_of After) (IsLive After) x → IsNearStep way (IsMapWord k n i) After steps x
    near-touched i x t =
        near-steps way steps rows After w.links w.lives k n i (rows_dimension n rows s.sound.wide) (rows_dimension n After after-sound.wide) s.laws after-laws x t

    old-cell : (i d : ℕ) → IsLive After d → ((x : ℕ) → InCell k (links_of After) i d x → IsStepped way k n After steps i x → ⊥) → IsOldCell k i (links_of rows) (IsLive rows) (links_of After) d
    old-cell i d live none =
        rerouted_touch k (IsLive rows) (links_of rows) (links_of After) s.laws after-laws (IsLive After) (IsNearStep way (IsMapWord k n i) After steps) (told_live rows)
        (rows_lead_to_live k After after-laws) i (near-touched i) d live (λ x cell near. none x cell (inl near))

    restoring : IsEarlier k rows After l1 p1 (IsRevalued steps) (IsStepped way k n After steps) (λ i. IsSome (rule_at rules0 i)) Is
    restoring = record {
      stays = λ i d none. value-stays way steps i d (stored_value p l i d) none ∙ sym (stored_value-alike l l1 p p1 ids slots i d);
      lives = some-lives;
      ruled = some-ruled;
      equal = cell-equal;
      wanted = λ i d ch. inr ch;
      touches = λ i d dim live none. old-cell i d live none;
    }

    stored1 : AreStored k (links_of rows) (IsLive rows) l1 p1
    stored1 = stored-alike k (links_of rows) (IsLive rows) l l1 p p1 ids slots s.stored

    module _ (there : Rows) (there-is : there ≡ After) (groups : List Group)
        (found : AreRestored k (links_of there) (IsLive there) (λ i. IsSome (rule_at rules0 i)) (IsStepped way k n there steps) Is groups) (placed : (i : ℕ) → IsSome (rule_at rules0 i) → HasIdPlaces l1 i) (long : made After ≤ l1.made) where
      restored : AreRestored k (links_of After) (IsLive After) (λ i. IsSome (rule_at rules0 i)) (IsStepped way k n After steps) Is groups
      restored = subst (λ (r : Rows). AreRestored k (links_of r) (IsLive r) (λ i. IsSome (rule_at rules0 i)) (IsStepped way k n r steps) Is groups) there-is found

      -- the groups can be labelled
      pub groups-fit : (l2 : Labeling) → l2.made ≡ l1.made → KeepsPlaces l1 l2 → (g : ℕ) → g < length groups → CanLabel n l2 (group_at groups g)
      groups-fit l2 made2 places g lt =
          let one = restored.cells g lt in
          let low = ruled-low n (group_at groups g).dim rules0 ruled one.dim in
          record {
            low = omega arith;
            places = (places (group_at groups g).dim).1 (placed (group_at groups g).dim one.dim);
            darts_in = λ d here. (let within = live-within After d (one.live d here) in let begun = w.kept.begun in omega (arith, within, begun, long, made2));
          }

      -- the ids were taken and given
      module _ (l2 : Labeling) (p2 : Store) (taken : AreTaken (IsRevalued steps) l1 l2 p1 p2) (l3 : Labeling) (p3 : Store)
          (items : List Group) (items-are : items ≡ groups) (given : AreRelabelled (λ i d. ((i < n + 1) × Contains [] d) ⊎ IsGroupedBelow (length items) items i d) items l2 l3 p2 p3) where
        relabelled : AreRelabelled (λ i d. ((i < n + 1) × Contains [] d) ⊎ IsGroupedBelow (length groups) groups i d) groups l2 l3 p2 p3
        relabelled = subst (λ (gs : List Group). AreRelabelled (λ i d. ((i < n + 1) × Contains [] d) ⊎ IsGroupedBelow (length gs) gs i d) gs l2 l3 p2 p3) items-are given

        all-taken : AreTaken (λ i d. IsRevalued steps i d ⊎ IsGroupedBelow (length groups) groups i d) l1 relabelled.0 p1 relabelled.1
        all-taken =
            taken-as (λ i d. IsRevalued steps i d ⊎ (((i < n + 1) × Contains [] d) ⊎ IsGroupedBelow (length groups) groups i d)) (λ i d. IsRevalued steps i d ⊎ IsGroupedBelow (length groups) groups i d)
            l1 relabelled.0 p1 relabelled.1
            (λ i d. (
              λ w. elim w [ inl ch ↦ inl ch | inr more ↦ elim more [ inl none ↦ absurd (let lt : none.1.0 < 0 = none.1.1 in omega arith) | inr g ↦ inr g ] ],
              λ w. elim w [ inl ch ↦ inl ch | inr g ↦ inr (inr g) ],
            ))
            (taken-then (IsRevalued steps) (λ i d. ((i < n + 1) × Contains [] d) ⊎ IsGroupedBelow (length groups) groups i d) l1 l2 relabelled.0 p1 p2 relabelled.1 taken relabelled.2)

        values3 : (i d : ℕ) → stored_value p3 l3 i d ≡ Is i d
        values3 =
            stored_value-before k rows After s.laws after-laws l1 p1 stored1 (IsRevalued steps) (IsStepped way k n After steps) (λ i. IsSome (rule_at rules0 i)) Is restoring groups restored
            relabelled.0 relabelled.1 all-taken l3 p3 relabelled.3

        places3 : (l3.made ≡ relabelled.0.made) × KeepsPlaces relabelled.0 l3
        places3 = groups-places groups (length groups) relabelled.0 l3 relabelled.1 p3 relabelled.3

        no-value : (i d : ℕ) → rule_at rules0 i ≡ None → Is i d ≡ None
        no-value i d none = value-is i d ∙ w.kept.none i d (rule-same i ∙ none)

        end-stored : IsStoredMap k n After l3 p3 rules0
        end-stored = record {
          flat = s.flat;
          high = s.high;
          begun = (let begun = w.kept.begun in omega arith);
          sound = after-sound;
          laws = after-laws;
          stored = stored-before k rows After s.laws after-laws l1 p1 stored1 (IsRevalued steps) (IsStepped way k n After steps) (λ i. IsSome (rule_at rules0 i)) Is restoring groups restored
              relabelled.0 relabelled.1 all-taken l3 p3 relabelled.3;
          ruled = ruled;
          bare = λ i d none. bare-before k rows After s.laws after-laws l1 p1 stored1 (IsRevalued steps) (IsStepped way k n After steps) (λ i. IsSome (rule_at rules0 i)) Is restoring groups restored
              relabelled.0 relabelled.1 all-taken l3 p3 relabelled.3 i d (no-value i d none);
          placed = λ i some. (places3.1 i).1 ((all-taken.places i).1 (placed i some));
          long = omega (arith, places3.0, all-taken.made, long);
        }

        end-content : content_of k n After l3 p3 rules0 ≡ Next
        end-content =
            same-content (content_of k n After l3 p3 rules0) Next (sym w.kind) (sym w.dim) refl
            (values-one (content_of k n After l3 p3 rules0) Next (places-shown k n After l3 p3 rules0 end-stored) w.kept.places (sym w.dim) refl
            (λ i d low live. value-shown k n After l3 p3 rules0 end-stored i d ∙ values3 i d ∙ value-is i d))
            (sym next-rules)

        -- the map and its content, with the links and the rules that were put there
        pub ended : (rules1 : List (Option Rule)) → rules1 ≡ rules0 → IsStoredMap k n there l3 p3 rules1 × (content_of k n there l3 p3 rules1 ≡ Next)
        ended rules1 put = (
          subst (λ (rs : List (Option Rule)). IsStoredMap k n there l3 p3 rs) (sym put) (subst (λ (r : Rows). IsStoredMap k n r l3 p3 rules0) (sym there-is) end-stored),
          ap (λ (rs : List (Option Rule)). content_of k n there l3 p3 rs) put ∙ ap (λ (r : Rows). content_of k n r l3 p3 rules0) there-is ∙ end-content,
        )
