-- What an edit makes of a map, by the parts that the code has.
use Rattle.std.proofs.Common.{ℕ, zero, suc, ◌≡◌, ◌≢◌, ◌⊎◌, ◌↔◌, ◌+◌, ◌<◌, ◌≤◌, inl, inr, refl, sym, ap, subst, List, [], ◌∷◌, ◌++◌, length, map, slice_set, max, Option, Some, None, IsSome, All, Contains, arith}
use Rattle.std.proofs.lemmas.Bool.{false≢true, cases_eq}
use Rattle.std.proofs.lemmas.List.{append-nil}
use Rattle.map_defs.specs.Kind.{Kind}
use Rattle.map_defs.specs.Laws.{Laws}
use Rattle.map_defs.specs.Rows.{Rows, IsLive, links_of, made, made_max, IsSound}
use Rattle.map_defs.specs.Edits.{Edit, Fits, IsLed, after_edit}
use Rattle.map_defs.specs.Values.{Rule, Hook, AreWhole}
use Rattle.machine_defs.specs.State.{Content, with_born, without_dart}
use Rattle.link_laws.proofs.RowFacts.{rows_lead_to_live}
use Rattle.edit_laws.proofs.EditSound.{length-after, after-sound}
use Rattle.edit_laws.proofs.EditLinks.{lives-on}
use Rattle.edit_laws.proofs.EditPlain.{death_edit, death-fits}
use Rattle.edit_laws.proofs.RowWrites.{live-within}
use Rattle.edit_laws.proofs.KeptLaws.{death-keeps}
use Rattle.value_laws.proofs.Touching.{cell_live}
use Rattle.store_defs.specs.Stores.{Store}
use Rattle.store_defs.specs.Labelings.{Labeling, id_of, KeepsIds, KeepsPlaces}
use Rattle.store_defs.specs.Groups.{Group, group_at, rule_at, HasCarriedValue}
use Rattle.label_laws.specs.Stored.{AreSmall, stored_value}
use Rattle.label_laws.specs.Changing.{AreTaken, AreRelabelled, IsGroupedBelow}
use Rattle.label_laws.specs.Contents.{content_of, IsCarriedOn}
use Rattle.label_laws.specs.Maps.{IsStoredMap}
use Rattle.label_laws.specs.Touching.{CanLabel, AreGrafted, AreAllTouched}
use Rattle.label_laws.proofs.Taking.{taken-as}
use Rattle.label_laws.proofs.Showing.{ruled-low}
use Rattle.label_laws.proofs.Same.{content-alike}
use Rattle.label_laws.proofs.LineSteps.{stored-grown, born-stored, born-content, ended-stored, ended-content, relinked-stored, relinked-outside, relinked-carried, ended-outside}
use Rattle.label_laws.proofs.Remaking.{lived, not-ended}

out-more : (x : ℕ) (ds : List ℕ) (d : ℕ) → x ≢ d → All (λ (y : ℕ). d ≢ y) ds → All (λ (y : ℕ). d ≢ y) (x ∷ ds)
out-more x ds d other none zero z h = λ e. other (sym e)
out-more x ds d other none (suc j) z h = none j z (omega arith)

-- a number stands in a list, or is none of its numbers
in-or-out : (ds : List ℕ) (d : ℕ) → Contains ds d ⊎ All (λ (x : ℕ). d ≢ x) ds
in-or-out [] d = inr (λ j z h. absurd (omega arith))
in-or-out (x ∷ ds) d = elim (cases_eq x d) [
  | inl here ↦ inl (0, omega arith, here)
  | inr other ↦ elim (in-or-out ds d) [
    | inl f ↦ inl (suc f.0, let lt : f.0 < length ds = f.1 in omega arith, f.2)
    | inr none ↦ inr (out-more x ds d other none)
  ]
]

-- A map's rows after an edit that fits.
module _ (k : Kind) (n : ℕ) (rows : Rows) (e : Edit) (l : Labeling) (p : Store) (rules : List (Option Rule)) (s : IsStoredMap k n rows l p rules)
    (fits : Fits k n rows e) (few : made rows + e.births ≤ made_max) (laws : Laws k (links_of (after_edit n e rows))) where
  abbrev New : Rows
  New = after_edit n e rows

  pub led : IsLed k n e rows New
  led = record { begun = s.begun; sound = s.sound; fits = fits; few = few; after = refl }

  sound-new : IsSound k n New
  sound-new = after-sound k n rows e s.begun s.sound fits few

  long-new : length New ≡ length rows + e.births
  long-new = length-after n e rows

  module _ (m : Labeling) (ids : KeepsIds l m) (places : KeepsPlaces l m) (grown : m.made ≡ max l.made (made rows + e.births)) where
    -- there are labels for all darts
    labels-long : made New ≤ m.made
    labels-long = let more : length New ≡ length rows + e.births = long-new in omega (arith, grown, s.begun, more)

    pub bear-stored : (born : List (List ℕ)) → New ≡ rows ++ map (λ (row : List ℕ). Some row) born → IsStoredMap k n New m p rules
    bear-stored born is = born-stored k n rows New l m p rules s born is sound-new laws ids places labels-long

    pub bear-content : (born : List (List ℕ)) → New ≡ rows ++ map (λ (row : List ℕ). Some row) born → content_of k n New m p rules ≡ with_born (content_of k n rows l p rules) born
    bear-content born is = born-content k n rows New l m p rules s born is sound-new laws ids places labels-long

    module _ (q : Store) (slots : q.slots ≡ p.slots) where
      pub grown-stored : IsStoredMap k n rows m q rules
      grown-stored = stored-grown k n rows l m p q rules s ids places (omega (arith, grown)) slots

      -- some darts that were born joined cells, and the groups that were touched can be labelled
      module _ (g : Labeling) (grafts : AreGrafted k New (made rows) (λ i. IsSome (rule_at rules i)) m g) (groups : List Group) (touched : AreAllTouched k New rules g groups) where
        first : (x : ℕ) → IsLive rows x → x ≤ made rows
        first x live = let within = live-within rows x live in omega arith

        was : (x : ℕ) → IsLive New x → x ≤ made rows → IsLive rows x
        was x live low = elim (lived k n rows e s.sound s.begun fits (Contains e.deaths) (λ y. ((λ h. h), λ h. h)) x live) [
          | inl before ↦ before
          | inr born ↦ absurd (let high : made rows < x = born.0 in omega arith)
        ]

        group-live : (h d : ℕ) → h < length groups → Contains (group_at groups h).darts d → IsLive New d
        group-live h d lt here =
            let cell = touched.2.cells h lt in
            let some = cell.reached in
            cell_live k (IsLive rows) (links_of rows) (links_of New) s.laws laws (IsLive New) (rows_lead_to_live k New laws) (group_at groups h).dim some.0 (touched.1 (group_at groups h).dim some.0 some.1) ((cell.whole some.0 d some.2).0 here)

        pub ended-within : (d : ℕ) → Contains e.deaths d → d ≤ g.made
        ended-within d here =
            let living : IsLive rows d = subst (IsLive rows) here.2 (fits.living here.0 d here.1) in
            let within = live-within rows d living in
            omega (arith, grown, grafts.made)

        pub groups-labelled : (h : ℕ) → h < length groups → CanLabel n g (group_at groups h)
        groups-labelled h lt =
            let some = (touched.2.cells h lt).ruled in
            let low = ruled-low n (group_at groups h).dim rules s.ruled some in
            record {
              low = omega arith;
              places = (grafts.places (group_at groups h).dim).1 ((places (group_at groups h).dim).1 (s.placed (group_at groups h).dim some));
              darts_in = λ d here. (let within = live-within New d (group-live h d lt here) in let long : made New ≤ m.made = labels-long in omega (arith, grafts.made));
            }

        live-or-ended : (d : ℕ) → IsLive rows d → IsLive New d ⊎ Contains e.deaths d
        live-or-ended d live = elim (in-or-out e.deaths d) [
          | inl gone ↦ inr gone
          | inr stays ↦ inl (lives-on k n rows e s.sound fits d live stays)
        ]

        gone-for-good : (d : ℕ) → Contains e.deaths d → IsLive New d → ⊥
        gone-for-good d gone live = not-ended k n rows e s.sound s.begun fits (Contains e.deaths) (λ x. ((λ h. h), λ h. h)) d live gone

        module _ (m' : Labeling) (q' : Store) (r : AreRelabelled (λ i d. ((i < n + 1) × Contains e.deaths d) ⊎ IsGroupedBelow (length groups) groups i d) groups g m' q q') where
          begun-new : 0 < length New
          begun-new = let more : length New ≡ length rows + e.births = long-new in omega (arith, s.begun, more)

          pub relink-stored : IsStoredMap k n New m' q' rules
          relink-stored =
              relinked-stored k n rows New m g m' q q' rules grown-stored laws (made rows) first was grafts (Contains e.deaths) gone-for-good live-or-ended touched.0 touched.1 groups touched.2 touched.3 r labels-long begun-new sound-new

          -- the values of places whose ids are not given anew stay, but those of darts that were born
          pub relink-outside : (i d : ℕ) → d ≤ made rows → (((i < n + 1) × Contains e.deaths d) ⊎ IsGroupedBelow (length groups) groups i d → ⊥) → stored_value q' m' i d ≡ stored_value q m i d
          relink-outside =
              relinked-outside k n rows New m g m' q q' rules grown-stored laws (made rows) first was grafts (Contains e.deaths) gone-for-good live-or-ended touched.0 touched.1 groups touched.2 touched.3 r labels-long begun-new sound-new

          pub relink-carried : (hook : Hook) → AreWhole hook → AreSmall rules q → ((h : ℕ) → h < length groups → HasCarriedValue k (links_of New) (IsLive New) (id_of g) q hook rules (group_at groups h))
              → IsCarriedOn hook (content_of k n rows l p rules) New (content_of k n New m' q' rules)
          relink-carried hook whole small carried =
              subst (λ (c : Content). IsCarriedOn hook c New (content_of k n New m' q' rules)) (content-alike k n rows l m p q rules ids slots)
              (relinked-carried k n rows New m g m' q q' rules grown-stored laws (made rows) first was grafts (Contains e.deaths) gone-for-good live-or-ended touched.0 touched.1 groups touched.2 touched.3 r labels-long begun-new sound-new hook whole small carried)

-- A dart without links ends.
module _ (k : Kind) (n : ℕ) (rows : Rows) (dart : ℕ) (l m : Labeling) (p q : Store) (rules : List (Option Rule)) (s : IsStoredMap k n rows l p rules)
    (live : IsLive rows dart) (alone : (t : ℕ) → links_of rows t dart ≡ 0) (taken : AreTaken (λ i d. (i < n + 1) × Contains (dart ∷ []) d) l m p q) where
  abbrev After : Rows
  After = after_edit n (death_edit dart) rows

  after-is : After ≡ slice_set rows dart None
  after-is = ap (λ (r : Rows). slice_set r dart None) (append-nil rows)

  only : (i d : ℕ) → ((i < n + 1) × Contains (dart ∷ []) d) ↔ ((i < n + 1) × (d ≡ dart))
  only i d = (λ h. (h.0, one h.1), λ h. (h.0, (0, omega arith, sym h.1)))
    where
      one : Contains (dart ∷ []) d → d ≡ dart
      one (zero, lt, is) = sym is
      one (suc j, lt, is) = absurd (omega arith)

  taken-one : AreTaken (λ i d. (i < n + 1) × (d ≡ dart)) l m p q
  taken-one = taken-as (λ i d. (i < n + 1) × Contains (dart ∷ []) d) (λ i d. (i < n + 1) × (d ≡ dart)) l m p q only taken

  fits-one : Fits k n rows (death_edit dart)
  fits-one = death-fits k n rows dart s.sound live alone

  laws-one : Laws k (links_of After)
  laws-one = death-keeps k n rows dart alone s.laws

  sound-one : IsSound k n After
  sound-one = after-sound k n rows (death_edit dart) s.begun s.sound fits-one (omega (arith, s.sound.few))

  pub end-stored : IsStoredMap k n After m q rules
  end-stored = ended-stored k n rows After l m p q rules s dart live alone after-is sound-one laws-one taken-one

  -- the values of other darts stay
  pub end-outside : (i d : ℕ) → ((i < n + 1) × Contains (dart ∷ []) d → ⊥) → stored_value q m i d ≡ stored_value p l i d
  end-outside i d out = ended-outside k n rows After l m p q rules s dart live alone after-is sound-one laws-one taken-one i d (λ here. out ((only i d).1 here))

  pub end-content : content_of k n After m q rules ≡ without_dart (content_of k n rows l p rules) dart
  end-content = ended-content k n rows After l m p q rules s dart live alone after-is sound-one laws-one taken-one

-- without rules no cell is looked for
pub none-touched : (k : Kind) (new : Rows) (rules : List (Option Rule)) (l : Labeling) → rules ≡ [] → AreAllTouched k new rules l []
none-touched k new rules l none = (
  λ i. [],
  λ i x h. absurd (let lt : h.0 < 0 = h.1 in omega arith),
  record { cells = λ g lt. absurd (omega arith); all = λ i t some _. absurd (no-rule i some); ascending = λ a b _ lt. absurd (omega arith) },
  λ i some. absurd (no-rule i some),
)
  where
    no-rule : (i : ℕ) → IsSome (rule_at rules i) → ⊥
    no-rule i some = false≢true (subst (λ (rs : List (Option Rule)). IsSome (rule_at rs i)) none some)
