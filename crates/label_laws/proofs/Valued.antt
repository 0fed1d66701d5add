-- A cell of a map gets a value, or it is taken, by the parts that the code has; and a dimension gets a rule.
use Rattle.std.proofs.Common.{ℕ, ◌≡◌, ◌≢◌, ◌↔◌, ◌≤◌, inl, inr, refl, sym, ap, subst, ◌∙◌, List, Option, Some, None, IsSome, Contains, arith}
use Rattle.std.proofs.lemmas.Bool.{false≢true}
use Rattle.map_defs.specs.Kind.{Kind}
use Rattle.map_defs.specs.Rows.{Rows, IsLive, links_of}
use Rattle.map_defs.specs.Cells.{InCell}
use Rattle.map_defs.specs.Values.{Value, Rule}
use Rattle.machine_defs.specs.State.{Content, rule_at as rule_in}
use Rattle.machine_defs.specs.Valuing.{IsValued}
use Rattle.link_laws.proofs.Basics.{same_or_not}
use Rattle.link_laws.proofs.RowFacts.{rows_lead_to_live}
use Rattle.edit_laws.proofs.RowWrites.{live-within}
use Rattle.value_laws.proofs.Touching.{cell_live}
use Rattle.store_defs.specs.Stores.{Store, IsPut}
use Rattle.store_defs.specs.Labelings.{Labeling, id_of, KeepsIds, KeepsPlaces, HasPlaces as HasIdPlaces}
use Rattle.store_defs.specs.Groups.{rule_at}
use Rattle.label_laws.specs.Changing.{AreTaken, AreGiven}
use Rattle.label_laws.specs.Contents.{content_of}
use Rattle.label_laws.specs.Maps.{IsStoredMap}
use Rattle.label_laws.proofs.Same.{stored-alike, content-alike}
use Rattle.label_laws.proofs.Setting.{IsSetIn, set-replaced, set-given, set-taken, set-none}
use Rattle.label_laws.proofs.Showing.{rule-shown}
use Rattle.label_laws.proofs.LineSteps.{stored-set, valued-set, stored-grown}

same-places : (l : Labeling) → KeepsPlaces l l
same-places l j = ((λ h. h), λ h. h)

module _ (k : Kind) (n : ℕ) (rows : Rows) (l : Labeling) (p : Store) (rules : List (Option Rule)) (s : IsStoredMap k n rows l p rules) (i d : ℕ) where
  -- the dimension has a rule, as it is shown
  pub rule-there : IsSome (rule_in (content_of k n rows l p rules) i) → IsSome (rule_at rules i)
  rule-there some = subst (λ (o : Option Rule). IsSome o) (rule-shown n i rules) some

  -- another value under its id
  module _ (value : Value) (id : ℕ) (has : id_of l i d ≡ Some id) (q : Store) (put : IsPut p q id (Some value)) where
    replaced : IsSetIn k (links_of rows) (IsLive rows) i d (Some value) l l p q
    replaced = set-replaced k (links_of rows) s.laws (IsLive rows) l p s.stored i d value id has q put

    pub replace-stored : IsStoredMap k n rows l q rules
    replace-stored = stored-set k n rows l l p q rules s i d (Some value) replaced refl (same-places l) s.bare

    pub replace-valued : IsValued (content_of k n rows l p rules) i d (Some value) (content_of k n rows l q rules)
    replace-valued = valued-set k n rows l l p q rules s i d (Some value) replaced refl (same-places l) s.bare

  -- a new id, once there is room in the pool
  module _ (live : IsLive rows d) (darts : List ℕ) (are : (x : ℕ) → Contains darts x ↔ InCell k (links_of rows) i d x) where
    cell-lives : (x : ℕ) → InCell k (links_of rows) i d x → IsLive rows x
    cell-lives x cell = cell_live k (IsLive rows) (links_of rows) (links_of rows) s.laws s.laws (IsLive rows) (rows_lead_to_live k rows s.laws) i d live cell

    pub darts-within : (x : ℕ) → Contains darts x → x ≤ l.made
    darts-within x here = let within = live-within rows x (cell-lives x ((are x).0 here)) in omega (arith, s.long)

    module _ (value : Value) (r : Store) (slots : r.slots ≡ p.slots) (some : IsSome (rule_at rules i)) (has : id_of l i d ≡ None) (m : Labeling) (q : Store)
        (g : AreGiven i (Contains darts) value l m r q) where
      roomy : IsStoredMap k n rows l r rules
      roomy = stored-grown k n rows l l p r rules s (λ _ _. refl) (same-places l) s.long slots

      given : IsSetIn k (links_of rows) (IsLive rows) i d (Some value) l m r q
      given = set-given k (links_of rows) s.laws (IsLive rows) l r roomy.stored i d value has cell-lives darts are m q g

      bare-given : (j x : ℕ) → rule_at rules j ≡ None → id_of m j x ≡ None
      bare-given j x none = elim (g.each j x) [
        | inl y ↦ absurd (false≢true (subst (λ (o : Option Rule). IsSome o) (ap (rule_at rules) (sym y.0) ∙ none) some))
        | inr y ↦ y.1 ∙ s.bare j x none
      ]

      pub give-stored : IsStoredMap k n rows m q rules
      give-stored = stored-set k n rows l m r q rules roomy i d (Some value) given g.made g.places bare-given

      pub give-valued : IsValued (content_of k n rows l p rules) i d (Some value) (content_of k n rows m q rules)
      give-valued =
          subst (λ (c : Content). IsValued c i d (Some value) (content_of k n rows m q rules)) (content-alike k n rows l l p r rules (λ _ _. refl) slots)
          (valued-set k n rows l m r q rules roomy i d (Some value) given g.made g.places bare-given)

    -- the ids of the cell are taken away
    module _ (m : Labeling) (q : Store) (t : AreTaken (λ j x. (j ≡ i) × Contains darts x) l m p q) where
      taken : IsSetIn k (links_of rows) (IsLive rows) i d None l m p q
      taken = set-taken k (links_of rows) s.laws (IsLive rows) l p s.stored i d darts are m q t

      bare-taken : (j x : ℕ) → rule_at rules j ≡ None → id_of m j x ≡ None
      bare-taken j x none = elim (t.each j x) [ inl y ↦ y.1 | inr y ↦ y.1 ∙ s.bare j x none ]

      pub take-stored : IsStoredMap k n rows m q rules
      take-stored = stored-set k n rows l m p q rules s i d None taken t.made t.places bare-taken

      pub take-valued : IsValued (content_of k n rows l p rules) i d None (content_of k n rows m q rules)
      take-valued = valued-set k n rows l m p q rules s i d None taken t.made t.places bare-taken

  -- there is no value to be taken
  pub none-valued : id_of l i d ≡ None → IsValued (content_of k n rows l p rules) i d None (content_of k n rows l p rules)
  none-valued has = valued-set k n rows l l p p rules s i d None (set-none k (links_of rows) s.laws (IsLive rows) l p s.stored i d has) refl (same-places l) s.bare

-- more places for ids, and the same ids
module _ (k : Kind) (n : ℕ) (rows : Rows) (l m : Labeling) (p : Store) (rules : List (Option Rule)) (s : IsStoredMap k n rows l p rules) (i : ℕ) (ids : KeepsIds l m) (made-is : m.made ≡ l.made)
    (stay : HasIdPlaces l i → HasIdPlaces m i) (others : (j : ℕ) → j ≢ i → HasIdPlaces m j ↔ HasIdPlaces l j) where
  pub opened-stored : IsStoredMap k n rows m p rules
  opened-stored = record {
    flat = s.flat;
    high = s.high;
    begun = s.begun;
    sound = s.sound;
    laws = s.laws;
    stored = stored-alike k (links_of rows) (IsLive rows) l m p p ids refl s.stored;
    ruled = s.ruled;
    bare = λ j d none. ids j d ∙ s.bare j d none;
    placed = λ j some. (elim (same_or_not j i) [
      | inl e ↦ subst (λ (h : ℕ). HasIdPlaces m h) (sym e) (stay (subst (λ (h : ℕ). HasIdPlaces l h) e (s.placed j some)))
      | inr apart ↦ (others j apart).1 (s.placed j some)
    ]);
    long = omega (arith, s.long, made-is);
  }

  pub opened-content : content_of k n rows m p rules ≡ content_of k n rows l p rules
  opened-content = content-alike k n rows l m p p rules ids refl
