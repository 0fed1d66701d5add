-- What the changing lines make of what a map shows, and that the type keeps what it keeps.
use Rattle.std.proofs.Common.{ℕ, ◌≡◌, ◌≢◌, ◌⊎◌, ◌↔◌, ◌+◌, ◌==◌, ◌<◌, ◌≤◌, inl, inr, refl, sym, ap, subst, ◌∙◌, List, [], ◌∷◌, ◌++◌, length, get_or, map, replicate, slice_set, cond, Bool, false, Option, Some, None, IsSome, arith, rules, tests, Contains}
use Rattle.std.proofs.lemmas.Bool.{false≢true, cases_lt}
use Rattle.std.proofs.lemmas.List.{get_or_append_left, get_or-set_same, get_or-set_other, length-append, length-set}
use Rattle.map_defs.specs.Kind.{Kind}
use Rattle.map_defs.specs.Laws.{Laws}
use Rattle.map_defs.specs.Rows.{Rows, IsLive, links_of, made, IsSound, row_at, entry_of}
use Rattle.map_defs.specs.Values.{Value, Rule, Hook, AreWhole}
use Rattle.machine_defs.specs.State.{Content, value_at, with_born, without_dart}
use Rattle.machine_defs.specs.Machine.{with_rule}
use Rattle.machine_defs.specs.Relinking.{AreCarriedBy}
use Rattle.machine_defs.specs.Valuing.{IsValued}
use Rattle.machine_defs.specs.Kept.{IsLawfulContent}
use Rattle.link_laws.proofs.Basics.{same_or_not}
use Rattle.edit_laws.proofs.RowWrites.{live-within, none-links}
use Rattle.journal_laws.proofs.ContentFacts.{values-one}
use Rattle.machine_laws.proofs.Born.{kept-born, old-value, new-value}
use Rattle.machine_laws.proofs.Ended.{kept-ended, same-value}
use Rattle.store_defs.specs.Stores.{Store}
use Rattle.store_defs.specs.Labelings.{Labeling, id_of, KeepsIds, KeepsPlaces, HasPlaces as HasIdPlaces}
use Rattle.store_defs.specs.Groups.{Group, group_at, rule_at, labelled_value, AreTouchedCells, HasCarriedValue}
use Rattle.label_laws.specs.Stored.{stored_value, AreSmall}
use Rattle.label_laws.specs.Touching.{AreGrafted, Spares}
use Rattle.label_laws.specs.Changing.{AreTaken, AreRelabelled, IsGroupedBelow}
use Rattle.label_laws.specs.Contents.{content_of, all_rules, IsCarriedOn}
use Rattle.label_laws.specs.Maps.{IsStoredMap}
use Rattle.label_laws.proofs.Showing.{id-low, value-shown, places-shown, kept-shown, stored_value-dead, rule-shown, rules-long, ruled-low}
use Rattle.label_laws.proofs.Same.{stored_value-alike, stored-alike, carried-alike, content-alike}
use Rattle.label_laws.proofs.Bearing.{stored-born, stored-ended, stored_value-ended, stored_value-beyond}
use Rattle.label_laws.proofs.Setting.{IsSetIn}
use Rattle.label_laws.proofs.Relabelling.{stored-after, places-after, bare-after, carried-after, stored_value-outside}

content-equal : (c : Content) (rows other : Rows) (values more : List (List (Option Value))) → rows ≡ other → values ≡ more
    → record c { rows = rows; values = values } ≡ record c { rows = other; values = more }
content-equal c rows other values more e f =
    ap (λ (r : Rows). record c { rows = r; values = values }) e ∙ ap (λ (vs : List (List (Option Value))). record c { rows = other; values = vs }) f

-- A cell was given a value, or it was taken.
module _ (k : Kind) (n : ℕ) (rows : Rows) (l m : Labeling) (p q : Store) (rules : List (Option Rule)) (s : IsStoredMap k n rows l p rules) where
  module _ (i d : ℕ) (value : Option Value) (set : IsSetIn k (links_of rows) (IsLive rows) i d value l m p q) (long : m.made ≡ l.made) (places : KeepsPlaces l m)
      (bare : (j x : ℕ) → rule_at rules j ≡ None → id_of m j x ≡ None) where
    pub stored-set : IsStoredMap k n rows m q rules
    stored-set = record { flat = s.flat; high = s.high; begun = s.begun; sound = s.sound; laws = s.laws; stored = set.stored; ruled = s.ruled; bare = bare; placed = λ j some. (places j).1 (s.placed j some); long = omega (arith, long, s.long) }

    pub valued-set : IsValued (content_of k n rows l p rules) i d value (content_of k n rows m q rules)
    valued-set = record {
      kind = refl;
      dim = refl;
      rows = refl;
      rules = refl;
      places = places-shown k n rows m q rules stored-set;
      given = λ x cell. value-shown k n rows m q rules stored-set i x ∙ set.cell x cell;
      kept = λ j x out. value-shown k n rows m q rules stored-set j x ∙ set.others j x out ∙ sym (value-shown k n rows l p rules s j x);
    }

  -- more places, the same ids
  pub stored-grown : KeepsIds l m → KeepsPlaces l m → made rows ≤ m.made → q.slots ≡ p.slots → IsStoredMap k n rows m q rules
  stored-grown ids places long slots = record {
    flat = s.flat;
    high = s.high;
    begun = s.begun;
    sound = s.sound;
    laws = s.laws;
    stored = stored-alike k (links_of rows) (IsLive rows) l m p q ids slots s.stored;
    ruled = s.ruled;
    bare = λ i d none. ids i d ∙ s.bare i d none;
    placed = λ i some. (places i).1 (s.placed i some);
    long = long;
  }

-- New darts come in behind.
module _ (k : Kind) (n : ℕ) (rows new : Rows) (l m : Labeling) (p : Store) (rules : List (Option Rule)) (s : IsStoredMap k n rows l p rules)
    (born : List (List ℕ)) (is : new ≡ rows ++ map (λ (row : List ℕ). Some row) born)
    (sound-new : IsSound k n new) (laws : Laws k (links_of new)) (ids : KeepsIds l m) (places : KeepsPlaces l m) (long : made new ≤ m.made) where
  kept : IsLawfulContent (content_of k n rows l p rules)
  kept = kept-shown k n rows l p rules s

  old-row : (x : ℕ) → x < length rows → row_at new x ≡ row_at rows x
  old-row x h = ap (λ (r : Rows). row_at r x) is ∙ get_or_append_left rows (map (λ (row : List ℕ). Some row) born) None x h

  below : (t x : ℕ) → links_of rows t x < length rows
  below t x = elim (same_or_not (links_of rows t x) 0) [
    | inl free ↦ omega (arith, free, s.begun)
    | inr linked ↦ live-within rows (links_of rows t x) (s.sound.live t x linked)
  ]

  stored-more : IsStoredMap k n new m p rules
  stored-more = record {
    flat = s.flat;
    high = s.high;
    begun = omega (arith, s.begun, ap (λ (r : Rows). length r) is, length-append rows (map (λ (row : List ℕ). Some row) born));
    sound = sound-new;
    laws = laws;
    stored =
        stored-alike k (links_of new) (IsLive new) l m p p ids refl
        (stored-born k (links_of rows) (links_of new) (λ x. x < length rows) (λ t x h. ap (λ (o : Option (List ℕ)). entry_of o t) (old-row x h)) below
        (IsLive rows) (IsLive new) l p s.stored (λ x live. live-within rows x live) (λ x live. subst (λ (o : Option (List ℕ)). IsSome o) (sym (old-row x (live-within rows x live))) live));
    ruled = s.ruled;
    bare = λ i d none. ids i d ∙ s.bare i d none;
    placed = λ i some. (places i).1 (s.placed i some);
    long = long;
  }

  sound-born : IsSound k n (rows ++ map (λ (row : List ℕ). Some row) born)
  sound-born = subst (λ (r : Rows). IsSound k n r) is sound-new

  laws-born : Laws k (links_of (rows ++ map (λ (row : List ℕ). Some row) born))
  laws-born = subst (λ (r : Rows). Laws k (links_of r)) is laws

  abbrev Before : Content
  Before = content_of k n rows l p rules

  born-value : (i d : ℕ) → value_at (content_of k n new m p rules) i d ≡ value_at (with_born Before born) i d
  born-value i d = value-shown k n new m p rules stored-more i d ∙ stored_value-alike l m p p ids refl i d ∙ go (cases_lt d (length rows))
    where
      go : (d < length rows) ⊎ (length rows ≤ d) → stored_value p l i d ≡ value_at (with_born Before born) i d
      go (inl h) = sym (value-shown k n rows l p rules s i d) ∙ sym (old-value Before kept born sound-born laws-born i d h)
      go (inr h) = stored_value-dead k n rows l p rules s i d (λ live. let within = live-within rows d live in omega arith) ∙ sym (new-value Before kept born sound-born laws-born i d h)

  pub born-stored : IsStoredMap k n new m p rules
  born-stored = stored-more

  pub born-content : content_of k n new m p rules ≡ with_born Before born
  born-content =
      content-equal Before new (rows ++ map (λ (row : List ℕ). Some row) born) _ _ is
      (values-one (content_of k n new m p rules) (with_born Before born) (places-shown k n new m p rules stored-more) (kept-born Before kept born sound-born laws-born).places
      refl is (λ i d _ _. born-value i d))

-- A dart without links ends.
module _ (k : Kind) (n : ℕ) (rows new : Rows) (l m : Labeling) (p q : Store) (rules : List (Option Rule)) (s : IsStoredMap k n rows l p rules)
    (dart : ℕ) (live : IsLive rows dart) (alone : (t : ℕ) → links_of rows t dart ≡ 0)
    (is : new ≡ slice_set rows dart None) (sound-new : IsSound k n new) (laws : Laws k (links_of new))
    (taken : AreTaken (λ i d. (i < n + 1) × (d ≡ dart)) l m p q) where
  kept-old : IsLawfulContent (content_of k n rows l p rules)
  kept-old = kept-shown k n rows l p rules s

  same-links : (t x : ℕ) → links_of new t x ≡ links_of rows t x
  same-links t x = ap (λ (r : Rows). links_of r t x) is ∙ none-links rows dart alone t x

  other-lives : (x : ℕ) → IsLive rows x → x ≢ dart → IsLive new x
  other-lives x h other = subst (λ (o : Option (List ℕ)). IsSome o) (sym (ap (λ (r : Rows). row_at r x) is ∙ get_or-set_other rows dart x None None other)) h

  gone : (x : ℕ) → IsLive new x → x ≢ dart
  gone x h e =
      let none : row_at new x ≡ None = ap (row_at new) e ∙ ap (λ (r : Rows). row_at r dart) is ∙ get_or-set_same rows dart None None (live-within rows dart live) in
      false≢true (subst (λ (o : Option (List ℕ)). IsSome o) none h)

  pub ended-stored : IsStoredMap k n new m q rules
  ended-stored = record {
    flat = s.flat;
    high = s.high;
    begun = omega (arith, s.begun, ap (λ (r : Rows). length r) is, length-set rows dart (let o : Option (List ℕ) = None in o));
    sound = sound-new;
    laws = laws;
    stored = stored-ended k (links_of rows) (links_of new) s.laws same-links (IsLive rows) (IsLive new) n dart alone other-lives l m p q s.stored (id-low k n rows l p rules s) taken;
    ruled = s.ruled;
    bare = λ i d none. (elim (taken.each i d) [ inl h ↦ h.1 | inr h ↦ h.1 ∙ s.bare i d none ]);
    placed = λ i some. (taken.places i).1 (s.placed i some);
    long = omega (arith, s.long, taken.made, ap (λ (r : Rows). length r) is, length-set rows dart (let o : Option (List ℕ) = None in o));
  }

  abbrev Old : Content
  Old = content_of k n rows l p rules

  ended-value : (i d : ℕ) → IsLive new d → value_at (content_of k n new m q rules) i d ≡ value_at (without_dart Old dart) i d
  ended-value i d h =
      let other = gone d h in
      value-shown k n new m q rules ended-stored i d
      ∙ stored_value-ended k (links_of rows) (links_of new) s.laws same-links (IsLive rows) (IsLive new) n dart alone other-lives l m p q s.stored (id-low k n rows l p rules s) taken i d other
      ∙ sym (value-shown k n rows l p rules s i d) ∙ sym (same-value Old kept-old dart live alone i d other)

  -- the values of other darts stay
  pub ended-outside : (i d : ℕ) → ((i < n + 1) × (d ≡ dart) → ⊥) → stored_value q m i d ≡ stored_value p l i d
  ended-outside = stored_value-beyond k (links_of rows) (links_of new) s.laws same-links (IsLive rows) (IsLive new) n dart alone other-lives l m p q s.stored (id-low k n rows l p rules s) taken

  pub ended-content : content_of k n new m q rules ≡ without_dart Old dart
  ended-content =
      content-equal Old new (slice_set rows dart None) _ _ is
      (values-one (content_of k n new m q rules) (without_dart Old dart) (places-shown k n new m q rules ended-stored)
      (kept-ended Old kept-old dart live alone (subst (λ (r : Rows). IsSound k n r) is sound-new)).places refl is (λ i d _ h. ended-value i d h))

-- A dimension gets a rule.
pub all-rules-full : (n : ℕ) (rules : List (Option Rule)) → length rules ≡ n + 1 → all_rules n rules ≡ rules
all-rules-full n [] e = absurd (omega arith)
all-rules-full n (rule ∷ rules) e = refl

abbrev pub made_rules : ℕ → List (Option Rule) → List (Option Rule)
made_rules n rules = cond (length rules == 0) (replicate (n + 1) None) rules

not-zero : (rule : Option Rule) (rest : List (Option Rule)) → (length (rule ∷ rest) == 0) ≡ false
not-zero rule rest = search (rules, tests)

pub made-rules-are : (n : ℕ) (rules : List (Option Rule)) → made_rules n rules ≡ all_rules n rules
made-rules-are n [] = refl
made-rules-are n (rule ∷ rest) = ap (λ (b : Bool). cond b (replicate (n + 1) None) (rule ∷ rest)) (not-zero rule rest)

pub made-rules-long : (n : ℕ) (rules : List (Option Rule)) → (rules ≡ []) ⊎ (length rules ≡ n + 1) → length (made_rules n rules) ≡ n + 1
made-rules-long n rules ruled = ap (λ (rs : List (Option Rule)). length rs) (made-rules-are n rules) ∙ rules-long n rules ruled

module _ (k : Kind) (n : ℕ) (rows : Rows) (l m : Labeling) (p : Store) (rules : List (Option Rule)) (s : IsStoredMap k n rows l p rules)
    (i : ℕ) (low : i ≤ n) (rule : Rule) (ids : KeepsIds l m) (made-is : m.made ≡ l.made) (here : HasIdPlaces m i) (stay : HasIdPlaces l i → HasIdPlaces m i)
    (others : (j : ℕ) → j ≢ i → HasIdPlaces m j ↔ HasIdPlaces l j) where
  abbrev Next : List (Option Rule)
  Next = slice_set (made_rules n rules) i (Some rule)

  long : length (made_rules n rules) ≡ n + 1
  long = ap (λ (rs : List (Option Rule)). length rs) (made-rules-are n rules) ∙ rules-long n rules s.ruled

  other-rule : (j : ℕ) → j ≢ i → rule_at Next j ≡ rule_at rules j
  other-rule j apart =
      get_or-set_other (made_rules n rules) i j (Some rule) None apart
      ∙ ap (λ (rs : List (Option Rule)). get_or rs j None) (made-rules-are n rules) ∙ rule-shown n j rules

  pub ruled-stored : IsStoredMap k n rows m p Next
  ruled-stored = record {
    flat = s.flat;
    high = s.high;
    begun = s.begun;
    sound = s.sound;
    laws = s.laws;
    stored = stored-alike k (links_of rows) (IsLive rows) l m p p ids refl s.stored;
    ruled = inr (length-set (made_rules n rules) i (Some rule) ∙ long);
    bare = λ j d none. (elim (same_or_not j i) [
      | inl e ↦ absurd (let some : rule_at Next j ≡ Some rule = ap (rule_at Next) e ∙ get_or-set_same (made_rules n rules) i (Some rule) None (omega (arith, long)) in cc (none, some))
      | inr apart ↦ ids j d ∙ s.bare j d (sym (other-rule j apart) ∙ none)
    ]);
    placed = λ j some. (elim (same_or_not j i) [
      | inl e ↦ subst (λ (h : ℕ). HasIdPlaces m h) (sym e) here
      | inr apart ↦ (others j apart).1 (s.placed j (subst (λ (o : Option Rule). IsSome o) (other-rule j apart) some))
    ]);
    long = omega (arith, s.long, made-is);
  }

  pub ruled-content : content_of k n rows m p Next ≡ with_rule (content_of k n rows l p rules) i rule
  ruled-content =
      let full : all_rules n Next ≡ slice_set (all_rules n rules) i (Some rule) =
      all-rules-full n Next (length-set (made_rules n rules) i (Some rule) ∙ long) ∙ ap (λ (rs : List (Option Rule)). slice_set rs i (Some rule)) (made-rules-are n rules) in
      ap (λ (rs : List (Option Rule)). record (content_of k n rows m p Next) { rules = rs }) full
      ∙ ap (λ (c : Content). record c { rules = slice_set (all_rules n rules) i (Some rule) }) (content-alike k n rows l m p p rules ids refl)

-- The links change, darts that were born join cells, and the cells that were touched are relabelled.
module _ (k : Kind) (n : ℕ) (old new : Rows) (l g m : Labeling) (p q : Store) (rules : List (Option Rule)) (s : IsStoredMap k n old l p rules) (laws : Laws k (links_of new))
    (older : ℕ) (first : (x : ℕ) → IsLive old x → x ≤ older) (was : (x : ℕ) → IsLive new x → x ≤ older → IsLive old x)
    (grafts : AreGrafted k new older (λ i. IsSome (rule_at rules i)) l g)
    (Ended : ℕ → Type 0) (ends : (d : ℕ) → Ended d → IsLive new d → ⊥) (lives-on : (d : ℕ) → IsLive old d → IsLive new d ⊎ Ended d)
    (touched : ℕ → List ℕ) (live : (i d : ℕ) → Contains (touched i) d → IsLive new d) (groups : List Group) (t : AreTouchedCells k (links_of new) rules touched groups)
    (spares : (i : ℕ) → IsSome (rule_at rules i) → Spares k i new g (Contains (touched i)))
    (r : AreRelabelled (λ i d. ((i < n + 1) × Ended d) ⊎ IsGroupedBelow (length groups) groups i d) groups g m p q) (long : made new ≤ l.made)
    (begun : 0 < length new) (sound : IsSound k n new) where
  after : (m.made ≡ l.made) × KeepsPlaces l m
  after = places-after k n old new s.laws laws l p s.stored older first was rules g grafts Ended ends lives-on s.bare (λ i some. ruled-low n i rules s.ruled some) touched live groups t spares r.0 r.1 r.2 m q r.3

  pub relinked-stored : IsStoredMap k n new m q rules
  relinked-stored = record {
    flat = s.flat;
    high = s.high;
    begun = begun;
    sound = sound;
    laws = laws;
    stored = stored-after k n old new s.laws laws l p s.stored older first was rules g grafts Ended ends lives-on s.bare (λ i some. ruled-low n i rules s.ruled some) touched live groups t spares r.0 r.1 r.2 m q r.3;
    ruled = s.ruled;
    bare = bare-after k n old new s.laws laws l p s.stored older first was rules g grafts Ended ends lives-on s.bare (λ i some. ruled-low n i rules s.ruled some) touched live groups t spares r.0 r.1 r.2 m q r.3;
    placed = λ i some. (after.1 i).1 (s.placed i some);
    long = omega (arith, long, after.0);
  }

  -- the values of all other places stay, but those of darts that were born
  pub relinked-outside : (i d : ℕ) → d ≤ older → (((i < n + 1) × Ended d) ⊎ IsGroupedBelow (length groups) groups i d → ⊥) → stored_value q m i d ≡ stored_value p l i d
  relinked-outside = stored_value-outside k n old new s.laws laws l p s.stored older first was rules g grafts Ended ends lives-on s.bare (λ i some. ruled-low n i rules s.ruled some) touched live groups t spares r.0 r.1 r.2 m q r.3

  module _ (hook : Hook) (whole : AreWhole hook) (small : AreSmall rules p) (carried : (h : ℕ) → h < length groups → HasCarriedValue k (links_of new) (IsLive new) (id_of g) p hook rules (group_at groups h)) where
    values-carried : (i : ℕ) (o : Option Rule) → rule_at rules i ≡ o → AreCarriedBy hook (content_of k n old l p rules) (content_of k n new m q rules) i o
    values-carried i None e = λ d. value-shown k n new m q rules relinked-stored i d ∙ ap (labelled_value q) (relinked-stored.bare i d e)
    values-carried i (Some rule) e =
        carried-alike k i _ (links_of old) (IsLive old) (λ x. stored_value p l i x) _ (links_of new) (IsLive new) (λ x. stored_value q m i x) _
        (λ x. value-shown k n old l p rules s i x) (λ x. value-shown k n new m q rules relinked-stored i x)
        (carried-after k n old new s.laws laws l p s.stored older first was rules g grafts Ended ends lives-on s.bare (λ i some. ruled-low n i rules s.ruled some) touched live groups t spares r.0 r.1 r.2 m q r.3 hook whole small carried i rule e)

    pub relinked-carried : IsCarriedOn hook (content_of k n old l p rules) new (content_of k n new m q rules)
    relinked-carried = record {
      kind = refl;
      dim = refl;
      rows_are = refl;
      rules = refl;
      places = places-shown k n new m q rules relinked-stored;
      values = λ i _. subst (λ (o : Option Rule). AreCarriedBy hook (content_of k n old l p rules) (content_of k n new m q rules) i o) (sym (rule-shown n i rules)) (values-carried i (rule_at rules i) refl);
    }
