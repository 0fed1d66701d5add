-- The ids of a map after a change of its links: darts that were born are given ids of cells that they join, those of the cells
-- that were touched are taken away, and the new cells are given theirs. They tell the new cells, and these have the values that the rules carry to them.
use Rattle.std.proofs.Common.{ℕ, suc, ◌≡◌, ◌⊎◌, ◌↔◌, ◌+◌, ◌<◌, ◌≤◌, inl, inr, refl, sym, ap, subst, ◌∙◌, List, length, Option, Some, None, IsSome, Contains, slice_index, arith}
use Rattle.std.proofs.lemmas.Bool.{false≢true}
use Rattle.map_defs.specs.Kind.{Kind}
use Rattle.map_defs.specs.Laws.{Laws}
use Rattle.map_defs.specs.Rows.{Rows, IsLive, links_of}
use Rattle.map_defs.specs.Cells.{InCell}
use Rattle.map_defs.specs.Walks.{IsTold}
use Rattle.map_defs.specs.Touched.{IsAlike}
use Rattle.map_defs.specs.Values.{Value, Rule, Hook, AreWhole, meaning_of}
use Rattle.map_defs.specs.Carry.{IsCarried, IsValuedWith, AreEqualOnCells, AreCarried, known}
use Rattle.link_laws.proofs.Basics.{same_or_not}
use Rattle.link_laws.proofs.CellFacts.{cell_back}
use Rattle.link_laws.proofs.RowFacts.{rows_lead_to_live}
use Rattle.value_laws.proofs.Touching.{cell_live}
use Rattle.value_laws.proofs.Renaming.{renamed}
use Rattle.value_laws.proofs.MapValues.{cell_trans}
use Rattle.value_laws.proofs.Keeping.{IsKeptCell, with_is_carried}
use Rattle.value_laws.proofs.Rules.{keeps_whole}
use Rattle.value_laws.proofs.Rising.{rising_one, find_least}
use Rattle.store_defs.specs.Stores.{Store, value_of}
use Rattle.store_defs.specs.Labelings.{Labeling, id_of, KeepsPlaces}
use Rattle.store_defs.specs.Groups.{Group, group_at, rule_at, least_of, known_value, labelled_value, IsTouchedCell, AreTouchedCells, HasCarriedValue}
use Rattle.label_laws.specs.Stored.{stored_value, AreStored, AreSmall}
use Rattle.label_laws.specs.Touching.{AreGrafted, Spares}
use Rattle.label_laws.specs.Changing.{AreTaken, IsGroupedBelow, AreGroupsGiven}
use Rattle.label_laws.proofs.Storing.{AreLeft, held-some, left-value, stored-left}
use Rattle.label_laws.proofs.Giving.{AreCells, AreUpTo, groups-given, groups-places}
use Rattle.label_laws.proofs.Reliving.{relived}
use Rattle.label_laws.proofs.Sparing.{cell-own, nothing-carried, joined-live}

some-or-not : (o : Option ℕ) (c : ℕ) → (o ≡ Some c) ⊎ (o ≡ Some c → ⊥)
some-or-not None c = inr (λ e. cc e)
some-or-not (Some b) c = elim (same_or_not b c) [ inl e ↦ inl (ap Some e) | inr d ↦ inr (λ e. d (cc e)) ]

-- a change of the links of a map, whose ids told its cells
module _ (k : Kind) (n : ℕ) (old new : Rows) (w : Laws k (links_of old)) (wn : Laws k (links_of new)) (l : Labeling) (p : Store)
    (s : AreStored k (links_of old) (IsLive old) l p) where
  -- the darts of a cell have one value, as the ids tell
  ids-equal : (i x y : ℕ) → InCell k (links_of old) i x y → id_of l i x ≡ id_of l i y
  ids-equal i x y cell = go (id_of l i x) (id_of l i y) refl refl
    where
      go : (o q : Option ℕ) → id_of l i x ≡ o → id_of l i y ≡ q → id_of l i x ≡ id_of l i y
      go (Some c) q e f = e ∙ sym (s.whole i x y c e cell)
      go None (Some c) e f = s.whole i y x c f (cell_back k (links_of old) w i x y cell) ∙ sym f
      go None None e f = e ∙ sym f

  pub stored_value-equal : (i : ℕ) → AreEqualOnCells k i (links_of old) (IsLive old) (λ d. stored_value p l i d)
  stored_value-equal i x y live cell = ap (labelled_value p) (ids-equal i x y cell)

  -- an id stands for a value
  valued-id : (o : Option ℕ) → ((c : ℕ) → o ≡ Some c → IsSome (value_of p c)) → IsSome (labelled_value p o) → (c : ℕ) × (o ≡ Some c)
  valued-id None held v = absurd (false≢true v)
  valued-id (Some c) held v = (c, refl)

  id-valued : (o : Option ℕ) (c : ℕ) → o ≡ Some c → IsSome (value_of p c) → IsSome (labelled_value p o)
  id-valued o c e v = subst (λ (z : Option ℕ). IsSome (labelled_value p z)) (sym e) v

  alike-valued : (i x y : ℕ) → IsAlike (id_of l i) x y ↔ IsValuedWith k i (links_of old) (λ d. stored_value p l i d) x y
  alike-valued i x y = (to, from)
    where
      to : IsAlike (id_of l i) x y → IsValuedWith k i (links_of old) (λ d. stored_value p l i d) x y
      to a = ((s.apart i x i y a.0 a.1 a.2).1, id-valued (id_of l i x) a.0 a.1 (s.held i x a.0 a.1))

      from : IsValuedWith k i (links_of old) (λ d. stored_value p l i d) x y → IsAlike (id_of l i) x y
      from v = let c = valued-id (id_of l i x) (λ c e. s.held i x c e) v.1 in (c.0, c.1, s.whole i x y c.0 c.1 v.0)

  -- Some darts that were born were given ids; the darts of Ended end, and the groups are the cells that were touched.
  module _ (older : ℕ) (first : (x : ℕ) → IsLive old x → x ≤ older) (was : (x : ℕ) → IsLive new x → x ≤ older → IsLive old x)
      (rules : List (Option Rule)) (g : Labeling) (grafts : AreGrafted k new older (λ i. IsSome (rule_at rules i)) l g)
      (Ended : ℕ → Type 0) (ends : (d : ℕ) → Ended d → IsLive new d → ⊥) (lives-on : (d : ℕ) → IsLive old d → IsLive new d ⊎ Ended d)
      (bare : (i d : ℕ) → rule_at rules i ≡ None → id_of l i d ≡ None) (ruled : (i : ℕ) → IsSome (rule_at rules i) → i < n + 1)
      (touched : ℕ → List ℕ) (live : (i d : ℕ) → Contains (touched i) d → IsLive new d) (groups : List Group)
      (t : AreTouchedCells k (links_of new) rules touched groups)
      (spares : (i : ℕ) → IsSome (rule_at rules i) → Spares k i new g (Contains (touched i))) where
    abbrev Place : ℕ → ℕ → Type 0
    Place i d = ((i < n + 1) × Ended d) ⊎ IsGroupedBelow (length groups) groups i d

    live-cell : (i d x : ℕ) → IsLive new d → InCell k (links_of new) i d x → IsLive new x
    live-cell i d x h cell = cell_live k (IsLive old) (links_of old) (links_of new) w wn (IsLive new) (rows_lead_to_live k new wn) i d h cell

    has-rule : (o : Option Rule) → (o ≡ None → ⊥) → IsSome o
    has-rule None h = absurd (h refl)
    has-rule (Some r) h = refl

    -- an id that a dart has stood for an old cell
    origin : (i d c : ℕ) → id_of g i d ≡ Some c → (e : ℕ) × (id_of l i e ≡ Some c)
    origin i d c e = elim (grafts.each i d) [ inl same ↦ (d, sym same ∙ e) | inr given ↦ (given.3, given.6 ∙ sym given.4 ∙ e) ]

    id-ruled : (i d c : ℕ) → id_of g i d ≡ Some c → IsSome (rule_at rules i)
    id-ruled i d c e = has-rule (rule_at rules i) (λ none. let o = origin i d c e in let f = bare i o.0 none in let there = o.1 in cc (there, f))

    -- a dart that was not born has the id that it had
    kept-id : (i x : ℕ) → x ≤ older → id_of g i x ≡ id_of l i x
    kept-id i x low = elim (grafts.each i x) [ inl same ↦ same | inr given ↦ absurd (let high : older < x = given.1 in omega arith) ]

    bare-id : (i d : ℕ) → rule_at rules i ≡ None → id_of g i d ≡ None
    bare-id i d none = elim (grafts.each i d) [ inl same ↦ same ∙ bare i d none | inr given ↦ absurd (false≢true (subst (λ (o : Option Rule). IsSome o) none given.0)) ]

    -- a dart of a group brings its whole cell along
    grouped-cell : (i d x : ℕ) → IsGroupedBelow (length groups) groups i x → InCell k (links_of new) i d x → IsGroupedBelow (length groups) groups i d
    grouped-cell i d x h cell =
        let back : InCell k (links_of new) (group_at groups h.0).dim x d = subst (λ (j : ℕ). InCell k (links_of new) j x d) h.2 (cell_back k (links_of new) wn i d x cell) in
        (h.0, h.1, h.2, ((t.cells h.0 h.1).whole x d h.3).1 back)

    own : (i d : ℕ) → InCell k (links_of new) i d d
    own i d = cell-own k (links_of new) i d

    -- a live dart at a place outside lies in a cell without ids, or in one that is all that has its id
    spared-cell : (i d : ℕ) → IsSome (rule_at rules i) → IsLive new d → (Place i d → ⊥)
        → ((x : ℕ) → InCell k (links_of new) i d x → id_of g i x ≡ None) ⊎ ((c : ℕ) × ((x : ℕ) → InCell k (links_of new) i d x ↔ (id_of g i x ≡ Some c)))
    spared-cell i d rule h out = spares i rule d h (λ x cell there. (let m = t.all i x rule there in
        out (inr (grouped-cell i d x (m.0, m.1, sym m.2, m.3) cell))))

    spared-live : (i d c : ℕ) → (Place i d → ⊥) → id_of g i d ≡ Some c → IsLive new d
    spared-live i d c out e = elim (grafts.each i d) [
      | inl same ↦ elim (lives-on d (s.live i d c (sym same ∙ e))) [ inl h ↦ h | inr gone ↦ absurd (out (inl (ruled i (id-ruled i d c e), gone))) ]
      | inr given ↦ (let low = first given.3 (s.live i given.3 given.2 given.6) in let high : older < d = given.1 in joined-live k new wn i d given.3 given.5 (omega arith))
    ]

    spared-all : (i d c x : ℕ) → (Place i d → ⊥) → id_of g i d ≡ Some c → InCell k (links_of new) i d x ↔ (id_of g i x ≡ Some c)
    spared-all i d c x out e = elim (spared-cell i d (id-ruled i d c e) (spared-live i d c out e) out) [
      | inl none ↦ absurd (let f = none d (own i d) in cc (e, f))
      | inr one ↦ subst (λ (b : ℕ). InCell k (links_of new) i d x ↔ (id_of g i x ≡ Some b)) (let f = (one.1 d).0 (own i d) in same-number (id_of g i d) f e) (one.1 x)
    ]
      where
        same-number : {a b : ℕ} (o : Option ℕ) → o ≡ Some a → o ≡ Some b → a ≡ b
        same-number o f h = cc (f, h)

    spared-clear : (i d c x : ℕ) → (Place i d → ⊥) → id_of g i d ≡ Some c → id_of g i x ≡ Some c → Place i x → ⊥
    spared-clear i d c x out e f place =
        let there = (spared-all i d c x out e).1 f in
        elim place [
          | inl gone ↦ ends x gone.1 (live-cell i d x (spared-live i d c out e) there)
          | inr h ↦ out (inr (grouped-cell i d x h there))
        ]

    spared : AreLeft k (links_of new) (IsLive new) Place g p
    spared = record {
      lives = spared-live;
      held = λ i d c out e. (let o = origin i d c e in s.held i o.0 c o.1);
      dims = λ i d j x c e f. (let a = origin i d c e in let b = origin j x c f in (s.apart i a.0 j b.0 c a.1 b.1).0);
      cells = spared-all;
      clear = spared-clear;
    }

    -- the groups are different cells of live darts
    group-live : (h d : ℕ) → h < length groups → Contains (group_at groups h).darts d → IsLive new d
    group-live h d lt here =
        let cell = t.cells h lt in
        let some = cell.reached in
        live-cell (group_at groups h).dim some.0 d (live (group_at groups h).dim some.0 some.1) ((cell.whole some.0 d some.2).0 here)

    group-apart : (a b d : ℕ) → a < b → b < length groups → (group_at groups a).dim ≡ (group_at groups b).dim → Contains (group_at groups a).darts d → Contains (group_at groups b).darts d → ⊥
    group-apart a b d lt below dims here there = go (t.ascending a b lt below)
      where
        one : IsTouchedCell k (links_of new) rules touched (group_at groups a)
        one = t.cells a (omega arith)

        two : IsTouchedCell k (links_of new) rules touched (group_at groups b)
        two = t.cells b below

        same : (x : ℕ) → Contains (group_at groups a).darts x ↔ Contains (group_at groups b).darts x
        same x = (
          λ h. (two.whole d x there).1 (subst (λ (j : ℕ). InCell k (links_of new) j d x) dims ((one.whole d x here).0 h)),
          λ h. (one.whole d x here).1 (subst (λ (j : ℕ). InCell k (links_of new) j d x) (sym dims) ((two.whole d x there).0 h)),
        )

        lists : (group_at groups a).darts ≡ (group_at groups b).darts
        lists = rising_one (group_at groups a).darts (group_at groups b).darts one.ascending two.ascending same

        go : ((group_at groups a).dim < (group_at groups b).dim) ⊎ (((group_at groups a).dim ≡ (group_at groups b).dim) × (least_of (group_at groups a) < least_of (group_at groups b))) → ⊥
        go (inl less) = omega (arith, dims)
        go (inr less) = let e : least_of (group_at groups a) ≡ least_of (group_at groups b) = ap (λ (xs : List ℕ). slice_index xs 0) lists in omega (arith, less.1, e)

    cells : AreCells k (links_of new) (IsLive new) groups (length groups)
    cells = record { live = group-live; cell = λ h d x lt here. (t.cells h lt).whole d x here; apart = group-apart }

    module _ (mid : Labeling) (rest : Store) (taken : AreTaken Place g mid p rest) (m : Labeling) (q : Store) (given : AreGroupsGiven groups (length groups) mid m rest q) where
      none-left : (a d : ℕ) → a < length groups → Contains (group_at groups a).darts d → id_of mid (group_at groups a).dim d ≡ None
      none-left a d lt here = elim (taken.each (group_at groups a).dim d) [ inl h ↦ h.1 | inr h ↦ absurd (h.0 (inr (a, lt, refl, here))) ]

      upto : AreUpTo k (links_of new) (IsLive new) groups (length groups) mid m rest q
      upto =
          groups-given k (links_of new) (IsLive new) groups (length groups) cells mid rest
          (stored-left k (links_of new) (IsLive new) Place g mid p rest taken spared) none-left (length groups) (omega arith) m q given

      -- the ids tell the new cells
      pub stored-after : AreStored k (links_of new) (IsLive new) m q
      stored-after = upto.stored

      pub places-after : (m.made ≡ l.made) × KeepsPlaces l m
      places-after =
          let b = groups-places groups (length groups) mid m rest q given in
          (b.0 ∙ taken.made ∙ grafts.made, λ i. ((λ h. (grafts.places i).0 ((taken.places i).0 ((b.1 i).0 h))), λ h. (b.1 i).1 ((taken.places i).1 ((grafts.places i).1 h))))

      -- the values at places outside are those of the ids there
      value-outside : (i d : ℕ) → (Place i d → ⊥) → stored_value q m i d ≡ stored_value p g i d
      value-outside i d out =
          upto.others i d (λ h. out (inr h))
          ∙ left-value k (links_of new) (IsLive new) Place g mid p rest taken spared i d out

      -- and stay, but those of darts that were born
      pub stored_value-outside : (i d : ℕ) → d ≤ older → (Place i d → ⊥) → stored_value q m i d ≡ stored_value p l i d
      stored_value-outside i d low out = value-outside i d out ∙ ap (labelled_value p) (kept-id i d low)

      -- a dimension without a rule has no ids
      pub bare-after : (i d : ℕ) → rule_at rules i ≡ None → id_of m i d ≡ None
      bare-after i d none = upto.ids i d out ∙ left-none (taken.each i d)
        where
          out : IsGroupedBelow (length groups) groups i d → ⊥
          out h = let some = (t.cells h.0 h.1).ruled in false≢true (subst (λ (o : Option Rule). IsSome o) (ap (rule_at rules) (sym h.2) ∙ none) some)

          left-none : (Place i d × (id_of mid i d ≡ None)) ⊎ ((Place i d → ⊥) × (id_of mid i d ≡ id_of g i d)) → id_of mid i d ≡ None
          left-none (inl h) = h.1
          left-none (inr h) = h.1 ∙ bare-id i d none

      -- and each new cell has the value that the rule carries to it
      module _ (hook : Hook) (whole : AreWhole hook) (small : AreSmall rules p)
          (carried : (h : ℕ) → h < length groups → HasCarriedValue k (links_of new) (IsLive new) (id_of g) p hook rules (group_at groups h)) where
        abbrev Goal : ℕ → Rule → ℕ → Option Value → Type 0
        Goal i rule d r = IsCarried (meaning_of hook rule) (λ x. known (stored_value p l i x)) (λ x. IsLive old x × IsLive new x)
            (IsValuedWith k i (links_of old) (λ x. stored_value p l i x)) (InCell k (links_of new) i) d r

        -- the same by the ids
        abbrev ById : ℕ → Rule → ℕ → Option Value → Type 0
        ById i rule d r = IsCarried (meaning_of hook rule) (known_value p (id_of g i)) (IsLive new) (IsAlike (id_of g i)) (InCell k (links_of new) i) d r

        alike-on : (i a b c : ℕ) → IsAlike (id_of g i) a b → IsAlike (id_of g i) b c → IsAlike (id_of g i) a c
        alike-on i a b c one two = (one.0, one.1, two.2 ∙ sym two.1 ∙ one.2)

        -- a dart with an id lived before, or there is a lesser one of its piece that did
        lesser : (i x : ℕ) → IsLive new x → IsAlike (id_of g i) x x
            → (IsLive old x × IsLive new x) ⊎ ((y : ℕ) × (IsLive old y × IsLive new y) × IsAlike (id_of g i) x y × InCell k (links_of new) i x y × (y < x))
        lesser i x h (c, e, _) = elim (grafts.each i x) [
          | inl same ↦ inl (s.live i x c (sym same ∙ e), h)
          | inr given ↦ (
              let y : ℕ = given.3 in
              let lived = s.live i y given.2 given.6 in
              let low = first y lived in
              let high : older < x = given.1 in
              inr (y, (lived, live-cell i x y h given.5), (given.2, given.4, kept-id i y low ∙ given.6), given.5, omega arith)
              )
        ]

        alike-before : (i x y : ℕ) → x ≤ older → y ≤ older → IsAlike (id_of g i) x y ↔ IsValuedWith k i (links_of old) (λ z. stored_value p l i z) x y
        alike-before i x y low high = (
          λ a. (alike-valued i x y).0 (a.0, sym (kept-id i x low) ∙ a.1, sym (kept-id i y high) ∙ a.2),
          λ v. (let a = (alike-valued i x y).1 v in (a.0, kept-id i x low ∙ a.1, kept-id i y high ∙ a.2)),
        )

        by-values : (i : ℕ) (rule : Rule) (d : ℕ) (r : Option Value) → ById i rule d r → Goal i rule d r
        by-values i rule d r a =
            renamed (λ x. IsLive old x × IsLive new x) (IsAlike (id_of g i)) (IsValuedWith k i (links_of old) (λ x. stored_value p l i x)) (InCell k (links_of new) i)
            (λ x y lx ly. alike-before i x y (first x lx.0) (first y ly.0)) (meaning_of hook rule) (known_value p (id_of g i)) (λ x. known (stored_value p l i x))
            (λ x lx _. ap (λ (o : Option ℕ). known (labelled_value p o)) (kept-id i x (first x lx.0))) d r
            (relived (IsLive new) (λ x. IsLive old x × IsLive new x) (IsAlike (id_of g i)) (InCell k (links_of new) i) (alike-on i) (λ x y b. (b.0, b.2, b.2))
            (cell_trans k (links_of new) i) (lesser i) (λ x lx. lx.1) (meaning_of hook rule) (known_value p (id_of g i)) d r a)

        grouped-carried : (i : ℕ) (rule : Rule) (d : ℕ) → rule_at rules i ≡ Some rule → IsGroupedBelow (length groups) groups i d → Goal i rule d (stored_value q m i d)
        grouped-carried i rule d is h =
            let is-there : rule_at rules (group_at groups h.0).dim ≡ Some rule = ap (rule_at rules) (sym h.2) ∙ is in
            let at = by-values (group_at groups h.0).dim rule d (group_at groups h.0).value (carried h.0 h.1 rule d is-there h.3) in
            let back = subst (λ (v : Option Value). Goal (group_at groups h.0).dim rule d v) (sym (upto.values h.0 d h.1 h.3)) at in
            subst (λ (j : ℕ). Goal j rule d (stored_value q m j d)) (sym h.2) back

        -- a cell without ids gets no value
        bare-carried : (i : ℕ) (rule : Rule) (d : ℕ) → ((x : ℕ) → InCell k (links_of new) i d x → id_of g i x ≡ None) → ById i rule d (stored_value p g i d)
        bare-carried i rule d none =
            subst (λ (v : Option Value). ById i rule d v) (sym (ap (labelled_value p) (none d (own i d))))
            (nothing-carried (meaning_of hook rule) (known_value p (id_of g i)) (IsLive new) (IsAlike (id_of g i)) (InCell k (links_of new) i) d
            (λ x cell alike. (let f = none x cell in let e = alike.1 in cc (e, f))))

        -- one that is all that has its id keeps the value of the id
        module _ (i : ℕ) (rule : Rule) (is : rule_at rules i ≡ Some rule) (d : ℕ) (h : IsLive new d) (c : ℕ)
            (all : (x : ℕ) → InCell k (links_of new) i d x ↔ (id_of g i x ≡ Some c)) where
          here-id : id_of g i d ≡ Some c
          here-id = (all d).0 (own i d)

          one-cell : IsKeptCell (IsLive new) (InCell k (links_of new) i) d
          one-cell = record {
            own = own i d;
            live = λ x cell. live-cell i d x h cell;
            among = λ b x cell. ((λ o. cell_trans k (links_of new) i d b x cell o), λ o. cell_trans k (links_of new) i b d x (cell_back k (links_of new) wn i d b cell) o);
          }

          its-id : (b x : ℕ) → InCell k (links_of new) i d b → IsLive new x → IsAlike (id_of g i) b x ↔ InCell k (links_of new) i d x
          its-id b x cell _ = (
            λ a. (all x).1 (let e = (all b).0 cell in let f = a.1 in let o = a.2 in o ∙ sym f ∙ e),
            λ there. (c, (all b).0 cell, (all x).0 there),
          )

          constant : (b : ℕ) → InCell k (links_of new) i d b → known_value p (id_of g i) b ≡ known_value p (id_of g i) d
          constant b cell = ap (λ (o : Option ℕ). known (labelled_value p o)) ((all b).0 cell ∙ sym here-id)

          worth : (v : Option Value) → value_of p c ≡ v → (v : Value) × (value_of p c ≡ Some v)
          worth (Some v) e = (v, e)
          worth None e = absurd (held-some p c e (let o = origin i d c here-id in s.held i o.0 c o.1))

          its-value : (v : Value) → value_of p c ≡ Some v → known_value p (id_of g i) d ≡ v
          its-value v e = ap (λ (o : Option ℕ). known (labelled_value p o)) here-id ∙ ap known e

          keeps : (v : Value) → value_of p c ≡ Some v → (meaning_of hook rule).share (known_value p (id_of g i) d) 1 0 ≡ Some (known_value p (id_of g i) d)
          keeps v e = subst (λ (z : Value). (meaning_of hook rule).share z 1 0 ≡ Some z) (sym (its-value v e)) (keeps_whole hook rule whole v (small i rule is c v e))

          told : IsTold (InCell k (links_of new) i d)
          told x = elim (some-or-not (id_of g i x) c) [ inl f ↦ inl ((all x).1 f) | inr other ↦ inr (λ cell. other ((all x).0 cell)) ]

          one-carried : ById i rule d (stored_value p g i d)
          one-carried = go (worth (value_of p c) refl) (find_least (InCell k (links_of new) i d) told (suc d))
            where
              go : (v : Value) × (value_of p c ≡ Some v) → ((b : ℕ) × InCell k (links_of new) i d b × ((y : ℕ) → InCell k (links_of new) i d y → b ≤ y)) ⊎ ((y : ℕ) → y < suc d → InCell k (links_of new) i d y → ⊥)
                  → ById i rule d (stored_value p g i d)
              go v (inr none) = absurd (none d (omega arith) (own i d))
              go (v, e) (inl least) =
                  subst (λ (r : Option Value). ById i rule d r) (ap Some (its-value v e) ∙ sym (ap (labelled_value p) here-id ∙ e))
                  (with_is_carried (meaning_of hook rule) (known_value p (id_of g i)) (IsLive new) (IsAlike (id_of g i)) (InCell k (links_of new) i) d one-cell its-id (keeps v e) constant least.0 least.1 least.2)

        spared-carried : (i : ℕ) (rule : Rule) (d : ℕ) → rule_at rules i ≡ Some rule → IsLive new d → (Place i d → ⊥) → Goal i rule d (stored_value q m i d)
        spared-carried i rule d is h out =
            subst (λ (v : Option Value). Goal i rule d v) (sym (value-outside i d out))
            (by-values i rule d (stored_value p g i d) (elim (spared-cell i d (subst (λ (z : Option Rule). IsSome z) (sym is) refl) h out) [
              | inl none ↦ bare-carried i rule d none
              | inr one ↦ one-carried i rule is d h one.0 one.1
            ]))

        pub carried-after : (i : ℕ) (rule : Rule) → rule_at rules i ≡ Some rule
            → AreCarried k i (meaning_of hook rule) (links_of old) (IsLive old) (λ x. stored_value p l i x) (links_of new) (IsLive new) (λ x. stored_value q m i x)
        carried-after i rule is d h = elim (taken.each i d) [
          | inl place ↦ elim place.0 [ inl gone ↦ absurd (ends d gone.1 h) | inr grouped ↦ grouped-carried i rule d is grouped ]
          | inr out ↦ spared-carried i rule d is h out.0
        ]
