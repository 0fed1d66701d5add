-- The ids of a map that goes back to an earlier one: those of the cells that may have changed are taken away, and the
-- earlier cells are given theirs. They tell the earlier cells, with the values that these had.
use Rattle.std.proofs.Common.{ℕ, ◌≡◌, ◌⊎◌, ◌↔◌, ◌<◌, inl, inr, refl, sym, ap, subst, ◌∙◌, List, length, Option, Some, None, IsSome, Contains, slice_index, arith}
use Rattle.std.proofs.lemmas.Bool.{false≢true}
use Rattle.map_defs.specs.Kind.{Kind}
use Rattle.map_defs.specs.Laws.{Laws}
use Rattle.map_defs.specs.Rows.{Rows, IsLive, links_of}
use Rattle.map_defs.specs.Cells.{InCell}
use Rattle.map_defs.specs.Touched.{IsOldCell}
use Rattle.map_defs.specs.Values.{Value}
use Rattle.link_laws.proofs.CellFacts.{cell_back}
use Rattle.link_laws.proofs.RowFacts.{rows_lead_to_live}
use Rattle.value_laws.proofs.Touching.{cell_live}
use Rattle.value_laws.proofs.Rising.{rising_one}
use Rattle.store_defs.specs.Stores.{Store}
use Rattle.store_defs.specs.Labelings.{Labeling, id_of}
use Rattle.store_defs.specs.Groups.{Group, group_at, least_of, labelled_value}
use Rattle.label_laws.specs.Stored.{stored_value, AreStored}
use Rattle.label_laws.specs.Changing.{AreTaken, IsGroupedBelow, AreGroupsGiven}
use Rattle.label_laws.specs.Restoring.{IsRestored, AreRestored}
use Rattle.label_laws.proofs.Storing.{AreSpared, stored_value-stays, stored-taken}
use Rattle.label_laws.proofs.Giving.{AreCells, AreUpTo, groups-given}

-- What is known of the values that the earlier map had: a place that is not changed has the value that its id stands for,
-- a dart with a value lives in the earlier map and its dimension is one of those, and a cell has one value. A place that
-- is changed is wanted, and a cell of such a dimension without a dart that is wanted is a cell of the later map.
pub record IsEarlier (k : Kind) (old new : Rows) (l : Labeling) (p : Store) (Changed Wanted : ℕ → ℕ → Type 0) (Dims : ℕ → Type 0) (value : ℕ → ℕ → Option Value) : Type 0 where
  pub stays : (i d : ℕ) → (Changed i d → ⊥) → value i d ≡ stored_value p l i d
  pub lives : (i d : ℕ) → IsSome (value i d) → IsLive new d
  pub ruled : (i d : ℕ) → IsSome (value i d) → Dims i
  pub equal : (i x y : ℕ) → IsLive new x → InCell k (links_of new) i x y → value i x ≡ value i y
  pub wanted : (i d : ℕ) → Changed i d → Wanted i d
  pub touches : (i d : ℕ) → Dims i → IsLive new d → ((x : ℕ) → InCell k (links_of new) i d x → Wanted i x → ⊥) → IsOldCell k i (links_of old) (IsLive old) (links_of new) d

module _ (k : Kind) (old new : Rows) (w : Laws k (links_of old)) (wn : Laws k (links_of new)) (l : Labeling) (p : Store)
    (s : AreStored k (links_of old) (IsLive old) l p) (Changed Wanted : ℕ → ℕ → Type 0) (Dims : ℕ → Type 0) (value : ℕ → ℕ → Option Value)
    (e : IsEarlier k old new l p Changed Wanted Dims value) (groups : List Group) (r : AreRestored k (links_of new) (IsLive new) Dims Wanted value groups) where
  abbrev Place : ℕ → ℕ → Type 0
  Place i d = Changed i d ⊎ IsGroupedBelow (length groups) groups i d

  live-cell : (i d x : ℕ) → IsLive new d → InCell k (links_of new) i d x → IsLive new x
  live-cell i d x h cell = cell_live k (IsLive old) (links_of old) (links_of new) w wn (IsLive new) (rows_lead_to_live k new wn) i d h cell

  -- a dart of a group brings its whole cell along
  grouped-cell : (i d x : ℕ) → IsGroupedBelow (length groups) groups i x → InCell k (links_of new) i d x → IsGroupedBelow (length groups) groups i d
  grouped-cell i d x g cell =
      let back : InCell k (links_of new) (group_at groups g.0).dim x d = subst (λ (j : ℕ). InCell k (links_of new) j x d) g.2 (cell_back k (links_of new) wn i d x cell) in
      (g.0, g.1, g.2, ((r.cells g.0 g.1).whole x d g.3).1 back)

  -- a live dart at a place outside lies in a cell of the later map
  old-cell : (i d : ℕ) → Dims i → IsLive new d → (Place i d → ⊥) → IsOldCell k i (links_of old) (IsLive old) (links_of new) d
  old-cell i d dim h out = e.touches i d dim h (λ x cell want. out (inr (grouped-cell i d x (r.all i x dim want (live-cell i d x h cell)) cell)))

  -- a place outside with an id has a value
  valued : (i d c : ℕ) → (Place i d → ⊥) → id_of l i d ≡ Some c → IsSome (value i d)
  valued i d c out is =
      subst (λ (o : Option Value). IsSome o) (sym (e.stays i d (λ ch. out (inl ch))))
      (subst (λ (o : Option ℕ). IsSome (labelled_value p o)) (sym is) (s.held i d c is))

  spared-live : (i d c : ℕ) → (Place i d → ⊥) → id_of l i d ≡ Some c → IsLive new d
  spared-live i d c out is = e.lives i d (valued i d c out is)

  spared-cell : (i d c : ℕ) → (Place i d → ⊥) → id_of l i d ≡ Some c → IsOldCell k i (links_of old) (IsLive old) (links_of new) d
  spared-cell i d c out is = old-cell i d (e.ruled i d (valued i d c out is)) (spared-live i d c out is) out

  spared-clear : (i d c x : ℕ) → (Place i d → ⊥) → id_of l i d ≡ Some c → InCell k (links_of old) i d x → Place i x → ⊥
  spared-clear i d c x out is cell place =
      let there : InCell k (links_of new) i d x = ((spared-cell i d c out is).same x).1 cell in
      elim place [
        | inl ch ↦ out (inr (grouped-cell i d x
            (r.all i x (e.ruled i d (valued i d c out is)) (e.wanted i x ch) (live-cell i d x (spared-live i d c out is) there)) there))
        | inr g ↦ out (inr (grouped-cell i d x g there))
      ]

  spared : AreSpared k (links_of old) (links_of new) (IsLive new) Place l
  spared = record { lives = spared-live; cells = λ i d c x out is. (spared-cell i d c out is).same x; clear = spared-clear }

  group-apart : (a b d : ℕ) → a < b → b < length groups → (group_at groups a).dim ≡ (group_at groups b).dim → Contains (group_at groups a).darts d → Contains (group_at groups b).darts d → ⊥
  group-apart a b d lt below dims here there = go (r.ascending a b lt below)
    where
      one : IsRestored k (links_of new) (IsLive new) Dims value (group_at groups a)
      one = r.cells a (omega arith)

      two : IsRestored k (links_of new) (IsLive new) Dims value (group_at groups b)
      two = r.cells b below

      same : (x : ℕ) → Contains (group_at groups a).darts x ↔ Contains (group_at groups b).darts x
      same x = (
        λ h. (two.whole d x there).1 (subst (λ (j : ℕ). InCell k (links_of new) j d x) dims ((one.whole d x here).0 h)),
        λ h. (one.whole d x here).1 (subst (λ (j : ℕ). InCell k (links_of new) j d x) (sym dims) ((two.whole d x there).0 h)),
      )

      lists : (group_at groups a).darts ≡ (group_at groups b).darts
      lists = rising_one (group_at groups a).darts (group_at groups b).darts one.ascending two.ascending same

      go : ((group_at groups a).dim < (group_at groups b).dim) ⊎ (((group_at groups a).dim ≡ (group_at groups b).dim) × (least_of (group_at groups a) < least_of (group_at groups b))) → ⊥
      go (inl less) = omega (arith, dims)
      go (inr less) = let f : least_of (group_at groups a) ≡ least_of (group_at groups b) = ap (λ (xs : List ℕ). slice_index xs 0) lists in omega (arith, less.1, f)

  cells : AreCells k (links_of new) (IsLive new) groups (length groups)
  cells = record { live = λ g d lt here. (r.cells g lt).live d here; cell = λ g d x lt here. (r.cells g lt).whole d x here; apart = group-apart }

  -- each dart of a group has the group's value
  group-value : (g d : ℕ) → g < length groups → Contains (group_at groups g).darts d → (group_at groups g).value ≡ value (group_at groups g).dim d
  group-value g d lt here =
      let one = r.cells g lt in
      one.is ∙ sym (e.equal (group_at groups g).dim d (least_of (group_at groups g)) (one.live d here) ((one.whole d (least_of (group_at groups g)) here).0 one.least))

  module _ (mid : Labeling) (rest : Store) (taken : AreTaken Place l mid p rest) (m : Labeling) (q : Store) (given : AreGroupsGiven groups (length groups) mid m rest q) where
    none-left : (g d : ℕ) → g < length groups → Contains (group_at groups g).darts d → id_of mid (group_at groups g).dim d ≡ None
    none-left g d lt here = elim (taken.each (group_at groups g).dim d) [ inl h ↦ h.1 | inr h ↦ absurd (h.0 (inr (g, lt, refl, here))) ]

    upto : AreUpTo k (links_of new) (IsLive new) groups (length groups) mid m rest q
    upto =
        groups-given k (links_of new) (IsLive new) groups (length groups) cells mid rest
        (stored-taken k (links_of old) (links_of new) (IsLive old) (IsLive new) Place l mid p rest s taken spared) none-left (length groups) (omega arith) m q given

    -- the ids tell the earlier cells
    pub stored-before : AreStored k (links_of new) (IsLive new) m q
    stored-before = upto.stored

    grouped-stored_value : (i d : ℕ) → IsGroupedBelow (length groups) groups i d → stored_value q m i d ≡ value i d
    grouped-stored_value i d g =
        let there : stored_value q m (group_at groups g.0).dim d ≡ value (group_at groups g.0).dim d = upto.values g.0 d g.1 g.3 ∙ group-value g.0 d g.1 g.3 in
        subst (λ (j : ℕ). stored_value q m j d ≡ value j d) (sym g.2) there

    -- a place whose id was taken and that is of no group has no value
    taken-stored_value : (i d : ℕ) → id_of mid i d ≡ None → (IsGroupedBelow (length groups) groups i d → ⊥) → stored_value q m i d ≡ None
    taken-stored_value i d none out = upto.others i d out ∙ ap (labelled_value rest) none

    taken-value : (i d : ℕ) → id_of mid i d ≡ None → Changed i d → (v : Option Value) → value i d ≡ v → (o : Option Value) → stored_value q m i d ≡ o → stored_value q m i d ≡ value i d
    taken-value i d none ch (Some v) is o has =
        let some : IsSome (value i d) = subst (λ (z : Option Value). IsSome z) (sym is) refl in
        grouped-stored_value i d (r.all i d (e.ruled i d some) (e.wanted i d ch) (e.lives i d some))
    taken-value i d none ch None is None has = has ∙ sym is
    taken-value i d none ch None is (Some v) has =
        absurd (let out : IsGroupedBelow (length groups) groups i d → ⊥ = λ g. (let f = grouped-stored_value i d g in cc (f, is, has)) in
        let f = taken-stored_value i d none out in cc (f, has))

    -- the values are the earlier ones
    pub stored_value-before : (i d : ℕ) → stored_value q m i d ≡ value i d
    stored_value-before i d = elim (taken.each i d) [
      | inl place ↦ elim place.0 [
        | inl ch ↦ taken-value i d place.1 ch (value i d) refl (stored_value q m i d) refl
        | inr g ↦ grouped-stored_value i d g
      ]
      | inr out ↦
          upto.others i d (λ g. out.0 (inr g))
          ∙ stored_value-stays k (links_of old) (links_of new) (IsLive old) (IsLive new) Place l mid p rest s taken spared i d out.0
          ∙ sym (e.stays i d (λ ch. out.0 (inl ch)))
    ]

    -- a place without a value has no id
    pub bare-before : (i d : ℕ) → value i d ≡ None → id_of m i d ≡ None
    bare-before i d none = go (id_of m i d) refl
      where
        go : (o : Option ℕ) → id_of m i d ≡ o → id_of m i d ≡ None
        go None is = is
        go (Some c) is = absurd
            (false≢true (subst (λ (o : Option Value). IsSome o) (stored_value-before i d ∙ none)
            (subst (λ (o : Option ℕ). IsSome (labelled_value q o)) (sym is) (upto.stored.held i d c is))))
