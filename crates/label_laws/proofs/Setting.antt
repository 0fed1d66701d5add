-- A cell that gets a value, and one whose value is taken away.
use Rattle.std.proofs.Common.{ℕ, ◌≡◌, ◌↔◌, inl, inr, refl, sym, ap, subst, ◌∙◌, List, Option, Some, None, IsSome, Contains}
use Rattle.map_defs.specs.Kind.{Kind}
use Rattle.map_defs.specs.Links.{Links}
use Rattle.map_defs.specs.Laws.{Laws}
use Rattle.map_defs.specs.Cells.{InCell}
use Rattle.map_defs.specs.Values.{Value}
use Rattle.link_laws.proofs.Basics.{same_or_not}
use Rattle.link_laws.proofs.CellFacts.{cell_back}
use Rattle.value_laws.proofs.MapValues.{cell_trans}
use Rattle.store_defs.specs.Stores.{Store, value_of, IsHeld, IsPut}
use Rattle.store_defs.specs.Labelings.{Labeling, id_of}
use Rattle.store_defs.specs.Groups.{labelled_value}
use Rattle.label_laws.specs.Stored.{stored_value, AreStored}
use Rattle.label_laws.specs.Changing.{AreTaken, AreGiven}
use Rattle.label_laws.proofs.Storing.{AreSpared, stored-taken, stored_value-stays, stored-given, stored_value-given, stored_value-beside}

-- The i-cell of d has this value now, or none, and the ids still tell the cells; all else has the value that it had.
pub record IsSetIn (k : Kind) (L : Links) (Live : ℕ → Type 0) (i d : ℕ) (value : Option Value) (l m : Labeling) (p q : Store) : Type 0 where
  pub stored : AreStored k L Live m q
  pub cell : (x : ℕ) → InCell k L i d x → stored_value q m i x ≡ value
  pub others : (j x : ℕ) → (j ≡ i → InCell k L i d x → ⊥) → stored_value q m j x ≡ stored_value p l j x

module _ (k : Kind) (L : Links) (w : Laws k L) (Live : ℕ → Type 0) (l : Labeling) (p : Store) (s : AreStored k L Live l p) (i d : ℕ) where
  -- the value that its id stands for is replaced
  module _ (value : Value) (id : ℕ) (has : id_of l i d ≡ Some id) (q : Store) (put : IsPut p q id (Some value)) where
    held-put : (c : ℕ) → IsHeld p c → IsHeld q c
    held-put c held = elim (same_or_not c id) [
      | inl e ↦ subst (λ (o : Option Value). IsSome o) (sym (ap (value_of q) e ∙ put.here)) refl
      | inr other ↦ subst (λ (o : Option Value). IsSome o) (sym (put.others c other)) held
    ]

    same-unless : (o : Option ℕ) → (o ≡ Some id → ⊥) → labelled_value q o ≡ labelled_value p o
    same-unless None other = refl
    same-unless (Some c) other = put.others c (λ e. other (ap Some e))

    pub set-replaced : IsSetIn k L Live i d (Some value) l l p q
    set-replaced = record {
      stored = record { live = s.live; held = λ j x c e. held-put c (s.held j x c e); whole = s.whole; apart = s.apart };
      cell = λ x cell. ap (labelled_value q) (s.whole i d x id has cell) ∙ put.here;
      others = λ j x out. same-unless (id_of l j x) (λ e. let both = s.apart i d j x id has e in out both.0 both.1);
    }

  -- the cell, which has no id, is given one
  module _ (value : Value) (has : id_of l i d ≡ None) (live : (x : ℕ) → InCell k L i d x → Live x) (darts : List ℕ) (are : (x : ℕ) → Contains darts x ↔ InCell k L i d x)
      (m : Labeling) (q : Store) (g : AreGiven i (Contains darts) value l m p q) where
    cell-bare : (x : ℕ) → Contains darts x → id_of l i x ≡ None
    cell-bare x h = go (id_of l i x) refl
      where
        go : (o : Option ℕ) → id_of l i x ≡ o → id_of l i x ≡ None
        go None e = e
        go (Some c) e = let there = s.whole i x d c e (cell_back k L w i d x ((are x).0 h)) in absurd (cc (there, has))

    cell-same : (x y : ℕ) → Contains darts x → Contains darts y ↔ InCell k L i x y
    cell-same x y h = (
      λ there. cell_trans k L i x d y (cell_back k L w i d x ((are x).0 h)) ((are y).0 there),
      λ cell. (are y).1 (cell_trans k L i d x y ((are x).0 h) cell),
    )

    pub set-given : IsSetIn k L Live i d (Some value) l m p q
    set-given = record {
      stored = stored-given k L Live i (Contains darts) value l m p q s g (λ x h. live x ((are x).0 h)) cell-same cell-bare;
      cell = λ x cell. stored_value-given k L Live i (Contains darts) value l m p q s g (λ x h. live x ((are x).0 h)) cell-same cell-bare x ((are x).1 cell);
      others = λ j x out. stored_value-beside k L Live i (Contains darts) value l m p q s g (λ x h. live x ((are x).0 h)) cell-same cell-bare j x (λ e h. out e ((are x).0 h));
    }

  -- the ids of the cell are taken away
  module _ (darts : List ℕ) (are : (x : ℕ) → Contains darts x ↔ InCell k L i d x) (m : Labeling) (q : Store)
      (t : AreTaken (λ j x. (j ≡ i) × Contains darts x) l m p q) where
    abbrev Place : ℕ → ℕ → Type 0
    Place j x = (j ≡ i) × Contains darts x

    cell-spared : AreSpared k L L Live Place l
    cell-spared = record {
      lives = λ j x c out e. s.live j x c e;
      cells = λ j x c y out e. ((λ h. h), λ h. h);
      clear = λ j x c y out e cell place.
          out (place.0, (are x).1 (cell_trans k L i d y x ((are y).0 place.1) (cell_back k L w i x y (subst (λ (h : ℕ). InCell k L h x y) place.0 cell))));
    }

    pub set-taken : IsSetIn k L Live i d None l m p q
    set-taken = record {
      stored = stored-taken k L L Live Live Place l m p q s t cell-spared;
      cell = λ x cell. (elim (t.each i x) [ inl h ↦ ap (labelled_value q) h.1 | inr h ↦ absurd (h.0 (refl, (are x).1 cell)) ]);
      others = λ j x out. stored_value-stays k L L Live Live Place l m p q s t cell-spared j x (λ h. out h.0 ((are x).0 h.1));
    }

  -- where the cell has no id nothing changes
  pub set-none : id_of l i d ≡ None → IsSetIn k L Live i d None l l p p
  set-none has = record {
    stored = s;
    cell = λ x cell. ap (labelled_value p) (go x cell (id_of l i x) refl);
    others = λ j x out. refl;
  }
    where
      go : (x : ℕ) → InCell k L i d x → (o : Option ℕ) → id_of l i x ≡ o → id_of l i x ≡ None
      go x cell None e = e
      go x cell (Some c) e = let there = s.whole i x d c e (cell_back k L w i d x cell) in absurd (cc (there, has))
