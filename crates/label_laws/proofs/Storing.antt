-- Ids go on telling the cells that have values, where those of whole cells are taken away, and where a cell is given one.
use Rattle.std.proofs.Common.{ℕ, ◌≡◌, ◌≢◌, ◌⊎◌, ◌↔◌, inl, inr, refl, sym, ap, subst, ◌∙◌, Option, Some, None, IsSome}
use Rattle.std.proofs.lemmas.Bool.{false≢true}
use Rattle.map_defs.specs.Kind.{Kind}
use Rattle.map_defs.specs.Links.{Links}
use Rattle.map_defs.specs.Cells.{InCell}
use Rattle.map_defs.specs.Values.{Value}
use Rattle.store_defs.specs.Stores.{Store, value_of, IsHeld}
use Rattle.store_defs.specs.Labelings.{Labeling, id_of}
use Rattle.store_defs.specs.Groups.{labelled_value}
use Rattle.label_laws.specs.Stored.{stored_value, AreStored}
use Rattle.label_laws.specs.Changing.{AreTaken, AreGiven}

-- The ids at places outside tell cells: the cell of each is all that has its id, its darts live, and none of them is of those places.
pub record AreLeft (k : Kind) (N : Links) (LiveAfter : ℕ → Type 0) (Place : ℕ → ℕ → Type 0) (l : Labeling) (p : Store) : Type 0 where
  pub lives : (i d c : ℕ) → (Place i d → ⊥) → id_of l i d ≡ Some c → LiveAfter d
  pub held : (i d c : ℕ) → (Place i d → ⊥) → id_of l i d ≡ Some c → IsHeld p c
  pub dims : (i d j e c : ℕ) → id_of l i d ≡ Some c → id_of l j e ≡ Some c → j ≡ i
  pub cells : (i d c x : ℕ) → (Place i d → ⊥) → id_of l i d ≡ Some c → InCell k N i d x ↔ (id_of l i x ≡ Some c)
  pub clear : (i d c x : ℕ) → (Place i d → ⊥) → id_of l i d ≡ Some c → id_of l i x ≡ Some c → Place i x → ⊥

pub held-some : (p : Store) (c : ℕ) → value_of p c ≡ None → IsHeld p c → ⊥
held-some p c none held = false≢true (subst (λ (o : Option Value). IsSome o) none held)

module _ (k : Kind) (N : Links) (LiveAfter : ℕ → Type 0) (Place : ℕ → ℕ → Type 0) (l m : Labeling) (p q : Store) (t : AreTaken Place l m p q) where
  -- an id that is left was there, at a place that was not taken
  pub left : (i d c : ℕ) → id_of m i d ≡ Some c → (Place i d → ⊥) × (id_of l i d ≡ Some c)
  left i d c e = go (t.each i d)
    where
      go : (Place i d × (id_of m i d ≡ None)) ⊎ ((Place i d → ⊥) × (id_of m i d ≡ id_of l i d)) → (Place i d → ⊥) × (id_of l i d ≡ Some c)
      go (inl h) = absurd (let f = h.1 in cc (e, f))
      go (inr h) = (h.0, sym h.1 ∙ e)

  pub stays : (i d c : ℕ) → (Place i d → ⊥) → id_of l i d ≡ Some c → id_of m i d ≡ Some c
  stays i d c out e = elim (t.each i d) [ inl h ↦ absurd (out h.0) | inr h ↦ h.1 ∙ e ]

  module _ (a : AreLeft k N LiveAfter Place l p) where
    pub same-value : (i d c : ℕ) → (Place i d → ⊥) → id_of l i d ≡ Some c → value_of q c ≡ value_of p c
    same-value i d c out e = go (t.values c)
      where
        go : (value_of q c ≡ value_of p c) ⊎ ((i : ℕ) × (d : ℕ) × Place i d × (id_of l i d ≡ Some c)) → value_of q c ≡ value_of p c
        go (inl f) = f
        go (inr g) =
            let dim : g.0 ≡ i = a.dims i d g.0 g.1 c e g.3 in
            absurd (a.clear i d c g.1 out e (subst (λ (j : ℕ). id_of l j g.1 ≡ Some c) dim g.3) (subst (λ (j : ℕ). Place j g.1) dim g.2))

    stored_value-same : (o : Option ℕ) → ((c : ℕ) → o ≡ Some c → value_of q c ≡ value_of p c) → labelled_value q o ≡ labelled_value p o
    stored_value-same None same = refl
    stored_value-same (Some c) same = same c refl

    -- what is not taken keeps its value
    pub left-value : (i d : ℕ) → (Place i d → ⊥) → stored_value q m i d ≡ stored_value p l i d
    left-value i d out = elim (t.each i d) [
      | inl h ↦ absurd (out h.0)
      | inr h ↦ ap (labelled_value q) h.1 ∙ stored_value-same (id_of l i d) (λ c e. same-value i d c out e)
    ]

    pub stored-left : AreStored k N LiveAfter m q
    stored-left = record {
      live = λ i d c e. let h = left i d c e in a.lives i d c h.0 h.1;
      held = λ i d c e. let h = left i d c e in subst (λ (o : Option Value). IsSome o) (sym (same-value i d c h.0 h.1)) (a.held i d c h.0 h.1);
      whole = λ i d x c e cell. (let h = left i d c e in
          let there = (a.cells i d c x h.0 h.1).0 cell in
          stays i x c (a.clear i d c x h.0 h.1 there) there);
      apart = λ i d j x c e f. (let h = left i d c e in
          let there = (left j x c f).1 in
          let dim : j ≡ i = a.dims i d j x c h.1 there in
          (dim, (a.cells i d c x h.0 h.1).1 (subst (λ (n : ℕ). id_of l n x ≡ Some c) dim there)));
    }

-- The cells that have ids at places outside go on as they were: their darts live, and none of them is of those places.
pub record AreSpared (k : Kind) (L N : Links) (LiveAfter : ℕ → Type 0) (Place : ℕ → ℕ → Type 0) (l : Labeling) : Type 0 where
  pub lives : (i d c : ℕ) → (Place i d → ⊥) → id_of l i d ≡ Some c → LiveAfter d
  pub cells : (i d c x : ℕ) → (Place i d → ⊥) → id_of l i d ≡ Some c → InCell k N i d x ↔ InCell k L i d x
  pub clear : (i d c x : ℕ) → (Place i d → ⊥) → id_of l i d ≡ Some c → InCell k L i d x → Place i x → ⊥

module _ (k : Kind) (L N : Links) (Live LiveAfter : ℕ → Type 0) (Place : ℕ → ℕ → Type 0) (l m : Labeling) (p q : Store)
    (s : AreStored k L Live l p) (t : AreTaken Place l m p q) (a : AreSpared k L N LiveAfter Place l) where
  spared-left : AreLeft k N LiveAfter Place l p
  spared-left = record {
    lives = a.lives;
    held = λ i d c out e. s.held i d c e;
    dims = λ i d j e c here there. (s.apart i d j e c here there).0;
    cells = λ i d c x out e. ((λ cell. s.whole i d x c e ((a.cells i d c x out e).0 cell)), λ f. (a.cells i d c x out e).1 (s.apart i d i x c e f).1);
    clear = λ i d c x out e f. a.clear i d c x out e (s.apart i d i x c e f).1;
  }

  pub stored_value-stays : (i d : ℕ) → (Place i d → ⊥) → stored_value q m i d ≡ stored_value p l i d
  stored_value-stays = left-value k N LiveAfter Place l m p q t spared-left

  pub stored-taken : AreStored k N LiveAfter m q
  stored-taken = stored-left k N LiveAfter Place l m p q t spared-left

module _ (k : Kind) (N : Links) (Live : ℕ → Type 0) (i : ℕ) (Darts : ℕ → Type 0) (value : Value) (l m : Labeling) (p q : Store)
    (s : AreStored k N Live l p) (g : AreGiven i Darts value l m p q)
    (live : (d : ℕ) → Darts d → Live d) (cell : (d x : ℕ) → Darts d → Darts x ↔ InCell k N i d x) (bare : (d : ℕ) → Darts d → id_of l i d ≡ None) where
  abbrev Each : ℕ → ℕ → Type 0
  Each j d = ((j ≡ i) × Darts d × (id_of m j d ≡ Some g.id)) ⊎ ((j ≡ i → Darts d → ⊥) × (id_of m j d ≡ id_of l j d))

  other-id : (j d c : ℕ) → id_of l j d ≡ Some c → c ≢ g.id
  other-id j d c e same = held-some p g.id g.fresh (subst (IsHeld p) same (s.held j d c e))

  given-live : (j d c : ℕ) → id_of m j d ≡ Some c → Each j d → Live d
  given-live j d c e (inl h) = live d h.1
  given-live j d c e (inr h) = s.live j d c (sym h.1 ∙ e)

  some-same : (a b : ℕ) (o : Option ℕ) → o ≡ Some a → o ≡ Some b → a ≡ b
  some-same a b o e f = cc (e, f)

  given-held : (j d c : ℕ) → id_of m j d ≡ Some c → Each j d → IsHeld q c
  given-held j d c e (inl h) = subst (IsHeld q) (some-same g.id c (id_of m j d) h.2 e) (subst (λ (o : Option Value). IsSome o) (sym g.value_is) refl)
  given-held j d c e (inr h) =
      let was : id_of l j d ≡ Some c = sym h.1 ∙ e in
      subst (λ (o : Option Value). IsSome o) (sym (g.values c (other-id j d c was))) (s.held j d c was)

  given-whole : (j d x c : ℕ) → id_of m j d ≡ Some c → InCell k N j d x → Each j d → Each j x → id_of m j x ≡ Some c
  given-whole j d x c e o (inl h) (inl y) = y.2 ∙ ap Some (some-same g.id c (id_of m j d) h.2 e)
  given-whole j d x c e o (inl h) (inr y) = absurd (y.0 h.0 ((cell d x h.1).1 (subst (λ (n : ℕ). InCell k N n d x) h.0 o)))
  given-whole j d x c e o (inr h) (inl y) =
      let there = s.whole j d x c (sym h.1 ∙ e) o in
      let none = subst (λ (n : ℕ). id_of l n x ≡ None) (sym y.0) (bare x y.1) in
      absurd (cc (there, none))
  given-whole j d x c e o (inr h) (inr y) = y.1 ∙ s.whole j d x c (sym h.1 ∙ e) o

  given-apart : (j d h x c : ℕ) → id_of m j d ≡ Some c → id_of m h x ≡ Some c → Each j d → Each h x → (h ≡ j) × InCell k N j d x
  given-apart j d h x c e f (inl a) (inl b) = (b.0 ∙ sym a.0, subst (λ (n : ℕ). InCell k N n d x) (sym a.0) ((cell d x a.1).0 b.1))
  given-apart j d h x c e f (inl a) (inr b) = absurd (other-id h x c (sym b.1 ∙ f) (some-same c g.id (id_of m j d) e a.2))
  given-apart j d h x c e f (inr a) (inl b) = absurd (other-id j d c (sym a.1 ∙ e) (some-same c g.id (id_of m h x) f b.2))
  given-apart j d h x c e f (inr a) (inr b) = s.apart j d h x c (sym a.1 ∙ e) (sym b.1 ∙ f)

  pub stored-given : AreStored k N Live m q
  stored-given = record {
    live = λ j d c e. given-live j d c e (g.each j d);
    held = λ j d c e. given-held j d c e (g.each j d);
    whole = λ j d x c e o. given-whole j d x c e o (g.each j d) (g.each j x);
    apart = λ j d h x c e f. given-apart j d h x c e f (g.each j d) (g.each h x);
  }

  -- the darts have the value, and all else has the value that it had
  pub stored_value-given : (d : ℕ) → Darts d → stored_value q m i d ≡ Some value
  stored_value-given d h = elim (g.each i d) [
    | inl y ↦ ap (labelled_value q) y.2 ∙ g.value_is
    | inr y ↦ absurd (y.0 refl h)
  ]

  stored_value-unless : (o : Option ℕ) → ((c : ℕ) → o ≡ Some c → c ≢ g.id) → labelled_value q o ≡ labelled_value p o
  stored_value-unless None other = refl
  stored_value-unless (Some c) other = g.values c (other c refl)

  pub stored_value-beside : (j d : ℕ) → (j ≡ i → Darts d → ⊥) → stored_value q m j d ≡ stored_value p l j d
  stored_value-beside j d out = elim (g.each j d) [
    | inl y ↦ absurd (out y.0 y.1)
    | inr y ↦ ap (labelled_value q) y.1 ∙ stored_value-unless (id_of l j d) (λ c e. other-id j d c e)
  ]
