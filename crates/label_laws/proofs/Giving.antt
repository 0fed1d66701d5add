-- Groups that are given their ids one after another.
use Rattle.std.proofs.Common.{ℕ, zero, suc, ◌≡◌, ◌⊎◌, ◌↔◌, ◌<◌, ◌≤◌, inl, inr, refl, sym, ap, subst, ◌∙◌, List, Option, Some, None, Contains, arith}
use Rattle.std.proofs.lemmas.Bool.{cases_lt}
use Rattle.map_defs.specs.Kind.{Kind}
use Rattle.map_defs.specs.Links.{Links}
use Rattle.map_defs.specs.Cells.{InCell}
use Rattle.map_defs.specs.Values.{Value}
use Rattle.store_defs.specs.Stores.{Store}
use Rattle.store_defs.specs.Labelings.{Labeling, id_of, KeepsPlaces}
use Rattle.store_defs.specs.Groups.{Group, group_at, labelled_value}
use Rattle.label_laws.specs.Stored.{stored_value, AreStored}
use Rattle.label_laws.specs.Changing.{IsGroupedBelow, HaveIdFor, AreGroupsGiven}
use Rattle.label_laws.proofs.Storing.{stored-given, stored_value-given, stored_value-beside}

-- giving ids makes no places
given-places : (i : ℕ) (darts : List ℕ) (v : Option Value) (l m : Labeling) (p q : Store) → HaveIdFor i darts v l m p q → (m.made ≡ l.made) × KeepsPlaces l m
given-places i darts None l m p q g = (ap (λ (n : Labeling). n.made) g.0, subst (λ (n : Labeling). KeepsPlaces l n) (sym g.0) (λ j. ((λ h. h), λ h. h)))
given-places i darts (Some v) l m p q g = (g.made, g.places)

pub groups-places : (groups : List Group) (h : ℕ) (l m : Labeling) (p q : Store) → AreGroupsGiven groups h l m p q → (m.made ≡ l.made) × KeepsPlaces l m
groups-places groups zero l m p q g = (ap (λ (n : Labeling). n.made) g.0, subst (λ (n : Labeling). KeepsPlaces l n) (sym g.0) (λ j. ((λ h. h), λ h. h)))
groups-places groups (suc h) l m p q g =
    let a = groups-places groups h l g.0 p g.1 g.2 in
    let b = given-places (group_at groups h).dim (group_at groups h).darts (group_at groups h).value g.0 m g.1 q g.3 in
    (b.0 ∙ a.0, λ j. ((λ x. (a.1 j).0 ((b.1 j).0 x)), λ x. (b.1 j).1 ((a.1 j).1 x)))

-- The first `below` groups are cells of live darts, no two of them the same.
pub record AreCells (k : Kind) (N : Links) (Live : ℕ → Type 0) (groups : List Group) (below : ℕ) : Type 0 where
  pub live : (n d : ℕ) → n < below → Contains (group_at groups n).darts d → Live d
  pub cell : (n d x : ℕ) → n < below → Contains (group_at groups n).darts d → Contains (group_at groups n).darts x ↔ InCell k N (group_at groups n).dim d x
  pub apart : (a b d : ℕ) → a < b → b < below → (group_at groups a).dim ≡ (group_at groups b).dim → Contains (group_at groups a).darts d → Contains (group_at groups b).darts d → ⊥

-- What holds once the first h groups were given their ids.
pub record AreUpTo (k : Kind) (N : Links) (Live : ℕ → Type 0) (groups : List Group) (h : ℕ) (l m : Labeling) (p q : Store) : Type 0 where
  pub stored : AreStored k N Live m q
  pub values : (n d : ℕ) → n < h → Contains (group_at groups n).darts d → stored_value q m (group_at groups n).dim d ≡ (group_at groups n).value
  pub ids : (i d : ℕ) → (IsGroupedBelow h groups i d → ⊥) → id_of m i d ≡ id_of l i d
  pub others : (i d : ℕ) → (IsGroupedBelow h groups i d → ⊥) → stored_value q m i d ≡ stored_value p l i d

module _ (k : Kind) (N : Links) (Live : ℕ → Type 0) (groups : List Group) (below : ℕ) (cells : AreCells k N Live groups below)
    (l : Labeling) (p : Store) (s : AreStored k N Live l p) (bare : (n d : ℕ) → n < below → Contains (group_at groups n).darts d → id_of l (group_at groups n).dim d ≡ None) where
  none-given : (m : Labeling) (q : Store) → (m ≡ l) × (q ≡ p) → AreUpTo k N Live groups 0 l m p q
  none-given m q e = record {
    stored = subst (λ (n : Labeling). AreStored k N Live n q) (sym e.0) (subst (λ (r : Store). AreStored k N Live l r) (sym e.1) s);
    values = λ n d lt h. absurd (omega arith);
    ids = λ i d out. ap (λ (n : Labeling). id_of n i d) e.0;
    others = λ i d out. ap (λ (n : Labeling). stored_value q n i d) e.0 ∙ ap (λ (r : Store). stored_value r l i d) e.1;
  }

  -- a dart of group h is of no group before
  outside : (h d : ℕ) → h < below → Contains (group_at groups h).darts d → IsGroupedBelow h groups (group_at groups h).dim d → ⊥
  outside h d lt here g = cells.apart g.0 h d g.1 lt (sym g.2) g.3 here

  less : (h i d : ℕ) → (IsGroupedBelow (suc h) groups i d → ⊥) → IsGroupedBelow h groups i d → ⊥
  less h i d out g = out (g.0, omega (arith, g.1), g.2, g.3)

  one-given : (h : ℕ) → h < below → (v : Option Value) → (group_at groups h).value ≡ v → (m n : Labeling) (q r : Store)
      → AreUpTo k N Live groups h l m p q → HaveIdFor (group_at groups h).dim (group_at groups h).darts v m n q r → AreUpTo k N Live groups (suc h) l n p r
  one-given h lt None is m n q r u g = record {
    stored = subst (λ (x : Labeling). AreStored k N Live x r) (sym g.0) (subst (λ (y : Store). AreStored k N Live m y) (sym g.1) u.stored);
    values = λ a d a_lt here. same (group_at groups a).dim d ∙ value a d (cases_lt a h) a_lt here;
    ids = λ i d out. ap (λ (x : Labeling). id_of x i d) g.0 ∙ u.ids i d (less h i d out);
    others = λ i d out. same i d ∙ u.others i d (less h i d out);
  }
    where
      same : (i d : ℕ) → stored_value r n i d ≡ stored_value q m i d
      same i d = ap (λ (x : Labeling). stored_value r x i d) g.0 ∙ ap (λ (y : Store). stored_value y m i d) g.1

      at-h : (d : ℕ) → Contains (group_at groups h).darts d → stored_value q m (group_at groups h).dim d ≡ (group_at groups h).value
      at-h d here = u.others (group_at groups h).dim d (outside h d lt here) ∙ ap (labelled_value p) (bare h d lt here) ∙ sym is

      value : (a d : ℕ) → (a < h) ⊎ (h ≤ a) → a < suc h → Contains (group_at groups a).darts d → stored_value q m (group_at groups a).dim d ≡ (group_at groups a).value
      value a d (inl a_lt) b here = u.values a d a_lt here
      value a d (inr le) b here =
          let e : h ≡ a = omega arith in
          subst (λ (x : ℕ). Contains (group_at groups x).darts d → stored_value q m (group_at groups x).dim d ≡ (group_at groups x).value) e (at-h d) here
  one-given h lt (Some v) is m n q r u g = record {
    stored = stored-given k N Live (group_at groups h).dim (Contains (group_at groups h).darts) v m n q r u.stored g live cell none;
    values = λ a d a_lt here. value a d (cases_lt a h) a_lt here;
    ids = λ i d out. (elim (g.each i d) [
      | inl y ↦ absurd (out (h, omega arith, y.0, y.1))
      | inr y ↦ y.1 ∙ u.ids i d (less h i d out)
    ]);
    others = λ i d out. beside i d (λ e c. out (h, omega arith, e, c)) ∙ u.others i d (less h i d out);
  }
    where
      live : (d : ℕ) → Contains (group_at groups h).darts d → Live d
      live d here = cells.live h d lt here

      cell : (d x : ℕ) → Contains (group_at groups h).darts d → Contains (group_at groups h).darts x ↔ InCell k N (group_at groups h).dim d x
      cell d x here = cells.cell h d x lt here

      none : (d : ℕ) → Contains (group_at groups h).darts d → id_of m (group_at groups h).dim d ≡ None
      none d here = u.ids (group_at groups h).dim d (outside h d lt here) ∙ bare h d lt here

      beside : (i d : ℕ) → (i ≡ (group_at groups h).dim → Contains (group_at groups h).darts d → ⊥) → stored_value r n i d ≡ stored_value q m i d
      beside i d out = stored_value-beside k N Live (group_at groups h).dim (Contains (group_at groups h).darts) v m n q r u.stored g live cell none i d out

      at-h : (d : ℕ) → Contains (group_at groups h).darts d → stored_value r n (group_at groups h).dim d ≡ (group_at groups h).value
      at-h d here = stored_value-given k N Live (group_at groups h).dim (Contains (group_at groups h).darts) v m n q r u.stored g live cell none d here ∙ sym is

      value : (a d : ℕ) → (a < h) ⊎ (h ≤ a) → a < suc h → Contains (group_at groups a).darts d → stored_value r n (group_at groups a).dim d ≡ (group_at groups a).value
      value a d (inl a_lt) b here = beside (group_at groups a).dim d (λ e c. cells.apart a h d a_lt lt e here c) ∙ u.values a d a_lt here
      value a d (inr le) b here =
          let e : h ≡ a = omega arith in
          subst (λ (x : ℕ). Contains (group_at groups x).darts d → stored_value r n (group_at groups x).dim d ≡ (group_at groups x).value) e (at-h d) here

  pub groups-given : (h : ℕ) → h ≤ below → (m : Labeling) (q : Store) → AreGroupsGiven groups h l m p q → AreUpTo k N Live groups h l m p q
  groups-given zero le m q g = none-given m q g
  groups-given (suc h) le m q g =
      one-given h (omega arith) (group_at groups h).value refl g.0 m g.1 q (groups-given h (omega arith) g.0 g.1 g.2) g.3
