-- Ids taken away and given one dart, one dimension and one group after another.
use Rattle.std.proofs.Common.{ℕ, ◌≡◌, ◌≢◌, ◌⊎◌, ◌↔◌, ◌+◌, ◌<◌, inl, inr, refl, sym, ap, subst, ◌∙◌, List, [], ◌∷◌, ◌++◌, length, get_or, take, Some, Contains, arith}
use Rattle.std.proofs.lemmas.Bool.{cases_eq}
use Rattle.std.proofs.lemmas.List.{take_more, get_or_default}
use Rattle.std.proofs.lemmas.List.Elements.{Contains-append_left, Contains-push, Contains-push_cases}
use Rattle.store_defs.specs.Stores.{Store}
use Rattle.store_defs.specs.Labelings.{Labeling, id_of, KeepsPlaces, IsRelabelled}
use Rattle.store_defs.specs.Groups.{Group, group_at, no_group}
use Rattle.label_laws.specs.Changing.{AreTaken, HaveId, IsGroupedBelow}
use Rattle.label_laws.proofs.Taking.{taken-none, taken-as, taken-then}

-- one element more
pub head-more : (xs : List ℕ) (k x : ℕ) → k < length xs → Contains (take (k + 1) xs) x ↔ (Contains (take k xs) x ⊎ (x ≡ get_or xs k 0))
head-more xs k x h = (to, from)
  where
    more : take (k + 1) xs ≡ take k xs ++ get_or xs k 0 ∷ []
    more = take_more xs k 0 h

    to : Contains (take (k + 1) xs) x → Contains (take k xs) x ⊎ (x ≡ get_or xs k 0)
    to c = elim (Contains-push_cases (take k xs) (get_or xs k 0) x (subst (λ (ys : List ℕ). Contains ys x) more c)) [ inl before ↦ inl before | inr e ↦ inr (sym e) ]

    from : Contains (take k xs) x ⊎ (x ≡ get_or xs k 0) → Contains (take (k + 1) xs) x
    from (inl before) = subst (λ (ys : List ℕ). Contains ys x) (sym more) (Contains-append_left (take k xs) (get_or xs k 0 ∷ []) x before)
    from (inr e) = subst (λ (y : ℕ). Contains (take (k + 1) xs) y) (sym e) (subst (λ (ys : List ℕ). Contains ys (get_or xs k 0)) (sym more) (Contains-push (take k xs) (get_or xs k 0)))

pub head-none : (xs : List ℕ) (x : ℕ) → Contains (take 0 xs) x → ⊥
head-none xs x c = let h : c.0 < 0 = c.1 in omega arith

-- darts
pub taken-darts-begun : (i : ℕ) (xs : List ℕ) (l : Labeling) (p : Store) → AreTaken (λ j d. (j ≡ i) × Contains (take 0 xs) d) l l p p
taken-darts-begun i xs l p = taken-none (λ j d. (j ≡ i) × Contains (take 0 xs) d) l p (λ j d h. head-none xs d h.1)

pub taken-darts : (i k : ℕ) (xs : List ℕ) (l m n : Labeling) (p q r : Store) → k < length xs → AreTaken (λ j d. (j ≡ i) × Contains (take k xs) d) l m p q
    → AreTaken (λ j d. (j ≡ i) × (d ≡ get_or xs k 0)) m n q r → AreTaken (λ j d. (j ≡ i) × Contains (take (k + 1) xs) d) l n p r
taken-darts i k xs l m n p q r h a b =
    taken-as (λ j d. ((j ≡ i) × Contains (take k xs) d) ⊎ ((j ≡ i) × (d ≡ get_or xs k 0))) (λ j d. (j ≡ i) × Contains (take (k + 1) xs) d) l n p r
    (λ j d. (
      λ o. (elim o [ inl x ↦ (x.0, (head-more xs k d h).1 (inl x.1)) | inr x ↦ (x.0, (head-more xs k d h).1 (inr x.1)) ]),
      λ c. (elim ((head-more xs k d h).0 c.1) [ inl x ↦ inl (c.0, x) | inr x ↦ inr (c.0, x) ]),
    ))
    (taken-then (λ j d. (j ≡ i) × Contains (take k xs) d) (λ j d. (j ≡ i) × (d ≡ get_or xs k 0)) l m n p q r a b)

-- dimensions
pub taken-dims-begun : (Darts : ℕ → Type 0) (l : Labeling) (p : Store) → AreTaken (λ j d. (j < 0) × Darts d) l l p p
taken-dims-begun Darts l p = taken-none (λ j d. (j < 0) × Darts d) l p (λ j d h. let low : j < 0 = h.0 in omega arith)

pub taken-dims : (Darts : ℕ → Type 0) (i : ℕ) (l m n : Labeling) (p q r : Store) → AreTaken (λ j d. (j < i) × Darts d) l m p q
    → AreTaken (λ j d. (j ≡ i) × Darts d) m n q r → AreTaken (λ j d. (j < i + 1) × Darts d) l n p r
taken-dims Darts i l m n p q r a b =
    taken-as (λ j d. ((j < i) × Darts d) ⊎ ((j ≡ i) × Darts d)) (λ j d. (j < i + 1) × Darts d) l n p r
    (λ j d. (
      λ o. (elim o [ inl x ↦ (let lt : j < i = x.0 in omega arith, x.1) | inr x ↦ (let e : j ≡ i = x.0 in omega arith, x.1) ]),
      λ c. (elim (cases_eq j i) [ inl e ↦ inr (e, c.1) | inr other ↦ inl (let lt : j < i + 1 = c.0 in omega arith, c.1) ]),
    ))
    (taken-then (λ j d. (j < i) × Darts d) (λ j d. (j ≡ i) × Darts d) l m n p q r a b)

-- groups
pub taken-groups-begun : (groups : List Group) (l : Labeling) (p : Store) → AreTaken (IsGroupedBelow 0 groups) l l p p
taken-groups-begun groups l p = taken-none (IsGroupedBelow 0 groups) l p (λ j d h. let lt : h.0 < 0 = h.1 in omega arith)

pub taken-groups : (groups : List Group) (k : ℕ) (l m n : Labeling) (p q r : Store) → AreTaken (IsGroupedBelow k groups) l m p q
    → AreTaken (λ j d. (j ≡ (group_at groups k).dim) × Contains (group_at groups k).darts d) m n q r → AreTaken (IsGroupedBelow (k + 1) groups) l n p r
taken-groups groups k l m n p q r a b =
    taken-as (λ j d. IsGroupedBelow k groups j d ⊎ ((j ≡ (group_at groups k).dim) × Contains (group_at groups k).darts d)) (IsGroupedBelow (k + 1) groups) l n p r
    (λ j d. (
      λ o. (elim o [ inl x ↦ (x.0, let lt : x.0 < k = x.1 in omega arith, x.2, x.3) | inr x ↦ (k, omega arith, x.0, x.1) ]),
      λ c. at j d c.0 c.1 c.2 c.3 (cases_eq c.0 k),
    ))
    (taken-then (IsGroupedBelow k groups) (λ j d. (j ≡ (group_at groups k).dim) × Contains (group_at groups k).darts d) l m n p q r a b)
  where
    at : (j d g : ℕ) → g < k + 1 → j ≡ (group_at groups g).dim → Contains (group_at groups g).darts d → (g ≡ k) ⊎ (g ≢ k)
        → IsGroupedBelow k groups j d ⊎ ((j ≡ (group_at groups k).dim) × Contains (group_at groups k).darts d)
    at j d g lt e c (inl is) = inr (subst (λ (h : ℕ). (j ≡ (group_at groups h).dim) × Contains (group_at groups h).darts d) is (e, c))
    at j d g lt e c (inr other) = inl (g, omega arith, e, c)

-- an id given to darts
pub have-begun : (i id : ℕ) (xs : List ℕ) (l : Labeling) → HaveId i (Contains (take 0 xs)) id l l
have-begun i id xs l = record { each = λ j d. inr (λ e c. head-none xs d c, refl); made = refl; places = λ j. ((λ h. h), λ h. h) }

pub have-more : (i id k : ℕ) (xs : List ℕ) (l m n : Labeling) → k < length xs → HaveId i (Contains (take k xs)) id l m → IsRelabelled m n i (get_or xs k 0) (Some id)
    → n.made ≡ m.made → KeepsPlaces m n → HaveId i (Contains (take (k + 1) xs)) id l n
have-more i id k xs l m n h a b made places = record {
  each = λ j d. each j d (cases_eq j i) (cases_eq d (get_or xs k 0)) (a.each j d);
  made = made ∙ a.made;
  places = λ j. ((λ x. (a.places j).0 ((places j).0 x)), λ x. (places j).1 ((a.places j).1 x));
}
  where
    Each : ℕ → ℕ → Type 0
    Each j d = ((j ≡ i) × Contains (take (k + 1) xs) d × (id_of n j d ≡ Some id)) ⊎ ((j ≡ i → Contains (take (k + 1) xs) d → ⊥) × (id_of n j d ≡ id_of l j d))

    beside : (j d : ℕ) → (j ≢ i) ⊎ (d ≢ get_or xs k 0) → ((j ≡ i) × Contains (take k xs) d × (id_of m j d ≡ Some id)) ⊎ ((j ≡ i → Contains (take k xs) d → ⊥) × (id_of m j d ≡ id_of l j d)) → Each j d
    beside j d other (inl x) = inl (x.0, (head-more xs k d h).1 (inl x.1), b.others j d other ∙ x.2)
    beside j d other (inr x) = inr (
      λ e c. elim ((head-more xs k d h).0 c) [ inl before ↦ x.0 e before | inr is ↦ elim other [ inl ne ↦ ne e | inr ne ↦ ne is ] ],
      b.others j d other ∙ x.1,
    )

    each : (j d : ℕ) → (j ≡ i) ⊎ (j ≢ i) → (d ≡ get_or xs k 0) ⊎ (d ≢ get_or xs k 0)
        → ((j ≡ i) × Contains (take k xs) d × (id_of m j d ≡ Some id)) ⊎ ((j ≡ i → Contains (take k xs) d → ⊥) × (id_of m j d ≡ id_of l j d)) → Each j d
    each j d (inl e) (inl f) x = inl (e, (head-more xs k d h).1 (inr f), ap (λ (y : ℕ). id_of n y d) e ∙ ap (λ (y : ℕ). id_of n i y) f ∙ b.here)
    each j d (inl e) (inr g) x = beside j d (inr g) x
    each j d (inr g) f x = beside j d (inl g) x

-- an item of a walk is the one at its place
pub item-dart : (xs : List ℕ) (k x : ℕ) → k < length xs → x ≡ get_or xs k x → x ≡ get_or xs k 0
item-dart xs k x h e = e ∙ get_or_default xs k x 0 h

pub item-group : (groups : List Group) (k : ℕ) (g : Group) → k < length groups → g ≡ get_or groups k g → g ≡ group_at groups k
item-group groups k g h e = e ∙ get_or_default groups k g no_group h
