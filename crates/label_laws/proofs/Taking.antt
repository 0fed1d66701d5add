-- Ids that are taken away.
use Rattle.std.proofs.Common.{ℕ, ◌≡◌, ◌⊎◌, ◌↔◌, inl, inr, refl, sym, ◌∙◌, Some, None, arith}
use Rattle.store_defs.specs.Stores.{Store, value_of}
use Rattle.store_defs.specs.Labelings.{Labeling, id_of}
use Rattle.label_laws.specs.Changing.{AreTaken}

-- nothing taken
pub taken-none : (Place : ℕ → ℕ → Type 0) (l : Labeling) (p : Store) → ((i d : ℕ) → Place i d → ⊥) → AreTaken Place l l p p
taken-none Place l p none = record {
  each = λ i d. inr (none i d, refl);
  values = λ c. inl refl;
  made = refl;
  places = λ i. ((λ h. h), λ h. h);
  spare = omega arith;
}

-- the same places, told otherwise
pub taken-as : (Place Other : ℕ → ℕ → Type 0) (l m : Labeling) (p q : Store) → ((i d : ℕ) → Place i d ↔ Other i d) → AreTaken Place l m p q → AreTaken Other l m p q
taken-as Place Other l m p q same t = record {
  each = λ i d. elim (t.each i d) [ inl here ↦ inl ((same i d).0 here.0, here.1) | inr out ↦ inr (λ o. out.0 ((same i d).1 o), out.1) ];
  values = λ c. elim (t.values c) [ inl e ↦ inl e | inr gone ↦ inr (gone.0, gone.1, (same gone.0 gone.1).0 gone.2, gone.3) ];
  made = t.made;
  places = t.places;
  spare = t.spare;
}

-- some places, and then others
pub taken-then : (Place Other : ℕ → ℕ → Type 0) (l m n : Labeling) (p q r : Store) → AreTaken Place l m p q → AreTaken Other m n q r → AreTaken (λ i d. Place i d ⊎ Other i d) l n p r
taken-then Place Other l m n p q r a b = record {
  each = λ i d. each i d (a.each i d) (b.each i d);
  values = λ c. values c (a.values c) (b.values c);
  made = b.made ∙ a.made;
  places = λ i. ((λ h. (a.places i).0 ((b.places i).0 h)), λ h. (b.places i).1 ((a.places i).1 h));
  spare = omega (arith, a.spare, b.spare);
}
  where
    each : (i d : ℕ) → (Place i d × (id_of m i d ≡ None)) ⊎ ((Place i d → ⊥) × (id_of m i d ≡ id_of l i d))
        → (Other i d × (id_of n i d ≡ None)) ⊎ ((Other i d → ⊥) × (id_of n i d ≡ id_of m i d))
        → ((Place i d ⊎ Other i d) × (id_of n i d ≡ None)) ⊎ ((Place i d ⊎ Other i d → ⊥) × (id_of n i d ≡ id_of l i d))
    each i d x (inl h) = inl (inr h.0, h.1)
    each i d (inl g) (inr h) = inl (inl g.0, h.1 ∙ g.1)
    each i d (inr g) (inr h) = inr (λ o. elim o [ inl s ↦ g.0 s | inr s ↦ h.0 s ], h.1 ∙ g.1)

    was : (i d c : ℕ) → Other i d → id_of m i d ≡ Some c → (Place i d × (id_of m i d ≡ None)) ⊎ ((Place i d → ⊥) × (id_of m i d ≡ id_of l i d))
        → (i : ℕ) × (d : ℕ) × (Place i d ⊎ Other i d) × (id_of l i d ≡ Some c)
    was i d c o e (inl g) = absurd (let f = g.1 in cc)
    was i d c o e (inr g) = (i, d, inr o, sym g.1 ∙ e)

    values : (c : ℕ) → (value_of q c ≡ value_of p c) ⊎ ((i : ℕ) × (d : ℕ) × Place i d × (id_of l i d ≡ Some c))
        → (value_of r c ≡ value_of q c) ⊎ ((i : ℕ) × (d : ℕ) × Other i d × (id_of m i d ≡ Some c))
        → (value_of r c ≡ value_of p c) ⊎ ((i : ℕ) × (d : ℕ) × (Place i d ⊎ Other i d) × (id_of l i d ≡ Some c))
    values c x (inr g) = inr (was g.0 g.1 c g.2 g.3 (a.each g.0 g.1))
    values c (inl e) (inl f) = inl (f ∙ e)
    values c (inr g) (inl f) = inr (g.0, g.1, inl g.2, g.3)
