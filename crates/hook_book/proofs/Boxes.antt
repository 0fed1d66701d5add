-- Boxes of objects of two types.
use Rattle.std.proofs.Common.{◌≡◌, ◌⊎◌, inl, inr, refl}
use Rattle.std.specs.declared.dyn_box.DynBox.{DynBox}
use Rattle.std.specs.DynBox.{dyn_box_with}

-- the object is of the one type or of the other
pub one-or-other : {A B Z : Type 0} {F : A ⊎ (B ⊎ ⊥) → Type 0} (b : DynBox (A ⊎ (B ⊎ ⊥)) Z F)
    → ((i : A) × (x : F (inl i)) × (b ≡ dyn_box_with b (inl i) x)) ⊎ ((i : B) × (x : F (inr (inl i))) × (b ≡ dyn_box_with b (inr (inl i)) x))
one-or-other {A} {B} {Z} {F} b = at b.vtable b.value
  where
    at : (i : A ⊎ (B ⊎ ⊥)) (x : F i) → ((j : A) × (y : F (inl j)) × (dyn_box_with b i x ≡ dyn_box_with b (inl j) y)) ⊎ ((j : B) × (y : F (inr (inl j))) × (dyn_box_with b i x ≡ dyn_box_with b (inr (inl j)) y))
    at (inl i) x = inl (i, x, refl)
    at (inr (inl i)) x = inr (i, x, refl)
    at (inr (inr i)) x = elim i [ ]
