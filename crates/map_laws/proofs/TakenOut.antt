-- What an insertion leaves to the removal that follows it at the first new dart.
use Rattle.std.proofs.Common.{ℕ, ◌≡◌, ◌+◌, ◌<◌, ◌≤◌, ◌⊎◌, sym, subst, inl, inr, arith, List, length, Contains}
use Rattle.std.proofs.lemmas.Bool.{cases_lt}
use Rattle.map_defs.specs.Kind.{Kind}
use Rattle.map_defs.specs.Links.{Links}
use Rattle.map_defs.specs.Cells.{InCell}
use Rattle.map_defs.specs.Births.{IsNumbered}
use Rattle.map_defs.specs.Removal.{IsRemovable, IsRemoved}
use Rattle.insert_laws.proofs.Fresh.{IsNew}
use Rattle.insert_laws.proofs.Numbers.{numbered_above, numbered_all}

-- The cell of the first new dart can be removed, which gives all links back; and it holds the new darts and no other.
pub record IsTakenOut (k : Kind) (i first made births : ℕ) (L N : Links) : Type 0 where
  pub some : 1 ≤ births
  pub possible : IsRemovable k N i first
  pub back : (M : Links) → IsRemoved k i first N M → (t x : ℕ) → M t x ≡ L t x
  pub old : (x : ℕ) → x ≤ made → InCell k N i first x → ⊥
  pub new : (x : ℕ) → made < x → x ≤ made + births → InCell k N i first x

-- some dart of K has the first new number
module _ (K : ℕ → Type 0) (keys : List ℕ) (made : ℕ) (star : ℕ → ℕ) (m : IsNumbered K keys made star) (b : ℕ) (hb : K b) where
  some-key : 1 ≤ length keys
  some-key = let h : Contains keys b = (m.members b).1 hb in let low = h.1 in omega arith

  first-new : (x : ℕ) × K x × (made + 1 ≡ star x)
  first-new = numbered_all K keys made star m (made + 1) (omega arith) (let low = some-key in omega arith)

  not-new : (x : ℕ) → x ≤ made → IsNew K star x → ⊥
  not-new x low (y, h, e) = let above = numbered_above K keys made star m y h in omega arith

  -- a cell of one series of new darts
  module _ (k : Kind) (i : ℕ) (L N : Links)
      (possible : (x : ℕ) → K x → IsRemovable k N i (star x))
      (back : (x : ℕ) → K x → (M : Links) → IsRemoved k i (star x) N M → (t y : ℕ) → M t y ≡ L t y)
      (outside : (x y : ℕ) → K x → (IsNew K star y → ⊥) → InCell k N i (star x) y → ⊥)
      (inside : (x y : ℕ) → K x → K y → InCell k N i (star x) (star y)) where
    taken-at : (x : ℕ) → K x → IsTakenOut k i (star x) made (length keys) L N
    taken-at x h = record {
      some = some-key;
      possible = possible x h;
      back = back x h;
      old = λ y low. outside x y h (not-new y low);
      new = λ y low high.
          let at = numbered_all K keys made star m y low high in
          subst (InCell k N i (star x)) (sym at.2) (inside x at.0 h at.1);
    }

    pub taken-out : IsTakenOut k i (made + 1) made (length keys) L N
    taken-out = subst (λ (f : ℕ). IsTakenOut k i f made (length keys) L N) (sym first-new.2) (taken-at first-new.0 first-new.1)

  -- a cell of two series of new darts
  module _ (tip : ℕ → ℕ) (second : IsNumbered K keys (made + length keys) tip) (k : Kind) (i : ℕ) (L N : Links)
      (possible : (x : ℕ) → K x → IsRemovable k N i (star x))
      (back : (x : ℕ) → K x → (M : Links) → IsRemoved k i (star x) N M → (t y : ℕ) → M t y ≡ L t y)
      (outside : (x y : ℕ) → K x → (IsNew K star y ⊎ IsNew K tip y → ⊥) → InCell k N i (star x) y → ⊥)
      (begins : (x y : ℕ) → K x → K y → InCell k N i (star x) (star y))
      (ends : (x y : ℕ) → K x → K y → InCell k N i (star x) (tip y)) where
    neither-new : (x : ℕ) → x ≤ made → IsNew K star x ⊎ IsNew K tip x → ⊥
    neither-new x low (inl new) = not-new x low new
    neither-new x low (inr (y, h, e)) = let above = numbered_above K keys (made + length keys) tip second y h in omega arith

    all-in : (x y : ℕ) → K x → made < y → y ≤ made + (length keys + length keys) → InCell k N i (star x) y
    all-in x y h low high = elim (cases_lt (made + length keys) y) [
      | inl above ↦
          let at = numbered_all K keys (made + length keys) tip second y above (omega (arith, high)) in
          subst (InCell k N i (star x)) (sym at.2) (ends x at.0 h at.1)
      | inr within ↦
          let at = numbered_all K keys made star m y low within in
          subst (InCell k N i (star x)) (sym at.2) (begins x at.0 h at.1)
    ]

    both-at : (x : ℕ) → K x → IsTakenOut k i (star x) made (length keys + length keys) L N
    both-at x h = record {
      some = (let low = some-key in omega arith);
      possible = possible x h;
      back = back x h;
      old = λ y low. outside x y h (neither-new y low);
      new = λ y low high. all-in x y h low high;
    }

    pub both-taken-out : IsTakenOut k i (made + 1) made (length keys + length keys) L N
    both-taken-out = subst (λ (f : ℕ). IsTakenOut k i f made (length keys + length keys) L N) (sym first-new.2) (both-at first-new.0 first-new.1)
