-- What the answers of the call say of a map, by their cases.
use Rattle.std.proofs.Common.{ℕ, ◌≡◌, ◌≤◌, ◌<◌, ◌⊎◌, ◌↔◌, inl, inr, ap, subst, ◌∙◌, List, Result, Err, IfOk, IfErr, IfSome, arith}
use Rattle.std.proofs.lemmas.Result.{IfOk-weaker, IfErr-weaker}
use Rattle.map_defs.specs.Links.{Links}
use Rattle.half_defs.specs.Orientation.{HasBoundary, IsFolded, IsFirstFold, HasFault, Folded as folded, Sign, AreSigns, IsOriented}
use Rattle.orient_half.specs.declared.fault.OrientFault.{OrientFault}
use Rattle.orient_half.specs.declared.fault.OrientFault.TheVariants.{Boundary, Folded, Odd, NoMemory}
use Rattle.orient_half.specs.Told.{told, IsOfSearch}

-- there is one first fold
pub first_fold-one : (n : ℕ) (Live : ℕ → Type 0) (L : Links) (d i e j : ℕ) → IsFirstFold n Live L d i → IsFirstFold n Live L e j → (d ≡ e) × (i ≡ j)
first_fold-one n Live L d i e j one other = go (one.least e j other.folded) (other.least d i one.folded)
  where
    go : (d < e) ⊎ ((d ≡ e) × (i ≤ j)) → (e < d) ⊎ ((e ≡ d) × (j ≤ i)) → (d ≡ e) × (i ≡ j)
    go (inl low) (inl high) = absurd (omega arith)
    go (inl low) (inr same) = absurd (omega (arith, same.0))
    go (inr same) (inl high) = absurd (omega (arith, same.0))
    go (inr same) (inr back) = (same.0, omega (arith, same.1, back.1))

abbrev pub failed : {X : Type 0} → OrientFault → Result X OrientFault
failed fault = Err fault

-- a fold was found
pub fold-told : {X : Type 0} (n : ℕ) (Live : ℕ → Type 0) (L : Links) (d i e j : ℕ) → (HasBoundary n Live L → ⊥) → IsFirstFold n Live L d i → (failed {X = X} (Folded d i) ≡ failed (Folded e j)) ↔ HasFault n Live L (folded e j)
fold-told n Live L d i e j closed first = (
  λ is.
      let one : d ≡ e = cc in
      let other : i ≡ j = cc in
      (closed, subst (λ (x : ℕ). IsFirstFold n Live L x j) one (subst (IsFirstFold n Live L d) other first)),
  λ fault.
      let same : (d ≡ e) × (i ≡ j) = first_fold-one n Live L d i e j first fault.1 in
      ap (λ (x : ℕ). failed (Folded x i)) same.0 ∙ ap (λ (x : ℕ). failed (Folded e x)) same.1,
)

module _ (n : ℕ) (Live : ℕ → Type 0) (L : Links) (closed : HasBoundary n Live L → ⊥) (unfolded : (d i : ℕ) → IsFolded n Live L d i → ⊥) where
  search-told : (fault : OrientFault) → IsOfSearch n Live L fault → IfSome (told fault) (HasFault n Live L)
  search-told Boundary none = absurd none
  search-told (Folded d i) none = absurd none
  search-told (Odd walk) first = (closed, unfolded, first)
  search-told NoMemory _ = tt

  -- signs of a map without boundary and folds
  pub signs-told : {X : Type 0} (r : Result X OrientFault) (items : X → List Sign) → IfOk r (λ signs. AreSigns n Live L (items signs)) → IfOk r (λ signs. IsOriented n Live L (items signs))
  signs-told r items signed =
      IfOk-weaker r (λ signs. AreSigns n Live L (items signs)) (λ signs. IsOriented n Live L (items signs)) (λ signs are. record { closed = closed; unfolded = unfolded; signed = are }) signed

  module _ {X : Type 0} (r : Result X OrientFault) (searched : IfErr r (IsOfSearch n Live L)) where
    pub searched-told : IfErr r (λ fault. IfSome (told fault) (HasFault n Live L))
    searched-told = IfErr-weaker r (IsOfSearch n Live L) (λ fault. IfSome (told fault) (HasFault n Live L)) search-told searched

    pub searched-boundary : (r ≡ Err Boundary) ↔ HasBoundary n Live L
    searched-boundary = (λ is. absurd (subst (λ (s : Result X OrientFault). IfErr s (IsOfSearch n Live L)) is searched), λ has. absurd (closed has))

    pub searched-folded : (d i : ℕ) → (r ≡ Err (Folded d i)) ↔ HasFault n Live L (folded d i)
    searched-folded d i = (λ is. absurd (subst (λ (s : Result X OrientFault). IfErr s (IsOfSearch n Live L)) is searched), λ has. absurd (unfolded d i has.1.folded))
