-- A change of one link, and of its inverse, keeps the laws of a map if it does so at these links.
use Rattle.std.proofs.Common.{ℕ, ◌≡◌, ◌≢◌, ◌⊎◌, sym, ap, inl, inr, ⊎_elim, ◌∙◌}
use Rattle.map_defs.specs.Kind.{Kind, inverse, IsDistant}
use Rattle.map_defs.specs.Links.{Links}
use Rattle.map_defs.specs.Laws.{Laws}
use Rattle.link_laws.proofs.Basics.{same_or_not, inverse_twice, IsDistant-turned, IsDistant-inverse_left, IsDistant-apart, IsDistant-apart_inverse}

-- t is the link i or its inverse
abbrev pub IsEither : Kind → ℕ → ℕ → Type 0
IsEither k i t = (t ≡ i) ⊎ (t ≡ inverse k i)

pub either_inverse : (k : Kind) (i t : ℕ) → IsEither k i t → IsEither k i (inverse k t)
either_inverse k i t (inl e) = inr (ap (inverse k) e)
either_inverse k i t (inr e) = inl (ap (inverse k) e ∙ inverse_twice k i)

pub either_or_not : (k : Kind) (i t : ℕ) → IsEither k i t ⊎ (IsEither k i t → ⊥)
either_or_not k i t = ⊎_elim (λ e. inl (inl e))
    (λ n. ⊎_elim (λ e. inl (inr e)) (λ m. inr (λ h. ⊎_elim n m h)) (same_or_not t (inverse k i)))
    (same_or_not t i)

-- what is distant from one of the two is distant from the other, and is neither
pub either_distant : (k : Kind) (i t j : ℕ) → IsEither k i t → IsDistant k i j → IsDistant k t j
either_distant k i t j (inl e) far = rw e far
either_distant k i t j (inr e) far = rw e (IsDistant-inverse_left k i j far)

pub either_distant_back : (k : Kind) (i t j : ℕ) → IsEither k i t → IsDistant k t j → IsDistant k i j
either_distant_back k i t j (inl e) far = rw e at far
either_distant_back k i t j (inr e) far = rw (inverse_twice k i) at (IsDistant-inverse_left k (inverse k i) j (rw e at far))

pub distant_neither : (k : Kind) (i j : ℕ) → IsDistant k i j → IsEither k i j → ⊥
distant_neither k i j far (inl e) = IsDistant-apart k i j far (sym e)
distant_neither k i j far (inr e) = IsDistant-apart_inverse k i j far (sym e)

pub record IsRelinked (k : Kind) (i : ℕ) (L N : Links) : Type 0 where
  pub same : (t x : ℕ) → (IsEither k i t → ⊥) → N t x ≡ L t x
  pub nil : (t : ℕ) → IsEither k i t → N t 0 ≡ 0
  pub back : (t x : ℕ) → IsEither k i t → N t x ≢ 0 → N (inverse k t) (N t x) ≡ x
  pub apart : (t x : ℕ) → IsEither k i t → inverse k t ≡ t → x ≢ 0 → N t x ≢ x
  pub square : (t j x : ℕ) → IsEither k i t → IsDistant k t j → N (inverse k t) (L j x) ≡ L (inverse k j) (N t x)

module _ (k : Kind) (i : ℕ) (L N : Links) (w : Laws k L) (r : IsRelinked k i L N) where
  other : (t : ℕ) → (IsEither k i t → ⊥) → IsEither k i (inverse k t) → ⊥
  other t n h = n (rw (inverse_twice k t) at (either_inverse k i (inverse k t) h))

  relinked_back : (t x : ℕ) → N t x ≢ 0 → N (inverse k t) (N t x) ≡ x
  relinked_back t x h = ⊎_elim (λ (e : IsEither k i t). r.back t x e h)
      (λ (n : IsEither k i t → ⊥).
      let a : N t x ≡ L t x = r.same t x n in
      let b : N (inverse k t) (L t x) ≡ L (inverse k t) (L t x) = r.same (inverse k t) (L t x) (other t n) in
      let c : L (inverse k t) (L t x) ≡ x = w.back t x (λ z. h (a ∙ z)) in cc)
      (either_or_not k i t)

  relinked_at : (t j x : ℕ) → IsEither k i t → IsDistant k t j → N (inverse k t) (N j x) ≡ N (inverse k j) (N t x)
  relinked_at t j x e far =
      let n : IsEither k i j → ⊥ = distant_neither k i j (either_distant_back k i t j e far) in
      let a : N j x ≡ L j x = r.same j x n in
      let b : N (inverse k j) (N t x) ≡ L (inverse k j) (N t x) = r.same (inverse k j) (N t x) (other j n) in
      let c : N (inverse k t) (L j x) ≡ L (inverse k j) (N t x) = r.square t j x e far in cc

  relinked_square : (t j x : ℕ) → IsDistant k t j → N (inverse k t) (N j x) ≡ N (inverse k j) (N t x)
  relinked_square t j x far = ⊎_elim (λ (e : IsEither k i t). relinked_at t j x e far)
      (λ (n : IsEither k i t → ⊥). ⊎_elim (λ (e : IsEither k i j). sym (relinked_at j t x e (IsDistant-turned k t j far)))
      (λ (m : IsEither k i j → ⊥).
      let a : N j x ≡ L j x = r.same j x m in
      let b : N t x ≡ L t x = r.same t x n in
      let c : N (inverse k t) (L j x) ≡ L (inverse k t) (L j x) = r.same (inverse k t) (L j x) (other t n) in
      let d : N (inverse k j) (L t x) ≡ L (inverse k j) (L t x) = r.same (inverse k j) (L t x) (other j m) in
      let s : L (inverse k t) (L j x) ≡ L (inverse k j) (L t x) = w.square t j x far in cc)
      (either_or_not k i j))
      (either_or_not k i t)

  pub relinked : Laws k N
  relinked = record {
    nil = λ t. ⊎_elim (λ e. r.nil t e) (λ n. r.same t 0 n ∙ w.nil t) (either_or_not k i t);
    back = relinked_back;
    apart = λ t x own hx h. ⊎_elim (λ e. r.apart t x e own hx h) (λ n. w.apart t x own hx (sym (r.same t x n) ∙ h)) (either_or_not k i t);
    square = relinked_square;
  }
