-- The laws of a generalized map in total steps, where a free dart is a fixed one: two laws, and they are plain.
use Rattle.std.proofs.Common.{◌≡◌, ◌≢◌, ◌⊎◌, ℕ, zero, suc, inl, inr, refl, arith}
use Rattle.map_defs.specs.Kind.{alpha, IsDistant}
use Rattle.map_defs.specs.Links.{Links}
use Rattle.map_defs.specs.Laws.{Laws}
use Rattle.map_defs.specs.Walks.{dart_or, step}
use Rattle.link_laws.proofs.Basics.{same_or_not}

dart_or_zero : (e d : ℕ) → e ≡ 0 → dart_or e d ≡ d
dart_or_zero zero d h = refl
dart_or_zero (suc e) d h = absurd (omega arith)

dart_or_more : (e d : ℕ) → e ≢ 0 → dart_or e d ≡ e
dart_or_more zero d h = absurd (h refl)
dart_or_more (suc e) d h = refl

pub step_free : (L : Links) (i x : ℕ) → L i x ≡ 0 → step L i x ≡ x
step_free L i x h = dart_or_zero (L i x) x h

pub step_there : (L : Links) (i x : ℕ) → L i x ≢ 0 → step L i x ≡ L i x
step_there L i x h = dart_or_more (L i x) x h

-- s is the step of a dart x whose link is l: x is free and stays where it is, or it is led on
abbrev pub IsStep : ℕ → ℕ → ℕ → Type 0
IsStep l x s = ((l ≡ 0) × (s ≡ x)) ⊎ ((l ≢ 0) × (s ≡ l))

pub step_case : (L : Links) (i x : ℕ) → IsStep (L i x) x (step L i x)
step_case L i x = elim (same_or_not (L i x) 0) [ inl h ↦ inl (h, step_free L i x h) | inr h ↦ inr (h, step_there L i x h) ]

-- S are the steps of the links L, and they are involutions that commute where they are distant
pub record AreSteps (L S : Links) : Type 0 where
  pub nil : (i : ℕ) → L i 0 ≡ 0
  pub apart : (i x : ℕ) → x ≢ 0 → L i x ≢ x
  pub twice : (i x : ℕ) → S i (S i x) ≡ x
  pub commute : (i j x : ℕ) → IsDistant alpha i j → S i (S j x) ≡ S j (S i x)

-- Links i and j of x commute where their steps do.
module _ (L S : Links) (at : (i x : ℕ) → IsStep (L i x) x (S i x)) (i j : ℕ) (nil_i : L i 0 ≡ 0) (nil_j : L j 0 ≡ 0)
    (apart_i : (x : ℕ) → x ≢ 0 → L i x ≢ x) (apart_j : (x : ℕ) → x ≢ 0 → L j x ≢ x)
    (back_i : (x : ℕ) → L i x ≢ 0 → L i (L i x) ≡ x) (back_j : (x : ℕ) → L j x ≢ 0 → L j (L j x) ≡ x) where
  pub links_commute : (x : ℕ) → S i (S j x) ≡ S j (S i x) → L i (L j x) ≡ L j (L i x)
  links_commute x e = go (at i x) (at j x) (at i (L j x)) (at j (L i x))
    where
      linked : (t : ℕ) → L t 0 ≡ 0 → L t x ≢ 0 → x ≢ 0
      linked t n h z = h (cc (z, n))

      go : IsStep (L i x) x (S i x) → IsStep (L j x) x (S j x) → IsStep (L i (L j x)) (L j x) (S i (L j x)) → IsStep (L j (L i x)) (L i x) (S j (L i x)) → L i (L j x) ≡ L j (L i x)
      go (inl p) (inl q) r t = cc (p.0, q.0, nil_i, nil_j)
      go (inl p) (inr q) (inl r) t = cc (p.0, r.0, nil_j)
      go (inl p) (inr q) (inr r) t = absurd (apart_i (L j x) q.0 (cc (e, p.1, q.1, r.1)))
      go (inr p) (inl q) r (inl t) = cc (q.0, t.0, nil_i)
      go (inr p) (inl q) r (inr t) = absurd (apart_j (L i x) p.0 (cc (e, p.1, q.1, t.1)))
      go (inr p) (inr q) (inl r) (inl t) = cc (r.0, t.0)
      go (inr p) (inr q) (inl r) (inr t) = absurd (apart_i x (linked i nil_i p.0) (cc (e, p.1, q.1, r.1, t.1, back_j x q.0, back_j (L i x) t.0)))
      go (inr p) (inr q) (inr r) (inl t) = absurd (apart_j x (linked j nil_j q.0) (cc (e, p.1, q.1, r.1, t.1, back_i x p.0, back_i (L j x) r.0)))
      go (inr p) (inr q) (inr r) (inr t) = cc (p.1, q.1, r.1, t.1, e)

module _ (L S : Links) (at : (i x : ℕ) → IsStep (L i x) x (S i x)) where
  module _ (w : Laws alpha L) where
    twice : (i x : ℕ) → S i (S i x) ≡ x
    twice i x = go (at i x) (at i (L i x))
      where
        go : IsStep (L i x) x (S i x) → IsStep (L i (L i x)) (L i x) (S i (L i x)) → S i (S i x) ≡ x
        go (inl p) q = cc (p.1)
        go (inr p) (inl q) = absurd (p.0 (cc (w.back i x p.0, q.0, w.nil i)))
        go (inr p) (inr q) = cc (w.back i x p.0, p.1, q.1)

    commute : (i j x : ℕ) → IsDistant alpha i j → S i (S j x) ≡ S j (S i x)
    commute i j x h = go (at i x) (at j x) (at i (L j x)) (at j (L i x))
      where
        e : L i (L j x) ≡ L j (L i x)
        e = w.square i j x h

        go : IsStep (L i x) x (S i x) → IsStep (L j x) x (S j x) → IsStep (L i (L j x)) (L j x) (S i (L j x)) → IsStep (L j (L i x)) (L i x) (S j (L i x)) → S i (S j x) ≡ S j (S i x)
        go (inl p) (inl q) r t = cc (p.1, q.1)
        go (inl p) (inr q) (inl r) t = cc (p.1, q.1, r.1)
        go (inl p) (inr q) (inr r) t = absurd (r.0 (cc (e, p.0, w.nil j)))
        go (inr p) (inl q) r (inl t) = cc (p.1, q.1, t.1)
        go (inr p) (inl q) r (inr t) = absurd (t.0 (cc (e, q.0, w.nil i)))
        go (inr p) (inr q) (inl r) t = absurd (p.0 (cc (w.square i j (L j x) h, w.back j x q.0, r.0, w.nil j)))
        go (inr p) (inr q) (inr r) (inl t) = absurd (r.0 (cc (e, t.0)))
        go (inr p) (inr q) (inr r) (inr t) = cc (p.1, q.1, r.1, t.1, e)

    pub from_laws : AreSteps L S
    from_laws = record { nil = w.nil; apart = λ i x. w.apart i x refl; twice = twice; commute = commute }

  module _ (s : AreSteps L S) where
    nonzero : (i x : ℕ) → L i x ≢ 0 → x ≢ 0
    nonzero i x h e = h (cc (e, s.nil i))

    back : (i x : ℕ) → L i x ≢ 0 → L i (L i x) ≡ x
    back i x h = go (at i x) (at i (L i x))
      where
        go : IsStep (L i x) x (S i x) → IsStep (L i (L i x)) (L i x) (S i (L i x)) → L i (L i x) ≡ x
        go (inl p) q = absurd (h p.0)
        go (inr p) (inl q) = absurd (s.apart i x (nonzero i x h) (cc (s.twice i x, p.1, q.1)))
        go (inr p) (inr q) = cc (s.twice i x, p.1, q.1)

    square : (i j x : ℕ) → IsDistant alpha i j → L i (L j x) ≡ L j (L i x)
    square i j x h = links_commute L S at i j (s.nil i) (s.nil j) (s.apart i) (s.apart j) (back i) (back j) x (s.commute i j x h)

    pub to_laws : Laws alpha L
    to_laws = record { nil = s.nil; back = back; apart = λ i x h. s.apart i x; square = square }
