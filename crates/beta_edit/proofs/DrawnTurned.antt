-- Links 0 and 1 that are both drawn across a set, forward and backward, lead back and forth.
use Rattle.std.proofs.Common.{ℕ, zero, suc, ◌≡◌, ◌≢◌, ◌≤◌, ◌⊎◌, inl, inr, sym, ◌∙◌, subst, arith}
use Rattle.map_defs.specs.Kind.{beta, inverse}
use Rattle.map_defs.specs.Links.{Links, IsTurned}
use Rattle.map_defs.specs.Laws.{Laws}
use Rattle.map_defs.specs.Walks.{Walk, stop, go, IsTold}
use Rattle.link_laws.proofs.LawFacts.{dart_of_link}
use Rattle.link_laws.proofs.Walking.{walk_one, walk_outside}

-- The walk follows a step Q within the set, which is its own inverse, and then link t.
module _ (L : Links) (w : Laws beta L) (C : ℕ → Type 0) (told : IsTold C) (nowhere : C 0 → ⊥)
    (Q : ℕ → ℕ) (inside : (c : ℕ) → C c → Q c ≢ 0 → C (Q c)) (twice : (c : ℕ) → C c → Q c ≢ 0 → Q (Q c) ≡ c) where
  abbrev Along : ℕ → ℕ → ℕ → Type 0
  Along t = Walk C (λ x. L t (Q x))

  begins : (t : ℕ) {x y : ℕ} → Along t x y → y ≢ 0 → x ≢ 0
  begins t {x = x} {y = y} v m e = m (sym (walk_one (stop nowhere) (subst (λ z. Along t z y) e v)))

  reverse-on : (t : ℕ) {x y : ℕ} → (z : ℕ) → Along t x y → y ≢ 0 → (C x → Q x ≢ 0 → Along (inverse beta t) (Q x) z) → ((C x → ⊥) → Along (inverse beta t) (L (inverse beta t) x) z) → Along (inverse beta t) (L (inverse beta t) y) z
  reverse-on t z (stop n) m f g = g n
  reverse-on t {x = x} z (go h v) m f g = reverse-on t z v m onward out_there
    where
      there : L t (Q x) ≢ 0
      there = begins t v m

      beside : Along (inverse beta t) (Q x) z
      beside = f h (dart_of_link beta L w t (Q x) there)

      out_there : (C (L t (Q x)) → ⊥) → Along (inverse beta t) (L (inverse beta t) (L t (Q x))) z
      out_there n = subst (λ u. Along (inverse beta t) u z) (sym (w.back t (Q x) there)) beside

      onward : C (L t (Q x)) → Q (L t (Q x)) ≢ 0 → Along (inverse beta t) (Q (L t (Q x))) z
      onward k q = go (inside (L t (Q x)) k q) (subst (λ u. Along (inverse beta t) u z) (cc (w.back t (Q x) there, twice (L t (Q x)) k q)) beside)

  -- the walk back
  reverse : (t x y : ℕ) → (C x → ⊥) → Along t (L t x) y → y ≢ 0 → Along (inverse beta t) (L (inverse beta t) y) x
  reverse t x y n v m = reverse-on t x v m onward out_there
    where
      back : L (inverse beta t) (L t x) ≡ x
      back = w.back t x (begins t v m)

      out_there : (C (L t x) → ⊥) → Along (inverse beta t) (L (inverse beta t) (L t x)) x
      out_there k = subst (λ u. Along (inverse beta t) u x) (sym back) (stop n)

      onward : C (L t x) → Q (L t x) ≢ 0 → Along (inverse beta t) (Q (L t x)) x
      onward k q = go (inside (L t x) k q) (subst (λ u. Along (inverse beta t) u x) (cc (back, twice (L t x) k q)) (stop n))

  inverse-first : (t : ℕ) → t ≤ 1 → inverse beta t ≤ 1
  inverse-first zero h = omega arith
  inverse-first (suc zero) h = omega arith
  inverse-first (suc (suc t)) h = absurd (omega arith)

  module _ (N : Links) (gone : (x t : ℕ) → C x → N t x ≡ 0) (nothing : (t : ℕ) → N t 0 ≡ 0)
      (ends : (t x : ℕ) → t ≤ 1 → (C x → ⊥) → (y : ℕ) × Along t (L t x) y)
      (lands : (t x y : ℕ) → t ≤ 1 → (C x → ⊥) → Along t (L t x) y → N t x ≡ y) where
    leads : (t x y : ℕ) → t ≤ 1 → y ≢ 0 → C x ⊎ (C x → ⊥) → N t x ≡ y → N (inverse beta t) y ≡ x
    leads t x y low ny (inl h) e = absurd (ny (sym e ∙ gone x t h))
    leads t x y low ny (inr out) e =
        let found = ends t x low out in
        let walk : Along t (L t x) y = subst (Along t (L t x)) (sym (lands t x found.0 low out found.1) ∙ e) found.1 in
        lands (inverse beta t) y x (inverse-first t low) (walk_outside walk) (reverse t x y out walk ny)

    pub drawn-turned : IsTurned N
    drawn-turned = record {
      nothing = nothing 0;
      back = λ x y nx ny. (leads 1 x y (omega arith) ny (told x), leads 0 y x (omega arith) nx (told y));
    }
