-- A combinatorial map without a vertex obeys the laws. Each remaining dart takes the links of the last dart of its run
-- into the vertex; beyond a link from 2 upwards the run goes the other way round.
use Rattle.std.proofs.Common.{◌≡◌, ◌≢◌, ◌⊎◌, ◌≤◌, ℕ, zero, suc, inl, inr, sym, ap, subst, arith}
use Rattle.map_defs.specs.Kind.{beta}
use Rattle.map_defs.specs.Links.{Links}
use Rattle.map_defs.specs.Laws.{Laws}
use Rattle.map_defs.specs.Walks.{Walk, stop, go}
use Rattle.map_defs.specs.Removal.{IsFlatAt, IsMatchedAt, IsOpenAt}
use Rattle.link_laws.proofs.Basics.{same_or_not, inverse_own, distant_zero, distant_one}
use Rattle.link_laws.proofs.LawFacts.{dart_of_link, link_one}
use Rattle.link_laws.proofs.Walking.{walk_one, walk_outside, leaves, found}

-- the set C is a vertex at which two edges meet on each face
pub record CanBeSmoothed (made : ℕ) (C : ℕ → Type 0) (L : Links) : Type 0 where
  pub laws : Laws beta L
  pub nowhere : C 0 → ⊥
  pub bounded : (x : ℕ) → C x → x ≤ made
  pub linked : (x : ℕ) → L 1 x ≢ 0 → x ≤ made
  -- C is closed under "j, then 1", and back
  pub around : (j c : ℕ) → 2 ≤ j → C c → L 1 (L j c) ≢ 0 → C (L 1 (L j c))
  pub around_back : (j c : ℕ) → 2 ≤ j → C c → L j (L 0 c) ≢ 0 → C (L j (L 0 c))
  pub flat : (c : ℕ) → C c → IsFlatAt L c

module _ (made : ℕ) (C : ℕ → Type 0) (L : Links) (c : CanBeSmoothed made C L) where
  abbrev Runs : ℕ → ℕ → Type 0
  Runs = Walk (λ c. C (L 1 c)) (L 1)

  pub own : (j x : ℕ) → 2 ≤ j → L j x ≢ 0 → L j (L j x) ≡ x
  own j x h n = subst (λ s. L s (L j x) ≡ x) (inverse_own beta j h) (c.laws.back j x n)

  -- beyond link j from 2 upwards the side after c is the side before it, and both are there or neither
  pub turned : (j x : ℕ) → 2 ≤ j → C x → L 1 (L j x) ≡ L j (L 0 x)
  turned zero x h k = absurd (omega arith)
  turned (suc zero) x h k = absurd (omega arith)
  turned (suc (suc zero)) x h k = at (c.flat x k).1
    where
      at : IsMatchedAt L x ⊎ IsOpenAt L x → L 1 (L 2 x) ≡ L 2 (L 0 x)
      at (inl m) = m.1
      at (inr o) = cc (o.0, o.1, c.laws.nil 1)
  turned (suc (suc (suc j))) x h k = c.laws.square 0 (suc (suc (suc j))) x (distant_zero (suc (suc (suc j))) (omega arith))

  pub free_after : (j x : ℕ) → 2 ≤ j → C x → L j (L 0 x) ≡ 0 → L j x ≡ 0
  free_after zero x h k e = absurd (omega arith)
  free_after (suc zero) x h k e = absurd (omega arith)
  free_after (suc (suc zero)) x h k e = at (c.flat x k).1
    where
      at : IsMatchedAt L x ⊎ IsOpenAt L x → L 2 x ≡ 0
      at (inl m) = absurd (m.0 (cc (m.1, e)))
      at (inr o) = o.0
  free_after (suc (suc (suc j))) x h k e =
      let s = c.laws.square 1 (suc (suc (suc j))) (L 0 x) (distant_one (suc (suc (suc j))) (omega arith)) in
      let b = c.laws.back 0 x (c.flat x k).0 in
      cc (s, b, e, c.laws.nil 0)

  -- the dart before c on its run
  before : (x : ℕ) → C (L 1 x) → L 0 (L 1 x) ≡ x
  before x h = c.laws.back 1 x (λ z. c.nowhere (subst C z h))

  -- along a run all darts are alike free at link j
  pub free_on : (j : ℕ) → 2 ≤ j → {x y : ℕ} → Walk (λ c. C (L 1 c)) (L 1) x y → L j x ≡ 0 → L j y ≡ 0
  free_on j h (stop n) e = e
  free_on j h {x = x} (go k w) e = free_on j h w (free_after j (L 1 x) h k (cc (before x k, e)))

  pub free_back : (j : ℕ) → 2 ≤ j → {x y : ℕ} → Walk (λ c. C (L 1 c)) (L 1) x y → L j y ≡ 0 → L j x ≡ 0
  free_back j h (stop n) e = e
  free_back j h {x = x} (go k w) e = cc (free_back j h w e, turned j (L 1 x) h k, before x k, c.laws.nil 1)

  -- the run beyond link j
  beyond_on : (j z : ℕ) → 2 ≤ j → {x y : ℕ} → Walk (λ c. C (L 1 c)) (L 1) x y → L j x ≢ 0 → Runs (L j x) z → Runs (L j y) z
  beyond_on j z h (stop n) m r = r
  beyond_on j z h {x = x} (go k w) m r = beyond_on j z h w (λ e. m (cc (step, e, c.laws.nil 1))) (go inside (subst (λ s. Runs s z) (sym step) r))
    where
      step : L 1 (L j (L 1 x)) ≡ L j x
      step = cc (turned j (L 1 x) h k, before x k)

      inside : C (L 1 (L j (L 1 x)))
      inside = c.around j (L 1 x) h k (λ e. m (cc (step, e)))

  begins : (j x : ℕ) → 2 ≤ j → (C x → ⊥) → L j x ≢ 0 → C (L 1 (L j x)) → ⊥
  begins j x h n m k = n (subst C is (c.around_back j (L 1 (L j x)) h k (λ e. dart_of_link beta L c.laws j x m (cc (is, e)))))
    where
      is : L j (L 0 (L 1 (L j x))) ≡ x
      is = cc (before (L j x) k, own j x h m)

  -- the run of a remaining dart x ends at y: beyond link j a run leads from y to x
  pub beyond : (j x y : ℕ) → 2 ≤ j → (C x → ⊥) → Runs x y → L j x ≢ 0 → Runs (L j y) (L j x)
  beyond j x y h n r m = beyond_on j (L j x) h r m (stop (begins j x h n m))

  pub beyond_out : (j x y : ℕ) → 2 ≤ j → Runs x y → L j y ≢ 0 → C (L j y) → ⊥
  beyond_out j x y h r m k = at (same_or_not (L 1 y) 0)
    where
      there : y ≢ 0
      there = dart_of_link beta L c.laws j y m

      at : (L 1 y ≡ 0) ⊎ (L 1 y ≢ 0) → ⊥
      at (inl e) = there (cc (own j y h m, free_after j (L j y) h k (cc (turned j (L j y) h k, own j y h m, e))))
      at (inr n) = walk_outside r (subst C is (c.around j (L j y) h k (λ e. n (cc (is, e)))))
        where
          is : L 1 (L j (L j y)) ≡ L 1 y
          is = ap (L 1) (own j y h m)

  there : (z : ℕ) → C (L 1 z) → L 1 z ≢ 0
  there z h e = c.nowhere (subst C e h)

  run_low : (z : ℕ) → C (L 1 z) → z ≤ made
  run_low z h = c.linked z (there z h)

  run_step : (y z : ℕ) → C (L 1 y) → C (L 1 z) → C (L 1 (L 1 y)) → L 1 y ≡ L 1 z → y ≡ z
  run_step y z p q r e = link_one beta L c.laws 1 y z (there y p) e

  -- each run of a remaining dart ends
  pub run_ends : (x : ℕ) → (C x → ⊥) → ((y : ℕ) → Walk (λ c. C (L 1 c)) (L 1) x y → ⊥) → ⊥
  run_ends x n = leaves (λ z. C (L 1 z)) (L 1) made x run_low run_step (λ y h e. n (subst C e h))

  pub run_found : ((x : ℕ) → C x ⊎ (C x → ⊥)) → (x : ℕ) → (C x → ⊥) → (y : ℕ) × Walk (λ c. C (L 1 c)) (L 1) x y
  run_found decide x n = found (λ z. C (L 1 z)) (L 1) made x run_low run_step (λ y h e. n (subst C e h)) (λ z. decide (L 1 z))

  -- two runs that end at one dart begin at one
  back_along : {x y : ℕ} → (z : ℕ) → Walk (λ c. C (L 1 c)) (L 1) x y → Walk C (L 0) x z → Walk C (L 0) y z
  back_along z (stop n) r = r
  back_along {x = x} z (go h w) r = back_along z w (go h (subst (λ s. Walk C (L 0) s z) (sym (before x h)) r))

  pub run_back_one : (x y z : ℕ) → (C x → ⊥) → (C y → ⊥) → Runs x z → Runs y z → x ≡ y
  run_back_one x y z n m v w = walk_one (back_along x v (stop n)) (back_along y w (stop m))
