-- A walk out of a bounded set, step by step: where a step is one-to-one and does not come to the first dart, the walk is out
-- after no more steps than there are numbers up to the bound.
use Rattle.std.proofs.Common.{ℕ, zero, suc, ◌≡◌, ◌≢◌, ◌+◌, ◌<◌, ◌≤◌, ◌⊎◌, refl, sym, ap, ◌∙◌, subst, inl, inr, arith}
use Rattle.std.proofs.lemmas.Bool.{cases_lt}
use Rattle.map_defs.specs.Walks.{Walk, stop, go}
use Rattle.link_laws.proofs.Pigeonhole.{pigeonhole}
use Rattle.cell_edit.proofs.WalkTurns.{stepped}

-- after k steps from x, all of them within C, the walk stands at y
pub record IsAlong (C : ℕ → Type 0) (st : ℕ → ℕ) (x k y : ℕ) : Type 0 where
  pub at : y ≡ stepped st x k
  pub within : (j : ℕ) → j < k → C (stepped st x j)

module _ (C : ℕ → Type 0) (st : ℕ → ℕ) where
  walk-from : (x k y : ℕ) → ((j : ℕ) → j < k → C (stepped st x j)) → Walk C st (stepped st x k) y → Walk C st x y
  walk-from x zero y within w = w
  walk-from x (suc k) y within w = walk-from x k y (λ j low. within j (omega arith)) (go (within k (omega arith)) w)

  -- before the first step it stands at x
  pub along-none : (x : ℕ) → IsAlong C st x 0 x
  along-none x = record { at = refl; within = λ j low. absurd (omega arith) }

  -- one step more, from within C
  pub along-more : (x k y z : ℕ) → IsAlong C st x k y → C y → z ≡ st y → IsAlong C st x (k + 1) z
  along-more x k y z on some is = record { at = is ∙ ap st on.at ∙ next; within = λ j low. within j (cases_lt j k) low }
    where
      next : st (stepped st x k) ≡ stepped st x (k + 1)
      next = ap (stepped st x) (let e : suc k ≡ k + 1 = omega arith in e)

      within : (j : ℕ) → (j < k) ⊎ (k ≤ j) → j < k + 1 → C (stepped st x j)
      within j (inl less) low = on.within j less
      within j (inr more) low = let e : k ≡ j = omega arith in subst C (on.at ∙ ap (stepped st x) e) some

  -- a walk that is out leads to where it stands
  pub along-ends : (x k y : ℕ) → IsAlong C st x k y → (C y → ⊥) → Walk C st x y
  along-ends x k y on out = walk-from x k y on.within (subst (λ z. Walk C st z y) on.at (stop out))

  module _ (made first : ℕ) (bounded : (x : ℕ) → C x → x ≤ made) (one : (x y : ℕ) → C x → C y → C (st x) → st x ≡ st y → x ≡ y) (fresh : (c : ℕ) → C c → st c ≢ first) where
    apart : (m : ℕ) → ((j : ℕ) → j < m → C (stepped st first j)) → (j k : ℕ) → j < k → k < m → stepped st first j ≢ stepped st first k
    apart m within zero zero less low e = absurd (omega arith)
    apart m within zero (suc k) less low e = fresh (stepped st first k) (within k (omega arith)) (sym e)
    apart m within (suc j) zero less low e = absurd (omega arith)
    apart m within (suc j) (suc k) less low e =
        apart m within j k (omega arith) (omega arith) (one _ _ (within j (omega arith)) (within k (omega arith)) (within (suc j) (omega arith)) e)

    pub along-few : (m y : ℕ) → made + 2 ≤ m → IsAlong C st first m y → ⊥
    along-few m y many on =
        let two = pigeonhole (suc made) (stepped st first) (λ p low. below p low) in
        apart m on.within two.0 two.1 two.2 (let h = two.3 in omega arith) two.4
      where
        below : (p : ℕ) → p ≤ suc made → stepped st first p < suc made
        below p low = let h = bounded (stepped st first p) (on.within p (omega arith)) in omega arith
