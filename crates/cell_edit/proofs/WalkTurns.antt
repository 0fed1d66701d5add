-- Walks across listed darts, step by step: one that ends comes out after no more steps than there are darts.
use Rattle.std.proofs.Common.{ℕ, zero, suc, ◌≡◌, ◌+◌, ◌<◌, ◌≤◌, ◌⊎◌, ◌↔◌, List, length, slice_index, Contains, refl, sym, ap, ◌∙◌, subst, inl, inr, arith}
use Rattle.std.proofs.lemmas.Bool.{cases_lt}
use Rattle.map_defs.specs.Kind.{Kind, alpha, beta}
use Rattle.map_defs.specs.Links.{Links}
use Rattle.map_defs.specs.Walks.{Walk, stop, go, IsTold}
use Rattle.link_laws.proofs.Pigeonhole.{meets_or_not, pigeonhole}
use Rattle.insert_laws.proofs.Paths.{held_at, held_is}
use Rattle.cell_edit.specs.Bridging.{across}

-- in a combinatorial map a step that comes to a free link leads nowhere
pub across-free : (k : Kind) (L : Links) (i a c : ℕ) → (k ≡ alpha → ⊥) → L i 0 ≡ 0 → L a c ≡ 0 → across k L i a c ≡ 0
across-free alpha L i a c other nothing free = absurd (other refl)
across-free beta L i a c other nothing free = ap (L i) free ∙ nothing

-- x after so many steps
abbrev pub stepped : (ℕ → ℕ) → ℕ → ℕ → ℕ
stepped st x zero = x
stepped st x (suc k) = st (stepped st x k)

-- after k steps from x, all of them within the darts, the walk stands at y
pub record IsOn (keys : List ℕ) (st : ℕ → ℕ) (x k y : ℕ) : Type 0 where
  pub at : y ≡ stepped st x k
  pub within : (j : ℕ) → j < k → Contains keys (stepped st x j)

-- a walk across the same darts
pub walk-same : (C D : ℕ → Type 0) (st : ℕ → ℕ) → ((x : ℕ) → C x ↔ D x) → {x y : ℕ} → Walk C st x y → Walk D st x y
walk-same C D st same (stop n) = stop (λ h. n ((same _).1 h))
walk-same C D st same (go h w) = go ((same _).0 h) (walk-same C D st same w)

-- of listed darts it is told which they are
pub listed-told : (keys : List ℕ) → IsTold (Contains keys)
listed-told keys x = elim (meets_or_not (slice_index keys) x (length keys)) [
  | inl h ↦ inl (subst (Contains keys) h.2 (held_at keys h.0 h.1))
  | inr none ↦ inr (λ has. none has.0 has.1 (held_is keys x has))
]

module _ (keys : List ℕ) (st : ℕ → ℕ) where
  pub on-begins : (x : ℕ) → IsOn keys st x 0 x
  on-begins x = record { at = refl; within = λ j low. absurd (omega arith) }

  pub on-goes : (x k y : ℕ) → IsOn keys st x k y → Contains keys y → IsOn keys st x (k + 1) (st y)
  on-goes x k y on has = record { at = ap st on.at ∙ next; within = λ j low. within j (cases_lt j k) low }
    where
      next : st (stepped st x k) ≡ stepped st x (k + 1)
      next = ap (stepped st x) (let e : suc k ≡ k + 1 = omega arith in e)

      within : (j : ℕ) → (j < k) ⊎ (k ≤ j) → j < k + 1 → Contains keys (stepped st x j)
      within j (inl less) low = on.within j less
      within j (inr more) low = let e : k ≡ j = omega arith in subst (Contains keys) (on.at ∙ ap (stepped st x) e) has

  walk-along : (x k y : ℕ) → ((j : ℕ) → j < k → Contains keys (stepped st x j)) → Walk (Contains keys) st (stepped st x k) y → Walk (Contains keys) st x y
  walk-along x zero y within w = w
  walk-along x (suc k) y within w = walk-along x k y (λ j low. within j (omega arith)) (go (within k (omega arith)) w)

  -- a walk that came out leads to where it stands
  pub on-ends : (x k y : ℕ) → IsOn keys st x k y → (Contains keys y → ⊥) → Walk (Contains keys) st x y
  on-ends x k y on out = walk-along x k y on.within (subst (λ z. Walk (Contains keys) st z y) on.at (stop out))

  -- a walk from a dart within goes on from the next, and one from the next makes one from the dart
  pub walk-rest : (x y : ℕ) → Contains keys x → Walk (Contains keys) st x y → Walk (Contains keys) st (st x) y
  walk-rest x y has (stop out) = absurd (out has)
  walk-rest x y has (go _ w) = w

  pub walk-next : (x z y : ℕ) → Contains keys x → z ≡ st x → Walk (Contains keys) st z y → Walk (Contains keys) st x y
  walk-next x z y has is w = go has (subst (λ u. Walk (Contains keys) st u y) is w)

  pub walk-free : (x : ℕ) → Contains keys x → (Contains keys 0 → ⊥) → st x ≡ 0 → Walk (Contains keys) st x 0
  walk-free x has darts free = walk-next x 0 0 has (sym free) (stop darts)

  step-first : (x k : ℕ) → stepped st (st x) k ≡ stepped st x (suc k)
  step-first x zero = refl
  step-first x (suc k) = ap st (step-first x k)

  -- a walk within the darts that comes back to its first dart does not end
  no-round : (x y q : ℕ) → 1 ≤ q → ((k : ℕ) → k ≤ q → Contains keys (stepped st x k)) → stepped st x q ≡ x → Walk (Contains keys) st x y → ⊥
  no-round x y q some within back (stop out) = out (within 0 (omega arith))
  no-round x y q some within back (go has w) = no-round (st x) y q some on (step-first x q ∙ ap st back) w
    where
      on : (k : ℕ) → k ≤ q → Contains keys (stepped st (st x) k)
      on k low = elim (cases_lt k q) [
        | inl less ↦ subst (Contains keys) (sym (step-first x k)) (within (suc k) (omega arith))
        | inr more ↦ (let e : k ≡ q = omega arith in subst (Contains keys) (sym (step-first x k ∙ ap (λ z. st (stepped st x z)) e ∙ ap st back)) (within 1 some))
      ]

  -- nor does one that comes to some dart twice
  no-return : (p q x y : ℕ) → p < q → ((k : ℕ) → k ≤ q → Contains keys (stepped st x k)) → stepped st x p ≡ stepped st x q → Walk (Contains keys) st x y → ⊥
  no-return zero q x y less within same w = no-round x y q (omega arith) within (sym same) w
  no-return (suc p) q x y less within same (stop out) = out (within 0 (omega arith))
  no-return (suc p) zero x y less within same (go has w) = absurd (omega arith)
  no-return (suc p) (suc q) x y less within same (go has w) =
      no-return p q (st x) y (omega arith) (λ k low. subst (Contains keys) (sym (step-first x k)) (within (suc k) (omega arith)))
      (step-first x p ∙ same ∙ sym (step-first x q)) w

  -- one that ends does not stay within the darts for more steps than there are darts
  pub on-few : (x k y z : ℕ) → length keys < k → IsOn keys st x k y → Walk (Contains keys) st x z → ⊥
  on-few x k y z many on w =
      let two = pigeonhole (length keys) (λ j. place j (cases_lt j k)) (λ j low. below j (cases_lt j k) (omega arith)) in
      no-return two.0 two.1 x z two.2 (λ j low. on.within j (let h = two.3 in omega arith))
      (same two.0 two.1 (cases_lt two.0 k) (cases_lt two.1 k) (let h = two.2 in let g = two.3 in omega arith) (let g = two.3 in omega arith) two.4) w
    where
      place : (j : ℕ) → (j < k) ⊎ (k ≤ j) → ℕ
      place j (inl less) = (on.within j less).0
      place j (inr more) = 0

      below : (j : ℕ) (c : (j < k) ⊎ (k ≤ j)) → j < k → place j c < length keys
      below j (inl less) low = (on.within j less).1
      below j (inr more) low = absurd (omega arith)

      same : (i j : ℕ) (c : (i < k) ⊎ (k ≤ i)) (d : (j < k) ⊎ (k ≤ j)) → i < k → j < k → place i c ≡ place j d → stepped st x i ≡ stepped st x j
      same i j (inl a) (inl b) low high e = sym (held_is keys (stepped st x i) (on.within i a)) ∙ ap (slice_index keys) e ∙ held_is keys (stepped st x j) (on.within j b)
      same i j (inl a) (inr b) low high e = absurd (omega arith)
      same i j (inr a) d low high e = absurd (omega arith)
