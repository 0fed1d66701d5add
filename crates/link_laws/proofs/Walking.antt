-- Walks out of a set: where they end is one dart, and in a bounded set a one-to-one walk ends.
use Rattle.std.proofs.Common.{◌≡◌, ◌≢◌, ◌⊎◌, ◌≤◌, ◌<◌, ℕ, zero, suc, inl, inr, refl, sym, subst, ap, arith}
use Rattle.map_defs.specs.Walks.{Walk, stop, go}
use Rattle.link_laws.proofs.Pigeonhole.{pigeonhole}
use Rattle.link_laws.proofs.Basics.{by_cases}

-- an equation of numbers may be proved from P, where P cannot fail
pub by_not_not : (P : Type 0) (a b : ℕ) → ((P → ⊥) → ⊥) → (P → a ≡ b) → a ≡ b
by_not_not P a b nn f = by_cases P a b f (λ n. absurd (nn n))

pub walk_one : {C : ℕ → Type 0} {st : ℕ → ℕ} {x y z : ℕ} → Walk C st x y → Walk C st x z → y ≡ z
walk_one (stop n) (stop m) = refl
walk_one (stop n) (go c w) = absurd (n c)
walk_one (go c w) (stop n) = absurd (n c)
walk_one (go c w) (go d v) = walk_one w v

pub walk_outside : {C : ℕ → Type 0} {st : ℕ → ℕ} {x y : ℕ} → Walk C st x y → C y → ⊥
walk_outside (stop n) c = n c
walk_outside (go d w) c = walk_outside w c

pub iterate : (ℕ → ℕ) → ℕ → ℕ → ℕ
iterate st c zero = c
iterate st c (suc k) = st (iterate st c k)

-- Where a step is one-to-one on P and does not come to the first dart, it leaves a bounded P.
module _ (P : ℕ → Type 0) (st : ℕ → ℕ) (made first : ℕ) (bounded : (x : ℕ) → P x → x ≤ made)
    (one : (x y : ℕ) → P x → P y → P (st x) → st x ≡ st y → x ≡ y) (fresh : (c : ℕ) → P c → st c ≢ first) where
  apart : ((k : ℕ) → k ≤ suc made → P (iterate st first k)) → (j k : ℕ) → j < k → k ≤ suc made → iterate st first j ≢ iterate st first k
  unfolding iterate
  apart stays zero zero h m e = absurd (omega arith)
  apart stays zero (suc k) h m e = fresh (iterate st first k) (stays k (omega arith)) (sym e)
  apart stays (suc j) zero h m e = absurd (omega arith)
  apart stays (suc j) (suc k) h m e = apart stays j k (omega arith) (omega arith) (one _ _ (stays j (omega arith)) (stays k (omega arith)) (stays (suc j) (omega arith)) e)

  pub cannot_stay : ((k : ℕ) → k ≤ suc made → P (iterate st first k)) → ⊥
  cannot_stay stays =
      let two = pigeonhole (suc made) (iterate st first) (λ k h. low k h) in
      apart stays two.0 two.1 two.2 two.3 two.4
    where
      low : (k : ℕ) → k ≤ suc made → iterate st first k < suc made
      low k h = let g = bounded _ (stays k h) in omega arith

-- no walk from x ends
NeverEnds : (ℕ → Type 0) → (ℕ → ℕ) → ℕ → Type 0
NeverEnds C st x = (y : ℕ) → Walk C st x y → ⊥

never_in : (C : ℕ → Type 0) (st : ℕ → ℕ) (x : ℕ) → NeverEnds C st x → (C x → ⊥) → ⊥
unfolding NeverEnds
never_in C st x never n = never x (stop n)

never_next : (C : ℕ → Type 0) (st : ℕ → ℕ) (x : ℕ) → NeverEnds C st x → NeverEnds C st (st x)
unfolding NeverEnds
never_next C st x never y w = never_in C st x never (λ c. never y (go c w))

never_on : (C : ℕ → Type 0) (st : ℕ → ℕ) (x : ℕ) → NeverEnds C st x → (k : ℕ) → NeverEnds C st (iterate st x k)
unfolding iterate
never_on C st x never zero = never
never_on C st x never (suc k) = never_next C st _ (never_on C st x never k)

not_not_low : (P : Type 0) (x made : ℕ) → (P → x ≤ made) → ((P → ⊥) → ⊥) → x ≤ made
not_not_low P x made low nn = go (low_or_not x made)
  where
    low_or_not : (a b : ℕ) → (a ≤ b) ⊎ ((a ≤ b) → ⊥)
    low_or_not a b = grind arith

    go : (x ≤ made) ⊎ ((x ≤ made) → ⊥) → x ≤ made
    go (inl h) = h
    go (inr n) = absurd (nn (λ p. n (low p)))

-- The same of C, where it is not decided which darts lie in it: the walk ends, or rather, it is not so that none ends.
module _ (C : ℕ → Type 0) (st : ℕ → ℕ) (made first : ℕ) (bounded : (x : ℕ) → C x → x ≤ made)
    (one : (x y : ℕ) → C x → C y → C (st x) → st x ≡ st y → x ≡ y) (fresh : (c : ℕ) → C c → st c ≢ first) where
  pub leaves : ((y : ℕ) → Walk C st first y → ⊥) → ⊥
  unfolding NeverEnds
  leaves never =
      cannot_stay (λ x. (C x → ⊥) → ⊥) st made first
      (λ x nn. not_not_low (C x) x made (bounded x) nn)
      (λ x y p q r e. by_not_not (C x) x y p (λ cx. by_not_not (C y) x y q (λ cy. by_not_not (C (st x)) x y r (λ cs. one x y cx cy cs e))))
      (λ c nn e. nn (λ p. fresh c p e))
      (λ k h. never_in C st _ (never_on C st first never k))

  iterate_next : (x k : ℕ) → iterate st (st x) k ≡ iterate st x (suc k)
  unfolding iterate
  iterate_next x zero = refl
  iterate_next x (suc k) = ap st (iterate_next x k)

  seek : ((x : ℕ) → C x ⊎ (C x → ⊥)) → (n x : ℕ) → ((y : ℕ) × Walk C st x y) ⊎ ((k : ℕ) → k ≤ n → C (iterate st x k))
  unfolding iterate
  seek decide zero x = elim (decide x) [ inl c ↦ inr (λ k h. subst (λ m. C (iterate st x m)) (sym (none k h)) c) | inr n ↦ inl (x, stop n) ]
    where
      none : (k : ℕ) → k ≤ 0 → k ≡ 0
      none k h = omega arith
  seek decide (suc n) x = elim (decide x) [ inl c ↦ more c (seek decide n (st x)) | inr m ↦ inl (x, stop m) ]
    where
      more : C x → ((y : ℕ) × Walk C st (st x) y) ⊎ ((k : ℕ) → k ≤ n → C (iterate st (st x) k)) → ((y : ℕ) × Walk C st x y) ⊎ ((k : ℕ) → k ≤ suc n → C (iterate st x k))
      more c (inl w) = inl (w.0, go c w.1)
      more c (inr all) = inr (λ k h. on k h)
        where
          on : (k : ℕ) → k ≤ suc n → C (iterate st x k)
          on zero h = c
          on (suc k) h = subst C (iterate_next x k) (all k (omega arith))

  -- and where it is decided, the walk ends
  pub found : ((x : ℕ) → C x ⊎ (C x → ⊥)) → (y : ℕ) × Walk C st first y
  found decide = go (seek decide (suc made) first)
    where
      go : ((y : ℕ) × Walk C st first y) ⊎ ((k : ℕ) → k ≤ suc made → C (iterate st first k)) → (y : ℕ) × Walk C st first y
      go (inl w) = w
      go (inr all) = absurd (cannot_stay C st made first bounded one fresh all)
