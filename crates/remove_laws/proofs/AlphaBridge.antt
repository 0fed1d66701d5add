-- A generalized map whose links at i are drawn across a cell obeys the laws. Step a takes turns with step i on the walk:
-- a is i + 1 for a removal and i - 1 for a contraction.
use Rattle.std.proofs.Common.{◌≡◌, ◌≢◌, ◌⊎◌, ◌≤◌, ℕ, inl, inr, sym, subst}
use Rattle.map_defs.specs.Kind.{alpha, IsDistant}
use Rattle.map_defs.specs.Links.{Links}
use Rattle.map_defs.specs.Walks.{Walk, stop, go}
use Rattle.link_laws.proofs.Basics.{same_or_not, by_cases, IsDistant-turned, IsDistant-apart}
use Rattle.link_laws.proofs.Walking.{by_not_not, walk_outside, leaves, found}
use Rattle.remove_laws.proofs.TotalSteps.{AreSteps}

-- S are the steps of the old links L; the set C is closed under all of them but those at i
pub record IsCrossed (i a made : ℕ) (C : ℕ → Type 0) (L S : Links) : Type 0 where
  pub steps : AreSteps L S
  pub nowhere : C 0 → ⊥
  pub bounded : (x : ℕ) → C x → x ≤ made
  pub other : a ≢ i
  pub closed : (j x : ℕ) → j ≢ i → C x → C (S j x)
  pub commutes : (j x : ℕ) → IsDistant alpha i j → C x → S a (S j x) ≡ S j (S a x)

-- The steps M of the new links N: as the old ones, but for the steps at i, which go where the walk goes.
pub record IsDrawn (i a : ℕ) (C : ℕ → Type 0) (S N M : Links) : Type 0 where
  pub nil : (t : ℕ) → N t 0 ≡ 0
  pub apart : (t x : ℕ) → x ≢ 0 → N t x ≢ x
  pub gone : (t x : ℕ) → C x → M t x ≡ x
  pub kept : (t x : ℕ) → (C x → ⊥) → t ≢ i → M t x ≡ S t x
  pub lands : (x y : ℕ) → (C x → ⊥) → Walk C (λ c. S i (S a c)) (S i x) y → M i x ≡ y

module _ (i a made : ℕ) (C : ℕ → Type 0) (L S : Links) (c : IsCrossed i a made C L S) where
  abbrev Across : ℕ → ℕ → Type 0
  Across = Walk C (λ c. S i (S a c))

  out : (j x : ℕ) → j ≢ i → (C x → ⊥) → C (S j x) → ⊥
  out j x n m h = m (subst C (c.steps.twice j x) (c.closed j (S j x) n h))

  -- each walk from a remaining dart ends
  same_next : (x y : ℕ) → S i (S a x) ≡ S i (S a y) → x ≡ y
  same_next x y e = cc (c.steps.twice a x, c.steps.twice a y, c.steps.twice i (S a x), c.steps.twice i (S a y), e)

  fresh : (x d : ℕ) → (C x → ⊥) → C d → S i (S a d) ≢ S i x
  fresh x d n h e = n (subst C at (c.closed a d c.other h))
    where
      at : S a d ≡ x
      at = cc (c.steps.twice i (S a d), c.steps.twice i x, e)

  pub ends : (x : ℕ) → (C x → ⊥) → ((y : ℕ) → Walk C (λ c. S i (S a c)) (S i x) y → ⊥) → ⊥
  ends x n = leaves C (λ c. S i (S a c)) made (S i x) c.bounded (λ y z p q r e. same_next y z e) (λ d h. fresh x d n h)

  pub ends_where : ((x : ℕ) → C x ⊎ (C x → ⊥)) → (x : ℕ) → (C x → ⊥) → (y : ℕ) × Walk C (λ c. S i (S a c)) (S i x) y
  ends_where decide x n = found C (λ c. S i (S a c)) made (S i x) c.bounded (λ y z p q r e. same_next y z e) (λ d h. fresh x d n h) decide

  -- the walk back, which meets the darts that step a has beside those of the walk
  turn : {x y : ℕ} → (z : ℕ) → Walk C (λ c. S i (S a c)) x y → (C x → Across (S a x) z) → ((C x → ⊥) → Across (S i x) z) → Across (S i y) z
  turn z (stop n) p q = q n
  turn {x = x} z (go g w) p q = turn z w (λ h. go (c.closed a _ c.other h) (subst (λ m. Across m z) on (p g))) (λ n. subst (λ m. Across m z) beside (p g))
    where
      beside : S a x ≡ S i (S i (S a x))
      beside = sym (c.steps.twice i (S a x))

      on : S a x ≡ S i (S a (S a (S i (S a x))))
      on = cc (c.steps.twice i (S a x), c.steps.twice a (S i (S a x)))

  back : (x y : ℕ) → (C x → ⊥) → Across (S i x) y → Across (S i y) x
  back x y n w = turn x w (λ h. go (c.closed a _ c.other h) (subst (λ m. Across m x) (cc (c.steps.twice i x, c.steps.twice a (S i x))) (stop n))) (λ m. subst (λ m. Across m x) (sym (c.steps.twice i x)) (stop n))

  -- the walk beside it, along a distant link
  beside : (j : ℕ) → IsDistant alpha i j → j ≢ i → {x y : ℕ} → Walk C (λ c. S i (S a c)) x y → Walk C (λ c. S i (S a c)) (S j x) (S j y)
  beside j h m (stop n) = stop (out j _ m n)
  beside j h m {x = x} {y = y} (go g w) = go (c.closed j x m g) (subst (λ z. Across z (S j y)) (cc (c.commutes j x h g, c.steps.commute i j (S a x) h)) (beside j h m w))

  module _ (N M : Links) (d : IsDrawn i a C S N M) where
    twice : (t x : ℕ) → M t (M t x) ≡ x
    twice t x = by_cases (C x) _ _ (λ h. cc (d.gone t x h)) (λ n. elim (same_or_not t i) [ inl e ↦ across n e | inr m ↦ beside_it n m ])
      where
        across : (C x → ⊥) → t ≡ i → M t (M t x) ≡ x
        across n e = by_not_not ((y : ℕ) × Across (S i x) y) _ _ (λ never. ends x n (λ y w. never (y, w))) (λ w. cc (e, d.lands x w.0 n w.1, d.lands w.0 x (walk_outside w.1) (back x w.0 n w.1)))

        beside_it : (C x → ⊥) → t ≢ i → M t (M t x) ≡ x
        beside_it n m = cc (d.kept t x n m, d.kept t (S t x) (out t x m n) m, c.steps.twice t x)

    commute_at : (j x : ℕ) → IsDistant alpha i j → j ≢ i → M i (M j x) ≡ M j (M i x)
    commute_at j x h m = by_cases (C x) _ _ (λ g. cc (d.gone i x g, d.gone j x g)) out_there
      where
        go_on : (C x → ⊥) → (y : ℕ) × Across (S i x) y → M i (M j x) ≡ M j (M i x)
        go_on n w =
            let v : Across (S i (S j x)) (S j w.0) = subst (λ z. Across z (S j w.0)) (sym (c.steps.commute i j x h)) (beside j h m w.1) in
            cc (d.lands x w.0 n w.1, d.kept j x n m, d.kept j w.0 (walk_outside w.1) m, d.lands (S j x) (S j w.0) (out j x m n) v)

        out_there : (C x → ⊥) → M i (M j x) ≡ M j (M i x)
        out_there n = by_not_not ((y : ℕ) × Across (S i x) y) _ _ (λ never. ends x n (λ y w. never (y, w))) (go_on n)

    commute_off : (t j x : ℕ) → IsDistant alpha t j → t ≢ i → j ≢ i → M t (M j x) ≡ M j (M t x)
    commute_off t j x h m l = by_cases (C x) _ _ (λ g. cc (d.gone t x g, d.gone j x g)) (λ n. cc (d.kept t x n m, d.kept j x n l, d.kept t (S j x) (out j x l n) m, d.kept j (S t x) (out t x m n) l, c.steps.commute t j x h))

    commute : (t j x : ℕ) → IsDistant alpha t j → M t (M j x) ≡ M j (M t x)
    commute t j x h = elim (same_or_not t i) [
      | inl e ↦ (let g : IsDistant alpha i j = subst (λ z. IsDistant alpha z j) e h in cc (commute_at j x g (λ f. IsDistant-apart alpha i j g (sym f)), e))
      | inr m ↦ elim (same_or_not j i) [
        | inl f ↦ (let g : IsDistant alpha i t = IsDistant-turned alpha t i (subst (λ z. IsDistant alpha t z) f h) in cc (commute_at t x g m, f))
        | inr l ↦ commute_off t j x h m l
      ]
    ]

    pub drawn_steps : AreSteps N M
    drawn_steps = record { nil = d.nil; apart = d.apart; twice = twice; commute = commute }
