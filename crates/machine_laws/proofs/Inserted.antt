-- The links after an insertion are told by the old links, where the new darts are numbered alike.
use Rattle.std.proofs.Common.{ℕ, zero, suc, ◌≡◌, ◌≢◌, ◌≤◌, refl, sym, ap, inl, inr, ◌∙◌, arith}
use Rattle.map_defs.specs.Kind.{Kind, inverse}
use Rattle.map_defs.specs.Links.{Links}
use Rattle.map_defs.specs.Insertion.{IsInserted, IsInsertable, IsCarrying, IsSplit, IsCut}
use Rattle.link_laws.proofs.Basics.{by_cases, stable, same_or_not, IsDistant-inverse_right}
use Rattle.link_laws.proofs.InverseLinks.{turned_one}
use Rattle.insert_laws.proofs.Fresh.{IsNew, InOrNone}
use Rattle.insert_laws.proofs.Places.{IsBeside, same, next, below, far, link_cases}
use Rattle.insert_laws.proofs.BetaVertex.{IsEdgeSet}
use Rattle.insert_laws.proofs.BetaEdge.{IsTurning, IsCorner, ComesBefore}

-- both give each dart of K the same new dart, and none to none
abbrev pub AreAlike : (ℕ → Type 0) → (ℕ → ℕ) → (ℕ → ℕ) → Type 0
AreAlike K star other = (x : ℕ) → InOrNone K x → star x ≡ other x

-- what Becomes tells of the new darts tells the links
abbrev pub TellsInserted : (ℕ → Type 0) → ((ℕ → ℕ) → Links → Type 0) → Type 0
TellsInserted K Becomes = (star other : ℕ → ℕ) → AreAlike K star other → (N M : Links) → Becomes star N → Becomes other M → (t x : ℕ) → N t x ≡ M t x

-- a dart that is no new one by the one numbering is none by the other
pub not-new : (K : ℕ → Type 0) (star other : ℕ → ℕ) → AreAlike K star other → (x : ℕ) → (IsNew K star x → ⊥) → (y : ℕ) → K y → x ≢ other y
not-new K star other alike x old y h e = old (y, h, e ∙ sym (alike y (inl h)))

-- an insertion in general
module _ (k : Kind) (i : ℕ) (K : ℕ → Type 0) (P : ℕ → ℕ → ℕ → Type 0) (L : Links) (can : IsInsertable k i K P L) where
  in-or-none : (x j : ℕ) → K x → IsCarrying k i j → InOrNone K (L j x)
  in-or-none x j h a = elim (same_or_not (L j x) 0) [ inl none ↦ inr none | inr some ↦ inl (can.carried x j h a some) ]

  pair-in-or-none : (x y t : ℕ) → P x y t → InOrNone K y
  pair-in-or-none x y t p = elim (same_or_not y 0) [ inl none ↦ inr none | inr some ↦ inl (can.ends x y t p some) ]

  module _ (star other : ℕ → ℕ) (alike : AreAlike K star other) (N M : Links) (b : IsInserted k i K P star L N) (c : IsInserted k i K P other L M) where
    -- a link of a new dart
    new-one : (t x : ℕ) → K x → IsBeside k i t → N t (star x) ≡ M t (star x)
    new-one t x h (same e) = rw e (b.old x h ∙ sym (ap (M i) (alike x (inl h)) ∙ c.old x h))
    new-one t x h (next e) = rw e (b.beyond x h ∙ alike (L i x) (in-or-none x i h (inl refl)) ∙ sym (ap (M (suc i)) (alike x (inl h)) ∙ c.beyond x h))
    new-one t x h (below l) = stable _ _ (λ differ. can.some x t h l (λ y p.
        differ (b.paired x y t p ∙ alike y (pair-in-or-none x y t p) ∙ sym (ap (M t) (alike x (inl h)) ∙ c.paired x y t p))))
    new-one t x h (far f) =
        b.along x t h f ∙ alike (L (inverse k t) x) (in-or-none x (inverse k t) h (inr (IsDistant-inverse_right k i t f)))
        ∙ sym (ap (M t) (alike x (inl h)) ∙ c.along x t h f)

    -- a link of another dart
    old-one : (t x : ℕ) → (IsNew K star x → ⊥) → N t x ≡ M t x
    old-one t x old = by_cases (K x × (t ≡ i)) _ _
        (λ h. rw h.1 (b.new x h.0 ∙ alike x (inl h.0) ∙ sym (c.new x h.0)))
        (λ out. b.kept x t (λ h e. out (h, e)) (λ y h e. old (y, h, e)) ∙ sym (c.kept x t (λ h e. out (h, e)) (not-new K star other alike x old)))

  pub inserted-one : TellsInserted K (λ star. IsInserted k i K P star L)
  inserted-one star other alike N M b c t x = by_cases (IsNew K star x) _ _
      (λ new. rw new.2 (new-one star other alike N M b c t new.0 new.1 (link_cases k i t can.own)))
      (λ old. old-one star other alike N M b c t x old)

-- a vertex on an edge of a combinatorial map
module _ (L : Links) (K : ℕ → Type 0) (set : IsEdgeSet L K) where
  on-or-none : (x j : ℕ) → K x → 2 ≤ j → InOrNone K (L j x)
  on-or-none x j h l = elim (same_or_not (L j x) 0) [ inl none ↦ inr none | inr some ↦ inl (set.on x j h l some) ]

  module _ (star other : ℕ → ℕ) (alike : AreAlike K star other) (N M : Links) (b : IsSplit K star L N) (c : IsSplit K other L M) where
    split-new : (t x : ℕ) → K x → 1 ≤ t → N t (star x) ≡ M t (star x)
    split-new t x h l = elim (same_or_not t 1) [
      | inl e ↦ rw e (b.second x h ∙ sym (ap (M 1) (alike x (inl h)) ∙ c.second x h))
      | inr n ↦ b.old x t h (omega (arith, l, n)) ∙ sym (ap (M t) (alike x (inl h)) ∙ c.old x t h (omega (arith, l, n)))
    ]

    split-in : (t x : ℕ) → K x → 1 ≤ t → N t x ≡ M t x
    split-in t x h l = elim (same_or_not t 1) [
      | inl e ↦ rw e (b.first x h ∙ alike x (inl h) ∙ sym (c.first x h))
      | inr n ↦
          let high : 2 ≤ t = omega (arith, l, n) in
          b.new x t h high ∙ alike (L t x) (on-or-none x t h high) ∙ sym (c.new x t h high)
    ]

    split-linked : (t x : ℕ) → 1 ≤ t → N t x ≡ M t x
    split-linked t x l = by_cases (IsNew K star x) _ _
        (λ new. rw new.2 (split-new t new.0 new.1 l))
        (λ old. by_cases (K x) _ _
        (λ h. split-in t x h l)
        (λ out. b.kept x t l out (λ y h e. old (y, h, e)) ∙ sym (c.kept x t l out (not-new K star other alike x old))))

  pub split-one : TellsInserted K (λ star. IsSplit K star L)
  split-one star other alike N M b c zero x = turned_one N M b.turned c.turned (λ y. split-linked star other alike N M b c 1 y (omega arith)) x
  split-one star other alike N M b c (suc t) x = split-linked star other alike N M b c (suc t) x (omega arith)

-- an edge in a face of a combinatorial map
module _ (L : Links) (Turn : ℕ → ℕ → Type 0) (turn : IsTurning L Turn) where
  copy-or-none : (x y j : ℕ) → Turn x y → 3 ≤ j → InOrNone (IsCorner Turn) (L j (L 0 y))
  copy-or-none x y j p l = elim (same_or_not (L j (L 0 y)) 0) [
    | inl none ↦ inr none
    | inr some ↦ inl (L j (L 0 x), turn.across y x j (turn.both x y p) l some)
  ]

  module _ (star other : ℕ → ℕ) (alike : AreAlike (IsCorner Turn) star other) (N M : Links) (b : IsCut Turn star L N) (c : IsCut Turn other L M) where
    cut-new : (t x y : ℕ) → Turn x y → 1 ≤ t → N t (star x) ≡ M t (star x)
    cut-new t x y p l = elim (same_or_not t 1) [
      | inl e ↦ rw e (b.onward x y p ∙ sym (ap (M 1) (alike x (inl (y, p))) ∙ c.onward x y p))
      | inr n ↦ elim (same_or_not t 2) [
        | inl e ↦ rw e (b.sides x y p ∙ alike y (inl (x, turn.both x y p)) ∙ sym (ap (M 2) (alike x (inl (y, p))) ∙ c.sides x y p))
        | inr m ↦
            let high : 3 ≤ t = omega (arith, l, n, m) in
            b.along x y t p high ∙ alike (L t (L 0 y)) (copy-or-none x y t p high) ∙ sym (ap (M t) (alike x (inl (y, p))) ∙ c.along x y t p high)
      ]
    ]

    cut-linked : (t x : ℕ) → 1 ≤ t → N t x ≡ M t x
    cut-linked t x l = by_cases (IsNew (IsCorner Turn) star x) _ _
        (λ new. rw new.2 (cut-new t new.0 new.1.0 new.1.1 l))
        (λ old. by_cases ((t ≡ 1) × ComesBefore L Turn x) _ _
        (λ h. rw (h.0, h.1.3) (b.into h.1.0 h.1.1 h.1.2 ∙ alike h.1.0 (inl (h.1.1, h.1.2)) ∙ sym (c.into h.1.0 h.1.1 h.1.2)))
        (λ out.
        b.kept x t l (λ d y p e q. out (e, (d, y, p, q))) (λ d y p e. old (d, (y, p), e))
        ∙ sym (c.kept x t l (λ d y p e q. out (e, (d, y, p, q))) (λ d y p. not-new (IsCorner Turn) star other alike x old d (y, p)))))

  pub cut-one : TellsInserted (IsCorner Turn) (λ star. IsCut Turn star L)
  cut-one star other alike N M b c zero x = turned_one N M b.turned c.turned (λ y. cut-linked star other alike N M b c 1 y (omega arith)) x
  cut-one star other alike N M b c (suc t) x = cut-linked star other alike N M b c (suc t) x (omega arith)
