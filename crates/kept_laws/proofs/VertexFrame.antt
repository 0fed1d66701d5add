-- The vertices of a combinatorial map are kept where it is told by the words alone that go along a higher link and then a lower one.
use Rattle.std.proofs.Common.{ℕ, ◌≡◌, ◌≢◌, ◌<◌, ◌≤◌, ◌⊎◌, refl, sym, ap, subst, inl, inr, ◌∙◌, List, Option, Some, None}
use Rattle.map_defs.specs.Kind.{Kind, beta}
use Rattle.map_defs.specs.Links.{Links, LeadsToLive}
use Rattle.map_defs.specs.Laws.{Laws}
use Rattle.map_defs.specs.Walks.{IsTold}
use Rattle.map_defs.specs.LinkWords.{LinkWord, two_links, through, through_second, inverse_word, IsCellWord}
use Rattle.map_defs.specs.Cells.{here, Leads, InCell}
use Rattle.map_defs.specs.Births.{IsNumbered, IsCounted}
use Rattle.link_laws.proofs.LawFacts.{dart_of_link}
use Rattle.link_laws.proofs.CellTurns.{inverse_word_twice}
use Rattle.link_laws.proofs.CellFacts.{word_back, cell_back}
use Rattle.insert_laws.proofs.Numbers.{numbered_one}
use Rattle.insert_laws.proofs.Fresh.{IsNew}
use Rattle.insert_laws.proofs.ClosedFree.{live_dart}
use Rattle.kept_laws.specs.Keeping.{KeepsCells, LieAside}
use Rattle.kept_laws.proofs.Asides.{lie-aside}
use Rattle.kept_laws.proofs.Numbered.{new-or-not, low-apart}
use Rattle.kept_laws.proofs.Frames.{StandsFor, Reaches, keeps-by-steps}
use Rattle.kept_laws.proofs.VertexSteps.{vertex-trans}

-- only from a dart a word leads on
word-dart : (k : Kind) (L : Links) → Laws k L → (s : LinkWord) (x y : ℕ) → through L s x ≡ y → y ≢ 0 → x ≢ 0
word-dart k L w s x y e n = dart_of_link k L w s.first x (go s.second e)
  where
    go : (r : Option ℕ) → through_second L r (L s.first x) ≡ y → L s.first x ≢ 0
    go None f z = n (sym f ∙ z)
    go (Some j) f z = n (sym f ∙ (ap (L j) z ∙ w.nil j))

-- a word back along a lower link and then a higher one, turned
turned : (L : Links) → Laws beta L → (s u : LinkWord) (i j x y : ℕ) → u ≡ two_links j i → s ≡ inverse_word beta u
    → through L s x ≡ y → y ≢ 0 → L i (L j y) ≡ x
turned L w s u i j x y e g q n =
    let back : through L (inverse_word beta s) y ≡ x = word_back beta L w s x y q n in
    let same : inverse_word beta s ≡ two_links j i = ap (inverse_word beta) g ∙ (inverse_word_twice beta u ∙ e) in
    ap (λ t. through L t y) (sym same) ∙ back

-- z is no new dart of K, and does not lie aside
abbrev pub IsOther : (ℕ → Type 0) → (ℕ → ℕ) → (ℕ → Type 0) → ℕ → Type 0
IsOther K star Aside z = (IsNew K star z → ⊥) × (Aside z → ⊥)

-- a dart from before is none of these
pub low-other : (K : ℕ → Type 0) (keys : List ℕ) (made : ℕ) (star : ℕ → ℕ) → IsNumbered K keys made star
    → (Aside : ℕ → Type 0) → ((x : ℕ) → x ≤ made → Aside x → ⊥) → (x : ℕ) → x ≤ made → IsOther K star Aside x
low-other K keys made star numbers Aside low-aside x l = ((λ (c, h, e). low-apart K keys made star numbers x c l h e), low-aside x l)

-- New darts that stand for no old one may lie aside, at vertices of their own.
module _ (Live : ℕ → Type 0) (made : ℕ) (counted : IsCounted made Live) (L N : Links) (to : LeadsToLive Live L)
    (w : Laws beta L) (v : Laws beta N) (K : ℕ → Type 0) (keys : List ℕ) (star : ℕ → ℕ)
    (numbers : IsNumbered K keys made star) (Aside : ℕ → Type 0) (Beside : ℕ → ℕ → Type 0)
    (aside-or-not : IsTold Aside) (low-aside : (x : ℕ) → x ≤ made → Aside x → ⊥) (new-aside : (c : ℕ) → K c → Aside (star c) → ⊥)
    (beside-one : (c a b : ℕ) → K c → Beside c a → Beside c b → InCell beta L 0 a b) where
  -- z stands for u
  abbrev Stands : ℕ → ℕ → Type 0
  Stands = StandsFor (IsOther K star Aside) K star Beside

  -- all that one dart stands for lies at one vertex
  stands-one : (z a b : ℕ) → Stands z a → Stands z b → InCell beta L 0 a b
  stands-one z a b (inl (n, e)) (inl (m, g)) = rw (sym e ∙ g) here
  stands-one z a b (inl (n, e)) (inr (c, k, q, r)) = absurd (n.0 (c, k, q))
  stands-one z a b (inr (c, k, q, r)) (inl (m, g)) = absurd (m.0 (c, k, q))
  stands-one z a b (inr (c, k, q, r)) (inr (d, h, g, m)) =
      let same : d ≡ c = numbered_one K keys made star numbers d c h k (sym g ∙ q) in beside-one c a b k r (rw same at m)

  -- and no dart aside stands for any
  stands-apart : (z a : ℕ) → Stands z a → Aside z → ⊥
  stands-apart z a (inl (n, e)) h = n.1 h
  stands-apart z a (inr (c, k, q, r)) h = new-aside c k (rw q at h)

  -- where each new step along a higher link and then a lower one leads, and the way of such an old step
  module _ (from-old : (z i j : ℕ) → IsOther K star Aside z → 1 ≤ i → i < j → N i (N j z) ≢ 0 → Reaches beta 0 L Stands z (N i (N j z)))
      (from-new : (c i j : ℕ) → K c → 1 ≤ i → i < j → N i (N j (star c)) ≢ 0
      → (u : ℕ) × Beside c u × Reaches beta 0 L Stands u (N i (N j (star c))))
      (from-aside : (z i j : ℕ) → Aside z → 1 ≤ i → i < j → N i (N j z) ≢ 0 → Aside (N i (N j z)))
      (old-step : (x i j : ℕ) → 1 ≤ i → i < j → L i (L j x) ≢ 0 → InCell beta N 0 x (L i (L j x))) where
    -- such a step from a dart that does not lie aside
    new-step : (z i j y : ℕ) → (Aside z → ⊥) → 1 ≤ i → i < j → N i (N j z) ≡ y → y ≢ 0 → (a : ℕ) × Stands z a × Reaches beta 0 L Stands a y
    new-step z i j y out a b e n = from (new-or-not K keys made star numbers z)
      where
        from : IsNew K star z ⊎ (IsNew K star z → ⊥) → (a : ℕ) × Stands z a × Reaches beta 0 L Stands a y
        from (inl (c, h, q)) =
            let g : N i (N j (star c)) ≡ y = ap (λ t. N i (N j t)) (sym q) ∙ e in
            let r : (u : ℕ) × Beside c u × Reaches beta 0 L Stands u (N i (N j (star c))) = from-new c i j h a b (λ o. n (sym g ∙ o)) in
            (r.0, inr (c, h, q, r.1), subst (Reaches beta 0 L Stands r.0) g r.2)
        from (inr m) = (z, inl ((m, out), refl), subst (Reaches beta 0 L Stands z) e (from-old z i j (m, out) a b (λ o. n (sym e ∙ o))))

    -- each step from a dart that stands for u
    down : (z u y : ℕ) → Stands z u → Leads N (IsCellWord beta 0) z y → Reaches beta 0 L Stands u y
    down z u y h (s, inl (i, j, a, b, e), q, n) =
        let g : N i (N j z) ≡ y = ap (λ t. through N t z) (sym e) ∙ q in
        let r : (c : ℕ) × Stands z c × Reaches beta 0 L Stands c y = new-step z i j y (stands-apart z u h) a b g n in
        (r.2.0, r.2.1, vertex-trans L u r.0 r.2.0 (stands-one z u r.0 h r.1) r.2.2)
    down z u y h (s, inr (p, (i, j, a, b, e), g), q, n) = from (aside-or-not y)
      where
        back : N i (N j y) ≡ z
        back = turned N v s p i j z y e g q n

        dart : z ≢ 0
        dart = word-dart beta N v s z y q n

        from : Aside y ⊎ (Aside y → ⊥) → Reaches beta 0 L Stands u y
        from (inl k) = absurd (stands-apart z u h (rw back at (from-aside y i j k a b (λ o. dart (sym back ∙ o)))))
        from (inr out) =
            let r : (c : ℕ) × Stands y c × Reaches beta 0 L Stands c z = new-step y i j z out a b back dart in
            (r.0, r.1, vertex-trans L u r.2.0 r.0 (stands-one z u r.2.0 h r.2.1) (cell_back beta L w 0 r.0 r.2.0 r.2.2))

    -- a step from a dart aside leads to one
    aside-step : (z y : ℕ) → Aside z → Leads N (IsCellWord beta 0) z y → Aside y
    aside-step z y h (s, inl (i, j, a, b, e), q, n) =
        let g : N i (N j z) ≡ y = ap (λ t. through N t z) (sym e) ∙ q in subst Aside g (from-aside z i j h a b (λ o. n (sym g ∙ o)))
    aside-step z y h (s, inr (p, (i, j, a, b, e), g), q, n) = from (aside-or-not y)
      where
        from : Aside y ⊎ (Aside y → ⊥) → Aside y
        from (inl k) = k
        from (inr out) =
            let back : N i (N j y) ≡ z = turned N v s p i j z y e g q n in
            let r : (c : ℕ) × Stands y c × Reaches beta 0 L Stands c z = new-step y i j z out a b back (word-dart beta N v s z y q n) in
            absurd (stands-apart z r.2.0 r.2.1 h)

    -- the way of an old step
    up : (x y : ℕ) → x ≢ 0 → Leads L (IsCellWord beta 0) x y → InCell beta N 0 x y
    up x y hx (s, inl (i, j, a, b, e), q, n) =
        let g : L i (L j x) ≡ y = ap (λ t. through L t x) (sym e) ∙ q in
        rw g at (old-step x i j a b (λ o. n (sym g ∙ o)))
    up x y hx (s, inr (p, (i, j, a, b, e), g), q, n) =
        let back : L i (L j y) ≡ x = turned L w s p i j x y e g q n in
        cell_back beta N v 0 y x (rw back at (old-step y i j a b (λ o. hx (sym back ∙ o))))

    -- so the vertices are kept, and the darts aside lie at vertices of their own
    pub keeps-by-words : KeepsCells beta 0 Live L N × LieAside beta 0 Aside (λ x. x ≤ made) N
    keeps-by-words = (
      keeps-by-steps beta 0 Live made counted L N to K keys star numbers (IsOther K star Aside) Beside
          (λ x l. low-other K keys made star numbers Aside low-aside x (counted x l).1)
          (λ z y h s. down z z y (inl (h, refl)) s)
          (λ c u y h b s. down (star c) u y (inr (c, h, refl, b)) s)
          (λ x y l s. up x y (live_dart made Live counted x l) s),
      lie-aside beta 0 N Aside aside-step (λ x. x ≤ made) low-aside,
    )
