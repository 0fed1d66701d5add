-- A dangling edge keeps the vertices of a combinatorial map: two old darts lie at one vertex exactly where they did before.
use Rattle.std.proofs.Common.{ℕ, ◌≡◌, ◌≢◌, ◌+◌, ◌<◌, ◌≤◌, ◌⊎◌, refl, sym, ap, subst, inl, inr, ◌∙◌, arith, List, length}
use Rattle.map_defs.specs.Kind.{beta}
use Rattle.map_defs.specs.Links.{Links, LeadsToLive}
use Rattle.map_defs.specs.Laws.{Laws}
use Rattle.map_defs.specs.LinkWords.{two_links}
use Rattle.map_defs.specs.Cells.{here, onward, InCell}
use Rattle.map_defs.specs.Births.{IsCounted, IsNumbered, IsFresh}
use Rattle.map_defs.specs.Insertion.{InBetaCorner, IsCornerWord}
use Rattle.map_defs.specs.Closing.{IsBetaDangled}
use Rattle.link_laws.proofs.Basics.{same_or_not}
use Rattle.link_laws.proofs.LawFacts.{dart_of_link}
use Rattle.insert_laws.proofs.Fresh.{IsNew}
use Rattle.insert_laws.proofs.BetaEdge.{before_copy}
use Rattle.insert_laws.proofs.ClosedFree.{live_bound}
use Rattle.center_laws.proofs.BetaDangle.{corner_begins, dangle_keeps}
use Rattle.center_laws.proofs.TwoSeries.{series_fresh}
use Rattle.kept_laws.specs.Keeping.{KeepsCells, LieAside}
use Rattle.kept_laws.proofs.Numbered.{gets-or-not, new-or-not, low-apart}
use Rattle.kept_laws.proofs.LiveDarts.{orbit-low}
use Rattle.kept_laws.proofs.Frames.{StandsFor, Reaches, reaches-old, reaches-new}
use Rattle.kept_laws.proofs.VertexSteps.{around-in, enter-in}
use Rattle.kept_laws.proofs.VertexFrame.{IsOther, low-other}
use Rattle.kept_laws.proofs.VertexLeaving.{LeadsOver, keeps-by-leaving}

module _ (Live : ℕ → Type 0) (made : ℕ) (keys : List ℕ) (star tip : ℕ → ℕ) (L N : Links)
    (w : Laws beta L) (counted : IsCounted made Live) (to : LeadsToLive Live L) (d : ℕ) (live : Live d) (linked : L 0 d ≢ 0)
    (ms : IsNumbered (InBetaCorner L d) keys made star)
    (mt : IsNumbered (InBetaCorner L d) keys (made + length keys) tip) (s : IsBetaDangled d star tip L N) where
  -- the darts to which the new edges lead
  abbrev K : ℕ → Type 0
  K = InBetaCorner L d

  -- the darts of the corner are from before
  corner-low : (x : ℕ) → K x → x ≤ made
  corner-low x h = orbit-low Live L to made counted IsCornerWord d x live h

  -- the new darts are fresh, and no begin of a new edge is an end of one
  fresh : IsFresh L K star × IsFresh L K tip × ((x y : ℕ) → K x → K y → star x ≢ tip y)
  fresh = series_fresh K keys made star tip ms mt L corner-low (live_bound beta L w Live to made counted)

  fresh-star : IsFresh L K star
  fresh-star = fresh.0

  fresh-tip : IsFresh L K tip
  fresh-tip = fresh.1

  -- the new links keep the laws
  laws : Laws beta N
  laws = dangle_keeps L w d linked star tip fresh-star fresh-tip fresh.2 N s

  -- z is neither begin nor end of a new edge
  abbrev Other : ℕ → Type 0
  Other = IsOther K star (IsNew K tip)

  -- no dart from before is such a begin or end
  low-tip : (x : ℕ) → x ≤ made → IsNew K tip x → ⊥
  low-tip x l (c, h, e) = low-apart K keys (made + length keys) tip mt x c (omega arith) h e

  other : (x : ℕ) → x ≤ made → Other x
  other = low-other K keys made star ms (IsNew K tip) low-tip

  -- some side leads into the corner
  begins : (x : ℕ) → K x → L 0 x ≢ 0
  begins = corner_begins L w d linked

  dart : (x : ℕ) → K x → x ≢ 0
  dart x h = dart_of_link beta L w 0 x (begins x h)

  -- its copies lie in it
  copy : (x j : ℕ) → 3 ≤ j → K x → L j (L 0 x) ≢ 0 → K (L j (L 0 x))
  copy x j l h n = onward h (two_links 0 j, (j, l, refl), refl, n)

  -- the links from 2 upwards of other darts
  high : (j x : ℕ) → 2 ≤ j → Other x → N j x ≡ L j x
  high j x l o = s.kept x j (omega arith) (λ y h e. absurd (omega arith)) (λ y h e. o.0 (y, h, e)) (λ y h e. o.1 (y, h, e))

  -- link 1 leads over a new edge into the corner, and elsewhere as before
  one-in : (x : ℕ) → K (L 1 x) → N 1 x ≡ star (L 1 x)
  one-in x h = let a : L 0 (L 1 x) ≡ x = w.back 1 x (dart (L 1 x) h) in ap (N 1) (sym a) ∙ s.into (L 1 x) h

  one-else : (x : ℕ) → Other x → (K (L 1 x) → ⊥) → N 1 x ≡ L 1 x
  one-else x o m = s.kept x 1 (omega arith) (λ y h e q. m (subst K (sym (ap (L 1) q ∙ w.back 0 y (begins y h))) h))
      (λ y h e. o.0 (y, h, e)) (λ y h e. o.1 (y, h, e))

  -- y stands for a dart of the old vertex of u: the begin of a new edge for the corner that the edge leads to
  abbrev Stood : ℕ → ℕ → Type 0
  Stood = Reaches beta 0 L (StandsFor Other K star (λ c u. c ≡ u))

  to-old : (u y v : ℕ) → y ≡ v → Other v → InCell beta L 0 u v → Stood u y
  to-old = reaches-old beta 0 L Other K star (λ c u. c ≡ u)

  to-new : (u y c v : ℕ) → y ≡ star c → K c → c ≡ v → InCell beta L 0 u v → Stood u y
  to-new = reaches-new beta 0 L Other K star (λ c u. c ≡ u)

  -- from the end of the edge of a copy of x at link j, and on
  from-copy : (x i j : ℕ) → K x → 3 ≤ j → 1 ≤ i → i < j → L j (L 0 x) ≢ 0 → N i (tip (L j (L 0 x))) ≢ 0 → Stood x (N i (tip (L j (L 0 x))))
  from-copy x i j h l a b k n = from (same_or_not i 1) (same_or_not i 2)
    where
      g : K (L j (L 0 x))
      g = copy x j l h k

      at : InCell beta L 0 x (L j (L 0 x))
      at = enter-in L x j (L j (L 0 x)) (omega arith) refl k

      from : (i ≡ 1) ⊎ (i ≢ 1) → (i ≡ 2) ⊎ (i ≢ 2) → Stood x (N i (tip (L j (L 0 x))))
      from (inl e) q = to-old x _ (L j (L 0 x)) (ap (λ t. N t (tip (L j (L 0 x)))) e ∙ s.out (L j (L 0 x)) g)
          (other (L j (L 0 x)) (corner-low (L j (L 0 x)) g)) at
      from (inr m) (inl e) =
          to-new x _ (L j (L 0 x)) (L j (L 0 x)) (ap (λ t. N t (tip (L j (L 0 x)))) e ∙ s.sides_back (L j (L 0 x)) g) g refl at
      from (inr m) (inr q) =
          let e : N i (tip (L j (L 0 x))) ≡ star (L i (L 0 (L j (L 0 x)))) = s.along_tip (L j (L 0 x)) i g (omega arith) in
          let r : L i (L 0 (L j (L 0 x))) ≢ 0 = λ o. n (e ∙ (ap star o ∙ fresh-star.nothing)) in
          let p : L i (L j x) ≡ L i (L 0 (L j (L 0 x))) = ap (L i) (sym (before_copy L w j x l (begins x h))) in
          to-new x _ (L i (L 0 (L j (L 0 x)))) (L i (L 0 (L j (L 0 x)))) e (copy (L j (L 0 x)) i (omega arith) g r) refl
          (around-in L x i j (L i (L 0 (L j (L 0 x)))) a b p r)

  -- each step from the begin of a new edge
  from-new : (x i j : ℕ) → K x → 1 ≤ i → i < j → N i (N j (star x)) ≢ 0 → Stood x (N i (N j (star x)))
  from-new x i j h a b n = from (same_or_not j 2)
    where
      from : (j ≡ 2) ⊎ (j ≢ 2) → Stood x (N i (N j (star x)))
      from (inl j2) =
          let i1 : i ≡ 1 = omega arith in
          let p : N 2 (star x) ≡ tip x = s.sides x h in
          let q : N 1 (tip x) ≡ x = s.out x h in
          let e : N i (N j (star x)) ≡ x = cc in
          to-old x _ x e (other x (corner-low x h)) here
      from (inr m) =
          let e : N j (star x) ≡ tip (L j (L 0 x)) = s.along x j h (omega arith) in
          let k : L j (L 0 x) ≢ 0 = λ o. dart_of_link beta N laws i (N j (star x)) n (e ∙ (ap tip o ∙ fresh-tip.nothing)) in
          rw e (from-copy x i j h (omega arith) a b k (λ o. n (ap (N i) e ∙ o)))

  -- each step from the end of a new edge leads to the end of one
  from-tip : (c i j : ℕ) → K c → 1 ≤ i → i < j → N i (N j (tip c)) ≢ 0 → IsNew K tip (N i (N j (tip c)))
  from-tip c i j h a b n = from (same_or_not j 2) (same_or_not i 1) (same_or_not i 2)
    where
      across : j ≢ 2 → N j (tip c) ≡ star (L j (L 0 c))
      across m = s.along_tip c j h (omega arith)

      there : j ≢ 2 → K (L j (L 0 c))
      there m = copy c j (omega arith) h (λ o. dart_of_link beta N laws i (N j (tip c)) n (across m ∙ (ap star o ∙ fresh-star.nothing)))

      from : (j ≡ 2) ⊎ (j ≢ 2) → (i ≡ 1) ⊎ (i ≢ 1) → (i ≡ 2) ⊎ (i ≢ 2) → IsNew K tip (N i (N j (tip c)))
      from (inl j2) (inl i1) q =
          let p : N 2 (tip c) ≡ star c = s.sides_back c h in
          let r : N 1 (star c) ≡ tip c = s.onward c h in
          (c, h, cc)
      from (inl j2) (inr i1) q = absurd (omega arith)
      from (inr m) (inl i1) q =
          (L j (L 0 c), there m, ap (N i) (across m) ∙ (ap (λ t. N t (star (L j (L 0 c)))) i1 ∙ s.onward (L j (L 0 c)) (there m)))
      from (inr m) (inr i1) (inl i2) =
          (L j (L 0 c), there m, ap (N i) (across m) ∙ (ap (λ t. N t (star (L j (L 0 c)))) i2 ∙ s.sides (L j (L 0 c)) (there m)))
      from (inr m) (inr i1) (inr i2) =
          let r : N i (star (L j (L 0 c))) ≡ tip (L i (L 0 (L j (L 0 c)))) = s.along (L j (L 0 c)) i (there m) (omega arith) in
          let e : N i (N j (tip c)) ≡ tip (L i (L 0 (L j (L 0 c)))) = ap (N i) (across m) ∙ r in
          (L i (L 0 (L j (L 0 c))), copy (L j (L 0 c)) i (omega arith) (there m) (λ o. n (e ∙ (ap tip o ∙ fresh-tip.nothing))), e)

  -- link 1 of another dart leads as before, or over the begin of an edge into the corner
  one : (x : ℕ) → Other x → (N 1 x ≡ L 1 x) ⊎ LeadsOver L N K star (λ c u. c ≡ u) x
  one x o = from (gets-or-not K keys made star ms (L 1 x))
    where
      from : K (L 1 x) ⊎ (K (L 1 x) → ⊥) → (N 1 x ≡ L 1 x) ⊎ LeadsOver L N K star (λ c u. c ≡ u) x
      from (inl h) = inr (record {
        over = L 1 x;
        gets = h;
        into = one-in x h;
        stands = refl;
        led = dart (L 1 x) h;
        out = ap (N 1) (s.sides (L 1 x) h) ∙ s.out (L 1 x) h;
      })
      from (inr m) = inl (one-else x o m)

  -- a dangling edge keeps the vertices of the old darts, and its tips lie at vertices of their own
  pub beta-dangle-keeps : KeepsCells beta 0 Live L N × LieAside beta 0 (IsNew K tip) (λ x. x ≤ made) N
  beta-dangle-keeps = keeps-by-leaving Live made counted L N to w laws K keys star ms (IsNew K tip) (λ c u. c ≡ u) low-tip high one
      (new-or-not K keys (made + length keys) tip mt)
      (λ c k (y, h, e). fresh.2 c y k h e)
      (λ c a b k e g. rw (sym e ∙ g) here)
      (λ c i j k a b n. (c, refl, from-new c i j k a b n))
      (λ z i j (c, k, e) a b n. rw e (from-tip c i j k a b (λ o. n (ap (λ t. N i (N j t)) e ∙ o))))
