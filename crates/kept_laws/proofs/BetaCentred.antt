-- A vertex in the middle of a face keeps the other vertices of a combinatorial map: two old darts lie at one vertex exactly where
-- they did before.
use Rattle.std.proofs.Common.{ℕ, ◌≡◌, ◌≢◌, ◌+◌, ◌<◌, ◌≤◌, ◌⊎◌, refl, sym, ap, inl, inr, ◌∙◌, arith, List, length}
use Rattle.map_defs.specs.Kind.{beta}
use Rattle.map_defs.specs.Links.{Links, LeadsToLive}
use Rattle.map_defs.specs.Laws.{Laws}
use Rattle.map_defs.specs.LinkWords.{IsCellWord}
use Rattle.map_defs.specs.Cells.{here, InCell}
use Rattle.map_defs.specs.Births.{IsCounted, IsNumbered, IsFresh}
use Rattle.map_defs.specs.Closing.{IsBetaCentred, IsClosedFace}
use Rattle.link_laws.proofs.Basics.{same_or_not}
use Rattle.link_laws.proofs.LawFacts.{dart_of_link}
use Rattle.link_laws.proofs.CellFacts.{beta_closed}
use Rattle.insert_laws.proofs.ClosedFree.{live_dart, live_bound}
use Rattle.insert_laws.proofs.Fresh.{IsNew}
use Rattle.insert_laws.proofs.BetaParts.{onward_of, backward_of}
use Rattle.center_laws.proofs.BetaCentre.{centre_keeps}
use Rattle.center_laws.proofs.TwoSeries.{series_fresh}
use Rattle.kept_laws.specs.Keeping.{KeepsCells, LieAside}
use Rattle.kept_laws.proofs.Numbered.{gets-or-not, new-or-not, low-apart}
use Rattle.kept_laws.proofs.LiveDarts.{link-low, orbit-low}
use Rattle.kept_laws.proofs.Frames.{StandsFor, Reaches, reaches-old, reaches-new}
use Rattle.kept_laws.proofs.VertexSteps.{around-in, enter-in}
use Rattle.kept_laws.proofs.VertexFrame.{IsOther, low-other}
use Rattle.kept_laws.proofs.VertexLeaving.{LeadsOver, keeps-by-leaving}

module _ (Live : ℕ → Type 0) (made : ℕ) (keys : List ℕ) (star tip : ℕ → ℕ) (L N : Links)
    (w : Laws beta L) (counted : IsCounted made Live) (to : LeadsToLive Live L) (d : ℕ) (live : Live d) (closed : IsClosedFace beta L d)
    (ms : IsNumbered (InCell beta L 2 d) keys made star)
    (mt : IsNumbered (InCell beta L 2 d) keys (made + length keys) tip) (s : IsBetaCentred d star tip L N) where
  -- the darts of the face
  abbrev K : ℕ → Type 0
  K = InCell beta L 2 d

  -- the darts of the face are from before
  face-low : (x : ℕ) → K x → x ≤ made
  face-low x h = orbit-low Live L to made counted (IsCellWord beta 2) d x live h

  -- the new darts are fresh, and no begin of a new edge is an end of one
  fresh : IsFresh L K star × IsFresh L K tip × ((x y : ℕ) → K x → K y → star x ≢ tip y)
  fresh = series_fresh K keys made star tip ms mt L face-low (live_bound beta L w Live to made counted)

  fresh-star : IsFresh L K star
  fresh-star = fresh.0

  fresh-tip : IsFresh L K tip
  fresh-tip = fresh.1

  -- the new links keep the laws
  laws : Laws beta N
  laws = centre_keeps L w d (live_dart made Live counted d live) star tip fresh-star fresh-tip fresh.2 N s

  -- z is neither begin nor end of a new edge
  abbrev Other : ℕ → Type 0
  Other = IsOther K star (IsNew K tip)

  -- no dart from before is such a begin or end
  low-tip : (x : ℕ) → x ≤ made → IsNew K tip x → ⊥
  low-tip x l (c, h, e) = low-apart K keys (made + length keys) tip mt x c (omega arith) h e

  other : (x : ℕ) → x ≤ made → Other x
  other = low-other K keys made star ms (IsNew K tip) low-tip

  -- links but link 2 stay in the face, and links 0 and 1 run around it
  on : (j x : ℕ) → j ≢ 2 → K x → L j x ≢ 0 → K (L j x)
  on j x n h m = beta_closed L 0 j d x n h m

  next : (x : ℕ) → K x → K (L 1 x)
  next x h = on 1 x (omega arith) h (closed x h).1

  previous : (x : ℕ) → K x → K (L 0 x)
  previous x h = on 0 x (omega arith) h (closed x h).0

  -- the links from 2 upwards of other darts
  high : (j x : ℕ) → 2 ≤ j → Other x → N j x ≡ L j x
  high j x l o = s.kept x j (omega arith) (λ h e. omega arith) (λ y h e. o.0 (y, h, e)) (λ y h e. o.1 (y, h, e))

  -- link 1 leads on as before outside the face
  one-else : (x : ℕ) → Other x → (K x → ⊥) → N 1 x ≡ L 1 x
  one-else x o m = s.kept x 1 (omega arith) (λ h. absurd (m h)) (λ y h e. o.0 (y, h, e)) (λ y h e. o.1 (y, h, e))

  -- y stands for a dart of the old vertex of u: the begin of a new edge for the next dart of the face
  abbrev Stood : ℕ → ℕ → Type 0
  Stood = Reaches beta 0 L (StandsFor Other K star (λ c u. L 1 c ≡ u))

  to-old : (u y v : ℕ) → y ≡ v → Other v → InCell beta L 0 u v → Stood u y
  to-old = reaches-old beta 0 L Other K star (λ c u. L 1 c ≡ u)

  to-new : (u y c v : ℕ) → y ≡ star c → K c → L 1 c ≡ v → InCell beta L 0 u v → Stood u y
  to-new = reaches-new beta 0 L Other K star (λ c u. L 1 c ≡ u)

  -- from the end of the new edge at the dart that link j leads to, and on
  from-across : (x i j : ℕ) → K x → 3 ≤ j → 1 ≤ i → i < j → L j x ≢ 0 → N i (tip (L j x)) ≢ 0 → Stood (L 1 x) (N i (tip (L j x)))
  from-across x i j h l a b k n = from (same_or_not i 1) (same_or_not i 2)
    where
      g : K (L j x)
      g = on j x (omega arith) h k

      around : L 0 (L 1 x) ≡ x
      around = w.back 1 x (closed x h).1

      at : InCell beta L 0 (L 1 x) (L j x)
      at = enter-in L (L 1 x) j (L j x) (omega arith) (ap (L j) around) k

      from : (i ≡ 1) ⊎ (i ≢ 1) → (i ≡ 2) ⊎ (i ≢ 2) → Stood (L 1 x) (N i (tip (L j x)))
      from (inl e) q = to-old (L 1 x) _ (L j x) (ap (λ t. N t (tip (L j x))) e ∙ s.out (L j x) g) (other (L j x) (face-low (L j x) g)) at
      from (inr m) (inl e) =
          to-new (L 1 x) _ (L 0 (L j x)) (L j x) (ap (λ t. N t (tip (L j x))) e ∙ s.sides_back (L j x) g) (previous (L j x) g)
          (w.back 0 (L j x) (closed (L j x) g).0) at
      from (inr m) (inr m2) =
          let e : N i (tip (L j x)) ≡ star (L i (L j x)) = s.along_tip (L j x) i g (omega arith) in
          let r : L i (L j x) ≢ 0 = λ o. n (e ∙ (ap star o ∙ fresh-star.nothing)) in
          let f : K (L i (L j x)) = on i (L j x) m2 g r in
          let q : L j (L 1 x) ≡ L 0 (L j x) = sym (onward_of L w j x l) in
          let p : L i (L j (L 1 x)) ≡ L 1 (L i (L j x)) = ap (L i) q ∙ sym (backward_of L w i (L j x) (omega arith)) in
          to-new (L 1 x) _ (L i (L j x)) (L 1 (L i (L j x))) e f refl
          (around-in L (L 1 x) i j (L 1 (L i (L j x))) a b p (closed (L i (L j x)) f).1)

  -- each step from the begin of a new edge
  from-new : (x i j : ℕ) → K x → 1 ≤ i → i < j → N i (N j (star x)) ≢ 0 → Stood (L 1 x) (N i (N j (star x)))
  from-new x i j h a b n = from (same_or_not j 2)
    where
      from : (j ≡ 2) ⊎ (j ≢ 2) → Stood (L 1 x) (N i (N j (star x)))
      from (inl j2) =
          let i1 : i ≡ 1 = omega arith in
          let p : N 2 (star x) ≡ tip (L 1 x) = s.sides x h in
          let q : N 1 (tip (L 1 x)) ≡ L 1 x = s.out (L 1 x) (next x h) in
          let e : N i (N j (star x)) ≡ L 1 x = cc in
          to-old (L 1 x) _ (L 1 x) e (other (L 1 x) (link-low Live L to made counted 1 x)) here
      from (inr m) =
          let e : N j (star x) ≡ tip (L j x) = s.along x j h (omega arith) in
          let k : L j x ≢ 0 = λ o. dart_of_link beta N laws i (N j (star x)) n (e ∙ (ap tip o ∙ fresh-tip.nothing)) in
          rw e (from-across x i j h (omega arith) a b k (λ o. n (ap (N i) e ∙ o)))

  -- each step from the end of a new edge leads to the end of one
  from-tip : (c i j : ℕ) → K c → 1 ≤ i → i < j → N i (N j (tip c)) ≢ 0 → IsNew K tip (N i (N j (tip c)))
  from-tip c i j h a b n = from (same_or_not j 2) (same_or_not i 1) (same_or_not i 2)
    where
      across : j ≢ 2 → N j (tip c) ≡ star (L j c)
      across m = s.along_tip c j h (omega arith)

      there : j ≢ 2 → K (L j c)
      there m = on j c m h (λ o. dart_of_link beta N laws i (N j (tip c)) n (across m ∙ (ap star o ∙ fresh-star.nothing)))

      from : (j ≡ 2) ⊎ (j ≢ 2) → (i ≡ 1) ⊎ (i ≢ 1) → (i ≡ 2) ⊎ (i ≢ 2) → IsNew K tip (N i (N j (tip c)))
      from (inl j2) (inl i1) q =
          let p : N 2 (tip c) ≡ star (L 0 c) = s.sides_back c h in
          let r : N 1 (star (L 0 c)) ≡ tip (L 0 c) = s.onward (L 0 c) (previous c h) in
          (L 0 c, previous c h, cc)
      from (inl j2) (inr i1) q = absurd (omega arith)
      from (inr m) (inl i1) q = (L j c, there m, ap (N i) (across m) ∙ (ap (λ t. N t (star (L j c))) i1 ∙ s.onward (L j c) (there m)))
      from (inr m) (inr i1) (inl i2) =
          (L 1 (L j c), next (L j c) (there m), ap (N i) (across m) ∙ (ap (λ t. N t (star (L j c))) i2 ∙ s.sides (L j c) (there m)))
      from (inr m) (inr i1) (inr i2) =
          let e : N i (N j (tip c)) ≡ tip (L i (L j c)) = ap (N i) (across m) ∙ s.along (L j c) i (there m) (omega arith) in
          (L i (L j c), on i (L j c) i2 (there m) (λ o. n (e ∙ (ap tip o ∙ fresh-tip.nothing))), e)

  -- link 1 of another dart leads as before, or over the begin of an edge
  one : (x : ℕ) → Other x → (N 1 x ≡ L 1 x) ⊎ LeadsOver L N K star (λ c u. L 1 c ≡ u) x
  one x o = from (gets-or-not K keys made star ms x)
    where
      from : K x ⊎ (K x → ⊥) → (N 1 x ≡ L 1 x) ⊎ LeadsOver L N K star (λ c u. L 1 c ≡ u) x
      from (inl h) = inr (record {
        over = x;
        gets = h;
        into = s.into x h;
        stands = refl;
        led = (closed x h).1;
        out = ap (N 1) (s.sides x h) ∙ s.out (L 1 x) (next x h);
      })
      from (inr m) = inl (one-else x o m)

  -- a vertex in the middle of a closed face keeps the vertices of the old darts, and the ends of its edges lie at vertices of their own
  pub beta-centre-keeps : KeepsCells beta 0 Live L N × LieAside beta 0 (IsNew K tip) (λ x. x ≤ made) N
  beta-centre-keeps = keeps-by-leaving Live made counted L N to w laws K keys star ms (IsNew K tip) (λ c u. L 1 c ≡ u) low-tip high one
      (new-or-not K keys (made + length keys) tip mt)
      (λ c k (y, h, e). fresh.2 c y k h e)
      (λ c a b k e g. rw (sym e ∙ g) here)
      (λ c i j k a b n. (L 1 c, refl, from-new c i j k a b n))
      (λ z i j (c, k, e) a b n. rw e (from-tip c i j k a b (λ o. n (ap (λ t. N i (N j t)) e ∙ o))))
