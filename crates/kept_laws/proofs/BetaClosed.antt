-- Closing a combinatorial map at link 2 keeps the vertices: the old darts lie in them as before.
use Rattle.std.proofs.Common.{ℕ, ◌≡◌, ◌≢◌, ◌<◌, ◌≤◌, ◌⊎◌, refl, sym, ap, inl, inr, ◌∙◌, arith, List}
use Rattle.map_defs.specs.Kind.{beta, IsDistant}
use Rattle.map_defs.specs.Links.{Links, IsMadeUpTo, LeadsToLive}
use Rattle.map_defs.specs.Rows.{Rows, IsLive}
use Rattle.map_defs.specs.Laws.{Laws}
use Rattle.map_defs.specs.Walks.{Walk, stop, go, IsTold}
use Rattle.map_defs.specs.Cells.{here, InCell}
use Rattle.map_defs.specs.Births.{IsFresh, IsNumbered, IsCounted}
use Rattle.map_defs.specs.Closing.{IsOpen, IsAround, IsClosed}
use Rattle.link_laws.proofs.Basics.{same_or_not, inverse_own, distant_high}
use Rattle.link_laws.proofs.LawFacts.{dart_of_link}
use Rattle.insert_laws.proofs.Around.{around_free, around_live}
use Rattle.insert_laws.proofs.Closed.{open_carried}
use Rattle.insert_laws.proofs.ClosedFree.{live_dart, live_bound, open_fresh, closed_laws}
use Rattle.insert_laws.proofs.BetaParts.{back_of}
use Rattle.kept_laws.specs.Keeping.{KeepsCells}
use Rattle.kept_laws.proofs.Numbered.{gets-or-not}
use Rattle.kept_laws.proofs.LiveDarts.{link-low}
use Rattle.kept_laws.proofs.Frames.{StandsFor, Reaches, reaches-old, reaches-new}
use Rattle.kept_laws.proofs.Boundary.{walk-dart, around-found}
use Rattle.kept_laws.proofs.VertexSteps.{vertex-trans, around-in, enter-in}
use Rattle.kept_laws.proofs.VertexEnds.{BeginsAtEnd, ends-in-one}
use Rattle.kept_laws.proofs.VertexFrame.{IsOther, low-other, keeps-by-words}

module _ (L : Links) (w : Laws beta L) where
  -- each dart on the walk ends at one vertex
  walk-ends : (x c y : ℕ) → Walk (λ c. L 2 c ≢ 0) (λ c. L 0 (L 2 c)) c y → y ≢ 0 → L 1 c ≢ 0
      → InCell beta L 0 x (L 1 c) → (L 1 y ≢ 0) × InCell beta L 0 x (L 1 y)
  walk-ends x c y (stop n) hy hc h = (hc, h)
  walk-ends x c y (go g p) hy hc h =
      let next : L 0 (L 2 c) ≢ 0 = walk-dart beta L w 2 0 (L 0 (L 2 c)) y p hy in
      let b : L 1 (L 0 (L 2 c)) ≡ L 2 c = w.back 0 (L 2 c) next in
      let step : InCell beta L 0 (L 1 c) (L 2 c) = enter-in L (L 1 c) 2 (L 2 c) (omega arith) (ap (L 2) (w.back 1 c hc)) g in
      walk-ends x (L 0 (L 2 c)) y p hy (λ o. g (sym b ∙ o)) (rw b (vertex-trans L x (L 1 c) (L 2 c) h step))

  -- the dart to which the walk around the boundary comes ends where x begins
  around-ends : (x y : ℕ) → IsAround beta 2 1 L x y → y ≢ 0 → (L 1 y ≢ 0) × InCell beta L 0 x (L 1 y)
  around-ends x y p hy =
      let n : L 0 x ≢ 0 = walk-dart beta L w 2 0 (L 0 x) y p hy in
      let b : L 1 (L 0 x) ≡ x = w.back 0 x n in
      walk-ends x (L 0 x) y p hy (λ o. dart_of_link beta L w 0 x n (sym b ∙ o)) (rw b here)

module _ (Live : ℕ → Type 0) (keys : List ℕ) (made : ℕ) (star : ℕ → ℕ) (L N : Links) (w : Laws beta L) (counted : IsCounted made Live)
    (live : LeadsToLive Live L) (numbers : IsNumbered (IsOpen Live 2 L) keys made star) (s : IsClosed beta 2 Live star L N) where
  -- the darts beside which new ones lie
  abbrev K : ℕ → Type 0
  K = IsOpen Live 2 L

  -- live darts are darts
  dart : (x : ℕ) → Live x → x ≢ 0
  dart = live_dart made Live counted

  -- only the darts made before are linked
  bound : IsMadeUpTo made L
  bound = live_bound beta L w Live live made counted

  -- the new darts are fresh
  fresh : IsFresh L K star
  fresh = open_fresh beta L w Live live made counted 2 keys star numbers

  -- the new links keep the laws
  laws : Laws beta N
  laws = closed_laws beta 2 refl Live keys made star L N w counted live numbers s

  -- z is no new dart
  abbrev Other : ℕ → Type 0
  Other = IsOther K star (λ _. ⊥)

  -- no dart from before is new, and old links lead to such darts alone
  other : (x : ℕ) → x ≤ made → Other x
  other = low-other K keys made star numbers (λ _. ⊥) (λ x l h. h)

  still : (t z : ℕ) → Other (L t z)
  still t z = other (L t z) (link-low Live L live made counted t z)

  -- y stands for a dart of the old vertex of u: a new dart begins where the dart ends beside which it lies
  abbrev Stood : ℕ → ℕ → Type 0
  Stood = Reaches beta 0 L (StandsFor Other K star (BeginsAtEnd L))

  to-old : (u y v : ℕ) → y ≡ v → Other v → InCell beta L 0 u v → Stood u y
  to-old = reaches-old beta 0 L Other K star (BeginsAtEnd L)

  to-new : (u y c t : ℕ) → y ≡ star c → K c → 1 ≤ t → L t c ≢ 0 → InCell beta L 0 u (L t c) → Stood u y
  to-new u y c t e k l n o = reaches-new beta 0 L Other K star (BeginsAtEnd L) u y c (L t c) e k (t, l, refl, n) o

  -- whether a dart is free at link 2 can be told
  decided : IsTold K
  decided = gets-or-not K keys made star numbers

  -- of an old dart all links but link 2 are as before
  kept-other : (t z : ℕ) → t ≢ 2 → Other z → N t z ≡ L t z
  kept-other t z d n = s.kept z t (λ h. d) (λ y h e. n.0 (y, h, e))

  -- and all links of a dart beside which no new one lies
  kept-closed : (t z : ℕ) → (K z → ⊥) → Other z → N t z ≡ L t z
  kept-closed t z d n = s.kept z t (λ h. absurd (d h)) (λ y h e. n.0 (y, h, e))

  -- what led to a dart leads to it still
  kept-linked : (t z : ℕ) → L t z ≢ 0 → N t z ≡ L t z
  kept-linked t z h = s.kept z t (λ k e. h (ap (λ i. L i z) e ∙ k.1)) (λ y k e. h (ap (L t) e ∙ fresh.unlinked t y k))

  -- link 1 of a new dart leads to the new dart beside one that ends where the first one's begins
  one-new : (x : ℕ) → K x → N 1 (star x) ≢ 0 → (y : ℕ) × (N 1 (star x) ≡ star y) × K y × (L 1 y ≢ 0) × InCell beta L 0 x (L 1 y)
  one-new x k n =
      let (y, p) = around-found beta L w 2 refl 1 made x bound k.1 in
      let e : N 1 (star x) ≡ star y = s.around x y 1 k refl p in
      let hy : y ≢ 0 = λ o. n (e ∙ (ap star o ∙ fresh.nothing)) in
      let (h, c) = around-ends L w x y p hy in
      (y, e, (around_live beta L w 2 refl 1 Live live x y p hy, around_free beta L w 2 refl 1 x y p), h, c)

  -- a link above 3 is distant from link 2
  far : (j : ℕ) → 4 ≤ j → IsDistant beta 2 j
  far j l = distant_high beta 2 j (omega arith) l

  -- a link above 3 leads from a new dart as it leads from the dart beside it
  high-new : (x j : ℕ) → K x → 4 ≤ j → N j (star x) ≡ star (L j x)
  high-new x j k l = s.along x j k (far j l) ∙ ap (λ t. star (L t x)) (inverse_own beta j (omega arith))

  -- to a dart alone where it leads to a dart there
  high-there : (x j : ℕ) → K x → 4 ≤ j → N j (star x) ≢ 0 → L j x ≢ 0
  high-there x j k l n o = n (high-new x j k l ∙ (ap star o ∙ fresh.nothing))

  -- and that one is free at link 2 too
  high-open : (x j : ℕ) → K x → 4 ≤ j → L j x ≢ 0 → K (L j x)
  high-open x j k l n = open_carried beta 2 refl Live L w dart live made bound x j k (inr (far j l)) n

  -- each step from a new dart that begins with a link above 3
  from-copy : (x i j : ℕ) → K x → 4 ≤ j → 1 ≤ i → L j x ≢ 0 → N i (star (L j x)) ≢ 0 → Stood (L j x) (N i (star (L j x)))
  from-copy x i j k lj li hj n = from (same_or_not i 1) (same_or_not i 2) (same_or_not i 3)
    where
      kc : K (L j x)
      kc = high-open x j k lj hj

      from : (i ≡ 1) ⊎ (i ≢ 1) → (i ≡ 2) ⊎ (i ≢ 2) → (i ≡ 3) ⊎ (i ≢ 3) → Stood (L j x) (N i (star (L j x)))
      from (inl e) q r =
          let g : N i (star (L j x)) ≡ N 1 (star (L j x)) = ap (λ t. N t (star (L j x))) e in
          let (y, a, ky, h, d) = one-new (L j x) kc (λ o. n (g ∙ o)) in
          to-new (L j x) _ y 1 (g ∙ a) ky (omega arith) h d
      from (inr m) (inl e) r =
          let g : N i (star (L j x)) ≡ L j x = ap (λ t. N t (star (L j x))) e ∙ s.old (L j x) kc in
          to-old (L j x) _ (L j x) g (still j x) here
      from (inr m) (inr d) (inl e) = absurd (n (ap (λ t. N t (star (L j x))) e ∙ s.beyond (L j x) kc))
      from (inr m) (inr d) (inr h) =
          let l : 4 ≤ i = omega arith in
          let g : N i (star (L j x)) ≡ star (L i (L j x)) = high-new (L j x) i kc l in
          let there : L i (L j x) ≢ 0 = high-there (L j x) i kc l n in
          let b : L i (L i (L j x)) ≡ L j x = back_of L w i (L j x) (omega arith) there in
          to-new (L j x) _ (L i (L j x)) i g (high-open (L j x) i kc l there) (omega arith) (λ o. hj (sym b ∙ o)) (rw b here)

  -- each step from a new dart
  from-new : (x i j : ℕ) → K x → 1 ≤ i → i < j → N i (N j (star x)) ≢ 0 → (u : ℕ) × BeginsAtEnd L x u × Stood u (N i (N j (star x)))
  from-new x i j k li ij n = from (same_or_not j 2) (same_or_not j 3)
    where
      from : (j ≡ 2) ⊎ (j ≢ 2) → (j ≡ 3) ⊎ (j ≢ 3) → (u : ℕ) × BeginsAtEnd L x u × Stood u (N i (N j (star x)))
      from (inl e) q =
          let i1 : i ≡ 1 = omega arith in
          let a : N 2 (star x) ≡ x = s.old x k in
          let b : N 1 x ≡ L 1 x = kept-other 1 x (λ o. omega arith) (other x (counted x k.0).1) in
          let g : N i (N j (star x)) ≡ L 1 x = cc in
          (L 1 x, (1, omega arith, refl, (λ o. n (g ∙ o))), to-old (L 1 x) _ (L 1 x) g (still 1 x) here)
      from (inr d) (inl e) =
          let a : N 3 (star x) ≡ 0 = s.beyond x k in
          absurd (n (cc (laws.nil i)))
      from (inr d) (inr h) =
          let l : 4 ≤ j = omega arith in
          let a : N j (star x) ≡ star (L j x) = high-new x j k l in
          let hj : L j x ≢ 0 = high-there x j k l (dart_of_link beta N laws i (N j (star x)) n) in
          (L j x, (j, omega arith, refl, hj), rw a (from-copy x i j k l li hj (λ o. n (ap (N i) a ∙ o))))

  -- each step from another dart whose higher link is as before
  from-link : (z i j : ℕ) → Other z → 1 ≤ i → i < j → N j z ≡ L j z → N i (N j z) ≢ 0 → Stood z (N i (N j z))
  from-link z i j old li ij a n = from (same_or_not i 2) (decided (L j z))
    where
      g : N i (N j z) ≡ N i (L j z)
      g = ap (N i) a

      hj : L j z ≢ 0
      hj = dart_of_link beta N laws i (L j z) (λ o. n (g ∙ o))

      plain : N i (L j z) ≡ L i (L j z) → Stood z (N i (N j z))
      plain e = to-old z _ (L i (L j z)) (g ∙ e) (still i (L j z)) (around-in L z i j (L i (L j z)) li ij refl (λ o. n (g ∙ (e ∙ o))))

      from : (i ≡ 2) ⊎ (i ≢ 2) → K (L j z) ⊎ (K (L j z) → ⊥) → Stood z (N i (N j z))
      from (inl e) (inl k) =
          let b : L j (L j z) ≡ z = back_of L w j z (omega arith) hj in
          let m : N i (L j z) ≡ star (L j z) = ap (λ t. N t (L j z)) e ∙ s.new (L j z) k in
          to-new z _ (L j z) j (g ∙ m) k (omega arith) (λ o. dart_of_link beta L w j z hj (sym b ∙ o)) (rw b here)
      from (inl e) (inr d) = plain (kept-closed i (L j z) d (still j z))
      from (inr d) q = plain (kept-other i (L j z) d (still j z))

  -- each step from another dart
  from-old : (z i j : ℕ) → Other z → 1 ≤ i → i < j → N i (N j z) ≢ 0 → Stood z (N i (N j z))
  from-old z i j old li ij n = from (same_or_not j 2) (decided z)
    where
      from : (j ≡ 2) ⊎ (j ≢ 2) → K z ⊎ (K z → ⊥) → Stood z (N i (N j z))
      from (inl e) (inl k) =
          let i1 : i ≡ 1 = omega arith in
          let a : N 2 z ≡ star z = s.new z k in
          let g : N i (N j z) ≡ N 1 (star z) = cc in
          let (y, b, ky, h, c) = one-new z k (λ o. n (g ∙ o)) in
          to-new z _ y 1 (g ∙ b) ky (omega arith) h c
      from (inl e) (inr d) = from-link z i j old li ij (kept-closed j z d old) n
      from (inr d) q = from-link z i j old li ij (kept-other j z d old) n

  -- the old words lead as before
  old-step : (x i j : ℕ) → 1 ≤ i → i < j → L i (L j x) ≢ 0 → InCell beta N 0 x (L i (L j x))
  old-step x i j li ij n =
      let a : N j x ≡ L j x = kept-linked j x (dart_of_link beta L w i (L j x) n) in
      around-in N x i j (L i (L j x)) li ij (ap (N i) a ∙ kept-linked i (L j x) n) n

  -- so the vertices are kept
  closing-keeps : KeepsCells beta 0 Live L N
  closing-keeps = (keeps-by-words Live made counted L N live w laws K keys star numbers (λ _. ⊥) (BeginsAtEnd L)
      (λ x. inr (λ h. h)) (λ x l h. h) (λ c k h. h) (λ c a b k p q. ends-in-one L w c a b p q)
      from-old
      from-new
      (λ z i j h. absurd h)
      old-step).0

-- closing at link 2 keeps the vertices
pub beta-closing-keeps : (rows : Rows) (keys : List ℕ) (made : ℕ) (star : ℕ → ℕ) (L N : Links)
    → Laws beta L → IsCounted made (IsLive rows) → LeadsToLive (IsLive rows) L → IsNumbered (IsOpen (IsLive rows) 2 L) keys made star
    → IsClosed beta 2 (IsLive rows) star L N → KeepsCells beta 0 (IsLive rows) L N
beta-closing-keeps rows keys made star L N w counted live numbers s =
    closing-keeps (IsLive rows) keys made star L N w counted live numbers s
