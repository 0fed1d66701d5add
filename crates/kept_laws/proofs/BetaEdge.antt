-- An edge in a face of a combinatorial map keeps the vertices: the old darts lie in them as before.
use Rattle.std.proofs.Common.{ℕ, ◌≡◌, ◌≢◌, ◌<◌, ◌≤◌, ◌⊎◌, refl, sym, ap, inl, inr, ◌∙◌, arith, List}
use Rattle.map_defs.specs.Kind.{beta}
use Rattle.map_defs.specs.Links.{Links, IsMadeUpTo, LeadsToLive}
use Rattle.map_defs.specs.Laws.{Laws}
use Rattle.map_defs.specs.Cells.{here, InCell}
use Rattle.map_defs.specs.Births.{IsFresh, IsNumbered, IsCounted}
use Rattle.map_defs.specs.Insertion.{IsCut, IsBetaEdge, InBetaCorner, BetaEdgeDarts, BetaEdgeLeads, AreBetaEdgePaired}
use Rattle.link_laws.proofs.Basics.{same_or_not}
use Rattle.link_laws.proofs.LawFacts.{dart_of_link}
use Rattle.insert_laws.proofs.Numbers.{numbered_fresh}
use Rattle.insert_laws.proofs.ClosedFree.{live_bound}
use Rattle.insert_laws.proofs.BetaEdge.{IsTurning, IsCorner, before_copy, high_out, one_out}
use Rattle.insert_laws.proofs.BetaEdgeLaws.{cut_keeps}
use Rattle.insert_laws.proofs.BetaEdgePairs.{edge_turning}
use Rattle.kept_laws.specs.Keeping.{KeepsCells}
use Rattle.kept_laws.proofs.Numbered.{gets-or-not}
use Rattle.kept_laws.proofs.LiveDarts.{link-low}
use Rattle.kept_laws.proofs.Frames.{StandsFor, Reaches, reaches-old, reaches-new}
use Rattle.kept_laws.proofs.VertexSteps.{around-in, enter-in}
use Rattle.kept_laws.proofs.VertexFrame.{IsOther, low-other}
use Rattle.kept_laws.proofs.VertexLeaving.{LeadsOver, keeps-by-leaving}

module _ (Live : ℕ → Type 0) (made : ℕ) (counted : IsCounted made Live) (L N : Links) (to : LeadsToLive Live L)
    (w : Laws beta L) (Turn : ℕ → ℕ → Type 0) (turn : IsTurning L Turn) (keys : List ℕ) (star : ℕ → ℕ)
    (numbers : IsNumbered (IsCorner Turn) keys made star) (s : IsCut Turn star L N) where
  -- linked darts and corners are from before
  bound : IsMadeUpTo made L
  bound = live_bound beta L w Live to made counted

  corner-low : (x y : ℕ) → Turn x y → x ≤ made
  corner-low x y p = bound 0 x (turn.begins x y p)

  -- the new darts are fresh
  fresh : IsFresh L (IsCorner Turn) star
  fresh = numbered_fresh (IsCorner Turn) keys made star numbers L (λ x (y, p). corner-low x y p) bound

  -- the new links keep the laws
  laws : Laws beta N
  laws = cut_keeps L w Turn turn star fresh N s

  -- z is no new dart
  abbrev Other : ℕ → Type 0
  Other = IsOther (IsCorner Turn) star (λ _. ⊥)

  -- y stands for a dart of the old vertex of u: the new dart of a corner for the corner
  abbrev Stood : ℕ → ℕ → Type 0
  Stood = Reaches beta 0 L (StandsFor Other (IsCorner Turn) star (λ c u. c ≡ u))

  to-old : (u y v : ℕ) → y ≡ v → Other v → InCell beta L 0 u v → Stood u y
  to-old = reaches-old beta 0 L Other (IsCorner Turn) star (λ c u. c ≡ u)

  to-new : (u y c t : ℕ) → y ≡ star c → Turn c t → InCell beta L 0 u c → Stood u y
  to-new u y c t e p o = reaches-new beta 0 L Other (IsCorner Turn) star (λ c u. c ≡ u) u y c c e (t, p) refl o

  -- no dart from before is new
  other : (x : ℕ) → x ≤ made → Other x
  other = low-other (IsCorner Turn) keys made star numbers (λ _. ⊥) (λ x l h. h)

  low : (t x : ℕ) → L t x ≤ made
  low = link-low Live L to made counted

  -- where link 1 leads to a corner it leads to the new dart now
  one-in : (x y : ℕ) → Turn (L 1 x) y → N 1 x ≡ star (L 1 x)
  one-in x y p =
      let b : L 0 (L 1 x) ≡ x = w.back 1 x (turn.dart (L 1 x) y p) in
      sym (ap (N 1) b) ∙ s.into (L 1 x) y p

  -- where link 1 leads to no corner it leads as before
  one-else : (x : ℕ) → Other x → (IsCorner Turn (L 1 x) → ⊥) → N 1 x ≡ L 1 x
  one-else x o out = one_out L w Turn turn star fresh N s x o.0 (λ (c, y, p, e).
      let b : L 1 (L 0 c) ≡ c = w.back 0 c (turn.begins c y p) in
      out (y, rw (ap (L 1) e ∙ b) p))

  -- from the new dart beside that of the copy of a corner x at link j, and on
  from-copy : (x y i j : ℕ) → Turn x y → 3 ≤ j → 1 ≤ i → i < j → L j (L 0 y) ≢ 0 → N i (star (L j (L 0 y))) ≢ 0
      → Stood x (N i (star (L j (L 0 y))))
  from-copy x y i j p l a b k n = from (same_or_not i 1) (same_or_not i 2)
    where
      beside : Turn (L j (L 0 y)) (L j (L 0 x))
      beside = turn.across y x j (turn.both x y p) l k

      copy : Turn (L j (L 0 x)) (L j (L 0 y))
      copy = turn.both (L j (L 0 y)) (L j (L 0 x)) beside

      at : InCell beta L 0 x (L j (L 0 x))
      at = enter-in L x j (L j (L 0 x)) (omega arith) refl (turn.dart (L j (L 0 x)) (L j (L 0 y)) copy)

      from : (i ≡ 1) ⊎ (i ≢ 1) → (i ≡ 2) ⊎ (i ≢ 2) → Stood x (N i (star (L j (L 0 y))))
      from (inl i1) q =
          let e : N i (star (L j (L 0 y))) ≡ L j (L 0 x) =
          ap (λ t. N t (star (L j (L 0 y)))) i1 ∙ s.onward (L j (L 0 y)) (L j (L 0 x)) beside in
          to-old x _ (L j (L 0 x)) e (other (L j (L 0 x)) (low j (L 0 x))) at
      from (inr m) (inl i2) =
          let e : N i (star (L j (L 0 y))) ≡ star (L j (L 0 x)) =
          ap (λ t. N t (star (L j (L 0 y)))) i2 ∙ s.sides (L j (L 0 y)) (L j (L 0 x)) beside in
          to-new x _ (L j (L 0 x)) (L j (L 0 y)) e copy at
      from (inr m) (inr q) =
          let e : N i (star (L j (L 0 y))) ≡ star (L i (L 0 (L j (L 0 x)))) = s.along (L j (L 0 y)) (L j (L 0 x)) i beside (omega arith) in
          let r : L i (L 0 (L j (L 0 x))) ≢ 0 = λ o. n (e ∙ (ap star o ∙ fresh.nothing)) in
          let g : L i (L j x) ≡ L i (L 0 (L j (L 0 x))) = ap (L i) (sym (before_copy L w j x l (turn.begins x y p))) in
          to-new x _ (L i (L 0 (L j (L 0 x)))) (L i (L 0 (L j (L 0 y)))) e
          (turn.across (L j (L 0 x)) (L j (L 0 y)) i copy (omega arith) r)
          (around-in L x i j (L i (L 0 (L j (L 0 x)))) a b g r)

  -- each step from the new dart of a corner
  from-new : (x y i j : ℕ) → Turn x y → 1 ≤ i → i < j → N i (N j (star x)) ≢ 0 → Stood x (N i (N j (star x)))
  from-new x y i j p a b n = from (same_or_not j 2)
    where
      from : (j ≡ 2) ⊎ (j ≢ 2) → Stood x (N i (N j (star x)))
      from (inl j2) =
          let i1 : i ≡ 1 = omega arith in
          let f : N 2 (star x) ≡ star y = s.sides x y p in
          let g : N 1 (star y) ≡ x = s.onward y x (turn.both x y p) in
          let e : N i (N j (star x)) ≡ x = cc in
          to-old x _ x e (other x (corner-low x y p)) here
      from (inr m) =
          let e : N j (star x) ≡ star (L j (L 0 y)) = s.along x y j p (omega arith) in
          let k : L j (L 0 y) ≢ 0 = λ o. dart_of_link beta N laws i (N j (star x)) n (e ∙ (ap star o ∙ fresh.nothing)) in
          rw e (from-copy x y i j p (omega arith) a b k (λ o. n (ap (N i) e ∙ o)))

  -- link 1 of another dart leads as before, or over the new dart of a corner
  one : (x : ℕ) → Other x → (N 1 x ≡ L 1 x) ⊎ LeadsOver L N (IsCorner Turn) star (λ c u. c ≡ u) x
  one x o = from (gets-or-not (IsCorner Turn) keys made star numbers (L 1 x))
    where
      from : IsCorner Turn (L 1 x) ⊎ (IsCorner Turn (L 1 x) → ⊥) → (N 1 x ≡ L 1 x) ⊎ LeadsOver L N (IsCorner Turn) star (λ c u. c ≡ u) x
      from (inl (y, p)) = inr (record {
        over = L 1 x;
        gets = (y, p);
        into = one-in x y p;
        stands = refl;
        led = turn.dart (L 1 x) y p;
        out = ap (N 1) (s.sides (L 1 x) y p) ∙ s.onward y (L 1 x) (turn.both (L 1 x) y p);
      })
      from (inr m) = inl (one-else x o m)

  -- so the vertices are kept
  cut-keeps : KeepsCells beta 0 Live L N
  cut-keeps = (keeps-by-leaving Live made counted L N to w laws (IsCorner Turn) keys star numbers (λ _. ⊥) (λ c u. c ≡ u) (λ x l h. h)
      (λ j x l o. high_out L w Turn turn star fresh N s j x l o.0)
      one
      (λ x. inr (λ h. h))
      (λ c k h. h)
      (λ c a b k e g. rw (sym e ∙ g) here)
      (λ c i j (y, p) a b n. (c, refl, from-new c y i j p a b n))
      (λ z i j h. absurd h)).0

-- an edge in a face keeps the vertices
pub beta-edge-keeps : (Live : ℕ → Type 0) (made : ℕ) (keys : List ℕ) (star : ℕ → ℕ) (L N : Links)
    → Laws beta L → IsCounted made Live → LeadsToLive Live L → (d e : ℕ) → Live d → Live e → (InBetaCorner L d e → ⊥)
    → AreBetaEdgePaired L d e → IsNumbered (BetaEdgeDarts L d e) keys made star → IsBetaEdge d e star L N → KeepsCells beta 0 Live L N
beta-edge-keeps Live made keys star L N w counted live d e hd he apart can numbers s =
    cut-keeps Live made counted L N live w (BetaEdgeLeads L d e) (edge_turning L w d e can apart) keys star numbers s
