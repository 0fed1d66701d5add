-- A vertex on an edge keeps the other vertices, the faces and the higher cells of a combinatorial map: two old darts lie in one of
-- them exactly where they did before.
use Rattle.std.proofs.Common.{ℕ, zero, suc, ◌≡◌, ◌≢◌, ◌≤◌, ◌⊎◌, refl, sym, ap, inl, inr, ◌∙◌, arith, List}
use Rattle.map_defs.specs.Kind.{beta}
use Rattle.map_defs.specs.Links.{Links, LeadsToLive}
use Rattle.map_defs.specs.Laws.{Laws}
use Rattle.map_defs.specs.Walks.{IsTold}
use Rattle.map_defs.specs.LinkWords.{LinkWord, through, IsCellWord}
use Rattle.map_defs.specs.Cells.{here, onward, Leads, InCell}
use Rattle.map_defs.specs.Births.{IsCounted, IsNumbered, IsFresh}
use Rattle.map_defs.specs.Insertion.{IsBetaVertex}
use Rattle.link_laws.proofs.CellOf.{all_beta}
use Rattle.link_laws.proofs.VertexWords.{IsVertexStep, leave, enter, pass, vertex_word}
use Rattle.insert_laws.proofs.Fresh.{InOrNone, IsNew}
use Rattle.insert_laws.proofs.BetaVertex.{IsEdgeSet, edge_set, on_or_none, on_back, out, old_at, second_at, back_new, back_in, back_out}
use Rattle.insert_laws.proofs.ClosedFree.{live_dart}
use Rattle.kept_laws.specs.Keeping.{KeepsCells}
use Rattle.kept_laws.proofs.Numbered.{gets-or-not, low-apart}
use Rattle.kept_laws.proofs.LiveDarts.{link-low, orbit-low, orbit-fresh}
use Rattle.kept_laws.proofs.CellSteps.{cell-step}
use Rattle.kept_laws.proofs.Frames.{StandsFor, StandsLow, Reaches, reaches-old, reaches-new, keeps-by-steps, keeps-by-links}

module _ (Live : ℕ → Type 0) (made : ℕ) (keys : List ℕ) (star : ℕ → ℕ) (L N : Links)
    (w : Laws beta L) (counted : IsCounted made Live) (to : LeadsToLive Live L) (d : ℕ) (live : Live d)
    (ms : IsNumbered (InCell beta L 1 d) keys made star) (s : IsBetaVertex d star L N) where
  -- the darts of the edge
  abbrev K : ℕ → Type 0
  K = InCell beta L 1 d

  -- the new darts are fresh
  fresh : IsFresh L K star
  fresh = orbit-fresh Live L to made counted beta w (IsCellWord beta 1) d live keys star ms

  -- the darts of the edge are a set that is closed under its links
  set : IsEdgeSet L K
  set = edge_set L d (live_dart made Live counted d live)

  -- no old link leads above the old darts
  low : (t x : ℕ) → L t x ≤ made
  low = link-low Live L to made counted

  -- the darts of the edge are old
  edge-low : (x : ℕ) → K x → x ≤ made
  edge-low x h = orbit-low Live L to made counted (IsCellWord beta 1) d x live h

  -- whether a dart lies in the edge can be told
  decided : IsTold K
  decided = gets-or-not K keys made star ms

  -- no old dart is a new one
  old : (x : ℕ) → x ≤ made → IsNew K star x → ⊥
  old x l (c, h, e) = low-apart K keys made star ms x c l h e

  -- the links of old darts outside the edge
  kept : (t x : ℕ) → 1 ≤ t → x ≤ made → (K x → ⊥) → N t x ≡ L t x
  kept t x l o m = out L w K set star fresh N s t x l (old x o) m

  -- link 0 of old and new darts
  zero-in : (x : ℕ) → K (L 0 x) → N 0 x ≡ star (L 0 x)
  zero-in = back_in L w K set star fresh N s

  zero-else : (x : ℕ) → x ≤ made → (K (L 0 x) → ⊥) → N 0 x ≡ L 0 x
  zero-else x o m = back_out L w K set star fresh N s x (old x o) m

  zero-star : (x : ℕ) → K x → N 0 (star x) ≡ x
  zero-star x h = back_new L w K set star fresh N s x (inl h)

  -- links from 2 upwards stay in the edge, and lead into it from inside alone
  beyond : (x j : ℕ) → 2 ≤ j → K x → InOrNone K (L j x)
  beyond x j l h = on_or_none L w K set star fresh N s x j (inl h) l

  outside : (x j : ℕ) → 2 ≤ j → (K x → ⊥) → K (L j x) → ⊥
  outside x j l m h = m (on_back L w K set star fresh N s x j l h)

  -- the words of a vertex lead from an old dart where they led
  same-word : (x : ℕ) → x ≤ made → (v : LinkWord) → IsVertexStep v → through N v x ≡ through L v x
  same-word x o v (leave j l) = from (decided x)
    where
      from : K x ⊎ (K x → ⊥) → N 1 (N j x) ≡ L 1 (L j x)
      from (inl h) = ap (N 1) (s.new x j h l) ∙ second_at L w K set star fresh N s (L j x) (beyond x j l h)
      from (inr m) = ap (N 1) (kept j x (omega arith) o m) ∙ kept 1 (L j x) (omega arith) (low j x) (outside x j l m)
  same-word x o v (enter j l) = from (decided (L 0 x))
    where
      from : K (L 0 x) ⊎ (K (L 0 x) → ⊥) → N j (N 0 x) ≡ L j (L 0 x)
      from (inl h) = ap (N j) (zero-in x h) ∙ s.old (L 0 x) j h l
      from (inr m) = ap (N j) (zero-else x o m) ∙ kept j (L 0 x) (omega arith) (low 0 x) m
  same-word x o v (pass i j a b) = from (decided x)
    where
      from : K x ⊎ (K x → ⊥) → N j (N i x) ≡ L j (L i x)
      from (inl h) = ap (N j) (s.new x i h a) ∙ old_at L w K set star fresh N s j (L i x) b (beyond x i a h)
      from (inr m) = ap (N j) (kept i x (omega arith) o m) ∙ kept j (L i x) (omega arith) (low i x) (outside x i a m)

  -- and so to old darts
  word-low : (x : ℕ) (v : LinkWord) → IsVertexStep v → through L v x ≤ made
  word-low x v (leave j l) = low 1 (L j x)
  word-low x v (enter j l) = low j (L 0 x)
  word-low x v (pass i j a b) = low j (L i x)

  -- a vertex on an edge keeps the vertices of the old darts: the new darts lie at the new vertex, and stand for none
  pub beta-vertex-keeps : KeepsCells beta 0 Live L N
  beta-vertex-keeps = keeps-by-steps beta 0 Live made counted L N to K keys star ms (λ z. z ≤ made) (λ _ _. ⊥)
      (λ x l. (counted x l).1)
      from-old
      (λ c u y h b q. absurd b)
      (λ x y l q. onward here (q.0, q.1, same-word x (counted x l).1 q.0 (vertex_word q.0 q.1) ∙ q.2, q.3))
    where
      from-old : (u y : ℕ) → u ≤ made → Leads N (IsCellWord beta 0) u y → Reaches beta 0 L (StandsFor (λ z. z ≤ made) K star (λ _ _. ⊥)) u y
      from-old u y o (v, c, e, n) =
          let a : through L v u ≡ y = sym (same-word u o v (vertex_word v c)) ∙ e in
          reaches-old beta 0 L (λ z. z ≤ made) K star (λ _ _. ⊥) u y (through L v u) (sym a) (word-low u v (vertex_word v c))
          (onward here (v, c, refl, (λ z. n (sym a ∙ z))))

  -- Cells from 2 upwards: the new dart of x lies in those of x.
  module _ (i : ℕ) where
    -- one link leads on in the cell
    step-in : (M : Links) (t a b y : ℕ) → t ≢ suc (suc i) → InCell beta M (suc (suc i)) a b → M t b ≡ y → y ≢ 0
        → InCell beta M (suc (suc i)) a y
    step-in = cell-step beta (suc (suc i)) all_beta

    -- y stands for a dart of the old cell of u: a new dart for its old one
    abbrev Stood : ℕ → ℕ → Type 0
    Stood = Reaches beta (suc (suc i)) L (StandsLow made K star)

    to-old : (u y v : ℕ) → y ≡ v → v ≤ made → InCell beta L (suc (suc i)) u v → Stood u y
    to-old = reaches-old beta (suc (suc i)) L (λ z. z ≤ made) K star (λ c u. c ≡ u)

    to-new : (u y c : ℕ) → y ≡ star c → K c → InCell beta L (suc (suc i)) u c → Stood u y
    to-new u y c e h o = reaches-new beta (suc (suc i)) L (λ z. z ≤ made) K star (λ c u. c ≡ u) u y c c e h refl o

    -- as a link led
    to-linked : (u y t : ℕ) → t ≢ suc (suc i) → y ≡ L t u → y ≢ 0 → Stood u y
    to-linked u y t m q n = to-old u y (L t u) q (low t u) (step-in L t u u (L t u) m here refl (λ z. n (q ∙ z)))

    -- a new step from an old dart
    from-old : (u y t : ℕ) → u ≤ made → t ≢ suc (suc i) → N t u ≡ y → y ≢ 0 → Stood u y
    from-old u y zero o m e n = from (decided (L 0 u))
      where
        from : K (L 0 u) ⊎ (K (L 0 u) → ⊥) → Stood u y
        from (inl h) = to-new u y (L 0 u) (sym e ∙ zero-in u h) h (step-in L 0 u u (L 0 u) m here refl (set.dart (L 0 u) h))
        from (inr k) = to-linked u y 0 m (sym e ∙ zero-else u o k) n
    from-old u y (suc zero) o m e n = from (decided u)
      where
        from : K u ⊎ (K u → ⊥) → Stood u y
        from (inl h) = to-new u y u (sym e ∙ s.first u h) h here
        from (inr k) = to-linked u y 1 m (sym e ∙ kept 1 u (omega arith) o k) n
    from-old u y (suc (suc t)) o m e n = from (decided u)
      where
        from : K u ⊎ (K u → ⊥) → Stood u y
        from (inl h) =
            let q : y ≡ star (L (suc (suc t)) u) = sym e ∙ s.new u (suc (suc t)) h (omega arith) in
            let k : L (suc (suc t)) u ≢ 0 = λ z. n (q ∙ (ap star z ∙ fresh.nothing)) in
            to-new u y (L (suc (suc t)) u) q (set.on u (suc (suc t)) h (omega arith) k)
            (step-in L (suc (suc t)) u u (L (suc (suc t)) u) m here refl k)
        from (inr k) = to-linked u y (suc (suc t)) m (sym e ∙ kept (suc (suc t)) u (omega arith) o k) n

    -- a new step from a new dart
    from-new : (x y t : ℕ) → K x → t ≢ suc (suc i) → N t (star x) ≡ y → y ≢ 0 → Stood x y
    from-new x y zero h m e n = to-old x y x (sym e ∙ zero-star x h) (edge-low x h) here
    from-new x y (suc zero) h m e n = to-linked x y 1 m (sym e ∙ s.second x h) n
    from-new x y (suc (suc t)) h m e n = to-linked x y (suc (suc t)) m (sym e ∙ s.old x (suc (suc t)) h (omega arith)) n

    -- an old step leads on, over a new dart where the edge was split
    up : (x y t : ℕ) → x ≤ made → t ≢ suc (suc i) → L t x ≡ y → y ≢ 0 → InCell beta N (suc (suc i)) x y
    up x y zero o m e n = from (decided (L 0 x))
      where
        from : K (L 0 x) ⊎ (K (L 0 x) → ⊥) → InCell beta N (suc (suc i)) x y
        from (inl h) = step-in N 0 x (star (L 0 x)) y m
            (step-in N 0 x x (star (L 0 x)) m here (zero-in x h) (fresh.dart (L 0 x) h)) (zero-star (L 0 x) h ∙ e) n
        from (inr k) = step-in N 0 x x y m here (zero-else x o k ∙ e) n
    up x y (suc zero) o m e n = from (decided x)
      where
        from : K x ⊎ (K x → ⊥) → InCell beta N (suc (suc i)) x y
        from (inl h) = step-in N 1 x (star x) y m (step-in N 1 x x (star x) m here (s.first x h) (fresh.dart x h)) (s.second x h ∙ e) n
        from (inr k) = step-in N 1 x x y m here (kept 1 x (omega arith) o k ∙ e) n
    up x y (suc (suc t)) o m e n = from (decided x)
      where
        from : K x ⊎ (K x → ⊥) → InCell beta N (suc (suc i)) x y
        from (inl h) = step-in N (suc (suc t)) x (star x) y m
            (step-in N 1 x x (star x) (omega arith) here (s.first x h) (fresh.dart x h)) (s.old x (suc (suc t)) h (omega arith) ∙ e) n
        from (inr k) = step-in N (suc (suc t)) x x y m here (kept (suc (suc t)) x (omega arith) o k ∙ e) n

    -- the cells of dimension i + 2
    keeps-high : KeepsCells beta (suc (suc i)) Live L N
    keeps-high = keeps-by-links beta (suc (suc i)) all_beta Live made counted L N to K keys star ms from-old from-new
        (λ x y t l. up x y t (counted x l).1)

  -- a vertex on an edge keeps the faces of the old darts, and their higher cells
  pub beta-vertex-keeps-faces : (j : ℕ) → 2 ≤ j → KeepsCells beta j Live L N
  beta-vertex-keeps-faces zero l = absurd (omega arith)
  beta-vertex-keeps-faces (suc zero) l = absurd (omega arith)
  beta-vertex-keeps-faces (suc (suc i)) l = keeps-high i
