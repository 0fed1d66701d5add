-- A vertex and an edge of a combinatorial map are taken out at their first new dart.
use Rattle.std.proofs.Common.{ℕ, ◌≡◌, ◌≢◌, ◌+◌, ◌≤◌, ◌⊎◌, refl, sym, ap, inl, inr, ◌∙◌, arith, List, length}
use Rattle.map_defs.specs.Kind.{beta}
use Rattle.map_defs.specs.Links.{Links, IsMadeUpTo}
use Rattle.map_defs.specs.Laws.{Laws}
use Rattle.map_defs.specs.LinkWords.{LinkWord, one_link, two_links, through, IsCellWord}
use Rattle.map_defs.specs.Cells.{InOrbit, here, onward, Leads, InCell}
use Rattle.map_defs.specs.Pairs.{seed}
use Rattle.map_defs.specs.Births.{IsNumbered, IsFresh}
use Rattle.map_defs.specs.Insertion.{IsBetaVertex, InBetaCorner, BetaEdgeLeads, BetaEdgeDarts, AreBetaEdgePaired, IsBetaEdge}
use Rattle.link_laws.proofs.VertexWords.{IsVertexStep, leave, enter, pass, vertex_word}
use Rattle.link_laws.proofs.Orbits.{orbit_back, orbit_trans}
use Rattle.insert_laws.proofs.Fresh.{IsNew, InOrNone, fresh_zero}
use Rattle.insert_laws.proofs.Numbers.{numbered_fresh}
use Rattle.insert_laws.proofs.BetaVertex.{IsEdgeSet, edge_set, on_or_none, new_at, first_at, back_new}
use Rattle.insert_laws.proofs.BetaEdgePairs.{AreCopies, edge_turning, lead_copies}
use Rattle.back_laws.proofs.VertexBack.{high_word, edge_word_back, vertex_removable, vertex_back}
use Rattle.insert_laws.proofs.BetaEdgeLaws.{cut_keeps}
use Rattle.back_laws.proofs.EdgeBack.{cut_cell_new, cell_side, cell_copy, edge_removable, edge_back}
use Rattle.map_laws.proofs.TakenOut.{IsTakenOut, taken-out}

-- the cell of a new vertex holds its new darts and no other
module _ (L : Links) (w : Laws beta L) (d : ℕ) (hd : d ≢ 0) (star : ℕ → ℕ) (fresh : IsFresh L (InCell beta L 1 d) star) (N : Links) (s : IsBetaVertex d star L N) where
  set : IsEdgeSet L (InCell beta L 1 d)
  set = edge_set L d hd

  high-none : (x j : ℕ) → InOrNone (InCell beta L 1 d) x → 2 ≤ j → InOrNone (InCell beta L 1 d) (L j x)
  high-none = on_or_none L w (InCell beta L 1 d) set star fresh N s

  step-new : (v : LinkWord) → IsVertexStep v → (x : ℕ) → InCell beta L 1 d x → (u : ℕ) × InOrNone (InCell beta L 1 d) u × (through N v (star x) ≡ star u)
  step-new v (leave j l) x h =
      let o : InOrNone (InCell beta L 1 d) (L j x) = high-none x j (inl h) l in
      (L j x, o, ap (N 1) (s.old x j h l) ∙ first_at L w (InCell beta L 1 d) set star fresh N s (L j x) o)
  step-new v (enter j l) x h =
      (L j x, high-none x j (inl h) l, ap (N j) (back_new L w (InCell beta L 1 d) set star fresh N s x (inl h)) ∙ s.new x j h l)
  step-new v (pass i j a b) x h =
      let o : InOrNone (InCell beta L 1 d) (L i x) = high-none x i (inl h) a in
      (L j (L i x), high-none (L i x) j o b, ap (N j) (s.old x i h a) ∙ new_at L w (InCell beta L 1 d) set star fresh N s j (L i x) b o)

  vertex-new : (x y : ℕ) → InCell beta L 1 d x → InCell beta N 0 (star x) y → IsNew (InCell beta L 1 d) star y
  vertex-new x y h here = (x, h, refl)
  vertex-new x y h (onward {x = u} {y = z} o (v, c, e, n)) =
      let q : IsNew (InCell beta L 1 d) star u = vertex-new x u h o in
      let r : (c : ℕ) × InOrNone (InCell beta L 1 d) c × (through N v (star q.0) ≡ star c) = step-new v (vertex_word v c) q.0 q.1 in
      let a : z ≡ star r.0 = sym e ∙ (ap (through N v) q.2 ∙ r.2) in
      (r.0, fresh_zero beta L w (InCell beta L 1 d) star fresh r.0 r.1 (λ t. n (a ∙ t)), a)

  vertex-on : (c x j : ℕ) → 2 ≤ j → InCell beta L 1 d x → L j x ≢ 0 → InCell beta N 0 c (star x) → InCell beta N 0 c (star (L j x))
  vertex-on c x j l h n o =
      let g : InCell beta L 1 d (L j x) = set.on x j h l n in
      let e : N 1 (N j (star x)) ≡ star (L j x) = ap (N 1) (s.old x j h l) ∙ s.first (L j x) g in
      onward o (two_links j 1, inl (1, j, omega arith, omega arith, refl), e, fresh.dart (L j x) g)

  vertex-from : (c x y : ℕ) → InCell beta L 1 d x → InCell beta N 0 c (star x) → InOrbit (Leads L (IsCellWord beta 1)) x y → InCell beta L 1 d y × InCell beta N 0 c (star y)
  vertex-from c x y h o here = (h, o)
  vertex-from c x y h o (onward {x = u} {y = z} p (v, cw, e, n)) =
      let r : InCell beta L 1 d u × InCell beta N 0 c (star u) = vertex-from c x u h o p in
      let q : (j : ℕ) × (2 ≤ j) × (v ≡ one_link j) = high_word v cw in
      let a : L q.0 u ≡ z = ap (λ t. through L t u) (sym q.2) ∙ e in
      let m : L q.0 u ≢ 0 = λ t. n (sym a ∙ t) in
      (rw (← a) (set.on u q.0 r.0 q.1 m), rw (← a) (vertex-on c u q.0 q.1 r.0 m r.1))

  vertex-all : (x y : ℕ) → InCell beta L 1 d x → InCell beta L 1 d y → InCell beta N 0 (star x) (star y)
  vertex-all x y h g = (vertex-from (star x) x y h here
      (orbit_trans (Leads L (IsCellWord beta 1)) x d y (orbit_back (Leads L (IsCellWord beta 1)) (λ a b t. t.3) (edge_word_back L w) d x hd h) g)).1

-- the corners of a new edge are copies of the two that it joins
module _ (L : Links) (w : Laws beta L) (d e : ℕ) (apart : InBetaCorner L d e → ⊥) (can : AreBetaEdgePaired L d e) where
  edge-leads : BetaEdgeLeads L d e d e
  edge-leads = (can.near, seed (inl (refl, refl, refl)))

  either-copy : (x y : ℕ) → AreCopies L d e x y → InBetaCorner L d x ⊎ InBetaCorner L e x
  either-copy x y (inl c) = inl c.0
  either-copy x y (inr c) = inr c.0

  edge-span : (x : ℕ) → BetaEdgeDarts L d e x → InBetaCorner L d x ⊎ InBetaCorner L e x
  edge-span x h = either-copy x h.0 (lead_copies L w d e can apart x h.0 h.1)

  -- and its cell holds all new darts
  module _ (star : ℕ → ℕ) (fresh : IsFresh L (BetaEdgeDarts L d e) star) (N : Links) (s : IsBetaEdge d e star L N) where
    edge-copies : (b x : ℕ) → BetaEdgeDarts L d e b → InCell beta N 1 (star d) (star b) → InBetaCorner L b x → BetaEdgeDarts L d e x × InCell beta N 1 (star d) (star x)
    edge-copies b x h o here = (h, o)
    edge-copies b x h o (onward {x = u} {y = v} p (word, (j, l, f), q, n)) =
        let turn = edge_turning L w d e can apart in
        let (g, inside) = edge-copies b u h o p in
        let a : L j (L 0 u) ≡ v = ap (λ t. through L t u) (sym f) ∙ q in
        let m : L j (L 0 u) ≢ 0 = λ z. n (sym a ∙ z) in (
          rw (← a) (L j (L 0 g.0), turn.across u g.0 j g.1 l m),
          rw (← a) (cell_copy L w (BetaEdgeLeads L d e) turn star fresh N s (star d) u j g l m inside),
        )

    edge-reach : (x : ℕ) → BetaEdgeDarts L d e x → InCell beta N 1 (star d) (star x)
    edge-reach x h = elim (edge-span x h) [
      | inl c ↦ (edge-copies d x (e, edge-leads) here c).1
      | inr c ↦
          let turn = edge_turning L w d e can apart in
          (edge-copies e x (d, turn.both d e edge-leads)
          (cell_side L w (BetaEdgeLeads L d e) turn star fresh N s (star d) d e edge-leads here) c).1
    ]

    edge-all : (x y : ℕ) → BetaEdgeDarts L d e x → BetaEdgeDarts L d e y → InCell beta N 1 (star x) (star y)
    edge-all x y h g = orbit_trans (Leads N (IsCellWord beta 1)) (star x) (star d) (star y)
        (orbit_back (Leads N (IsCellWord beta 1)) (λ a b t. t.3) (edge_word_back N (cut_keeps L w (BetaEdgeLeads L d e) (edge_turning L w d e can apart) star fresh N s))
        (star d) (star x) (fresh.dart d (e, edge-leads)) (edge-reach x h))
        (edge-reach y g)

module _ (L : Links) (w : Laws beta L) (keys : List ℕ) (made : ℕ) (star : ℕ → ℕ) (bound : IsMadeUpTo made L) (N : Links) where
  pub beta-vertex-out : (d : ℕ) → d ≢ 0 → IsNumbered (InCell beta L 1 d) keys made star → ((x : ℕ) → InCell beta L 1 d x → x ≤ made)
      → IsBetaVertex d star L N → IsTakenOut beta 0 (made + 1) made (length keys) L N
  beta-vertex-out d hd m low s =
      let fresh : IsFresh L (InCell beta L 1 d) star = numbered_fresh (InCell beta L 1 d) keys made star m L low bound in
      taken-out (InCell beta L 1 d) keys made star m d here beta 0 L N
      (λ x h. vertex_removable L w d hd star fresh N s x h)
      (λ x h M r. vertex_back L w d hd star fresh N s x h M r)
      (λ x y h old c. old (vertex-new L w d hd star fresh N s x y h c))
      (vertex-all L w d hd star fresh N s)

  pub beta-edge-out : (d e : ℕ) → (InBetaCorner L d e → ⊥) → AreBetaEdgePaired L d e → IsNumbered (BetaEdgeDarts L d e) keys made star
      → ((x : ℕ) → BetaEdgeDarts L d e x → x ≤ made) → IsBetaEdge d e star L N → IsTakenOut beta 1 (made + 1) made (length keys) L N
  beta-edge-out d e apart can m low s =
      let fresh : IsFresh L (BetaEdgeDarts L d e) star = numbered_fresh (BetaEdgeDarts L d e) keys made star m L low bound in
      let turn = edge_turning L w d e can apart in
      taken-out (BetaEdgeDarts L d e) keys made star m d (e, edge-leads L w d e apart can) beta 1 L N
      (λ x h. edge_removable L w d e apart can star fresh N s x h)
      (λ x h M r. edge_back L w d e apart can star fresh N s x h M r)
      (λ x y h old c. old (cut_cell_new L w (BetaEdgeLeads L d e) turn star fresh N s x y h c))
      (edge-all L w d e apart can star fresh N s)
