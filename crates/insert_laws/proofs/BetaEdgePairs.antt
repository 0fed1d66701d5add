-- The pairs of an edge of a combinatorial map meet what the laws ask of them.
use Rattle.std.proofs.Common.{ℕ, zero, suc, ◌≡◌, ◌≢◌, ◌≤◌, ◌⊎◌, refl, sym, ap, inl, inr, ⊎_elim, ◌∙◌, arith}
use Rattle.map_defs.specs.Kind.{beta, inverse}
use Rattle.map_defs.specs.Links.{Links}
use Rattle.map_defs.specs.Laws.{Laws}
use Rattle.map_defs.specs.LinkWords.{two_links, through}
use Rattle.map_defs.specs.Cells.{here, onward, Leads}
use Rattle.map_defs.specs.Pairs.{seed, turned, across}
use Rattle.map_defs.specs.Insertion.{IsCornerWord, InBetaCorner, BetaEdgePairs, BetaEdgeLeads, AreBetaEdgePaired}
use Rattle.link_laws.proofs.Basics.{inverse_own, inverse_twice}
use Rattle.link_laws.proofs.LawFacts.{dart_of_link}
use Rattle.link_laws.proofs.Orbits.{orbit_trans, orbit_back}
use Rattle.insert_laws.proofs.BetaParts.{onward_of, backward_of, back_of, alike_onward, alike_backward}
use Rattle.insert_laws.proofs.BetaEdge.{IsTurning, before_copy}

-- the corner that belongs to a dart with link t: that dart, or the one to which link 1 leads
abbrev pub corner_at : Links → ℕ → ℕ → ℕ
corner_at L zero x = x
corner_at L (suc t) x = L (suc t) x

-- of two corners one is a copy of the corner of d, the other of that of e
abbrev pub AreCopies : Links → ℕ → ℕ → ℕ → ℕ → Type 0
AreCopies L d e a b = (InBetaCorner L d a × InBetaCorner L e b) ⊎ (InBetaCorner L e a × InBetaCorner L d b)

-- what holds of each triple of an edge
pub record IsEdgeTriple (L : Links) (d e x y t : ℕ) : Type 0 where
  pub label : (t ≡ 0) ⊎ (t ≡ 1)
  pub linked : L t x ≢ 0
  pub linked_back : L (inverse beta t) y ≢ 0
  -- the way back over the other side of the edge
  pub mirrored : BetaEdgePairs L d e (L (inverse beta t) y) (L t x) t
  pub corners : AreCopies L d e (corner_at L t x) (corner_at L (inverse beta t) y)

module _ (L : Links) (w : Laws beta L) where
  -- one step from a corner to a copy leads back too
  copy_step : (x j : ℕ) → 3 ≤ j → L j (L 0 x) ≢ 0 → Leads L IsCornerWord x (L j (L 0 x))
  copy_step x j l n = (two_links 0 j, (j, l, refl), refl, n)

  copy_back : (x y : ℕ) → x ≢ 0 → Leads L IsCornerWord x y → Leads L IsCornerWord y x
  copy_back x y hx (word, (j, l, e), q, n) =
      let a : L j (L 0 x) ≡ y = ap (λ v. through L v x) (sym e) ∙ q in
      let h0 : L 0 x ≢ 0 = dart_of_link beta L w j (L 0 x) (λ o. n (sym a ∙ o)) in
      let b : L 0 y ≡ L j x = sym (ap (L 0) a) ∙ before_copy L w j x l h0 in
      let hj : L j x ≢ 0 = λ o. n (sym a ∙ (alike_backward L w j x l h0).0 o) in
      let c : L j (L 0 y) ≡ x = ap (L j) b ∙ back_of L w j x (omega arith) hj in
      (two_links 0 j, (j, l, refl), c, hx)

  -- two corners with a common copy are copies of each other
  common_copy : (d e x : ℕ) → e ≢ 0 → InBetaCorner L d x → InBetaCorner L e x → InBetaCorner L d e
  common_copy d e x he p q = orbit_trans (Leads L IsCornerWord) d x e p (orbit_back (Leads L IsCornerWord) (λ a b g. g.3) copy_back e x he q)

  copies_on : (d e a b j : ℕ) → 3 ≤ j → L j (L 0 a) ≢ 0 → L j (L 0 b) ≢ 0 → AreCopies L d e a b → AreCopies L d e (L j (L 0 a)) (L j (L 0 b))
  copies_on d e a b j l ha hb (inl c) = inl (onward c.0 (copy_step a j l ha), onward c.1 (copy_step b j l hb))
  copies_on d e a b j l ha hb (inr c) = inr (onward c.0 (copy_step a j l ha), onward c.1 (copy_step b j l hb))

  corner_on : (x j t : ℕ) → 3 ≤ j → (t ≡ 0) ⊎ (t ≡ 1) → L t x ≢ 0 → corner_at L (inverse beta t) (L j x) ≡ L j (L 0 (corner_at L t x))
  corner_on x j zero l c n = backward_of L w j x l
  corner_on x j (suc zero) l c n = ap (L j) (sym (w.back 1 x n))
  corner_on x j (suc (suc t)) l c n = absurd (⊎_elim (λ (p : suc (suc t) ≡ 0). omega arith) (λ (p : suc (suc t) ≡ 1). omega arith) c)

  -- the dart beyond link j of a linked dart is linked the other way
  linked_on : (x j t : ℕ) → 3 ≤ j → (t ≡ 0) ⊎ (t ≡ 1) → L j x ≢ 0 → L t x ≢ 0 → L (inverse beta t) (L j x) ≢ 0
  linked_on x j zero l c hj n o = hj ((alike_backward L w j x l n).1 (sym (backward_of L w j x l) ∙ o))
  linked_on x j (suc zero) l c hj n o = hj ((alike_onward L w j x l n).1 (sym (onward_of L w j x l) ∙ o))
  linked_on x j (suc (suc t)) l c hj n o = absurd (⊎_elim (λ (p : suc (suc t) ≡ 0). omega arith) (λ (p : suc (suc t) ≡ 1). omega arith) c)

  -- link j and the links 0 and 1
  turn_on : (x j t : ℕ) → 3 ≤ j → (t ≡ 0) ⊎ (t ≡ 1) → L (inverse beta t) (L j x) ≡ L j (L t x)
  turn_on x j zero l c = backward_of L w j x l
  turn_on x j (suc zero) l c = onward_of L w j x l
  turn_on x j (suc (suc t)) l c = absurd (⊎_elim (λ (p : suc (suc t) ≡ 0). omega arith) (λ (p : suc (suc t) ≡ 1). omega arith) c)

  label_turned : (t : ℕ) → (t ≡ 0) ⊎ (t ≡ 1) → (inverse beta t ≡ 0) ⊎ (inverse beta t ≡ 1)
  label_turned t (inl e) = inr (ap (inverse beta) e)
  label_turned t (inr e) = inl (ap (inverse beta) e)

corner_there : (L : Links) (t x : ℕ) → x ≢ 0 → L t x ≢ 0 → corner_at L t x ≢ 0
corner_there L zero x hx n = hx
corner_there L (suc t) x hx n = n

copies_turned : (L : Links) (d e a b : ℕ) → AreCopies L d e a b → AreCopies L d e b a
copies_turned L d e a b (inl c) = inr (c.1, c.0)
copies_turned L d e a b (inr c) = inl (c.1, c.0)

module _ (L : Links) (w : Laws beta L) (d e : ℕ) (can : AreBetaEdgePaired L d e) where
  near_seed : IsEdgeTriple L d e (L 0 d) e 1
  near_seed = let b : L 1 (L 0 d) ≡ d = w.back 0 d can.near in record {
    label = inr refl;
    linked = λ o. dart_of_link beta L w 0 d can.near (sym b ∙ o);
    linked_back = can.far;
    mirrored = rw b (seed (inr (refl, refl, refl)));
    corners = inl (rw b here, here);
  }

  far_seed : IsEdgeTriple L d e (L 0 e) d 1
  far_seed = let b : L 1 (L 0 e) ≡ e = w.back 0 e can.far in record {
    label = inr refl;
    linked = λ o. dart_of_link beta L w 0 e can.far (sym b ∙ o);
    linked_back = can.near;
    mirrored = rw b (seed (inl (refl, refl, refl)));
    corners = inr (rw b here, here);
  }

  triple_on : (u v t j : ℕ) → IsEdgeTriple L d e u v t → 3 ≤ j → L j u ≢ 0 → L j v ≢ 0 → IsEdgeTriple L d e (L j u) (L j v) (inverse beta t)
  triple_on u v t j h l hu hv =
      let c : (inverse beta t ≡ 0) ⊎ (inverse beta t ≡ 1) = label_turned L w t h.label in
      let nu : L (inverse beta t) (L j u) ≢ 0 = linked_on L w u j t l h.label hu h.linked in
      let nv : L (inverse beta (inverse beta t)) (L j v) ≢ 0 = linked_on L w v j (inverse beta t) l c hv h.linked_back in
      let eu : L (inverse beta t) (L j u) ≡ L j (L t u) = turn_on L w u j t l h.label in
      let ev : L (inverse beta (inverse beta t)) (L j v) ≡ L j (L (inverse beta t) v) = turn_on L w v j (inverse beta t) l c in
      let cu : corner_at L (inverse beta t) (L j u) ≡ L j (L 0 (corner_at L t u)) = corner_on L w u j t l h.label h.linked in
      let cv : corner_at L (inverse beta (inverse beta t)) (L j v) ≡ L j (L 0 (corner_at L (inverse beta t) v)) = corner_on L w v j (inverse beta t) l c h.linked_back in
      let own : inverse beta j ≡ j = inverse_own beta j (omega arith) in
      record {
        label = c;
        linked = nu;
        linked_back = nv;
        mirrored = rw (eu, ev, ← ap (λ i. L i (L t u)) own) (across j l h.mirrored (λ o. nv (ev ∙ o)) (λ o. nu (eu ∙ (ap (λ i. L i (L t u)) (sym own) ∙ o))));
        corners = rw (cu, cv) (copies_on L w d e (corner_at L t u) (corner_at L (inverse beta t) v) j l
            (λ o. corner_there L (inverse beta t) (L j u) hu nu (cu ∙ o))
            (λ o. corner_there L (inverse beta (inverse beta t)) (L j v) hv nv (cv ∙ o)) h.corners);
      }

  edge_triple : (x y t : ℕ) → BetaEdgePairs L d e x y t → IsEdgeTriple L d e x y t
  edge_triple x y t (seed (inl (a, b, c))) = rw (a, b, c) near_seed
  edge_triple x y t (seed (inr (a, b, c))) = rw (a, b, c) far_seed
  edge_triple x y t (turned {x = u} {y = v} {t = c} p) = let h : IsEdgeTriple L d e u v c = edge_triple u v c p in
      let two : inverse beta (inverse beta c) ≡ c = inverse_twice beta c in record {
        label = label_turned L w c h.label;
        linked = h.linked_back;
        linked_back = rw two h.linked;
        mirrored = rw two (turned h.mirrored);
        corners = rw two (copies_turned L d e (corner_at L c u) (corner_at L (inverse beta c) v) h.corners);
      }
  edge_triple x y t (across {x = u} {y = v} {t = c} j l p hu hv) =
      let own : inverse beta j ≡ j = inverse_own beta j (omega arith) in
      let e : L (inverse beta j) v ≡ L j v = ap (λ i. L i v) own in
      rw e (triple_on u v c j (edge_triple u v c p) l hu (λ o. hv (e ∙ o)))

  module _ (apart : InBetaCorner L d e → ⊥) where
    pub not_common : (x : ℕ) → InBetaCorner L d x → InBetaCorner L e x → ⊥
    not_common x p q = apart (common_copy L w d e x (dart_of_link beta L w 0 e can.far) p q)

    lead : (x y : ℕ) → BetaEdgeLeads L d e x y → IsEdgeTriple L d e (L 0 x) y 1
    lead x y p = edge_triple (L 0 x) y 1 p.1

    pub lead_copies : (x y : ℕ) → BetaEdgeLeads L d e x y → AreCopies L d e x y
    lead_copies x y p = rw (w.back 0 x p.0) at (lead x y p).corners

    lead_both : (x y : ℕ) → BetaEdgeLeads L d e x y → BetaEdgeLeads L d e y x
    lead_both x y p = ((lead x y p).linked_back, rw (w.back 0 x p.0) at (lead x y p).mirrored)

    lead_even : (x y j : ℕ) → BetaEdgeLeads L d e x y → 3 ≤ j → L j (L 0 x) ≡ 0 → L j (L 0 y) ≡ 0
    lead_even x y j p l o =
        let q : BetaEdgePairs L d e x (L 0 y) 0 = turned (lead_both x y p).1 in
        ap (λ i. L i (L 0 y)) (sym (inverse_own beta j (omega arith))) ∙ (can.good.even x (L 0 y) 0 j q l).0 ((alike_backward L w j x l p.0).1 o)

    lead_across : (x y j : ℕ) → BetaEdgeLeads L d e x y → 3 ≤ j → L j (L 0 x) ≢ 0 → BetaEdgeLeads L d e (L j (L 0 x)) (L j (L 0 y))
    lead_across x y j p l n =
        let own : inverse beta j ≡ j = inverse_own beta j (omega arith) in
        let q : BetaEdgePairs L d e x (L 0 y) 0 = turned (lead_both x y p).1 in
        let b : L 0 (L j (L 0 x)) ≡ L j x = before_copy L w j x l p.0 in
        let hj : L j x ≢ 0 = λ o. n ((alike_backward L w j x l p.0).0 o) in
        let r : L (inverse beta j) (L 0 y) ≢ 0 = λ o. hj ((can.good.even x (L 0 y) 0 j q l).1 o) in
        ((λ o. hj (sym b ∙ o)), rw (b, ← ap (λ i. L i (L 0 y)) own) (across j l q hj r))

    not_same : (x : ℕ) → AreCopies L d e x x → ⊥
    not_same x (inl c) = not_common x c.0 c.1
    not_same x (inr c) = not_common x c.1 c.0

    not_copy : (x y j : ℕ) → 3 ≤ j → x ≢ 0 → L j (L 0 y) ≡ x → AreCopies L d e x y → ⊥
    not_copy x y j l hx q (inl c) = not_common x c.0 (rw q at (onward c.1 (copy_step L w y j l (λ o. hx (sym q ∙ o)))))
    not_copy x y j l hx q (inr c) = not_common x (rw q at (onward c.1 (copy_step L w y j l (λ o. hx (sym q ∙ o))))) c.0

    pub edge_turning : IsTurning L (BetaEdgeLeads L d e)
    edge_turning = record {
      dart = λ x y p. dart_of_link beta L w 0 x p.0;
      begins = λ x y p. p.0;
      both = lead_both;
      moves = λ x y p q. not_same x (rw q at (lead_copies x y p));
      moves_along = λ x y j p l q. not_copy x y j l (λ o. dart_of_link beta L w 0 x p.0 o) q (lead_copies x y p);
      across = lead_across;
      even = lead_even;
    }
