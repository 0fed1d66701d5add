-- Removal at a new dart of an edge in a combinatorial map is possible and gives all links back.
use Rattle.std.proofs.Common.{ℕ, zero, suc, ◌≡◌, ◌≢◌, ◌≤◌, ◌⊎◌, refl, sym, ap, inl, inr, ⊎_elim, ◌∙◌, arith}
use Rattle.map_defs.specs.Kind.{beta}
use Rattle.map_defs.specs.Links.{Links}
use Rattle.map_defs.specs.Laws.{Laws}
use Rattle.map_defs.specs.LinkWords.{one_link, through, IsCellWord}
use Rattle.map_defs.specs.Cells.{here, onward, Leads, InCell}
use Rattle.map_defs.specs.Pairs.{seed}
use Rattle.map_defs.specs.Births.{IsFresh}
use Rattle.map_defs.specs.Walks.{Walk, stop, go, step}
use Rattle.map_defs.specs.Removal.{CommutesAt, across_removed, IsRemovable, IsRemoved}
use Rattle.map_defs.specs.Insertion.{IsCut, InBetaCorner, BetaEdgeLeads, BetaEdgeDarts, AreBetaEdgePaired, IsBetaEdge}
use Rattle.link_laws.proofs.Basics.{by_cases, same_or_not}
use Rattle.link_laws.proofs.InverseLinks.{turned_one, turned_of_laws}
use Rattle.link_laws.proofs.Orbits.{orbit_back, orbit_trans}
use Rattle.remove_laws.proofs.TotalSteps.{step_free, step_there}
use Rattle.insert_laws.proofs.Fresh.{IsNew, fresh_link, fresh_old}
use Rattle.insert_laws.proofs.BetaEdge.{IsTurning, IsCorner, ComesBefore, one_out}
use Rattle.insert_laws.proofs.BetaEdgeLaws.{high_out, side_at, cut_keeps}
use Rattle.insert_laws.proofs.BetaEdgePairs.{AreCopies, edge_turning, lead_copies}
use Rattle.back_laws.proofs.VertexBack.{high_word, edge_word_back}

module _ (L : Links) (w : Laws beta L) (Turn : ℕ → ℕ → Type 0) (turn : IsTurning L Turn) (star : ℕ → ℕ) (fresh : IsFresh L (IsCorner Turn) star) (N : Links) (s : IsCut Turn star L N) where
  -- the edge holds new darts alone
  link_new : (j x y : ℕ) → 2 ≤ j → Turn x y → N j (star x) ≢ 0 → IsNew (IsCorner Turn) star (N j (star x))
  link_new j x y l p n = ⊎_elim
      (λ (e : j ≡ 2). (y, (x, turn.both x y p), ap (λ t. N t (star x)) e ∙ s.sides x y p))
      (λ (o : j ≢ 2).
      let l3 : 3 ≤ j = omega arith in
      let a : N j (star x) ≡ star (L j (L 0 y)) = s.along x y j p l3 in
      let m : L j (L 0 y) ≢ 0 = λ z. n (a ∙ (ap star z ∙ fresh.nothing)) in
      (L j (L 0 y), (L j (L 0 x), turn.across y x j (turn.both x y p) l3 m), a))
      (same_or_not j 2)

  pub cut_cell_new : (x0 x : ℕ) → IsCorner Turn x0 → InCell beta N 1 (star x0) x → IsNew (IsCorner Turn) star x
  cut_cell_new x0 x h0 here = (x0, h0, refl)
  cut_cell_new x0 x h0 (onward {x = y} {y = z} o (v, c, e, n)) =
      let q : IsNew (IsCorner Turn) star y = cut_cell_new x0 y h0 o in
      let j : (j : ℕ) × (2 ≤ j) × (v ≡ one_link j) = high_word v c in
      let a : N j.0 (star q.0) ≡ z = ap (N j.0) (sym q.2) ∙ (ap (λ t. through N t y) (sym j.2) ∙ e) in
      rw (← a) (link_new j.0 q.0 q.1.0 j.1 q.1.1 (λ o. n (sym a ∙ o)))

  link_cell : (c j y z : ℕ) → 2 ≤ j → InCell beta N 1 c y → N j y ≡ z → z ≢ 0 → InCell beta N 1 c z
  link_cell c j y z l o e n = onward o (one_link j, inl (j, l, refl), e, n)

  -- with the new dart of a corner the cell holds that of each copy, and that to which the corner leads
  pub cell_side : (c x y : ℕ) → Turn x y → InCell beta N 1 c (star x) → InCell beta N 1 c (star y)
  cell_side c x y p o = link_cell c 2 (star x) (star y) (omega arith) o (s.sides x y p) (fresh.dart y (x, turn.both x y p))

  pub cell_copy : (c x j : ℕ) → IsCorner Turn x → 3 ≤ j → L j (L 0 x) ≢ 0 → InCell beta N 1 c (star x) → InCell beta N 1 c (star (L j (L 0 x)))
  cell_copy c x j (y, p) l n o =
      let q : Turn y x = turn.both x y p in
      link_cell c j (star y) (star (L j (L 0 x))) (omega arith) (cell_side c x y p o) (s.along y x j q l) (fresh.dart (L j (L 0 x)) (L j (L 0 y), turn.across x y j p l n))

  cell_copies : (c d x : ℕ) → IsCorner Turn d → InCell beta N 1 c (star d) → InBetaCorner L d x → IsCorner Turn x × InCell beta N 1 c (star x)
  cell_copies c d x h o here = (h, o)
  cell_copies c d x h o (onward {x = u} {y = v} p (word, (j, l, e), q, n)) =
      let r : IsCorner Turn u × InCell beta N 1 c (star u) = cell_copies c d u h o p in
      let a : L j (L 0 u) ≡ v = ap (λ t. through L t u) (sym e) ∙ q in
      let m : L j (L 0 u) ≢ 0 = λ z. n (sym a ∙ z) in (
        rw (← a) (L j (L 0 r.0.0), turn.across u r.0.0 j r.0.1 l m),
        rw (← a) (cell_copy c u j r.0 l m r.1),
      )

  module _ (d e : ℕ) (p : Turn d e) (span : (x : ℕ) → IsCorner Turn x → InBetaCorner L d x ⊎ InBetaCorner L e x) where
    reach : (x : ℕ) → IsCorner Turn x → InCell beta N 1 (star d) (star x)
    reach x h = ⊎_elim
        (λ c. (cell_copies (star d) d x (e, p) here c).1)
        (λ c. (cell_copies (star d) e x (d, turn.both d e p) (cell_side (star d) d e p here) c).1)
        (span x h)

    cut_cell_all : (x0 x : ℕ) → IsCorner Turn x0 → IsCorner Turn x → InCell beta N 1 (star x0) (star x)
    cut_cell_all x0 x h0 h = orbit_trans (Leads N (IsCellWord beta 1)) (star x0) (star d) (star x)
        (orbit_back (Leads N (IsCellWord beta 1)) (λ a b g. g.3) (edge_word_back N (cut_keeps L w Turn turn star fresh N s)) (star d) (star x0) (fresh.dart d (e, p)) (reach x0 h0))
        (reach x h)

    -- the two sides and the copies commute
    commutes : (x y : ℕ) → Turn x y → CommutesAt N 2 3 (star x)
    commutes x y q =
        let r : Turn y x = turn.both x y q in
        let a : N 2 (star x) ≡ star y = s.sides x y q in
        let b : N 3 (star x) ≡ star (L 3 (L 0 y)) = s.along x y 3 q (omega arith) in
        let c : N 3 (star y) ≡ star (L 3 (L 0 x)) = s.along y x 3 r (omega arith) in
        let hy : N 2 (star x) ≢ 0 = λ o. fresh.dart y (x, r) (sym a ∙ o) in
        let d2 : step N 2 (star x) ≡ star y = step_there N 2 (star x) hy ∙ a in
        ⊎_elim
        (λ (o : L 3 (L 0 y) ≡ 0).
        let d3 : step N 3 (star x) ≡ star x = step_free N 3 (star x) (b ∙ (ap star o ∙ fresh.nothing)) in
        let e3 : step N 3 (star y) ≡ star y = step_free N 3 (star y) (c ∙ (ap star (turn.even y x 3 r (omega arith) o) ∙ fresh.nothing)) in cc)
        (λ (n : L 3 (L 0 y) ≢ 0).
        let tc : Turn (L 3 (L 0 y)) (L 3 (L 0 x)) = turn.across y x 3 r (omega arith) n in
        let d3 : step N 3 (star x) ≡ star (L 3 (L 0 y)) = step_there N 3 (star x) (λ z. fresh.dart (L 3 (L 0 y)) (L 3 (L 0 x), tc) (sym b ∙ z)) ∙ b in
        let f : N 2 (star (L 3 (L 0 y))) ≡ star (L 3 (L 0 x)) = side_at L w Turn turn star fresh N s x y 3 q (omega arith) in
        let hx : star (L 3 (L 0 x)) ≢ 0 = fresh.dart (L 3 (L 0 x)) (L 3 (L 0 y), turn.both (L 3 (L 0 y)) (L 3 (L 0 x)) tc) in
        let g : step N 2 (star (L 3 (L 0 y))) ≡ star (L 3 (L 0 x)) = step_there N 2 (star (L 3 (L 0 y))) (λ z. hx (sym f ∙ z)) ∙ f in
        let e3 : step N 3 (star y) ≡ star (L 3 (L 0 x)) = step_there N 3 (star y) (λ z. hx (sym c ∙ z)) ∙ c in cc)
        (same_or_not (L 3 (L 0 y)) 0)

    module _ (x0 : ℕ) (h0 : IsCorner Turn x0) where
      outside : (x : ℕ) → (IsNew (IsCorner Turn) star x → ⊥) → InCell beta N 1 (star x0) x → ⊥
      outside x n c = n (cut_cell_new x0 x h0 c)

      pub cut_removable : IsRemovable beta N 1 (star x0)
      cut_removable = record {
        each = λ b c. let v : IsNew (IsCorner Turn) star b = cut_cell_new x0 b h0 c in rw v.2 (commutes v.0 v.1.0 v.1.1);
        apart = tt;
      }

      -- link 1 of a dart before a corner leads over the new dart to the corner
      walk_corner : (c y : ℕ) → Turn c y → Walk (InCell beta N 1 (star x0)) (across_removed beta N 1) (N 1 (L 0 c)) c
      walk_corner c y q =
          let a : N 1 (N 2 (star c)) ≡ c = ap (N 1) (s.sides c y q) ∙ s.onward y c (turn.both c y q) in
          let t : Walk (InCell beta N 1 (star x0)) (across_removed beta N 1) c c = stop (outside c (fresh_old beta L w (IsCorner Turn) star fresh c (y, q))) in
          let u : Walk (InCell beta N 1 (star x0)) (across_removed beta N 1) (N 1 (N 2 (star c))) c = rw a t in
          rw (s.into c y q) (go (cut_cell_all x0 c h0 (y, q)) u)

      walk_else : (x : ℕ) → (IsNew (IsCorner Turn) star x → ⊥) → (ComesBefore L Turn x → ⊥) → Walk (InCell beta N 1 (star x0)) (across_removed beta N 1) (N 1 x) (L 1 x)
      walk_else x n m =
          let t : Walk (InCell beta N 1 (star x0)) (across_removed beta N 1) (L 1 x) (L 1 x) = stop (outside (L 1 x) (fresh_link beta L w (IsCorner Turn) star fresh 1 x)) in
          rw (one_out L w Turn turn star fresh N s x n m) t

      module _ (M : Links) (r : IsRemoved beta 1 (star x0) N M) where
        gone : (t x : ℕ) → IsCorner Turn x → M t (star x) ≡ L t (star x)
        gone t x h = r.gone (star x) t (cut_cell_all x0 x h0 h) ∙ sym (fresh.unlinked t x h)

        one_back : (x : ℕ) → M 1 x ≡ L 1 x
        one_back x = by_cases (IsNew (IsCorner Turn) star x) (M 1 x) (L 1 x)
            (λ v. rw v.2 (gone 1 v.0 v.1))
            (λ n. by_cases (ComesBefore L Turn x) (M 1 x) (L 1 x)
            (λ (c, y, q, e).
            let k : InCell beta N 1 (star x0) (L 0 c) → ⊥ = outside (L 0 c) (fresh_link beta L w (IsCorner Turn) star fresh 0 c) in
            rw e (r.lands (L 0 c) c k (walk_corner c y q) ∙ sym (w.back 0 c (turn.begins c y q))))
            (λ m. r.lands x (L 1 x) (outside x n) (walk_else x n m)))

        high_back : (t x : ℕ) → 2 ≤ t → M t x ≡ L t x
        high_back t x l = by_cases (IsNew (IsCorner Turn) star x) (M t x) (L t x)
            (λ v. rw v.2 (gone t v.0 v.1))
            (λ n. r.kept x t (outside x n) (λ o. omega arith) (λ (o : t ≡ 0). omega arith) ∙ high_out L w Turn turn star fresh N s t x l n)

        pub cut_back_all : (t x : ℕ) → M t x ≡ L t x
        cut_back_all zero x = turned_one M L (r.turned refl) (turned_of_laws L w) one_back x
        cut_back_all (suc zero) x = one_back x
        cut_back_all (suc (suc t)) x = high_back (suc (suc t)) x (omega arith)

-- the edge from d to e leads from the corner of d to that of e, and its corners are copies of these
module _ (L : Links) (w : Laws beta L) (d e : ℕ) (apart : InBetaCorner L d e → ⊥) (can : AreBetaEdgePaired L d e) where
  edge_leads : BetaEdgeLeads L d e d e
  edge_leads = (can.near, seed (inl (refl, refl, refl)))

  either_copy : (x y : ℕ) → AreCopies L d e x y → InBetaCorner L d x ⊎ InBetaCorner L e x
  either_copy x y (inl c) = inl c.0
  either_copy x y (inr c) = inr c.0

  edge_span : (x : ℕ) → BetaEdgeDarts L d e x → InBetaCorner L d x ⊎ InBetaCorner L e x
  edge_span x h = either_copy x h.0 (lead_copies L w d e can apart x h.0 h.1)

  module _ (star : ℕ → ℕ) (fresh : IsFresh L (BetaEdgeDarts L d e) star) (N : Links) (s : IsBetaEdge d e star L N) (x0 : ℕ) (h0 : BetaEdgeDarts L d e x0) where
    pub edge_removable : IsRemovable beta N 1 (star x0)
    edge_removable = cut_removable L w (BetaEdgeLeads L d e) (edge_turning L w d e can apart) star fresh N s d e edge_leads edge_span x0 h0

    pub edge_back : (M : Links) → IsRemoved beta 1 (star x0) N M → (t x : ℕ) → M t x ≡ L t x
    edge_back M r = cut_back_all L w (BetaEdgeLeads L d e) (edge_turning L w d e can apart) star fresh N s d e edge_leads edge_span x0 h0 M r
