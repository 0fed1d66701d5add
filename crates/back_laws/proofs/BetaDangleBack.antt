-- Removal at a new dart of a dangling edge in a combinatorial map is possible and gives all links back.
use Rattle.std.proofs.Common.{ℕ, zero, suc, ◌≡◌, ◌≢◌, ◌≤◌, ◌⊎◌, refl, sym, ap, inl, inr, ⊎_elim, ◌∙◌, arith}
use Rattle.map_defs.specs.Kind.{beta}
use Rattle.map_defs.specs.Links.{Links}
use Rattle.map_defs.specs.Laws.{Laws}
use Rattle.map_defs.specs.LinkWords.{one_link, two_links, through, IsCellWord}
use Rattle.map_defs.specs.Cells.{here, onward, Leads, InCell}
use Rattle.map_defs.specs.Births.{IsFresh}
use Rattle.map_defs.specs.Walks.{Walk, stop, go, step}
use Rattle.map_defs.specs.Removal.{CommutesAt, across_removed, IsRemovable, IsRemoved}
use Rattle.map_defs.specs.Insertion.{InBetaCorner}
use Rattle.map_defs.specs.Closing.{IsBetaDangled}
use Rattle.link_laws.proofs.Basics.{by_cases, same_or_not}
use Rattle.link_laws.proofs.InverseLinks.{turned_one, turned_of_laws}
use Rattle.link_laws.proofs.Orbits.{orbit_back, orbit_trans}
use Rattle.remove_laws.proofs.TotalSteps.{step_free, step_there}
use Rattle.insert_laws.proofs.Fresh.{IsNew, fresh_link, fresh_old}
use Rattle.center_laws.proofs.BetaDangle.{corner_begins, dangle_keeps}
use Rattle.back_laws.proofs.VertexBack.{high_word, edge_word_back}

module _ (L : Links) (w : Laws beta L) (d : ℕ) (linked : L 0 d ≢ 0) (star tip : ℕ → ℕ) (fresh_star : IsFresh L (InBetaCorner L d) star) (fresh_tip : IsFresh L (InBetaCorner L d) tip) (two : (x y : ℕ) → InBetaCorner L d x → InBetaCorner L d y → star x ≢ tip y) (N : Links) (s : IsBetaDangled d star tip L N) where
  -- the new edge holds its two series of new darts alone
  IsEnd : ℕ → Type 0
  IsEnd z = IsNew (InBetaCorner L d) star z ⊎ IsNew (InBetaCorner L d) tip z

  into : (x j : ℕ) → 3 ≤ j → InBetaCorner L d x → L j (L 0 x) ≢ 0 → InBetaCorner L d (L j (L 0 x))
  into x j l h n = onward h (two_links 0 j, (j, l, refl), refl, n)

  link_end : (j z : ℕ) → 2 ≤ j → IsEnd z → N j z ≢ 0 → IsEnd (N j z)
  unfolding IsEnd
  link_end j z l (inl (x, h, e)) n = ⊎_elim
      (λ (o : j ≡ 2). inr (x, h, ap (λ t. N t z) o ∙ (ap (N 2) e ∙ s.sides x h)))
      (λ (m : j ≢ 2).
      let l3 : 3 ≤ j = omega arith in
      let a : N j z ≡ tip (L j (L 0 x)) = ap (N j) e ∙ s.along x j h l3 in
      inr (L j (L 0 x), into x j l3 h (λ o. n (a ∙ (ap tip o ∙ fresh_tip.nothing))), a))
      (same_or_not j 2)
  link_end j z l (inr (x, h, e)) n = ⊎_elim
      (λ (o : j ≡ 2). inl (x, h, ap (λ t. N t z) o ∙ (ap (N 2) e ∙ s.sides_back x h)))
      (λ (m : j ≢ 2).
      let l3 : 3 ≤ j = omega arith in
      let a : N j z ≡ star (L j (L 0 x)) = ap (N j) e ∙ s.along_tip x j h l3 in
      inl (L j (L 0 x), into x j l3 h (λ o. n (a ∙ (ap star o ∙ fresh_star.nothing))), a))
      (same_or_not j 2)

  cell_ends : (c x : ℕ) → IsEnd c → InCell beta N 1 c x → IsEnd x
  cell_ends c x h here = h
  cell_ends c x h (onward {x = y} {y = z} o (v, q, e, n)) =
      let j : (j : ℕ) × (2 ≤ j) × (v ≡ one_link j) = high_word v q in
      let a : N j.0 y ≡ z = ap (λ t. through N t y) (sym j.2) ∙ e in
      rw (← a) (link_end j.0 y j.1 (cell_ends c y h o) (λ m. n (sym a ∙ m)))

  -- and holds them all
  link_cell : (c j y z : ℕ) → 2 ≤ j → InCell beta N 1 c y → N j y ≡ z → z ≢ 0 → InCell beta N 1 c z
  link_cell c j y z l o e n = onward o (one_link j, inl (j, l, refl), e, n)

  tip_in : (c x : ℕ) → InBetaCorner L d x → InCell beta N 1 c (star x) → InCell beta N 1 c (tip x)
  tip_in c x h o = link_cell c 2 (star x) (tip x) (omega arith) o (s.sides x h) (fresh_tip.dart x h)

  reach : (x : ℕ) → InBetaCorner L d x → InCell beta N 1 (star d) (star x)
  reach x here = here
  reach x (onward {x = u} {y = v} p (word, (j, l, e), q, n)) =
      let a : L j (L 0 u) ≡ v = ap (λ t. through L t u) (sym e) ∙ q in
      let m : L j (L 0 u) ≢ 0 = λ z. n (sym a ∙ z) in
      let o : InCell beta N 1 (star d) (tip u) = tip_in (star d) u p (reach u p) in
      let i : InCell beta N 1 (star d) (star (L j (L 0 u))) = link_cell (star d) j (tip u) (star (L j (L 0 u))) (omega arith) o (s.along_tip u j p l) (fresh_star.dart (L j (L 0 u)) (into u j l p m)) in
      rw (← a) i

  -- the two sides and the copies commute
  free_or_in : (x : ℕ) → InBetaCorner L d x → InBetaCorner L d (L 3 (L 0 x)) ⊎ (L 3 (L 0 x) ≡ 0)
  free_or_in x h = ⊎_elim (λ z. inr z) (λ n. inl (into x 3 (omega arith) h n)) (same_or_not (L 3 (L 0 x)) 0)

  commutes_of : (f g : ℕ → ℕ) → IsFresh L (InBetaCorner L d) f → IsFresh L (InBetaCorner L d) g → ((x : ℕ) → InBetaCorner L d x → N 2 (f x) ≡ g x) → ((x : ℕ) → InBetaCorner L d x → N 2 (g x) ≡ f x) → ((x : ℕ) → InBetaCorner L d x → N 3 (f x) ≡ g (L 3 (L 0 x))) → ((x : ℕ) → InBetaCorner L d x → N 3 (g x) ≡ f (L 3 (L 0 x))) → (x : ℕ) → InBetaCorner L d x → CommutesAt N 2 3 (f x)
  commutes_of f g fresh_f fresh_g two_f two_g three_f three_g x h =
      let a : N 2 (f x) ≡ g x = two_f x h in
      let a2 : step N 2 (f x) ≡ g x = step_there N 2 (f x) (λ o. fresh_g.dart x h (sym a ∙ o)) ∙ a in
      let b : N 3 (f x) ≡ g (L 3 (L 0 x)) = three_f x h in
      let c : N 3 (g x) ≡ f (L 3 (L 0 x)) = three_g x h in
      ⊎_elim
      (λ (k : InBetaCorner L d (L 3 (L 0 x))).
      let b3 : step N 3 (f x) ≡ g (L 3 (L 0 x)) = step_there N 3 (f x) (λ o. fresh_g.dart (L 3 (L 0 x)) k (sym b ∙ o)) ∙ b in
      let c3 : step N 3 (g x) ≡ f (L 3 (L 0 x)) = step_there N 3 (g x) (λ o. fresh_f.dart (L 3 (L 0 x)) k (sym c ∙ o)) ∙ c in
      let e : N 2 (g (L 3 (L 0 x))) ≡ f (L 3 (L 0 x)) = two_g (L 3 (L 0 x)) k in
      let e2 : step N 2 (g (L 3 (L 0 x))) ≡ f (L 3 (L 0 x)) = step_there N 2 (g (L 3 (L 0 x))) (λ o. fresh_f.dart (L 3 (L 0 x)) k (sym e ∙ o)) ∙ e in cc)
      (λ (z : L 3 (L 0 x) ≡ 0).
      let b3 : step N 3 (f x) ≡ f x = step_free N 3 (f x) (b ∙ (ap g z ∙ fresh_g.nothing)) in
      let c3 : step N 3 (g x) ≡ g x = step_free N 3 (g x) (c ∙ (ap f z ∙ fresh_f.nothing)) in cc)
      (free_or_in x h)

  each : (x : ℕ) → IsEnd x → CommutesAt N 2 3 x
  unfolding IsEnd
  each x (inl (y, h, e)) = rw e (commutes_of star tip fresh_star fresh_tip s.sides s.sides_back (λ z k. s.along z 3 k (omega arith)) (λ z k. s.along_tip z 3 k (omega arith)) y h)
  each x (inr (y, h, e)) = rw e (commutes_of tip star fresh_tip fresh_star s.sides_back s.sides (λ z k. s.along_tip z 3 k (omega arith)) (λ z k. s.along z 3 k (omega arith)) y h)

  old_link : (t z : ℕ) → IsEnd (L t z) → ⊥
  unfolding IsEnd
  old_link t z (inl v) = fresh_link beta L w (InBetaCorner L d) star fresh_star t z v
  old_link t z (inr v) = fresh_link beta L w (InBetaCorner L d) tip fresh_tip t z v

  old_in : (z : ℕ) → InBetaCorner L d z → IsEnd z → ⊥
  unfolding IsEnd
  old_in z h (inl v) = fresh_old beta L w (InBetaCorner L d) star fresh_star z h v
  old_in z h (inr v) = fresh_old beta L w (InBetaCorner L d) tip fresh_tip z h v

  abbrev ComesBefore : ℕ → Type 0
  ComesBefore z = (c : ℕ) × InBetaCorner L d c × (z ≡ L 0 c)

  high_kept : (t z : ℕ) → 2 ≤ t → (IsEnd z → ⊥) → N t z ≡ L t z
  unfolding IsEnd
  high_kept t z l n = s.kept z t (omega arith) (λ y h e. omega arith) (λ y h e. n (inl (y, h, e))) (λ y h e. n (inr (y, h, e)))

  one_kept : (z : ℕ) → (IsEnd z → ⊥) → (ComesBefore z → ⊥) → N 1 z ≡ L 1 z
  unfolding IsEnd
  one_kept z n m = s.kept z 1 (omega arith) (λ y h e q. m (y, h, q)) (λ y h e. n (inl (y, h, e))) (λ y h e. n (inr (y, h, e)))

  module _ (x0 : ℕ) (h0 : InBetaCorner L d x0) where
    edge_new : (x : ℕ) → InCell beta N 1 (star x0) x → IsEnd x
    unfolding IsEnd
    edge_new x c = cell_ends (star x0) x (inl (x0, h0, refl)) c

    outside : (x : ℕ) → (IsEnd x → ⊥) → InCell beta N 1 (star x0) x → ⊥
    outside x n c = n (edge_new x c)

    star_all : (x : ℕ) → InBetaCorner L d x → InCell beta N 1 (star x0) (star x)
    star_all x h = orbit_trans (Leads N (IsCellWord beta 1)) (star x0) (star d) (star x)
        (orbit_back (Leads N (IsCellWord beta 1)) (λ a b g. g.3) (edge_word_back N (dangle_keeps L w d linked star tip fresh_star fresh_tip two N s)) (star d) (star x0) (fresh_star.dart d here) (reach x0 h0))
        (reach x h)

    tip_all : (x : ℕ) → InBetaCorner L d x → InCell beta N 1 (star x0) (tip x)
    tip_all x h = tip_in (star x0) x h (star_all x h)

    pub dangle_removable : IsRemovable beta N 1 (star x0)
    dangle_removable = record { each = λ b c. each b (edge_new b c); apart = tt }

    -- link 1 of a dart before the corner leads over the new edge to the corner
    walk_corner : (c : ℕ) → InBetaCorner L d c → Walk (InCell beta N 1 (star x0)) (across_removed beta N 1) (N 1 (L 0 c)) c
    walk_corner c h =
        let a : N 1 (N 2 (star c)) ≡ c = ap (N 1) (s.sides c h) ∙ s.out c h in
        let t : Walk (InCell beta N 1 (star x0)) (across_removed beta N 1) c c = stop (outside c (old_in c h)) in
        let u : Walk (InCell beta N 1 (star x0)) (across_removed beta N 1) (N 1 (N 2 (star c))) c = rw a t in
        rw (s.into c h) (go (star_all c h) u)

    walk_else : (x : ℕ) → (IsEnd x → ⊥) → (ComesBefore x → ⊥) → Walk (InCell beta N 1 (star x0)) (across_removed beta N 1) (N 1 x) (L 1 x)
    walk_else x n m =
        let t : Walk (InCell beta N 1 (star x0)) (across_removed beta N 1) (L 1 x) (L 1 x) = stop (outside (L 1 x) (old_link 1 x)) in
        rw (one_kept x n m) t

    module _ (M : Links) (r : IsRemoved beta 1 (star x0) N M) where
      end_back : (t x : ℕ) → IsEnd x → M t x ≡ L t x
      unfolding IsEnd
      end_back t x (inl (y, h, e)) = rw e (r.gone (star y) t (star_all y h) ∙ sym (fresh_star.unlinked t y h))
      end_back t x (inr (y, h, e)) = rw e (r.gone (tip y) t (tip_all y h) ∙ sym (fresh_tip.unlinked t y h))

      one_back : (x : ℕ) → M 1 x ≡ L 1 x
      one_back x = by_cases (IsEnd x) (M 1 x) (L 1 x) (λ v. end_back 1 x v)
          (λ n. by_cases (ComesBefore x) (M 1 x) (L 1 x)
          (λ (c, h, e).
          let k : InCell beta N 1 (star x0) (L 0 c) → ⊥ = outside (L 0 c) (old_link 0 c) in
          rw e (r.lands (L 0 c) c k (walk_corner c h) ∙ sym (w.back 0 c (corner_begins L w d linked c h))))
          (λ m. r.lands x (L 1 x) (outside x n) (walk_else x n m)))

      high_back : (t x : ℕ) → 2 ≤ t → M t x ≡ L t x
      high_back t x l = by_cases (IsEnd x) (M t x) (L t x) (λ v. end_back t x v)
          (λ n. r.kept x t (outside x n) (λ o. omega arith) (λ (o : t ≡ 0). omega arith) ∙ high_kept t x l n)

      pub dangle_back : (t x : ℕ) → M t x ≡ L t x
      dangle_back zero x = turned_one M L (r.turned refl) (turned_of_laws L w) one_back x
      dangle_back (suc zero) x = one_back x
      dangle_back (suc (suc t)) x = high_back (suc (suc t)) x (omega arith)
