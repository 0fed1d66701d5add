-- The cells of the dual are the cells of the map, of the opposite dimension.
use Rattle.std.proofs.Common.{ℕ, zero, suc, ◌≡◌, ◌≢◌, ◌⊎◌, ◌≤◌, ◌<◌, ◌-◌, ◌+◌, inl, inr, refl, sym, ap, subst, ◌∙◌, arith}
use Rattle.map_defs.specs.Kind.{alpha, beta, inverse}
use Rattle.map_defs.specs.Links.{Links}
use Rattle.map_defs.specs.Laws.{Laws}
use Rattle.map_defs.specs.LinkWords.{LinkWord, through, RunsAlong, IsCellWord, inverse_word}
use Rattle.map_defs.specs.Cells.{here, Leads, InCell}
use Rattle.map_defs.specs.Dual.{IsAlphaDual, IsBetaDual}
use Rattle.link_laws.proofs.LawFacts.{dart_of_link}
use Rattle.link_laws.proofs.Orbits.{orbit_map}
use Rattle.link_laws.proofs.CellFacts.{by_link, by_two_links, beta_closed, edge_closed, word_back, cell_back}
use Rattle.link_laws.proofs.CellTurns.{inverse_word_twice}
use Rattle.dual_laws.proofs.DualAlpha.{low_or_high}
use Rattle.dual_laws.proofs.DualBeta.{IsAllLinked, IsClosedMap, link_case, inverse_low, next_linked, top_twice, top_around, dual_free}

-- the dual of a generalized map
module _ (n : ℕ) (L N : Links) (b : IsAlphaDual n L N) where
  alpha_step : (i o x y : ℕ) → i + o ≡ n → Leads N (IsCellWord alpha i) x y → InCell alpha L o x y
  alpha_step i o x y e s = go s.0 s.1 s.2
    where
      at : (j : ℕ) → j ≢ i → N j x ≡ y → InCell alpha L o x y
      at j m h = low (low_or_high j n)
        where
          low : (j ≤ n) ⊎ (n < j) → InCell alpha L o x y
          low (inr g) = absurd (s.3 (sym h ∙ b.above j x g))
          low (inl g) =
              let is : L (n - j) x ≡ y = sym (b.reversed j x g) ∙ h in
              subst (InCell alpha L o x) is (by_link alpha L o (n - j) x x (inl (n - j, (λ f. m (omega arith)), refl)) here (λ z. s.3 (sym is ∙ z)))

      go : (v : LinkWord) → IsCellWord alpha i v → through N v x ≡ y → InCell alpha L o x y
      go v (inl r) h = at r.0 r.1 (subst (λ u. through N u x ≡ y) r.2 h)
      go v (inr r) h = at r.1.0 r.1.1 (subst (λ u. through N u x ≡ y) (r.2 ∙ ap (inverse_word alpha) r.1.2) h)

  pub alpha_cells : (i o d x : ℕ) → i + o ≡ n → d ≢ 0 → InCell alpha N i d x → InCell alpha L o d x
  alpha_cells i o d x e m h = orbit_map (Leads N (IsCellWord alpha i)) (Leads L (IsCellWord alpha o)) (λ u v s. s.3) (λ u v n s. alpha_step i o u v e s) d x m h

-- a cell of a combinatorial map, but for its vertices, is closed under the other links from 1 upwards
cell_link : (L : Links) (o t d x : ℕ) → 1 ≤ o → 1 ≤ t → t ≢ o → InCell beta L o d x → L t x ≢ 0 → InCell beta L o d (L t x)
cell_link L zero t d x h g m c k = absurd (omega arith)
cell_link L (suc zero) t d x h g m c k = edge_closed L t d x (omega arith) c k
cell_link L (suc (suc o)) t d x h g m c k = beta_closed L o t d x m c k

-- and a cell of dimension 2 or more under all other links
cell_any : (L : Links) (o t d x : ℕ) → 2 ≤ o → t ≢ o → InCell beta L o d x → L t x ≢ 0 → InCell beta L o d (L t x)
cell_any L zero t d x h m c k = absurd (omega arith)
cell_any L (suc zero) t d x h m c k = absurd (omega arith)
cell_any L (suc (suc o)) t d x h m c k = beta_closed L o t d x m c k

-- the dual of a combinatorial map
module _ (n : ℕ) (L N : Links) (c : IsClosedMap n L) (b : IsBetaDual n L N) (wn : Laws beta N) where
  linked : (t x : ℕ) → N t x ≢ 0 → IsAllLinked n L x
  linked t x m = go (c.whole x)
    where
      go : IsAllLinked n L x ⊎ ((i : ℕ) → L i x ≡ 0) → IsAllLinked n L x
      go (inl l) = l
      go (inr z) = absurd (m (dual_free n L N c b x z t))

  -- one link j of the dual, in a cell of dimension o from 1 upwards of the map
  by_one : (o j x : ℕ) → 1 ≤ o → o ≢ n → 1 ≤ j → n - j ≢ o → N j x ≢ 0 → InCell beta L o x (N j x)
  by_one o j x ho hn hj m k = go (link_case j n)
    where
      l : IsAllLinked n L x
      l = linked j x k

      top : InCell beta L o x (L n x)
      top = let h = c.high in cell_link L o n x x ho (omega arith) (λ e. hn (sym e)) here (l n (omega arith))

      go : (j ≡ 0) ⊎ ((1 ≤ j) × (j < n)) ⊎ (j ≡ n) ⊎ (n < j) → InCell beta L o x (N j x)
      go (inl e) = absurd (omega arith)
      go (inr (inl p)) = subst (InCell beta L o x) (sym (b.reversed j x p.0 p.1)) (cell_link L o (n - j) x (L n x) ho (omega arith) m top (next_linked n L c n x l (omega arith) (n - j) (omega arith)))
      go (inr (inr (inl e))) = subst (InCell beta L o x) (cc (e, b.kept x)) top
      go (inr (inr (inr g))) = absurd (k (b.above j x g))

  -- the word "j, then l" of a vertex of the dual, in the n-cell
  by_two : (j l x : ℕ) → 1 ≤ l → l < j → N l (N j x) ≢ 0 → InCell beta L n x (N l (N j x))
  by_two j l x hl h k = go (link_case j n)
    where
      m : N j x ≢ 0
      m = dart_of_link beta N wn l (N j x) k

      a : IsAllLinked n L x
      a = linked j x m

      go : (j ≡ 0) ⊎ ((1 ≤ j) × (j < n)) ⊎ (j ≡ n) ⊎ (n < j) → InCell beta L n x (N l (N j x))
      go (inl e) = absurd (omega arith)
      go (inr (inl p)) =
          let first : InCell beta L n x (L (inverse beta (n - j)) x) = cell_any L n (inverse beta (n - j)) x x c.high (inverse_not_top (n - j) (omega arith)) here (a (inverse beta (n - j)) (inverse_low n L c (n - j) (omega arith))) in
          let next : IsAllLinked n L (L (inverse beta (n - j)) x) = next_linked n L c (inverse beta (n - j)) x a (inverse_low n L c (n - j) (omega arith)) in
          let second : InCell beta L n x (L (n - l) (L (inverse beta (n - j)) x)) = cell_any L n (n - l) x _ c.high (λ e. absurd (omega arith)) first (next (n - l) (omega arith)) in
          subst (InCell beta L n x) (cc (b.reversed j x p.0 p.1, b.reversed l (L (n - j) (L n x)) hl (omega arith), top_around n L c (n - j) x a (omega arith) (omega arith))) second
        where
          inverse_not_top : (t : ℕ) → t + 2 ≤ n → inverse beta t ≢ n
          inverse_not_top zero g e = omega arith
          inverse_not_top (suc zero) g e = omega arith
          inverse_not_top (suc (suc t)) g e = omega arith
      go (inr (inr (inl e))) =
          subst (InCell beta L n x) (cc (e, b.kept x, b.reversed l (L n x) hl (omega arith), top_twice n L c x a)) (cell_any L n (n - l) x x c.high (λ f. absurd (omega arith)) here (a (n - l) (omega arith)))
      go (inr (inr (inr g))) = absurd (m (b.above j x g))

  -- one link j of an n-cell of the dual, in a vertex
  by_vertex : (j x : ℕ) → 1 ≤ j → j ≢ n → N j x ≢ 0 → InCell beta L 0 x (N j x)
  by_vertex j x h m k = go (link_case j n)
    where
      go : (j ≡ 0) ⊎ ((1 ≤ j) × (j < n)) ⊎ (j ≡ n) ⊎ (n < j) → InCell beta L 0 x (N j x)
      go (inl e) = absurd (omega arith)
      go (inr (inl p)) =
          let is : N j x ≡ L (n - j) (L n x) = b.reversed j x p.0 p.1 in
          subst (InCell beta L 0 x) (sym is) (by_two_links beta L 0 n (n - j) x x (inl (n - j, n, omega arith, omega arith, refl)) here (λ z. k (is ∙ z)))
      go (inr (inr (inl e))) = absurd (m e)
      go (inr (inr (inr g))) = absurd (k (b.above j x g))

  along : (i o : ℕ) → i + o ≡ n → (v : LinkWord) → RunsAlong beta i v → (x y : ℕ) → through N v x ≡ y → y ≢ 0 → InCell beta L o x y
  along zero o e v r x y h m =
      let is : N r.0 (N r.1 x) ≡ y = subst (λ u. through N u x ≡ y) r.4 h in
      let f : n ≡ o = omega arith in
      subst (λ q. InCell beta L q x y) f (subst (InCell beta L n x) is (by_two r.1 r.0 x r.2 r.3 (λ z. m (sym is ∙ z))))
  along (suc zero) o e v r x y h m =
      let is : N r.0 x ≡ y = subst (λ u. through N u x ≡ y) r.2 h in
      let j2 = r.1 in
      let g = c.high in
      subst (InCell beta L o x) is (by_one o r.0 x (omega arith) (λ f. absurd (omega arith)) (omega arith) (λ f. absurd (omega arith)) (λ z. m (sym is ∙ z)))
  along (suc (suc i)) o e v r x y h m = go o e
    where
      is : N r.0 x ≡ y
      is = subst (λ u. through N u x ≡ y) r.3 h

      go : (o : ℕ) → suc (suc i) + o ≡ n → InCell beta L o x y
      go zero f = let j1 = r.1 in let j2 = r.2 in subst (InCell beta L 0 x) is (by_vertex r.0 x j1 (λ q. absurd (omega arith)) (λ z. m (sym is ∙ z)))
      go (suc o) f = let j1 = r.1 in let j2 = r.2 in subst (InCell beta L (suc o) x) is (by_one (suc o) r.0 x (omega arith) (λ q. absurd (omega arith)) j1 (λ q. absurd (omega arith)) (λ z. m (sym is ∙ z)))

  beta_step : (i o x y : ℕ) → i + o ≡ n → x ≢ 0 → Leads N (IsCellWord beta i) x y → InCell beta L o x y
  beta_step i o x y e m s = go s.1
    where
      go : IsCellWord beta i s.0 → InCell beta L o x y
      go (inl r) = along i o e s.0 r x y s.2 s.3
      go (inr r) =
          let back : through N r.0 y ≡ x = subst (λ v. through N v y ≡ x) (ap (inverse_word beta) r.2 ∙ inverse_word_twice beta r.0) (word_back beta N wn s.0 x y s.2 s.3) in
          cell_back beta L c.laws o y x (along i o e r.0 r.1 y x back m)

  pub beta_cells : (i o d x : ℕ) → i + o ≡ n → d ≢ 0 → InCell beta N i d x → InCell beta L o d x
  beta_cells i o d x e m h = orbit_map (Leads N (IsCellWord beta i)) (Leads L (IsCellWord beta o)) (λ u v s. s.3) (λ u v n s. beta_step i o u v e n s) d x m h
