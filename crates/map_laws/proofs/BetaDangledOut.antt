-- A dangling edge of a combinatorial map is taken out at its first new dart.
use Rattle.std.proofs.Common.{ℕ, ◌≡◌, ◌≢◌, ◌+◌, ◌≤◌, ◌⊎◌, refl, sym, ap, inl, inr, ⊎_elim, ◌∙◌, arith, List, length}
use Rattle.map_defs.specs.Kind.{beta}
use Rattle.map_defs.specs.Links.{Links, IsMadeUpTo}
use Rattle.map_defs.specs.Laws.{Laws}
use Rattle.map_defs.specs.LinkWords.{one_link, two_links, through, IsCellWord}
use Rattle.map_defs.specs.Cells.{here, onward, Leads, InCell}
use Rattle.map_defs.specs.Births.{IsNumbered, IsFresh}
use Rattle.map_defs.specs.Insertion.{InBetaCorner}
use Rattle.map_defs.specs.Closing.{IsBetaDangled}
use Rattle.link_laws.proofs.Basics.{same_or_not}
use Rattle.link_laws.proofs.Orbits.{orbit_back, orbit_trans}
use Rattle.insert_laws.proofs.Fresh.{IsNew}
use Rattle.center_laws.proofs.BetaDangle.{dangle_keeps}
use Rattle.center_laws.proofs.TwoSeries.{series_fresh}
use Rattle.back_laws.proofs.VertexBack.{high_word, edge_word_back}
use Rattle.back_laws.proofs.BetaDangleBack.{dangle_removable, dangle_back}
use Rattle.map_laws.proofs.TakenOut.{IsTakenOut, both-taken-out}

module _ (L : Links) (w : Laws beta L) (d : ℕ) (linked : L 0 d ≢ 0) (star tip : ℕ → ℕ) (fresh-star : IsFresh L (InBetaCorner L d) star) (fresh-tip : IsFresh L (InBetaCorner L d) tip)
    (two : (x y : ℕ) → InBetaCorner L d x → InBetaCorner L d y → star x ≢ tip y) (N : Links) (s : IsBetaDangled d star tip L N) where
  -- the new edge holds its two series of new darts alone
  IsEnd : ℕ → Type 0
  IsEnd z = IsNew (InBetaCorner L d) star z ⊎ IsNew (InBetaCorner L d) tip z

  into : (x j : ℕ) → 3 ≤ j → InBetaCorner L d x → L j (L 0 x) ≢ 0 → InBetaCorner L d (L j (L 0 x))
  into x j l h n = onward h (two_links 0 j, (j, l, refl), refl, n)

  link-end : (j z : ℕ) → 2 ≤ j → IsEnd z → N j z ≢ 0 → IsEnd (N j z)
  unfolding IsEnd
  link-end j z l (inl (x, h, e)) n = ⊎_elim
      (λ (o : j ≡ 2). inr (x, h, ap (λ t. N t z) o ∙ (ap (N 2) e ∙ s.sides x h)))
      (λ (m : j ≢ 2).
      let l3 : 3 ≤ j = omega arith in
      let a : N j z ≡ tip (L j (L 0 x)) = ap (N j) e ∙ s.along x j h l3 in
      inr (L j (L 0 x), into x j l3 h (λ o. n (a ∙ (ap tip o ∙ fresh-tip.nothing))), a))
      (same_or_not j 2)
  link-end j z l (inr (x, h, e)) n = ⊎_elim
      (λ (o : j ≡ 2). inl (x, h, ap (λ t. N t z) o ∙ (ap (N 2) e ∙ s.sides_back x h)))
      (λ (m : j ≢ 2).
      let l3 : 3 ≤ j = omega arith in
      let a : N j z ≡ star (L j (L 0 x)) = ap (N j) e ∙ s.along_tip x j h l3 in
      inl (L j (L 0 x), into x j l3 h (λ o. n (a ∙ (ap star o ∙ fresh-star.nothing))), a))
      (same_or_not j 2)

  cell-ends : (c x : ℕ) → IsEnd c → InCell beta N 1 c x → IsEnd x
  cell-ends c x h here = h
  cell-ends c x h (onward {x = y} {y = z} o (v, q, e, n)) =
      let j : (j : ℕ) × (2 ≤ j) × (v ≡ one_link j) = high_word v q in
      let a : N j.0 y ≡ z = ap (λ t. through N t y) (sym j.2) ∙ e in
      rw (← a) (link-end j.0 y j.1 (cell-ends c y h o) (λ m. n (sym a ∙ m)))

  edge-new : (x y : ℕ) → InBetaCorner L d x → (IsNew (InBetaCorner L d) star y ⊎ IsNew (InBetaCorner L d) tip y → ⊥) → InCell beta N 1 (star x) y → ⊥
  unfolding IsEnd
  edge-new x y h old c = old (cell-ends (star x) y (inl (x, h, refl)) c)

  -- and holds them all
  link-cell : (c j y z : ℕ) → 2 ≤ j → InCell beta N 1 c y → N j y ≡ z → z ≢ 0 → InCell beta N 1 c z
  link-cell c j y z l o e n = onward o (one_link j, inl (j, l, refl), e, n)

  tip-in : (c x : ℕ) → InBetaCorner L d x → InCell beta N 1 c (star x) → InCell beta N 1 c (tip x)
  tip-in c x h o = link-cell c 2 (star x) (tip x) (omega arith) o (s.sides x h) (fresh-tip.dart x h)

  reach : (x : ℕ) → InBetaCorner L d x → InCell beta N 1 (star d) (star x)
  reach x here = here
  reach x (onward {x = u} {y = v} p (word, (j, l, e), q, n)) =
      let a : L j (L 0 u) ≡ v = ap (λ t. through L t u) (sym e) ∙ q in
      let m : L j (L 0 u) ≢ 0 = λ z. n (sym a ∙ z) in
      let o : InCell beta N 1 (star d) (tip u) = tip-in (star d) u p (reach u p) in
      let i : InCell beta N 1 (star d) (star (L j (L 0 u))) =
      link-cell (star d) j (tip u) (star (L j (L 0 u))) (omega arith) o (s.along_tip u j p l) (fresh-star.dart (L j (L 0 u)) (into u j l p m)) in
      rw (← a) i

  begin-in : (x y : ℕ) → InBetaCorner L d x → InBetaCorner L d y → InCell beta N 1 (star x) (star y)
  begin-in x y h g = orbit_trans (Leads N (IsCellWord beta 1)) (star x) (star d) (star y)
      (orbit_back (Leads N (IsCellWord beta 1)) (λ a b t. t.3) (edge_word_back N (dangle_keeps L w d linked star tip fresh-star fresh-tip two N s)) (star d) (star x) (fresh-star.dart d here) (reach x h))
      (reach y g)

  end-in : (x y : ℕ) → InBetaCorner L d x → InBetaCorner L d y → InCell beta N 1 (star x) (tip y)
  end-in x y h g = tip-in (star x) y g (begin-in x y h g)

pub beta-dangle-out : (L : Links) → Laws beta L → (d : ℕ) → L 0 d ≢ 0 → (keys : List ℕ) (made : ℕ) (star tip : ℕ → ℕ) → IsMadeUpTo made L → (N : Links)
    → IsNumbered (InBetaCorner L d) keys made star → IsNumbered (InBetaCorner L d) keys (made + length keys) tip
    → ((x : ℕ) → InBetaCorner L d x → x ≤ made) → IsBetaDangled d star tip L N
    → IsTakenOut beta 1 (made + 1) made (length keys + length keys) L N
beta-dangle-out L w d linked keys made star tip bound N first second low s =
    let both = series_fresh (InBetaCorner L d) keys made star tip first second L low bound in
    both-taken-out (InBetaCorner L d) keys made star first d here tip second beta 1 L N
    (λ x h. dangle_removable L w d linked star tip both.0 both.1 both.2 N s x h)
    (λ x h M r. dangle_back L w d linked star tip both.0 both.1 both.2 N s x h M r)
    (edge-new L w d linked star tip both.0 both.1 both.2 N s)
    (begin-in L w d linked star tip both.0 both.1 both.2 N s)
    (end-in L w d linked star tip both.0 both.1 both.2 N s)
