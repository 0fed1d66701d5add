-- Removal and contraction in a generalized map, as links that are drawn across a cell.
use Rattle.std.proofs.Common.{◌≡◌, ◌≢◌, ◌⊎◌, ◌+◌, ℕ, zero, suc, inl, inr, refl, sym, subst, ◌∙◌, arith}
use Rattle.map_defs.specs.Kind.{alpha, IsDistant}
use Rattle.map_defs.specs.Links.{Links, IsMadeUpTo}
use Rattle.map_defs.specs.Laws.{Laws}
use Rattle.map_defs.specs.Cells.{InCell, here}
use Rattle.map_defs.specs.Walks.{Walk, stop, go, step}
use Rattle.map_defs.specs.Removal.{IsBridged, Lands, CommutesAt, IsRemovable, IsRemoved}
use Rattle.map_defs.specs.Contraction.{IsContractible, IsContracted}
use Rattle.link_laws.proofs.Basics.{same_or_not}
use Rattle.link_laws.proofs.Walking.{walk_one}
use Rattle.remove_laws.proofs.TotalSteps.{IsStep, step_free, step_there, step_case, AreSteps, from_laws, to_laws}
use Rattle.remove_laws.proofs.AlphaBridge.{IsCrossed, IsDrawn, ends, ends_where, drawn_steps}
use Rattle.link_laws.proofs.CellFacts.{orbit_nonzero, orbit_bounded, alpha_closed}

-- the steps of two darts whose links are the same
same_step : (x l m s t : ℕ) → l ≡ m → IsStep l x s → IsStep m x t → s ≡ t
same_step x l m s t e (inl p) (inl q) = cc (p.1, q.1)
same_step x l m s t e (inl p) (inr q) = absurd (q.0 (cc (p.0, e)))
same_step x l m s t e (inr p) (inl q) = absurd (p.0 (cc (q.0, e)))
same_step x l m s t e (inr p) (inr q) = cc (p.1, q.1, e)

module _ (i a made : ℕ) (C : ℕ → Type 0) (L N : Links) (c : IsCrossed i a made C L (step L)) (b : IsBridged alpha i C (λ c. step L i (step L a c)) L N) where
  abbrev across : ℕ → ℕ
  across c = step L i (step L a c)

  step_nonzero : (j x : ℕ) → x ≢ 0 → step L j x ≢ 0
  step_nonzero j x n e = n (cc (c.steps.twice j x, step_free L j 0 (c.steps.nil j), e))

  walk_nonzero : {x y : ℕ} → Walk C across x y → x ≢ 0 → y ≢ 0
  walk_nonzero (stop m) n = n
  walk_nonzero (go h w) n = walk_nonzero w (step_nonzero i _ (step_nonzero a _ n))

  landed_free : (x : ℕ) → (C x → ⊥) → L i x ≡ 0 → N i x ≡ 0
  landed_free x n e = elim (same_or_not 0 x) [ inl h ↦ l.1 h | inr h ↦ l.0 h ]
    where
      l : Lands alpha x 0 (N i x)
      l = b.lands x 0 n (subst (λ z. Walk C across z 0) (sym e) (stop c.nowhere))

  landed : (x y : ℕ) → (C x → ⊥) → L i x ≢ 0 → Walk C across (L i x) y → step N i x ≡ y
  landed x y n m w = elim (same_or_not y x) [
    | inl e ↦ step_free N i x ((b.lands x y n w).1 e) ∙ sym e
    | inr e ↦ (let f : N i x ≡ y = (b.lands x y n w).0 e in let g : N i x ≢ 0 = λ z. walk_nonzero w m (cc (f, z)) in step_there N i x g ∙ f)
  ]

  lands : (x y : ℕ) → (C x → ⊥) → Walk C across (step L i x) y → step N i x ≡ y
  lands x y n w = go_on (step_case L i x)
    where
      go_on : IsStep (L i x) x (step L i x) → step N i x ≡ y
      go_on (inl p) = step_free N i x (landed_free x n p.0) ∙ walk_one (stop n) (subst (λ z. Walk C across z y) p.1 w)
      go_on (inr p) = landed x y n p.0 (subst (λ z. Walk C across z y) p.1 w)

  moves : (x : ℕ) → x ≢ 0 → (C x → ⊥) → N i x ≢ x
  moves x m n e = ends i a made C L (step L) c x n (λ y w. go_on y w (step_case L i x))
    where
      go_on : (y : ℕ) → Walk C across (step L i x) y → IsStep (L i x) x (step L i x) → ⊥
      go_on y w (inl p) = m (cc (e, landed_free x n p.0))
      go_on y w (inr p) = elim (same_or_not y x) [ inl f ↦ m (cc (e, (b.lands x y n v).1 f)) | inr f ↦ f (cc (e, (b.lands x y n v).0 f)) ]
        where
          v : Walk C across (L i x) y
          v = subst (λ z. Walk C across z y) p.1 w

  apart : (t x : ℕ) → x ≢ 0 → N t x ≢ x
  apart t x m e = no (λ h. m (cc (b.gone x t h, e))) (λ n. elim (same_or_not t i) [ inl f ↦ moves x m n (cc (f, e)) | inr f ↦ c.steps.apart t x m (cc (b.kept x t n f f, e)) ])
    where
      no : (C x → ⊥) → ((C x → ⊥) → ⊥) → ⊥
      no f g = g f

  drawn : IsDrawn i a C (step L) N (step N)
  drawn = record {
    nil = b.nothing;
    apart = apart;
    gone = λ t x h. step_free N t x (b.gone x t h);
    kept = λ t x n m. same_step x (N t x) (L t x) _ _ (b.kept x t n m m) (step_case N t x) (step_case L t x);
    lands = lands;
  }

  pub bridged_laws : Laws alpha N
  bridged_laws = to_laws N (step N) (step_case N) (drawn_steps i a made C L (step L) c N (step N) drawn)

-- each walk from a remaining dart ends
module _ (i a made : ℕ) (C : ℕ → Type 0) (L : Links) (c : IsCrossed i a made C L (step L)) where
  stop_free : (x : ℕ) → L i x ≡ 0 → Walk C (λ c. step L i (step L a c)) (L i x) 0
  stop_free x e = subst (λ z. Walk C (λ c. step L i (step L a c)) z 0) (sym e) (stop c.nowhere)

  from_link : (x y : ℕ) → L i x ≢ 0 → Walk C (λ c. step L i (step L a c)) (step L i x) y → Walk C (λ c. step L i (step L a c)) (L i x) y
  from_link x y m w = subst (λ z. Walk C (λ c. step L i (step L a c)) z y) (step_there L i x m) w

  pub crossed_ends : (x : ℕ) → (C x → ⊥) → ((y : ℕ) → Walk C (λ c. step L i (step L a c)) (L i x) y → ⊥) → ⊥
  crossed_ends x n never = elim (same_or_not (L i x) 0) [ inl e ↦ never 0 (stop_free x e) | inr m ↦ ends i a made C L (step L) c x n (λ y w. never y (from_link x y m w)) ]

  pub crossed_found : ((x : ℕ) → C x ⊎ (C x → ⊥)) → (x : ℕ) → (C x → ⊥) → (y : ℕ) × Walk C (λ c. step L i (step L a c)) (L i x) y
  crossed_found decide x n = elim (same_or_not (L i x) 0) [ inl e ↦ (0, stop_free x e) | inr m ↦ on m (ends_where i a made C L (step L) c decide x n) ]
    where
      on : L i x ≢ 0 → (y : ℕ) × Walk C (λ c. step L i (step L a c)) (step L i x) y → (y : ℕ) × Walk C (λ c. step L i (step L a c)) (L i x) y
      on m w = (w.0, from_link x w.0 m w.1)

-- the cell of a made dart can be crossed along a link a beside i, where step a commutes with link j two places from i
module _ (L : Links) (w : Laws alpha L) (i a j d made : ℕ) (live : d ≢ 0) (bound : IsMadeUpTo made L) (other : a ≢ i)
    (near : (t : ℕ) → IsDistant alpha i t → (t ≡ j) ⊎ IsDistant alpha a t) (each : (x : ℕ) → InCell alpha L i d x → CommutesAt L a j x) where
  pub crossed : IsCrossed i a (made + d) (InCell alpha L i d) L (step L)
  crossed = record {
    steps = s;
    nowhere = λ h. orbit_nonzero L _ live h refl;
    bounded = λ x h. orbit_bounded alpha L w made bound _ h;
    other = other;
    closed = closed;
    commutes = commutes;
  }
    where
      s : AreSteps L (step L)
      s = from_laws L (step L) (step_case L) w

      closed : (t x : ℕ) → t ≢ i → InCell alpha L i d x → InCell alpha L i d (step L t x)
      closed t x n h = go_on (step_case L t x)
        where
          go_on : IsStep (L t x) x (step L t x) → InCell alpha L i d (step L t x)
          go_on (inl p) = subst (λ z. InCell alpha L i d z) (sym p.1) h
          go_on (inr p) = subst (λ z. InCell alpha L i d z) (sym p.1) (alpha_closed L i t d x n h p.0)

      commutes : (t x : ℕ) → IsDistant alpha i t → InCell alpha L i d x → step L a (step L t x) ≡ step L t (step L a x)
      commutes t x h g = elim (near t h) [ inl e ↦ subst (λ z. step L a (step L z x) ≡ step L z (step L a x)) (sym e) (each x g) | inr k ↦ s.commute a t x k ]

near_above : (i t : ℕ) → IsDistant alpha i t → (t ≡ suc (suc i)) ⊎ IsDistant alpha (suc i) t
unfolding IsDistant
near_above i t h = grind (arith, h)

near_below : (i t : ℕ) → IsDistant alpha (suc (suc i)) t → (t ≡ i) ⊎ IsDistant alpha (suc i) t
unfolding IsDistant
near_below i t h = grind (arith, h)

near_edge : (t : ℕ) → IsDistant alpha 1 t → (t ≡ 0) ⊎ IsDistant alpha 0 t
unfolding IsDistant
near_edge t h = inr (grind (arith, h))

module _ (L : Links) (w : Laws alpha L) (made i d : ℕ) (bound : IsMadeUpTo made L) (live : d ≢ 0) where
  pub removed_crossed : IsRemovable alpha L i d → IsCrossed i (suc i) (made + d) (InCell alpha L i d) L (step L)
  removed_crossed r = crossed L w i (suc i) (suc (suc i)) d made live bound (λ e. absurd (omega arith)) (near_above i) r.each

module _ (L : Links) (w : Laws alpha L) (made d : ℕ) (bound : IsMadeUpTo made L) (live : d ≢ 0) where
  pub edge_crossed : IsCrossed 1 0 (made + d) (InCell alpha L 1 d) L (step L)
  edge_crossed = crossed L w 1 0 0 d made live bound (λ e. absurd (omega arith)) near_edge (λ x h. refl)

  pub contracted_crossed : (i : ℕ) → IsContractible alpha L (suc (suc i)) d → IsCrossed (suc (suc i)) (suc i) (made + d) (InCell alpha L (suc (suc i)) d) L (step L)
  contracted_crossed i r = crossed L w (suc (suc i)) (suc i) i d made live bound (λ e. absurd (omega arith)) (near_below i) r.each

pub alpha_removed : (L N : Links) → Laws alpha L → (made i d : ℕ) → IsMadeUpTo made L → d ≢ 0 → IsRemovable alpha L i d → IsRemoved alpha i d L N → Laws alpha N
alpha_removed L N w made i d bound live r b = bridged_laws i (suc i) (made + d) (InCell alpha L i d) L N (removed_crossed L w made i d bound live r) b

pub alpha_contracted : (L N : Links) → Laws alpha L → (made i d : ℕ) → IsMadeUpTo made L → d ≢ 0 → IsContractible alpha L i d → IsContracted alpha i d L N → Laws alpha N
alpha_contracted L N w made zero d bound live r b = absurd (r.each d here)
alpha_contracted L N w made (suc zero) d bound live r b = bridged_laws 1 0 (made + d) (InCell alpha L 1 d) L N (edge_crossed L w made d bound live) b
alpha_contracted L N w made (suc (suc i)) d bound live r b = bridged_laws (suc (suc i)) (suc i) (made + d) (InCell alpha L (suc (suc i)) d) L N (contracted_crossed L w made d bound live i r) b
