-- A dangling edge, or a vertex in the middle of a face, in a generalized map keeps the vertices, and the tips of the new edges lie at
-- vertices of their own.
use Rattle.std.proofs.Common.{ℕ, ◌≡◌, ◌≢◌, ◌+◌, ◌≤◌, refl, sym, ap, inl, inr, ◌∙◌, ⊎_elim, arith, List, length}
use Rattle.map_defs.specs.Kind.{alpha, IsDistant}
use Rattle.map_defs.specs.Links.{Links, LeadsToLive}
use Rattle.map_defs.specs.LinkWords.{IsCellWord}
use Rattle.map_defs.specs.Cells.{onward, Leads, InCell}
use Rattle.map_defs.specs.Laws.{Laws}
use Rattle.map_defs.specs.Births.{IsNumbered, IsCounted}
use Rattle.map_defs.specs.Insertion.{IsCarrying, InAlphaCorner}
use Rattle.map_defs.specs.Closing.{IsHung, IsAlphaDangled, IsAlphaCentred}
use Rattle.link_laws.proofs.Basics.{distant_alpha_is}
use Rattle.link_laws.proofs.CellOf.{all_alpha}
use Rattle.insert_laws.proofs.Fresh.{IsNew}
use Rattle.insert_laws.proofs.Places.{IsBeside, same, next, below, far, link_cases}
use Rattle.kept_laws.specs.Keeping.{KeepsCells, LieAside}
use Rattle.kept_laws.proofs.Numbered.{low-apart}
use Rattle.kept_laws.proofs.LiveDarts.{orbit-live, links-live}
use Rattle.kept_laws.proofs.CellSteps.{cell-step, step-link}
use Rattle.kept_laws.proofs.Asides.{lie-aside}
use Rattle.kept_laws.proofs.AlphaGrown.{grown-keeps}

-- a link that is distant from link 1 is from 3 upwards
distant-high : (t : ℕ) → IsDistant alpha 1 t → 3 ≤ t
distant-high t f = ⊎_elim (λ (p : 1 + 2 ≤ t). omega arith) (λ (p : t + 2 ≤ 1). omega arith) (distant_alpha_is 1 t f)

-- Edges that are hung on darts keep the vertices. These do not run along link 0, so no vertex of an old dart comes to a tip.
hung-keeps : (Live : ℕ → Type 0) (made : ℕ) (keys : List ℕ) (star tip : ℕ → ℕ) (L N : Links) (m : ℕ) (K : ℕ → Type 0)
    → IsCounted made Live → LeadsToLive Live L → IsNumbered K keys made star → IsNumbered K keys (made + length keys) tip
    → ((x : ℕ) → K x → Live x) → ((x t : ℕ) → K x → IsCarrying alpha 1 t → L t x ≢ 0 → K (L t x)) → IsHung m K star tip L N
    → KeepsCells alpha 0 Live L N
hung-keeps Live made keys star tip L N m K counted live numbers tips lives carried s =
    grown-keeps Live made counted L N live 1 0 K keys star numbers lives carried (record {
      new = s.new;
      old = s.old;
      beyond = s.beyond;
      before = λ x t h b n some. absurd (n (omega arith));
      along = λ x t h f. s.along x t h (distant-high t f);
      kept = λ x t h n. s.kept x t n
          (λ y g. low-apart K keys made star numbers x y h g)
          (λ y g. low-apart K keys (made + length keys) tip tips x y (omega arith) g);
    }) (λ e. omega arith) (λ e. omega arith)

-- And the tips lie aside: link m, as they turn by it, leads from the darts to others of them too.
hung-aside : (made : ℕ) (keys : List ℕ) (star tip : ℕ → ℕ) (L N : Links) (m : ℕ) (K : ℕ → Type 0)
    → IsNumbered K keys (made + length keys) tip
    → ((x t : ℕ) → K x → IsCarrying alpha 1 t → L t x ≢ 0 → K (L t x)) → ((x : ℕ) → K x → L m x ≢ 0 → K (L m x)) → IsHung m K star tip L N
    → LieAside alpha 0 (IsNew K tip) (λ x. x ≤ made) N
hung-aside made keys star tip L N m K tips carried turned s =
    lie-aside alpha 0 N (IsNew K tip) step (λ x. x ≤ made) (λ x l (c, h, e). low-apart K keys (made + length keys) tip tips x c (omega arith) h e)
  where
    -- the tip of a dart of these to which a link leads
    there : (y c t : ℕ) → (L t c ≢ 0 → K (L t c)) → y ≢ 0 → y ≡ tip (L t c) → IsNew K tip y
    there y c t lies some e = (L t c, lies (λ z. some (e ∙ (ap tip z ∙ tips.nothing))), e)

    step : (x y : ℕ) → IsNew K tip x → Leads N (IsCellWord alpha 0) x y → IsNew K tip y
    step x y (c, h, e) leads = from (link_cases alpha 1 q.0 refl)
      where
        q : (t : ℕ) × (t ≢ 0) × (N t x ≡ y) × (y ≢ 0)
        q = step-link alpha 0 all_alpha N x y leads

        at : y ≡ N q.0 (tip c)
        at = sym q.2 ∙ ap (N q.0) e

        from : IsBeside alpha 1 q.0 → IsNew K tip y
        from (same o) = there y c m (turned c h) q.3 (at ∙ (ap (λ t. N t (tip c)) o ∙ s.turns c h))
        from (next o) = there y c 1 (carried c 1 h (inl refl)) q.3 (at ∙ (ap (λ t. N t (tip c)) o ∙ s.beyond_tip c h))
        from (below b) = absurd (q.1 (omega arith))
        from (far f) = there y c q.0 (carried c q.0 h (inr f)) q.3 (at ∙ s.along_tip c q.0 h (distant-high q.0 f))

-- a dangling edge keeps the vertices, and its tips lie at vertices of their own
pub alpha-dangle-keeps : (Live : ℕ → Type 0) (made : ℕ) (keys : List ℕ) (star tip : ℕ → ℕ) (L N : Links)
    → Laws alpha L → IsCounted made Live → LeadsToLive Live L → (d : ℕ) → Live d
    → IsNumbered (InAlphaCorner L d) keys made star → IsNumbered (InAlphaCorner L d) keys (made + length keys) tip
    → IsAlphaDangled d star tip L N → KeepsCells alpha 0 Live L N × LieAside alpha 0 (IsNew (InAlphaCorner L d) tip) (λ x. x ≤ made) N
alpha-dangle-keeps Live made keys star tip L N w counted live d lives numbers tips s = (
  hung-keeps Live made keys star tip L N 1 (InAlphaCorner L d) counted live numbers tips
      (λ x h. links-live Live L live (IsCarrying alpha 1) d x lives h)
      carried
      s,
  hung-aside made keys star tip L N 1 (InAlphaCorner L d) tips carried (λ x h. carried x 1 h (inl refl)) s,
)
  where
    carried : (x t : ℕ) → InAlphaCorner L d x → IsCarrying alpha 1 t → L t x ≢ 0 → InAlphaCorner L d (L t x)
    carried x t h c some = onward h (t, c, refl, some)

-- a face is closed under the links along which the new darts of the edges in it lie
face-carried : (L : Links) (d x t : ℕ) → InCell alpha L 2 d x → IsCarrying alpha 1 t → L t x ≢ 0 → InCell alpha L 2 d (L t x)
face-carried L d x t inside c some = cell-step alpha 2 all_alpha L t d x (L t x) (other c) inside refl some
  where
    other : IsCarrying alpha 1 t → t ≢ 2
    other (inl e) o = omega arith
    other (inr f) o = let l : 3 ≤ t = distant-high t f in omega arith

-- a vertex in the middle of a face keeps the old vertices, and the ends of its edges lie at vertices of their own
pub alpha-centre-keeps : (Live : ℕ → Type 0) (made : ℕ) (keys : List ℕ) (star tip : ℕ → ℕ) (L N : Links)
    → Laws alpha L → IsCounted made Live → LeadsToLive Live L → (d : ℕ) → Live d
    → IsNumbered (InCell alpha L 2 d) keys made star → IsNumbered (InCell alpha L 2 d) keys (made + length keys) tip
    → IsAlphaCentred d star tip L N → KeepsCells alpha 0 Live L N × LieAside alpha 0 (IsNew (InCell alpha L 2 d) tip) (λ x. x ≤ made) N
alpha-centre-keeps Live made keys star tip L N w counted live d lives numbers tips s = (
  hung-keeps Live made keys star tip L N 0 (InCell alpha L 2 d) counted live numbers tips
      (λ x h. orbit-live Live L live (IsCellWord alpha 2) d x lives h)
      (λ x t h c some. face-carried L d x t h c some)
      s,
  hung-aside made keys star tip L N 0 (InCell alpha L 2 d) tips (λ x t h c some. face-carried L d x t h c some)
      (λ x h some. cell-step alpha 2 all_alpha L 0 d x (L 0 x) (λ e. omega arith) h refl some) s,
)
