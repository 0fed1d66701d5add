-- Cells are kept where each new dart of a cell stands for old ones of it, each new step leads to a dart that stands for one of the
-- old cell, and each old step has a way along the new cell.
use Rattle.std.proofs.Common.{ℕ, ◌≡◌, ◌≢◌, ◌≤◌, ◌⊎◌, refl, sym, subst, inl, inr, List}
use Rattle.map_defs.specs.Kind.{Kind}
use Rattle.map_defs.specs.Links.{Links, LeadsToLive}
use Rattle.map_defs.specs.LinkWords.{IsCellWord}
use Rattle.map_defs.specs.Cells.{here, onward, Leads, InCell}
use Rattle.map_defs.specs.Births.{IsNumbered, IsCounted}
use Rattle.link_laws.proofs.Orbits.{orbit_trans}
use Rattle.link_laws.proofs.CellOf.{RunsAlongAll}
use Rattle.kept_laws.specs.Keeping.{KeepsCells}
use Rattle.kept_laws.proofs.Numbered.{live-apart}
use Rattle.kept_laws.proofs.LiveDarts.{led-live}
use Rattle.kept_laws.proofs.CellSteps.{step-link}

-- an old dart stands for itself, and the new dart of c for the darts that Beside tells
abbrev pub StandsFor : (ℕ → Type 0) → (ℕ → Type 0) → (ℕ → ℕ) → (ℕ → ℕ → Type 0) → ℕ → ℕ → Type 0
StandsFor Old K star Beside z u = (Old z × (z ≡ u)) ⊎ ((c : ℕ) × K c × (z ≡ star c) × Beside c u)

-- y stands for a dart of the old cell of u
abbrev pub Reaches : Kind → ℕ → Links → (ℕ → ℕ → Type 0) → ℕ → ℕ → Type 0
Reaches k i L Stands u y = (v : ℕ) × Stands y v × InCell k L i u v

module _ (k : Kind) (i : ℕ) (L : Links) (Old K : ℕ → Type 0) (star : ℕ → ℕ) (Beside : ℕ → ℕ → Type 0) where
  -- an old dart of the old cell of u is reached
  pub reaches-old : (u y v : ℕ) → y ≡ v → Old v → InCell k L i u v → Reaches k i L (StandsFor Old K star Beside) u y
  reaches-old u y v e h o = (v, inl ((rw e h), e), o)

  -- and so is the new dart of c, where it stands for a dart of that cell
  pub reaches-new : (u y c v : ℕ) → y ≡ star c → K c → Beside c v → InCell k L i u v → Reaches k i L (StandsFor Old K star Beside) u y
  reaches-new u y c v e h b o = (v, inr (c, h, e, b), o)

module _ (k : Kind) (i : ℕ) (Live : ℕ → Type 0) (made : ℕ) (counted : IsCounted made Live) (L N : Links) (to : LeadsToLive Live L)
    (K : ℕ → Type 0) (keys : List ℕ) (star : ℕ → ℕ) (numbers : IsNumbered K keys made star)
    (Old : ℕ → Type 0) (Beside : ℕ → ℕ → Type 0) (live-old : (x : ℕ) → Live x → Old x) where
  -- z stands for u
  abbrev Stands : ℕ → ℕ → Type 0
  Stands = StandsFor Old K star Beside

  -- from an old dart, from a new one that stands for u, and the way of an old step
  module _ (from-old : (u y : ℕ) → Old u → Leads N (IsCellWord k i) u y → Reaches k i L Stands u y)
      (from-new : (c u y : ℕ) → K c → Beside c u → Leads N (IsCellWord k i) (star c) y → Reaches k i L Stands u y)
      (up : (x y : ℕ) → Live x → Leads L (IsCellWord k i) x y → InCell k N i x y) where
    -- each new step from a dart that stands for u
    down : (z u y : ℕ) → Stands z u → Leads N (IsCellWord k i) z y → Reaches k i L Stands u y
    down z u y (inl (h, e)) s = rw e at (from-old z y h s)
    down z u y (inr (c, h, e, b)) s = from-new c u y h b (rw e at s)

    -- a live dart stands for itself alone
    alone : (x u : ℕ) → Live x → Stands x u → u ≡ x
    alone x u l (inl (h, e)) = sym e
    alone x u l (inr (c, h, e, b)) = absurd (live-apart K keys made star numbers Live counted x c l h e)

    -- a dart of the new cell stands for one of the old cell
    cell-down : (x y : ℕ) → Live x → InCell k N i x y → Reaches k i L Stands x y
    cell-down x y l here = (x, inl (live-old x l, refl), here)
    cell-down x y l (onward {x = z} {y = t} o s) =
        let r : Reaches k i L Stands x z = cell-down x z l o in
        let q : Reaches k i L Stands r.0 t = down z r.0 t r.1 s in
        (q.0, q.1, orbit_trans (Leads L (IsCellWord k i)) x r.0 q.0 r.2 q.2)

    -- a dart of the old cell lies in the new one
    cell-up : (x y : ℕ) → Live x → InCell k L i x y → Live y × InCell k N i x y
    cell-up x y l here = (l, here)
    cell-up x y l (onward {x = z} {y = t} o s) =
        let r : Live z × InCell k N i x z = cell-up x z l o in
        (led-live Live L to s.0 z t s.2 s.3, orbit_trans (Leads N (IsCellWord k i)) x z t r.1 (up z t r.0 s))

    -- two live darts of one new cell lay in one old cell
    cell-back : (x y : ℕ) → Live x → Live y → InCell k N i x y → InCell k L i x y
    cell-back x y lx ly o =
        let r : Reaches k i L Stands x y = cell-down x y lx o in
        subst (InCell k L i x) (alone y r.0 ly r.1) r.2

    -- so the cells are kept
    pub keeps-by-steps : KeepsCells k i Live L N
    keeps-by-steps x y lx ly = ((λ o. cell-back x y lx ly o), (λ o. (cell-up x y lx o).1))

-- an old dart is one up to made, and the new dart of c stands for c
abbrev pub StandsLow : ℕ → (ℕ → Type 0) → (ℕ → ℕ) → ℕ → ℕ → Type 0
StandsLow made K star = StandsFor (λ z. z ≤ made) K star (λ c u. c ≡ u)

-- Cells that run along all links but their own are kept where it is told link by link.
pub keeps-by-links : (k : Kind) (i : ℕ) → RunsAlongAll k i → (Live : ℕ → Type 0) (made : ℕ) → IsCounted made Live
    → (L N : Links) → LeadsToLive Live L → (K : ℕ → Type 0) (keys : List ℕ) (star : ℕ → ℕ) → IsNumbered K keys made star
    → ((u y t : ℕ) → u ≤ made → t ≢ i → N t u ≡ y → y ≢ 0 → Reaches k i L (StandsLow made K star) u y)
    → ((c y t : ℕ) → K c → t ≢ i → N t (star c) ≡ y → y ≢ 0 → Reaches k i L (StandsLow made K star) c y)
    → ((x y t : ℕ) → Live x → t ≢ i → L t x ≡ y → y ≢ 0 → InCell k N i x y) → KeepsCells k i Live L N
keeps-by-links k i all Live made counted L N to K keys star numbers from-old from-new up =
    keeps-by-steps k i Live made counted L N to K keys star numbers (λ z. z ≤ made) (λ c u. c ≡ u) (λ x l. (counted x l).1)
    (λ u y o s. let q : (t : ℕ) × (t ≢ i) × (N t u ≡ y) × (y ≢ 0) = step-link k i all N u y s in from-old u y q.0 o q.1 q.2 q.3)
    (λ c u y h b s. let q : (t : ℕ) × (t ≢ i) × (N t (star c) ≡ y) × (y ≢ 0) = step-link k i all N (star c) y s in
    rw (sym b) (from-new c y q.0 h q.1 q.2 q.3))
    (λ x y l s. let q : (t : ℕ) × (t ≢ i) × (L t x ≡ y) × (y ≢ 0) = step-link k i all L x y s in up x y q.0 l q.1 q.2 q.3)
