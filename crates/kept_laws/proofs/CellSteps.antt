-- Steps along the cells that run along all links but their own: those of a generalized map, and of dimension 2 and more in a
-- combinatorial map.
use Rattle.std.proofs.Common.{ℕ, ◌≡◌, ◌≢◌, sym, ap, subst, ◌∙◌}
use Rattle.map_defs.specs.Kind.{Kind}
use Rattle.map_defs.specs.Links.{Links}
use Rattle.map_defs.specs.LinkWords.{one_link, through, IsCellWord}
use Rattle.map_defs.specs.Cells.{Leads, InCell}
use Rattle.link_laws.proofs.CellOf.{RunsAlongAll, cell_on, word_one}

-- a link that is not the cell's own leads on within it
pub cell-step : (k : Kind) (i : ℕ) → RunsAlongAll k i → (L : Links) (t d x y : ℕ) → t ≢ i → InCell k L i d x
    → L t x ≡ y → y ≢ 0 → InCell k L i d y
cell-step k i all L t d x y other inside e n = subst (InCell k L i d) e (cell_on k i all L t d x other inside (λ z. n (sym e ∙ z)))

-- and each step along it is such a link
pub step-link : (k : Kind) (i : ℕ) → RunsAlongAll k i → (L : Links) (x y : ℕ) → Leads L (IsCellWord k i) x y
    → (t : ℕ) × (t ≢ i) × (L t x ≡ y) × (y ≢ 0)
step-link k i all L x y (v, c, e, n) =
    let q : (t : ℕ) × (t ≢ i) × (v ≡ one_link t) = word_one k i all v c in (q.0, q.1, ap (λ r. through L r x) (sym q.2) ∙ e, n)
