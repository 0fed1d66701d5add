-- Steps around the vertices of a combinatorial map.
use Rattle.std.proofs.Common.{ℕ, ◌≡◌, ◌≢◌, ◌<◌, ◌≤◌, ◌⊎◌, refl, sym, ap, inl, inr, ⊎_elim, ◌∙◌, arith}
use Rattle.map_defs.specs.Kind.{beta, inverse}
use Rattle.map_defs.specs.Links.{Links}
use Rattle.map_defs.specs.LinkWords.{two_links, IsCellWord}
use Rattle.map_defs.specs.Cells.{here, onward, Leads, InCell}
use Rattle.link_laws.proofs.Basics.{inverse_own}
use Rattle.link_laws.proofs.Orbits.{orbit_trans}

-- a vertex holds the darts of its darts' vertices
pub vertex-trans : (L : Links) (a b c : ℕ) → InCell beta L 0 a b → InCell beta L 0 b c → InCell beta L 0 a c
vertex-trans L a b c p q = orbit_trans (Leads L (IsCellWord beta 0)) a b c p q

-- along a higher link and then a lower one
pub around-in : (L : Links) (x i j y : ℕ) → 1 ≤ i → i < j → L i (L j x) ≡ y → y ≢ 0 → InCell beta L 0 x y
around-in L x i j y a b e n = onward here (two_links j i, inl (i, j, a, b, refl), e, n)

-- along a link from 2 upwards and then link 1
pub leave-in : (L : Links) (x j y : ℕ) → 2 ≤ j → L 1 (L j x) ≡ y → y ≢ 0 → InCell beta L 0 x y
leave-in L x j y l e n = around-in L x 1 j y (omega arith) (omega arith) e n

-- along link 0 and then a link from 2 upwards
pub enter-in : (L : Links) (x j y : ℕ) → 2 ≤ j → L j (L 0 x) ≡ y → y ≢ 0 → InCell beta L 0 x y
enter-in L x j y l e n =
    let own : two_links 0 j ≡ two_links 0 (inverse beta j) = ap (two_links 0) (sym (inverse_own beta j l)) in
    onward here (two_links 0 j, inr (two_links j 1, (1, j, omega arith, omega arith, refl), own), e, n)

-- along two different links from 2 upwards
pub pass-in : (L : Links) (x i j y : ℕ) → 2 ≤ i → 2 ≤ j → i ≢ j → L j (L i x) ≡ y → y ≢ 0 → InCell beta L 0 x y
pass-in L x i j y li lj d e n = ⊎_elim
    (λ (l : j < i). around-in L x j i y (omega arith) l e n)
    (λ (l : i < j). onward here (two_links i j, inr (two_links j i, (i, j, omega arith, l, refl), own), e, n))
    (lower j i (λ q. d (sym q)))
  where
    lower : (a b : ℕ) → a ≢ b → (a < b) ⊎ (b < a)
    lower a b h = grind (arith, h)

    own : two_links i j ≡ two_links (inverse beta i) (inverse beta j)
    own = ap (λ t. two_links t j) (sym (inverse_own beta i li)) ∙ ap (two_links (inverse beta i)) (sym (inverse_own beta j lj))
