-- What the laws' proofs use of cells: which links a cell is closed under, and that its darts are made ones.
use Rattle.std.proofs.Common.{◌≡◌, ◌≢◌, ◌+◌, ◌≤◌, ℕ, zero, suc, inl, inr, refl, Option, Some, None, arith}
use Rattle.map_defs.specs.Kind.{Kind, alpha, beta, inverse}
use Rattle.map_defs.specs.Links.{Links, IsMadeUpTo}
use Rattle.map_defs.specs.Laws.{Laws}
use Rattle.map_defs.specs.LinkWords.{LinkWord, one_link, two_links, through, through_second, inverse_word, IsCellWord}
use Rattle.link_laws.proofs.Orbits.{orbit_dart}
use Rattle.link_laws.proofs.CellTurns.{word_turns, step_turns, cell_turns}
use Rattle.map_defs.specs.Cells.{InOrbit, here, onward, Leads, InCell}

-- an orbit of a dart does not hold 0
pub orbit_nonzero : (L : Links) (W : LinkWord → Type 0) {d x : ℕ} → d ≢ 0 → InOrbit (Leads L W) d x → x ≢ 0
orbit_nonzero L W {d = d} {x = x} n o = orbit_dart (Leads L W) (λ u v s. s.3) d x n o

module _ (k : Kind) (L : Links) (w : Laws k L) (made : ℕ) (bound : IsMadeUpTo made L) where
  led_low : (t u y : ℕ) → L t u ≡ y → y ≢ 0 → y ≤ made
  led_low t u y e n = bound (inverse k t) y (λ z. n (cc (e, u_zero z, w.nil t)))
    where
      back : L (inverse k t) (L t u) ≡ u
      back = w.back t u (λ z. n (cc (z, e)))

      u_zero : L (inverse k t) y ≡ 0 → u ≡ 0
      u_zero z = cc (z, e, back)

  word_low : (v : LinkWord) (x y : ℕ) → through L v x ≡ y → y ≢ 0 → y ≤ made
  word_low v x y e n = go v.second e
    where
      go : (s : Option ℕ) → through_second L s (L v.first x) ≡ y → y ≤ made
      go None f = led_low v.first x y f n
      go (Some j) f = led_low j (L v.first x) y f n

  pub orbit_bounded : (W : LinkWord → Type 0) {d x : ℕ} → InOrbit (Leads L W) d x → x ≤ made + d
  orbit_bounded W here = omega arith
  orbit_bounded W (onward o s) = let h = word_low s.0 _ _ s.2 s.3 in omega arith

-- the word that leads back leads back
pub word_back : (k : Kind) (L : Links) → Laws k L → (v : LinkWord) (x y : ℕ) → through L v x ≡ y → y ≢ 0 → through L (inverse_word k v) y ≡ x
word_back k L w v x y e n = word_turns k L w.nil w.back v x y e n

-- each step along a cell can be taken back
pub step_back : (k : Kind) (L : Links) → Laws k L → (i x y : ℕ) → x ≢ 0 → Leads L (IsCellWord k i) x y → Leads L (IsCellWord k i) y x
step_back k L w i x y m s = step_turns k L w.nil w.back i x y m s

pub cell_back : (k : Kind) (L : Links) → Laws k L → (i d x : ℕ) → InCell k L i d x → InCell k L i x d
cell_back k L w i d x h = cell_turns k L w.nil w.back i d x h

-- a cell is closed under its words
pub by_link : (k : Kind) (L : Links) (i j d x : ℕ) → IsCellWord k i (one_link j) → InCell k L i d x → L j x ≢ 0 → InCell k L i d (L j x)
by_link k L i j d x c h n = onward h (one_link j, c, refl, n)

pub by_two_links : (k : Kind) (L : Links) (i j t d x : ℕ) → IsCellWord k i (two_links j t) → InCell k L i d x → L t (L j x) ≢ 0 → InCell k L i d (L t (L j x))
by_two_links k L i j t d x c h n = onward h (two_links j t, c, refl, n)

pub alpha_closed : (L : Links) (i j d x : ℕ) → j ≢ i → InCell alpha L i d x → L j x ≢ 0 → InCell alpha L i d (L j x)
alpha_closed L i j d x n h m = by_link alpha L i j d x (inl (j, n, refl)) h m

-- a cell of dimension 2 or more of a combinatorial map is closed under all other links
pub beta_closed : (L : Links) (i j d x : ℕ) → j ≢ suc (suc i) → InCell beta L (suc (suc i)) d x → L j x ≢ 0 → InCell beta L (suc (suc i)) d (L j x)
beta_closed L i zero d x n h m = by_link beta L (suc (suc i)) 0 d x (inr (one_link 1, (1, omega arith, omega arith, refl), refl)) h m
beta_closed L i (suc j) d x n h m = by_link beta L (suc (suc i)) (suc j) d x (inl (suc j, omega arith, n, refl)) h m

pub edge_closed : (L : Links) (j d x : ℕ) → 2 ≤ j → InCell beta L 1 d x → L j x ≢ 0 → InCell beta L 1 d (L j x)
edge_closed L j d x n h m = by_link beta L 1 j d x (inl (j, n, refl)) h m
