-- The laws of a map, for both kinds and every dimension. Source: the textbook; the form for combinatorial maps with
-- free links is this project's.
use Rattle.std.specs.Prelude.{ℕ, ◌≡◌, ◌≢◌, ◌<◌, ◌↔◌}
use Rattle.map_defs.specs.Kind.{Kind, inverse, IsDistant}
use Rattle.map_defs.specs.Links.{Links}

-- the laws as they are told
pub record IsLawful (k : Kind) (L : Links) : Type 0 where
  -- 0 is no dart
  pub nothing : (i : ℕ) → L i 0 ≡ 0
  -- link i of d is e exactly where the inverse link of e is d
  pub back : (i d e : ℕ) → d ≢ 0 → e ≢ 0 → (L i d ≡ e) ↔ (L (inverse k i) e ≡ d)
  -- a link that is its own inverse joins no dart to itself
  pub apart : (i d : ℕ) → inverse k i ≡ i → d ≢ 0 → L i d ≢ d
  -- the two ends of a link are alike free at each higher distant link
  pub free_alike : (i j d c : ℕ) → IsDistant k i j → i < j → c ≢ 0 → L i d ≡ c → (L j d ≡ 0) ↔ (L j c ≡ 0)
  -- and where they are not free, the square of the two links closes
  pub square : (i j d c : ℕ) → IsDistant k i j → i < j → c ≢ 0 → L i d ≡ c → L j d ≢ 0 → L (inverse k i) (L j d) ≡ L j c

-- The laws in the form that proofs use: with 0 for free they are plain equations, and the last is symmetric.
pub record Laws (k : Kind) (L : Links) : Type 0 where
  pub nil : (i : ℕ) → L i 0 ≡ 0
  pub back : (i x : ℕ) → L i x ≢ 0 → L (inverse k i) (L i x) ≡ x
  pub apart : (i x : ℕ) → inverse k i ≡ i → x ≢ 0 → L i x ≢ x
  pub square : (i j x : ℕ) → IsDistant k i j → L (inverse k i) (L j x) ≡ L (inverse k j) (L i x)
