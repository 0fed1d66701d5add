-- What is asked of one dart of a combinatorial map, so that the dual does not join it to itself.
use Rattle.std.proofs.Common.{ℕ, ◌≡◌, ◌≢◌, ◌<◌, ◌≤◌, refl, arith}
use Rattle.map_defs.specs.Kind.{Kind, alpha, beta}
use Rattle.map_defs.specs.Links.{Links}
use Rattle.map_defs.specs.Dual.{StaysApartDual}
use Rattle.link_rows.specs.DualLinks.{dual_link}
use Rattle.link_rows.proofs.DualEntries.{dual-between}

pub apart-all : (n : ℕ) (L : Links) (d : ℕ) (k : Kind) → k ≢ alpha → ((i : ℕ) → 2 ≤ i → i < n → dual_link k n L i d ≢ d) → StaysApartDual k n L (λ x. x ≡ d)
apart-all n L d alpha other at = absurd (other refl)
apart-all n L d beta other at = λ i x is low high e. at i low high (rw (dual-between n L i d (omega arith) high) (rw is at e))
