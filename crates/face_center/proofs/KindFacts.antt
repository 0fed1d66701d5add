-- A map that is not generalized is combinatorial.
use Rattle.std.proofs.Common.{◌≡◌, refl}
use Rattle.map_defs.specs.Kind.{Kind, alpha, beta}

pub other-kind : (k : Kind) → (k ≡ alpha → ⊥) → k ≡ beta
other-kind alpha not = absurd (not refl)
other-kind beta not = refl
