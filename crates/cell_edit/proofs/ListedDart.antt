-- A list of one dart, and the corner of a generalized map that grows from it.
use Rattle.std.proofs.Common.{ℕ, zero, suc, ◌≡◌, ◌↔◌, [], ◌∷◌, Contains, refl, sym, subst, arith}
use Rattle.map_defs.specs.Kind.{alpha}
use Rattle.map_defs.specs.Links.{Links}
use Rattle.map_defs.specs.Cells.{InOrbit}
use Rattle.map_defs.specs.Insertion.{IsLinkedBy, IsCarrying, InAlphaCorner}

-- the darts of the corner of one listed dart
pub one-corner : (L : Links) (d x : ℕ) → ((b : ℕ) × Contains (d ∷ []) b × InOrbit (IsLinkedBy L (IsCarrying alpha 1)) b x) ↔ InAlphaCorner L d x
one-corner L d x = (to, λ o. (d, (0, omega arith, refl), o))
  where
    to : (b : ℕ) × Contains (d ∷ []) b × InOrbit (IsLinkedBy L (IsCarrying alpha 1)) b x → InAlphaCorner L d x
    to (b, (zero, low, is), o) = subst (λ c. InOrbit (IsLinkedBy L (IsCarrying alpha 1)) c x) (sym is) o
    to (b, (suc p, low, is), o) = absurd (omega arith)

-- the one dart of a list
pub lone-dart : (d x : ℕ) → Contains (d ∷ []) x → x ≡ d
lone-dart d x (zero, low, is) = sym is
lone-dart d x (suc p, low, is) = absurd (omega arith)

pub has-lone : (d x : ℕ) → x ≡ d → Contains (d ∷ []) x
has-lone d x own = (0, omega arith, sym own)
