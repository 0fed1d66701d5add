-- What the calls that read darts say of their numbers.
use Rattle.std.proofs.Common.{◌≡◌, ℕ, zero, suc, ◌↔◌, List, Option, Some, None, sym, refl, subst}
use Rattle.std.specs.Prelude.{IsNone, IfSome, unwrap_or}
use Rattle.map_defs.specs.Kind.{beta, inverse}
use Rattle.map_defs.specs.Links.{Links}
use Rattle.half_defs.specs.Halves.{origin}
use Rattle.orient_half.specs.Ranks.{IsRank}
use Rattle.orient_half.specs.Entries.{IsAhead, IsBehind}

-- the number of a dart that is there
pub number-is : (made : Option ℕ) (d n : ℕ) → made ≡ Some d → IfSome made (λ dart. dart ≡ n) → d ≡ n
number-is made d n e is = subst (λ (o : Option ℕ). IfSome o (λ dart. dart ≡ n)) e is

-- the number of a dart that may be there
pub reached-is : (o : Option ℕ) (d : ℕ) → IsNone o ↔ (d ≡ 0) → IfSome o (λ dart. dart ≡ d) → unwrap_or o 0 ≡ d
reached-is None d free is = sym (free.0 refl)
reached-is (Some e) d free is = is

pub ahead-from : (L : Links) (darts : List ℕ) (i r s : ℕ) → (i ≡ 0 → ⊥) → IsRank darts (L i (origin darts r)) s → IsAhead L darts i r s
ahead-from L darts zero r s some rank = absurd (some refl)
ahead-from L darts (suc i) r s some rank = rank

pub behind-from : (L : Links) (darts : List ℕ) (i r s : ℕ) → (i ≡ 0 → ⊥) → IsRank darts (L (inverse beta i) (origin darts r)) s → IsBehind L darts i r s
behind-from L darts zero r s some rank = absurd (some refl)
behind-from L darts (suc i) r s some rank = rank
