-- Contraction of a cell. Source: the textbook for generalized maps, where it is removal in the dual; the conditions and
-- walks of combinatorial maps are this project's. The darts of the cell end, as in a removal.
use Rattle.std.specs.Prelude.{ℕ, zero, suc, ◌≡◌}
use Rattle.map_defs.specs.Kind.{Kind, alpha, beta}
use Rattle.map_defs.specs.Links.{Links}
use Rattle.map_defs.specs.Cells.{InCell}
use Rattle.map_defs.specs.Walks.{step}
use Rattle.map_defs.specs.Removal.{CommutesAt, IsFlatAt, JoinsNoDart, IsBridged}

-- What contraction of an i-cell asks of each dart b of it: it is never possible for a vertex, and always for an edge. The
-- smallest map that shows why: beta, link 1 leading from 3 to 2 and from 4 to 4, link 2 joining 1 2 and 3 4: without the
-- face of 2, link 2 leads from 1 to 4 and not back.
abbrev pub IsContractibleAt : Kind → Links → ℕ → ℕ → Type 0
IsContractibleAt k L zero b = ⊥
IsContractibleAt k L (suc zero) b = Unit {0}
IsContractibleAt alpha L (suc (suc i)) b = CommutesAt L (suc i) i b
IsContractibleAt beta L (suc (suc zero)) b = L 1 (L 1 b) ≡ b
IsContractibleAt beta L (suc (suc (suc zero))) b = IsFlatAt L b
IsContractibleAt beta L (suc (suc (suc (suc i)))) b = CommutesAt L (suc (suc (suc i))) (suc (suc i)) b

-- one step of the walk across an i-cell that is contracted
abbrev pub across_contracted : Kind → Links → ℕ → ℕ → ℕ
across_contracted k L zero c = c
across_contracted alpha L (suc i) c = step L (suc i) (step L i c)
across_contracted beta L (suc zero) c = L 1 c
across_contracted beta L (suc (suc zero)) c = L 2 (L 0 c)
across_contracted beta L (suc (suc (suc i))) c = L (suc (suc (suc i))) (L (suc (suc i)) c)

-- A combinatorial map's further condition: without the i-cell C no remaining dart is joined to itself by a link from 2
-- upwards. The smallest map that shows why: two faces of one side each, 1 and 2, joined by link 2; without the face of 1,
-- link 2 joins 2 to itself.
abbrev pub StaysApartContracted : Kind → Links → ℕ → (ℕ → Type 0) → Type 0
StaysApartContracted alpha L i C = Unit {0}
StaysApartContracted beta L zero C = Unit {0}
StaysApartContracted beta L (suc zero) C = Unit {0}
StaysApartContracted beta L (suc (suc i)) C = JoinsNoDart L (suc (suc i)) C (across_contracted beta L (suc (suc i)))

-- the i-cell of d can be contracted
pub record IsContractible (k : Kind) (L : Links) (i d : ℕ) : Type 0 where
  -- each of its darts meets the condition
  pub each : (b : ℕ) → InCell k L i d b → IsContractibleAt k L i b
  -- and in a combinatorial map no remaining dart would be joined to itself
  pub apart : StaysApartContracted k L i (InCell k L i d)

-- N are the links after the i-cell of d was contracted
abbrev pub IsContracted : Kind → ℕ → ℕ → Links → Links → Type 0
IsContracted k i d L N = IsBridged k i (InCell k L i d) (across_contracted k L i) L N
