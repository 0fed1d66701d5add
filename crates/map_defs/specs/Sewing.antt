-- Sewing two darts at a link, with all darts that must move with them, and unsewing. Source: the textbook.
use Rattle.std.specs.Prelude.{ℕ, ◌≡◌, ◌≢◌, ◌⊎◌}
use Rattle.map_defs.specs.Kind.{Kind, inverse, IsDistant}
use Rattle.map_defs.specs.Links.{Links}
use Rattle.map_defs.specs.Pairs.{InPairs, IsGood, JustOne, IsJoined}

-- the pairs that are joined where d is sewn to e at link i: they go along all links distant from i
abbrev pub SewnPairs : Kind → Links → ℕ → ℕ → ℕ → ℕ → ℕ → ℕ → Type 0
SewnPairs k L i d e = InPairs k L (IsDistant k i) (JustOne d e i)

-- d can be sewn to e at link i
pub record IsSewable (k : Kind) (L : Links) (i d e : ℕ) : Type 0 where
  pub near : L i d ≡ 0
  pub far : L (inverse k i) e ≡ 0
  pub good : IsGood k L (IsDistant k i) (SewnPairs k L i d e)

-- N are the links after d was sewn to e at link i
abbrev pub IsSewn : Kind → ℕ → ℕ → ℕ → Links → Links → Type 0
IsSewn k i d e L N = IsJoined (SewnPairs k L i d e) L N

-- the least set of darts with a link each that holds d with link i and goes along the links distant from i
pub data IsParted (k : Kind) (L : Links) (i d : ℕ) : ℕ → ℕ → Type 0 where
  here : IsParted k L i d d i
  across : {x t : ℕ} (j : ℕ) → IsDistant k i j → IsParted k L i d x t → L j x ≢ 0 → IsParted k L i d (L j x) (inverse k t)

-- link t of x is freed where d is unsewn at link i: it is a link of that set, or the other end of one
abbrev pub IsFreed : Kind → Links → ℕ → ℕ → ℕ → ℕ → Type 0
IsFreed k L i d x t = IsParted k L i d x t ⊎ ((y : ℕ) × (u : ℕ) × IsParted k L i d y u × (x ≡ L u y) × (t ≡ inverse k u))

-- N are the links after d was unsewn at link i
pub record IsUnsewn (k : Kind) (i d : ℕ) (L N : Links) : Type 0 where
  pub freed : (x t : ℕ) → IsFreed k L i d x t → N t x ≡ 0
  pub kept : (x t : ℕ) → (IsFreed k L i d x t → ⊥) → N t x ≡ L t x
