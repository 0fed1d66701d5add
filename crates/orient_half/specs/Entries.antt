-- The entries of the half and of the double, and rows in which they are set one after the other.
use Rattle.std.specs.Prelude.{ℕ, zero, suc, ◌≡◌, ◌<◌, ◌≤◌, List}
use Rattle.map_defs.specs.Kind.{beta, inverse}
use Rattle.map_defs.specs.Links.{Links}
use Rattle.map_defs.specs.LinkWords.{LinkWord, two_links, through}
use Rattle.map_defs.specs.Rows.{Rows, links_of}
use Rattle.half_defs.specs.Halves.{origin, odd_dart, even_dart, HasDarts}
use Rattle.orient_half.specs.Ranks.{IsRank}

-- Link i of the half runs along this word of the map. Link 0 leads back where link 1 leads on.
abbrev pub half_word : ℕ → LinkWord
half_word zero = two_links 1 0
half_word (suc i) = two_links 0 (suc i)

-- the entry at link i of dart r of the half
abbrev pub IsHalfEntry : Links → List ℕ → ℕ → ℕ → ℕ → Type 0
IsHalfEntry L origins i r to = IsRank origins (through L (half_word i) (origin origins r)) to

-- Link i of the double joins the even dart of rank r to the odd dart of rank s.
abbrev pub IsAhead : Links → List ℕ → ℕ → ℕ → ℕ → Type 0
IsAhead L origins zero r s = s ≡ r
IsAhead L origins (suc i) r s = IsRank origins (L (suc i) (origin origins r)) s

-- Link i of the double joins the odd dart of rank r to the even dart of rank s.
abbrev pub IsBehind : Links → List ℕ → ℕ → ℕ → ℕ → Type 0
IsBehind L origins zero r s = s ≡ r
IsBehind L origins (suc i) r s = IsRank origins (L (inverse beta (suc i)) (origin origins r)) s

-- the entry at link i of dart d of the double
pub record IsDoubleEntry (L : Links) (origins : List ℕ) (i d to : ℕ) : Type 0 where
  pub even : (r : ℕ) → d ≡ even_dart r → (s : ℕ) × (to ≡ odd_dart s) × IsAhead L origins i r s
  pub odd : (r : ℕ) → d ≡ odd_dart r → (s : ℕ) × (to ≡ even_dart s) × IsBehind L origins i r s

-- The darts 1 to m are there, with the links 0 to n below i at dart d as they are to be, and all links of the darts before
-- it.
pub record AreSetUpTo (n m : ℕ) (IsEntry : ℕ → ℕ → ℕ → Type 0) (d i : ℕ) (rows : Rows) : Type 0 where
  pub darts : HasDarts n m rows
  pub before : (j e : ℕ) → j ≤ n → 1 ≤ e → e < d → IsEntry j e (links_of rows j e)
  pub here : (j : ℕ) → j < i → IsEntry j d (links_of rows j d)
