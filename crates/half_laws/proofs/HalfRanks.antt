-- Ranks: each origin has one, and rank 0 and those above the number of origins have none.
use Rattle.std.proofs.Common.{ℕ, zero, suc, ◌≡◌, ◌≢◌, ◌⊎◌, ◌≤◌, ◌<◌, inl, inr, sym, ap, ◌∙◌, List, length, Contains, arith}
use Rattle.std.proofs.lemmas.List.{get_or_default, get_or_past}
use Rattle.std.proofs.lemmas.List.Elements.{Contains-get_or}
use Rattle.std.specs.List.Sorted.{IsStrictlyIncreasing}
use Rattle.value_laws.proofs.Rising.{rising_place}
use Rattle.half_defs.specs.Halves.{origin}

pub within_or_above : (n i : ℕ) → (i ≤ n) ⊎ (n < i)
within_or_above n i = grind arith

-- r is the rank of a dart
abbrev pub IsRank : List ℕ → ℕ → Type 0
IsRank origins r = (1 ≤ r) × (r ≤ length origins)

pub rank_or_not : (origins : List ℕ) (r : ℕ) → (origin origins r ≡ 0) ⊎ IsRank origins r
rank_or_not origins zero = inl (omega arith)
rank_or_not origins (suc k) = elim (within_or_above (length origins) (suc k)) [ inl h ↦ inr (omega arith, h) | inr h ↦ inl (get_or_past origins k 0 (omega arith)) ]

pub rank_listed : (origins : List ℕ) (r : ℕ) → IsRank origins r → Contains origins (origin origins r)
rank_listed origins zero h = absurd (let g = h.0 in omega arith)
rank_listed origins (suc k) h = Contains-get_or origins k 0 h.1

pub rank_of : (origins : List ℕ) (d : ℕ) → Contains origins d → (r : ℕ) × IsRank origins r × (origin origins r ≡ d)
rank_of origins d h = (suc h.0, (omega arith, h.1), get_or_default origins h.0 0 d h.1 ∙ h.2)

-- Below, the origins are ascending, and 0 is none of them.
module _ (origins : List ℕ) (rising : IsStrictlyIncreasing origins) (some : Contains origins 0 → ⊥) where
  -- the dart of a rank is not 0
  pub rank_some : (r : ℕ) → IsRank origins r → origin origins r ≢ 0
  rank_some r h e = some (rw e at (rank_listed origins r h))

  pub rank_none : (r : ℕ) → r ≤ length origins → origin origins r ≡ 0 → r ≡ 0
  rank_none zero l e = omega arith
  rank_none (suc k) l e = absurd (rank_some (suc k) (omega arith, l) e)

  -- two ranks of one dart are one
  pub rank_one : (r s : ℕ) → r ≤ length origins → s ≤ length origins → origin origins r ≡ origin origins s → r ≡ s
  rank_one zero s lr ls e = sym (rank_none s ls (sym e))
  rank_one (suc j) zero lr ls e = rank_none (suc j) lr e
  rank_one (suc j) (suc k) lr ls e = ap suc (rising_place origins rising j k lr ls e)
