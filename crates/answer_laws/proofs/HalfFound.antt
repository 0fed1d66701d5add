-- Each text has a half.
use Rattle.std.proofs.Common.{ℕ, ◌≤◌, List, Result, Ok, Err, is_some, refl, inl, inr, arith}
use Rattle.map_defs.specs.Kind.{Kind, alpha, beta}
use Rattle.map_defs.specs.Laws.{Laws}
use Rattle.map_defs.specs.Links.{Links, LeadsToLive, HasDimension}
use Rattle.map_defs.specs.Walks.{IsTold}
use Rattle.half_laws.proofs.ThereLists.{test_told}
use Rattle.half_laws.proofs.ThereSigns.{signs_or_fault}
use Rattle.half_laws.proofs.ThereHalf.{half_found}
use Rattle.half_laws.proofs.ThereDouble.{double_found}
use Rattle.machine_defs.specs.Listing.{Listing}
use Rattle.machine_defs.specs.ListingForm.{ListingFault, told}
use Rattle.machine_defs.specs.ListingFaults.{row_in, HasRow, links_in, Reads}
use Rattle.machine_defs.specs.Auditing.{fault_line}
use Rattle.machine_defs.specs.Halving.{orient_line, half_text, MapHalfAnswer, HalfAnswer}
use Rattle.row_laws.proofs.ListedMaps.{IsListedMap, listed-map}
use Rattle.answer_laws.specs.Answering.{NotNot}
use Rattle.answer_laws.proofs.AuditFound.{read_found, bound}

-- so has each map whose live darts are told up to a bound
module _ (n : ℕ) (Live : ℕ → Type 0) (L : Links) (leads : LeadsToLive Live L) (high : HasDimension n L) (none : Live 0 → ⊥) (is_told : IsTold Live) (made : ℕ) (low : (d : ℕ) → Live d → d ≤ made) where
  map_half_found : (k : Kind) → Laws k L → NotNot ((text : List ℕ) × (status : ℕ) × MapHalfAnswer k n Live L text status)
  map_half_found alpha laws never = elim (signs_or_fault n Live L laws leads high none made low is_told) [
    | inr has ↦ never (orient_line has.0, 3, inl (has.0, has.1, refl, refl))
    | inl signs ↦
        let half = half_found n Live L laws leads high none signs.0 signs.1.signed in
        never (
          half_text beta n half.1 half.0,
          0,
          inr (
            record { signs = signs.0; origins = half.0; rows = half.1; oriented = signs.1; positive = half.2; darts = half.3; half = half.4; told = refl },
            refl,
          ),
        )
  ]
  map_half_found beta laws never =
      let double = double_found Live is_told made low n L laws leads high none in
      never (
        half_text alpha n double.1 double.0,
        0,
        (
          record { origins = double.0; rows = double.1; live = double.2; darts = double.3; double = double.4; told = refl },
          refl,
        ),
      )

pub half_answer_found : (text : List ℕ) → NotNot ((answer : List ℕ) × (status : ℕ) × HalfAnswer text answer status)
half_answer_found text never = read_found text (told text) refl (λ reading. go reading.0 reading.1)
  where
    go : (answer : Result Listing ListingFault) → Reads text answer → ⊥
    go (Err fault) r = never (fault_line fault, 3, inl (fault, r, refl, refl))
    go (Ok l) r =
        let map : IsListedMap l = listed-map text l r in
        let top = bound l.rows in
        map_half_found l.dim (HasRow l.rows) (links_in l.rows) map.live map.dimension map.nothing (λ d. test_told (is_some (row_in l.rows d))) top.0
        (λ d has. let below = top.1 d has in omega (arith, below)) l.kind map.laws (λ answer. never (answer.0, answer.1, inr (l, r, answer.2)))
