-- The numbers of the new darts: the ends of the new edges are numbered on from their begins.
use Rattle.std.proofs.Common.{ℕ, zero, suc, List, ◌≡◌, ◌+◌, ◌<◌, ◌≤◌, length, slice_index, get_or, Contains, sym, ap, ◌∙◌, arith}
use Rattle.std.proofs.lemmas.List.Elements.{Contains-get_or}
use Rattle.std.specs.List.Sorted.{IsStrictlyIncreasing}
use Rattle.std.proofs.lemmas.List.{get_or_default}
use Rattle.map_defs.specs.Births.{IsNumbered}
use Rattle.insert_laws.proofs.Numbers.{numbered_at, numbered_upto}
use Rattle.cell_edit.specs.Stars.{Stars, star_of}
use Rattle.cell_edit.proofs.StarNumbers.{rises, stars-number}
use Rattle.face_center.specs.Hanging.{tip_of, CanPair}

-- the first of ascending darts is the least of them
pub first-least : (xs : List ℕ) (x : ℕ) → IsStrictlyIncreasing xs → Contains xs x → (0 < length xs) × (slice_index xs 0 ≤ x)
first-least xs x rising (zero, low, at) =
    let one : x ≡ slice_index xs 0 = sym at ∙ get_or_default xs 0 x 0 low in
    (low, omega arith)
first-least xs x rising (suc p, low, at) =
    let one : x ≡ slice_index xs (suc p) = sym at ∙ get_or_default xs (suc p) x 0 low in
    let less : slice_index xs 0 < slice_index xs (suc p) = rises xs rising 0 (suc p) (omega arith) low in
    (omega arith, omega arith)

module _ (stars : Stars) (can : CanPair stars) where
  pub begins-number : IsNumbered (Contains stars.keys) stars.keys stars.made (star_of stars)
  begins-number = stars-number stars can.rising (λ p d h. can.darts (get_or stars.keys p d) (Contains-get_or stars.keys p d h))

  pub ends-number : IsNumbered (Contains stars.keys) stars.keys (stars.made + length stars.keys) (tip_of stars)
  ends-number =
      stars-number (record { keys = stars.keys; made = stars.made + length stars.keys }) can.rising
      (λ p d h. can.darts (get_or stars.keys p d) (Contains-get_or stars.keys p d h))

  pub star-none : star_of stars 0 ≡ 0
  star-none = begins-number.nothing

  pub tip-none : tip_of stars 0 ≡ 0
  tip-none = ends-number.nothing

  -- the end of an edge is as far beyond its begin as there are edges
  pub tip-beyond : (x : ℕ) → Contains stars.keys x → tip_of stars x ≡ star_of stars x + length stars.keys
  tip-beyond x has =
      let at : (p : ℕ) × (p < length stars.keys) × (slice_index stars.keys p ≡ x) × (star_of stars x ≡ stars.made + 1 + p) =
      numbered_at (Contains stars.keys) stars.keys stars.made (star_of stars) begins-number x has in
      let begin : star_of stars x ≡ stars.made + 1 + at.0 = at.3 in
      let end : tip_of stars x ≡ stars.made + length stars.keys + 1 + at.0 = ap (tip_of stars) (sym at.2) ∙ ends-number.numbers at.0 at.1 in
      omega arith

  -- all numbers are small
  pub tip-small : (x : ℕ) → Contains stars.keys x → star_of stars x + length stars.keys ≤ 12582912
  tip-small x has =
      let high : star_of stars x ≤ stars.made + length stars.keys = numbered_upto (Contains stars.keys) stars.keys stars.made (star_of stars) begins-number x has in
      omega (arith, can.few, can.count)
