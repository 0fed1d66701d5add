-- Signs by parity: the odd numbers are positive.
use Rattle.std.proofs.Common.{ℕ, zero, suc, ◌≡◌, ◌+◌, ◌<◌, ◌≤◌, ◌↔◌, List, [], ◌∷◌, length, get_or, map, Contains, Bool, true, false, not, refl, sym, ap, ◌∙◌, subst, arith}
use Rattle.std.specs.List.{range_with_len}
use Rattle.std.specs.List.Sorted.{IsStrictlyIncreasing}
use Rattle.std.proofs.lemmas.List.{get_or-map, length-map}
use Rattle.std.proofs.lemmas.List.FromFn.{length-range_with_len, get_or-range_with_len}
use Rattle.half_defs.specs.Halves.{odd_dart, even_dart}
use Rattle.half_defs.specs.Orientation.{Sign, darts_of}

pub is_odd : ℕ → Bool
is_odd zero = false
is_odd (suc d) = not (is_odd d)

pub even_dart_is_even : (r : ℕ) → is_odd (even_dart r) ≡ false
unfolding is_odd
even_dart_is_even zero = refl
even_dart_is_even (suc r) =
    let two : suc r + suc r ≡ suc (suc (r + r)) = omega arith in
    ap is_odd two ∙ ap (λ (b : Bool). not (not b)) (even_dart_is_even r)

pub odd_dart_is_odd : (r : ℕ) → 1 ≤ r → is_odd (odd_dart r) ≡ true
unfolding is_odd
odd_dart_is_odd zero low = absurd (omega arith)
odd_dart_is_odd (suc r) low = ap not (even_dart_is_even r)

-- signs of the darts of a list, by a test
module _ (positive : ℕ → Bool) where
  pub sign_of : ℕ → Sign
  sign_of d = record { dart = d; positive = positive d }

  pub signs_of : List ℕ → List Sign
  signs_of darts = map sign_of darts

  pub signs_darts : (darts : List ℕ) → darts_of (signs_of darts) ≡ darts
  unfolding sign_of signs_of
  signs_darts [] = refl
  signs_darts (d ∷ darts) = ap (λ (ds : List ℕ). d ∷ ds) (signs_darts darts)

  -- each sign is its dart's, and tells what the test says
  pub sign_is : (darts : List ℕ) (s : Sign) → Contains (signs_of darts) s → Contains darts s.dart × (s.positive ≡ positive s.dart)
  unfolding sign_of signs_of
  sign_is darts s h =
      let long = length-map darts sign_of in
      let l = h.1 in
      let within : h.0 < length darts = omega (arith, long, l) in
      let is : sign_of (get_or darts h.0 s.dart) ≡ s = sym (get_or-map sign_of darts h.0 s.dart s within) ∙ h.2 in
      let dart : get_or darts h.0 s.dart ≡ s.dart = ap (λ (t : Sign). t.dart) is in
      ((h.0, within, dart), sym (ap (λ (t : Sign). t.positive) is) ∙ ap positive dart)

  pub sign_there : (darts : List ℕ) (d : ℕ) → Contains darts d → Contains (signs_of darts) (record { dart = d; positive = positive d })
  unfolding sign_of signs_of
  sign_there darts d c =
      let long = length-map darts sign_of in
      let l = c.1 in
      (c.0, omega (arith, long, l), get_or-map sign_of darts c.0 d (sign_of d) c.1 ∙ ap sign_of c.2)

-- the numbers from 1 up
pub counted_ascending : (top : ℕ) → IsStrictlyIncreasing (range_with_len 1 top)
counted_ascending top k within =
    let long = length-range_with_len 1 top in
    let here = get_or-range_with_len 1 top k 0 (omega (arith, long, within)) in
    let next = get_or-range_with_len 1 top (k + 1) 0 (omega (arith, long, within)) in
    omega (arith, here, next)

pub counted_members : (top d : ℕ) → Contains (range_with_len 1 top) d ↔ ((1 ≤ d) × (d ≤ top))
counted_members top d = (
  λ h. let long = length-range_with_len 1 top in
      let l = h.1 in
      let e : 1 + h.0 ≡ d = sym (get_or-range_with_len 1 top h.0 d (omega (arith, long, l))) ∙ h.2 in
      (omega (arith, e), omega (arith, e, long, l)),
  λ b. go d b.0 b.1,
)
  where
    go : (d : ℕ) → 1 ≤ d → d ≤ top → Contains (range_with_len 1 top) d
    go zero low high = absurd (omega arith)
    go (suc k) low high = (k, (let long = length-range_with_len 1 top in omega (arith, long)), get_or-range_with_len 1 top k (suc k) (omega arith) ∙ omega arith)

-- the signs of the darts from 1 up
pub signs_to : ℕ → List Sign
signs_to top = signs_of is_odd (range_with_len 1 top)

module _ (top : ℕ) where
  same_darts : darts_of (signs_to top) ≡ range_with_len 1 top
  unfolding signs_to
  same_darts = signs_darts is_odd (range_with_len 1 top)

  pub signs_ascending : IsStrictlyIncreasing (darts_of (signs_to top))
  signs_ascending = subst (λ (xs : List ℕ). IsStrictlyIncreasing xs) (sym same_darts) (counted_ascending top)

  pub signs_members : (d : ℕ) → Contains (darts_of (signs_to top)) d ↔ ((1 ≤ d) × (d ≤ top))
  signs_members d = subst (λ (xs : List ℕ). Contains xs d ↔ ((1 ≤ d) × (d ≤ top))) (sym same_darts) (counted_members top d)

  pub sign_told : (s : Sign) → Contains (signs_to top) s → (1 ≤ s.dart) × (s.dart ≤ top) × (s.positive ≡ is_odd s.dart)
  unfolding signs_to
  sign_told s h =
      let is = sign_is is_odd (range_with_len 1 top) s h in
      let bounds = (counted_members top s.dart).0 is.0 in
      (bounds.0, bounds.1, is.1)

  pub sign_held : (d : ℕ) → 1 ≤ d → d ≤ top → Contains (signs_to top) (record { dart = d; positive = is_odd d })
  unfolding signs_to
  sign_held d low high = sign_there is_odd (range_with_len 1 top) d ((counted_members top d).1 (low, high))
