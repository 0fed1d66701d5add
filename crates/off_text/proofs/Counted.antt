-- Reading so many things one after the other, as a loop does.
use Rattle.std.proofs.Common.{◌≡◌, ℕ, suc, ◌-◌, ◌+◌, ◌≤◌, ◌<◌, List, [], ◌∷◌, ◌++◌, Result, Ok, Err, refl, sym, ap, ◌∙◌, append_assoc, arith}
use Rattle.std.proofs.lemmas.List.{append-nil}
use Rattle.map_defs.specs.Off.{Left, TextFault, ◌>>=◌, many}
use Rattle.off_text.specs.declared.fault.OffFault.{OffFault}
use Rattle.off_text.specs.declared.fault.OffFault.TheVariants as outcome
use Rattle.off_text.specs.Meanings.{meaning, IsFault}
use Rattle.off_text.specs.Reading.{pushed}

-- what was read before, and what is still read
abbrev pub with_front : {A : Type 0} → List A → Result (List A × Left) TextFault → Result (List A × Left) TextFault
with_front front read = read >>= λ x. Ok (front ++ x.0, x.1)

regroup : {A : Type 0} (front : List A) (x : A) (read : Result (List A × Left) TextFault) → with_front front (read >>= λ xs. Ok (x ∷ xs.0, xs.1)) ≡ with_front (front ++ x ∷ []) read
regroup {A = A} front x (Ok xs) = ap (λ (items : List A). Ok (items, xs.1)) (simp append_assoc)
regroup front x (Err e) = refl

abbrev good : {A : Type 0} → A → Result A TextFault
good x = Ok x

ok_is : {A : Type 0} (x y : A) → good x ≡ good y → x ≡ y
ok_is x y e = cc

abbrev failed : {A : Type 0} → TextFault → Result A TextFault
failed e = Err e

err_is : {A B : Type 0} (x y : TextFault) → failed {A = A} x ≡ failed y → failed {A = B} x ≡ failed y
err_is x y e = let same : x ≡ y = cc in ap (λ (z : TextFault). Err z) same

module _ {A : Type 0} (one : Left → Result (A × Left) TextFault) where
  pub goes_on : (front new : List A) (count i : ℕ) (left : Left) (x : A) (after : Left) (total : Result (List A × Left) TextFault) → i < count → one left ≡ Ok (x, after) → new ≡ front ++ x ∷ []
      → with_front front (many one (count - i) left) ≡ total → with_front new (many one (count - (i + 1)) after) ≡ total
  goes_on front new count i left x after total lt h pushed so_far =
      let k : count - i ≡ suc (count - (i + 1)) = omega arith in
      let step : with_front front (many one (count - i) left) ≡ with_front (front ++ x ∷ []) (many one (count - (i + 1)) after) = rw (k, h) (regroup front x (many one (count - (i + 1)) after)) in
      rw pushed (sym step ∙ so_far)

  -- the same of what was pushed already
  pub goes_on_pushed : (front new : List A) (count i : ℕ) (left after : Left) (total : Result (List A × Left) TextFault) → i < count → pushed front (one left) ≡ Ok (new, after)
      → with_front front (many one (count - i) left) ≡ total → with_front new (many one (count - (i + 1)) after) ≡ total
  goes_on_pushed front new count i left after total lt h so_far = of_one (one left) refl h
    where
      of_one : (r : Result (A × Left) TextFault) → one left ≡ r → pushed front r ≡ Ok (new, after) → with_front new (many one (count - (i + 1)) after) ≡ total
      of_one (Ok x) is h =
          let same = ok_is (front ++ x.0 ∷ [], x.1) (new, after) h in
          let items : new ≡ front ++ x.0 ∷ [] = ap (λ (p : List A × Left). p.0) (sym same) in
          let then : one left ≡ Ok (x.0, after) = is ∙ ap (λ (l : Left). Ok (x.0, l)) (ap (λ (p : List A × Left). p.1) same) in
          goes_on front new count i left x.0 after total lt then items so_far
      of_one (Err e) is h = absurd cc

  pub ends : (fault : OffFault) (front : List A) (count i : ℕ) (left : Left) (total : Result (List A × Left) TextFault) → i < count → IsFault fault (one left)
      → with_front front (many one (count - i) left) ≡ total → IsFault fault total
  ends outcome.NoMemory front count i left total lt h so_far = tt
  ends (outcome.Bad line what) front count i left total lt h so_far =
      let k : count - i ≡ suc (count - (i + 1)) = omega arith in
      let step : with_front front (many one (count - i) left) ≡ Err (record { line = line; what = meaning what }) = rw (k, h) refl in
      sym so_far ∙ step

  pub ends_pushed : (fault : OffFault) (front : List A) (count i : ℕ) (left : Left) (total : Result (List A × Left) TextFault) → i < count → IsFault fault (pushed front (one left))
      → with_front front (many one (count - i) left) ≡ total → IsFault fault total
  ends_pushed outcome.NoMemory front count i left total lt h so_far = tt
  ends_pushed (outcome.Bad line what) front count i left total lt h so_far = ends (outcome.Bad line what) front count i left total lt (of_one (one left) h) so_far
    where
      of_one : (r : Result (A × Left) TextFault) → pushed front r ≡ Err (record { line = line; what = meaning what }) → r ≡ Err (record { line = line; what = meaning what })
      of_one (Ok x) h = absurd cc
      of_one (Err e) h = err_is e (record { line = line; what = meaning what }) h

  pub is_done : (front : List A) (count i : ℕ) (left : Left) (total : Result (List A × Left) TextFault) → count ≤ i → with_front front (many one (count - i) left) ≡ total → total ≡ Ok (front, left)
  is_done front count i left total le so_far =
      let k : count - i ≡ 0 = omega arith in
      let step : with_front front (many one (count - i) left) ≡ Ok (front, left) = rw k (ap (λ (items : List A). Ok (items, left)) (append-nil front)) in
      sym so_far ∙ step
