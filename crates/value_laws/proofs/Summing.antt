-- Under `sum share` the value of a new cell is the sum of its parts, while no sum leaves 64 bits, and the parts of an old
-- cell add up to its value. Both for each of the three numbers by itself.
use Rattle.std.proofs.Common.{ℕ, suc, ◌≡◌, ◌<◌, ◌≤◌, ◌+ℤ◌, ℤ, pos, negsuc, refl, sym, ap, ◌∙◌, List, [], ◌∷◌, length, take, Option, Some, None, IsSome, slice_index_or, arith}
use Rattle.std.proofs.lemmas.Int.{ints}
use Rattle.std.specs.Prelude.{FitsSigned}
use Rattle.std.specs.Int.{w64, saturate_signed}
use Rattle.map_defs.specs.Values.{Value, IsRepresentable, on_each, held_sum, dealt, dealt_value, total}
use Rattle.map_defs.specs.Carry.{merged_with, merged_all, known}
use Rattle.map_defs.specs.Totals.{plain_sum, StayWithin}
use Rattle.value_laws.proofs.Rules.{same_value}
use Rattle.value_laws.proofs.Adding.{total_first}

held_within : (x y : ℤ) → FitsSigned w64 (x +ℤ y) → held_sum x y ≡ x +ℤ y
held_within x y h = go (x +ℤ y) h
  where
    go : (z : ℤ) → FitsSigned w64 z → saturate_signed w64 z ≡ z
    go (pos n) h = ap pos (omega arith)
    go (negsuc n) h = ap negsuc (omega arith)

abbrev within_64 : List (Option Value) → Option Value → Type 0
within_64 parts sofar = (n : ℕ) → n ≤ length parts → IsRepresentable (known (merged_all plain_sum sofar (take n parts)))

-- the value so far, while nothing leaves 64 bits
held_step : (sofar part : Option Value) → IsRepresentable (known (merged_with plain_sum sofar part)) → merged_with (on_each held_sum) sofar part ≡ merged_with plain_sum sofar part
held_step None part h = refl
held_step (Some x) None h = refl
held_step (Some x) (Some y) h = ap Some (same_value (on_each held_sum x y) (plain_sum x y) (held_within x.a y.a h.0) (held_within x.b y.b h.1) (held_within x.c y.c h.2))

held_all : (parts : List (Option Value)) (sofar : Option Value) → within_64 parts sofar → merged_all (on_each held_sum) sofar parts ≡ merged_all plain_sum sofar parts
held_all [] sofar h = refl
held_all (v ∷ vs) sofar h =
    ap (λ s. merged_all (on_each held_sum) s vs) (held_step sofar v (h 1 (omega arith)))
    ∙ held_all vs (merged_with plain_sum sofar v) (λ n l. h (suc n) (omega arith))

-- a cell with a part has a value
merged_some : (f : Value → Value → Value) (x : Value) (vs : List (Option Value)) → IsSome (merged_all f (Some x) vs)
merged_some f x [] = refl
merged_some f x (None ∷ vs) = merged_some f x vs
merged_some f x (Some y ∷ vs) = merged_some f (f x y) vs

pub merged_has_value : (f : Value → Value → Value) (parts : List (Option Value)) → 0 < length parts → IsSome (slice_index_or parts 0 None) → IsSome (merged_all f None parts)
merged_has_value f [] h s = absurd (omega arith)
merged_has_value f (None ∷ vs) h s = cc (s)
merged_has_value f (Some x ∷ vs) h s = merged_some f x vs

-- one of the three numbers of a value
pub record IsNumber (number : Value → ℤ) : Type 0 where
  pub nothing : number (known None) ≡ pos 0
  pub summed : (x y : Value) → number (plain_sum x y) ≡ number x +ℤ number y
  pub dealt_out : (k p : ℕ) (v : Value) → number (dealt_value k p v) ≡ dealt k p (number v)

pub first_number : IsNumber (λ v. v.a)
first_number = record { nothing = refl; summed = λ x y. refl; dealt_out = λ k p v. refl }

pub second_number : IsNumber (λ v. v.b)
second_number = record { nothing = refl; summed = λ x y. refl; dealt_out = λ k p v. refl }

pub third_number : IsNumber (λ v. v.c)
third_number = record { nothing = refl; summed = λ x y. refl; dealt_out = λ k p v. refl }

module _ (number : Value → ℤ) (is : IsNumber number) where
  step_adds : (sofar part : Option Value) → number (known (merged_with plain_sum sofar part)) ≡ number (known sofar) +ℤ number (known part)
  step_adds None part = from_nothing (number (known None)) (number (known part)) is.nothing
    where
      from_nothing : (z s : ℤ) → z ≡ pos 0 → s ≡ z +ℤ s
      from_nothing z s e = omega (arith, ints)
  step_adds (Some x) None = with_nothing (number x) (number (known None)) is.nothing
    where
      with_nothing : (s z : ℤ) → z ≡ pos 0 → s ≡ s +ℤ z
      with_nothing s z e = omega (arith, ints)
  step_adds (Some x) (Some y) = is.summed x y

  grouped_sum : (x s t : ℤ) → (x +ℤ s) +ℤ t ≡ x +ℤ (s +ℤ t)
  grouped_sum x s t = omega (arith, ints)

  plain_total : (parts : List (Option Value)) (sofar : Option Value) → number (known (merged_all plain_sum sofar parts)) ≡ number (known sofar) +ℤ total (length parts) (λ p. number (known (slice_index_or parts p None)))
  plain_total [] sofar = nothing_more (number (known sofar))
    where
      nothing_more : (s : ℤ) → s ≡ s +ℤ pos 0
      nothing_more s = omega (arith, ints)
  plain_total (v ∷ vs) sofar =
      plain_total vs (merged_with plain_sum sofar v)
      ∙ (ap (λ s. s +ℤ total (length vs) (λ p. number (known (slice_index_or vs p None)))) (step_adds sofar v)
      ∙ (grouped_sum (number (known sofar)) (number (known v)) (total (length vs) (λ p. number (known (slice_index_or vs p None))))
      ∙ ap (λ s. number (known sofar) +ℤ s) (sym (total_first (length vs) (λ p. number (known (slice_index_or (v ∷ vs) p None)))))))

  -- the parts of a new cell add up to its value
  pub merged_adds_up : (parts : List (Option Value)) → StayWithin parts → number (known (merged_all (on_each held_sum) None parts)) ≡ total (length parts) (λ p. number (known (slice_index_or parts p None)))
  merged_adds_up parts h =
      ap (λ v. number (known v)) (held_all parts None h)
      ∙ (plain_total parts None ∙ no_more (number (known None)) (total (length parts) (λ p. number (known (slice_index_or parts p None)))) is.nothing)
    where
      no_more : (z s : ℤ) → z ≡ pos 0 → z +ℤ s ≡ s
      no_more z s e = omega (arith, ints)
