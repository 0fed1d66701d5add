-- Totals: what the values of a dimension add up to over its cells. Source: this project's.
use Rattle.std.specs.Prelude.{ℕ, ◌≤◌, ◌+ℤ◌, ◌↔◌, pos, List, [], ◌∷◌, length, take, Option, None, IsSome, Contains}
use Rattle.std.specs.List.Sorted.{IsStrictlyIncreasing}
use Rattle.map_defs.specs.Kind.{Kind}
use Rattle.map_defs.specs.Links.{Links}
use Rattle.map_defs.specs.Cells.{InCell, NamesCell}
use Rattle.map_defs.specs.Values.{Value, IsRepresentable, Sum, Share, Hook, Meaning, meaning_of, on_each}
use Rattle.map_defs.specs.Carry.{IsCarried, IsValuedWith, known, merged_all}

-- the rule `sum share`, beside a hook: values add up where cells merge, and are dealt out where a cell is split
abbrev pub sum_share : Hook → Meaning
sum_share hook = meaning_of hook (record { merge = Sum; split = Share })

-- the cells of dimension i that have a value, each named once by its least dart, ascending
pub record ListsValuedCells (k : Kind) (i : ℕ) (L : Links) (Live : ℕ → Type 0) (values : ℕ → Option Value) (cells : List ℕ) : Type 0 where
  pub ascending : IsStrictlyIncreasing cells
  pub members : (d : ℕ) → Contains cells d ↔ (Live d × IsSome (values d) × NamesCell k L i d)

-- the whole sum, however large
abbrev pub plain_sum : Value → Value → Value
plain_sum = on_each ◌+ℤ◌

-- the values of these darts added up
abbrev pub total_value : (ℕ → Option Value) → List ℕ → Value
total_value values [] = record { a = pos 0; b = pos 0; c = pos 0 }
total_value values (d ∷ darts) = plain_sum (known (values d)) (total_value values darts)

-- added up from the left, the parts never leave 64 bits
abbrev pub StayWithin : List (Option Value) → Type 0
StayWithin parts = (n : ℕ) → n ≤ length parts → IsRepresentable (known (merged_all plain_sum None (take n parts)))

-- In no new cell of dimension i does a sum of parts leave 64 bits, where values are carried over a change of links.
abbrev pub NoSumLeaves : Kind → ℕ → Meaning → Links → (ℕ → Type 0) → (ℕ → Option Value) → Links → (ℕ → Type 0) → Type 0
NoSumLeaves k i rule L Live values N LiveAfter = (d : ℕ) → LiveAfter d → (result : Option Value)
    → (cell : IsCarried rule (λ x. known (values x)) (λ x. Live x × LiveAfter x) (IsValuedWith k i L values) (InCell k N i) d result) → StayWithin cell.parts
