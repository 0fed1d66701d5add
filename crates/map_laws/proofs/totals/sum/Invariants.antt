use Rattle.std.proofs.Common.{◌≡◌, ℕ, ℤ, ◌*◌, drop, pos, neg_ℤ, ◌+ℤ◌, ◌≤ℤ◌, Contains}
use Rattle.machine_defs.specs.Listing.{ListValue, listed_total}
use Rattle.map_laws.proofs.totals.sum.Given as goal

-- so many numbers of 64 bits add up to no more
abbrev pub IsWithin : ℕ → ℤ → Type 0
IsWithin n x = (x ≤ℤ pos (n * 9223372036854775808)) × (neg_ℤ (pos (n * 9223372036854775808)) ≤ℤ x)

abbrev pub invariant-loop-value : goal.invariant-loop-value
invariant-loop-value l =
    ((i : ℕ) → ((v : ListValue) → Contains l.values v → v.dim ≡ i)
    → (l.a +ℤ (listed_total i (drop l.value-index l.values)).a ≡ (listed_total i l.values).a)
    × (l.b +ℤ (listed_total i (drop l.value-index l.values)).b ≡ (listed_total i l.values).b)
    × (l.c +ℤ (listed_total i (drop l.value-index l.values)).c ≡ (listed_total i l.values).c))
    × IsWithin l.value-index l.a × IsWithin l.value-index l.b × IsWithin l.value-index l.c
