use Rattle.std.proofs.Common.{◌≡◌, ◌*◌, drop, pos, neg_ℤ, ◌+ℤ◌, ◌≤ℤ◌}
use Rattle.machine_defs.specs.Listing.{listed_total}
use Rattle.map_soak.proofs.squares.total.Given as goal

abbrev pub invariant-loop-value : goal.invariant-loop-value
invariant-loop-value l =
    (l.total +ℤ (listed_total 2 (drop l.value-index l.values)).a ≡ (listed_total 2 l.values).a)
    × (l.total ≤ℤ pos (l.value-index * 9223372036854775808)) × (neg_ℤ (pos (l.value-index * 9223372036854775808)) ≤ℤ l.total)
