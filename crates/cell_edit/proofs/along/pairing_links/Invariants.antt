use Rattle.std.proofs.Common.{ℕ, ◌≡◌, ◌<◌, ◌≤◌, ◌↔◌, length, take, Contains}
use Rattle.map_defs.specs.Insertion.{IsPairing}
use Rattle.cell_edit.proofs.along.pairing_links.Given as goal

abbrev pub invariant-loop-other : goal.invariant-loop-other
invariant-loop-other l =
    ((j : ℕ) → Contains (take l.count l.pairing) j ↔ ((j < l.other) × IsPairing l.link j))
    × (l.count ≤ l.other) × (length l.pairing ≡ 9)
