-- The size of a row.
use Rattle.std.proofs.Common.{ℕ, ◌+◌, ◌*◌, ◌≤◌, ◌<◌, arith}
use prog.Memory.{up}

-- how many bytes a row takes
pub row-fits : (dim : ℕ) → dim ≤ 8 → up 4 (4 + dim * 4) < 9223372036854775808
row-fits dim h = omega arith
