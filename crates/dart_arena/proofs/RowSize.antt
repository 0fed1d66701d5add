-- How many bytes a row takes.
use Rattle.std.proofs.Common.{ℕ, ◌+◌, ◌*◌, ◌<◌, ◌≤◌, arith}
use prog.Memory.{up}

pub row-fits : (dim : ℕ) → dim ≤ 8 → up 4 (4 + dim * 4) < 9223372036854775808
row-fits dim h = omega arith
