-- A list with zeros behind it, up to a length of 32.
use Rattle.std.specs.Prelude.{ℕ, ◌≡◌, ◌≤◌, ◌-◌, List, ◌++◌, take, drop, length, replicate}
use Rattle.std.proofs.Common.{ap, sym, ◌∙◌, arith, take-append-drop, length-take-le}

-- the first n of 32 bytes, padded again, are the bytes, if zeros stood behind them
pub padded : (n : ℕ) (bytes : List ℕ) → length bytes ≡ 32 → n ≤ 32 → drop n bytes ≡ replicate (32 - n) 0
    → take n bytes ++ replicate (32 - length (take n bytes)) 0 ≡ bytes
padded n bytes long within behind =
    ap (λ (m : ℕ). take n bytes ++ replicate (32 - m) 0) (length-take-le n bytes (omega (arith, long, within)))
    ∙ ap (λ (zeros : List ℕ). take n bytes ++ zeros) (sym behind)
    ∙ take-append-drop n bytes
