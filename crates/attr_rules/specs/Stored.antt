-- What is asked of closures that a caller stores: that they answer what a name says.
use Rattle.std.specs.Prelude.{ℕ, ◌≡◌, ◌<◌, ◌^◌, Option, Some, []}
use Rattle.std.specs.Int.{w64, int_bit_or}
use Rattle.map_defs.specs.Values.{Value, Meaning, Hook, IsRepresentable, on_each}

-- The two closures may be called on all values within 64 bits, and for each piece p of k pieces, and answer what is said.
pub record AreAnswers (says : Meaning) (may_merge : Value → Value → Type 0) (merges : Value → Value → Value → Type 0)
    (may_share : Value → ℕ → ℕ → Type 0) (shares : Value → ℕ → ℕ → Option Value → Type 0) : Type 0 where
  pub merge : (x y : Value) → IsRepresentable x → IsRepresentable y → may_merge x y
  pub merged : (x y r : Value) → IsRepresentable x → IsRepresentable y → merges x y r → r ≡ says.merged x y
  pub share : (v : Value) (k p : ℕ) → IsRepresentable v → k < 2 ^ 32 → p < k → may_share v k p
  pub shared : (v : Value) (k p : ℕ) (r : Option Value) → IsRepresentable v → k < 2 ^ 32 → p < k → shares v k p r → r ≡ says.share v k p

-- a hook that knows no names
abbrev pub nameless : Meaning → Hook
nameless says = record { host = says; names = []; named = λ name. says }

-- the bitwise or of each number, and each piece gets the whole value
abbrev pub or_copy : Meaning
or_copy = record { merged = on_each (int_bit_or w64); share = λ v k p. Some v }
