-- Texts that were appended one after another.
use Rattle.std.proofs.Common.{◌≡◌, ℕ, List, ◌++◌, append_assoc}

pub six : (old a b c d e f : List ℕ) → (((((old ++ a) ++ b) ++ c) ++ d) ++ e) ++ f ≡ old ++ (((((a ++ b) ++ c) ++ d) ++ e) ++ f)
six old a b c d e f = simp append_assoc

pub seven : (old a b c d e f g : List ℕ) → ((((((old ++ a) ++ b) ++ c) ++ d) ++ e) ++ f) ++ g ≡ old ++ ((((((a ++ b) ++ c) ++ d) ++ e) ++ f) ++ g)
seven old a b c d e f g = simp append_assoc
