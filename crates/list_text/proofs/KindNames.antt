-- A kind is named by its letter.
use Rattle.std.proofs.Common.{◌≡◌, refl}
use Rattle.map_defs.specs.Kind.{Kind, alpha, beta, letter}
use Rattle.list_text.specs.Letters.{kind_named}

pub letter-names : (k : Kind) → kind_named (letter k) ≡ k
letter-names alpha = refl
letter-names beta = refl
