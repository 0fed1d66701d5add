-- The laws of both kinds, which every `Kind` keeps.
use Rattle.std.specs.Prelude.{ℕ, ◌≡◌, zero, suc, refl, Option, Some, None}
use Rattle.std.proofs.Common.{inl, inr, ap, ap₂, sym, ◌∙◌, subst}
use Rattle.map_defs.specs.Kind.{Kind, alpha, beta, inverse, IsDistant}
use Rattle.map_defs.specs.LinkWords.{LinkWord, one_link, two_links, inverse_of, inverse_word, RunsAlong, IsCellWord}

-- the inverse of the inverse is the link itself
pub inverse-inverse : (k : Kind) (i : ℕ) → inverse k (inverse k i) ≡ i
inverse-inverse alpha i = refl
inverse-inverse beta zero = refl
inverse-inverse beta (suc zero) = refl
inverse-inverse beta (suc (suc i)) = refl

-- distant links are distant both ways
pub IsDistant-symmetric : (k : Kind) (i j : ℕ) → IsDistant k i j → IsDistant k j i
unfolding IsDistant
IsDistant-symmetric k i j (inl below) = inr below
IsDistant-symmetric k i j (inr above) = inl above

-- the inverse of the inverse is the word itself
pub inverse_word-inverse_word : (k : Kind) (w : LinkWord) → inverse_word k (inverse_word k w) ≡ w
inverse_word-inverse_word k w = of_parts w.first w.second
  where
    of_parts : (first : ℕ) (second : Option ℕ) → inverse_word k (inverse_of k first second) ≡ record { first = first; second = second }
    of_parts first None = ap one_link (inverse-inverse k first)
    of_parts first (Some second) = ap₂ two_links (inverse-inverse k first) (inverse-inverse k second)

-- the inverse of a word of a cell is a word of the cell
pub IsCellWord-inverse : (k : Kind) (i : ℕ) (w : LinkWord) → IsCellWord k i w → IsCellWord k i (inverse_word k w)
IsCellWord-inverse k i w (inl along) = inr (w, along, refl)
IsCellWord-inverse k i w (inr (v, along, is)) =
    inl (subst (RunsAlong k i) (sym (inverse_word-inverse_word k v) ∙ ap (inverse_word k) (sym is)) along)
