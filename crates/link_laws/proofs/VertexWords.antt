-- The words of a vertex of a combinatorial map.
use Rattle.std.proofs.Common.{ℕ, zero, suc, ◌<◌, ◌≤◌, ap, inl, inr, ◌∙◌, arith}
use Rattle.map_defs.specs.Kind.{beta, inverse}
use Rattle.map_defs.specs.LinkWords.{LinkWord, two_links, IsCellWord, inverse_word}

-- the words of a vertex: with link 1, with its inverse, and with two higher links
pub data IsVertexStep : LinkWord → Type 0 where
  leave : (j : ℕ) → 2 ≤ j → IsVertexStep (two_links j 1)
  enter : (j : ℕ) → 2 ≤ j → IsVertexStep (two_links 0 j)
  pass : (i j : ℕ) → 2 ≤ i → 2 ≤ j → IsVertexStep (two_links i j)

leave_or_pass : (i j : ℕ) → 1 ≤ i → i < j → IsVertexStep (two_links j i)
leave_or_pass zero j a b = absurd (omega arith)
leave_or_pass (suc zero) j a b = leave j (omega arith)
leave_or_pass (suc (suc i)) j a b = pass j (suc (suc i)) (omega arith) (omega arith)

enter_or_pass : (i j : ℕ) → 1 ≤ i → i < j → IsVertexStep (two_links (inverse beta i) (inverse beta j))
enter_or_pass zero j a b = absurd (omega arith)
enter_or_pass (suc i) zero a b = absurd (omega arith)
enter_or_pass (suc i) (suc zero) a b = absurd (omega arith)
enter_or_pass (suc zero) (suc (suc j)) a b = enter (suc (suc j)) (omega arith)
enter_or_pass (suc (suc i)) (suc (suc j)) a b = pass (suc (suc i)) (suc (suc j)) (omega arith) (omega arith)

pub vertex_word : (w : LinkWord) → IsCellWord beta 0 w → IsVertexStep w
vertex_word w (inl (i, j, a, b, e)) = rw e (leave_or_pass i j a b)
vertex_word w (inr (v, (i, j, a, b, e), g)) = rw (g ∙ ap (inverse_word beta) e) (enter_or_pass i j a b)
