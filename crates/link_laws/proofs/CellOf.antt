-- What a cell holds: the least set that is closed under all links but the cell's own.
use Rattle.std.proofs.Common.{ℕ, zero, suc, ◌≡◌, ◌≢◌, sym, ap, inl, inr, ◌∙◌, arith}
use Rattle.map_defs.specs.Kind.{Kind, alpha, beta, inverse}
use Rattle.map_defs.specs.Links.{Links}
use Rattle.map_defs.specs.LinkWords.{LinkWord, one_link, through, IsCellWord, inverse_word}
use Rattle.map_defs.specs.Cells.{here, onward, InCell}
use Rattle.link_laws.proofs.CellFacts.{alpha_closed, beta_closed}

-- the cells that run along all links but one: those of a generalized map, and of dimension 2 and more in a combinatorial map
pub data RunsAlongAll : Kind → ℕ → Type 0 where
  all_alpha : {i : ℕ} → RunsAlongAll alpha i
  all_beta : {i : ℕ} → RunsAlongAll beta (suc (suc i))

pub cell_on : (k : Kind) (i : ℕ) → RunsAlongAll k i → (N : Links) (j d x : ℕ) → j ≢ i → InCell k N i d x → N j x ≢ 0 → InCell k N i d (N j x)
cell_on k i all_alpha N j d x n h m = alpha_closed N i j d x n h m
cell_on k i (all_beta {i = c}) N j d x n h m = beta_closed N c j d x n h m

-- a word of such a cell is one link, and not the cell's own
pub word_one : (k : Kind) (i : ℕ) → RunsAlongAll k i → (v : LinkWord) → IsCellWord k i v → (j : ℕ) × (j ≢ i) × (v ≡ one_link j)
word_one k i all_alpha v (inl p) = p
word_one k i all_alpha v (inr (u, (j, n, e), g)) = (j, n, g ∙ ap (inverse_word alpha) e)
word_one k i (all_beta {i = c}) v (inl (j, l, n, e)) = (j, n, e)
word_one k i (all_beta {i = c}) v (inr (u, (j, l, n, e), g)) = (inverse beta j, other j n, g ∙ ap (inverse_word beta) e)
  where
    other : (j : ℕ) → j ≢ suc (suc c) → inverse beta j ≢ suc (suc c)
    other zero n e = omega arith
    other (suc zero) n e = omega arith
    other (suc (suc j)) n e = n e

pub cell_in : (k : Kind) (i : ℕ) → RunsAlongAll k i → (N : Links) (S : ℕ → Type 0) → ((j x : ℕ) → j ≢ i → S x → N j x ≢ 0 → S (N j x)) → (d x : ℕ) → S d → InCell k N i d x → S x
cell_in k i r N S on d x h here = h
cell_in k i r N S on d x h (onward {x = u} {y = y} o (v, c, e, n)) =
    let q : (j : ℕ) × (j ≢ i) × (v ≡ one_link j) = word_one k i r v c in
    let a : N q.0 u ≡ y = ap (λ s. through N s u) (sym q.2) ∙ e in
    rw a at (on q.0 u q.1 (cell_in k i r N S on d u h o) (λ z. n (sym a ∙ z)))
