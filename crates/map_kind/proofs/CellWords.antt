-- The words of cells among the links of a map.
use Rattle.std.proofs.Common.{◌≡◌, ◌≢◌, ℕ, zero, suc, ◌+◌, ◌≤◌, ◌<◌, ◌↔◌, refl, sym, ap, ◌∙◌, subst, inl, inr, arith}
use Rattle.map_defs.specs.Kind.{alpha, beta, inverse}
use Rattle.map_defs.specs.LinkWords.{LinkWord, one_link, two_links, inverse_word, RunsAlong, IsCellWord, IsWithin}
use Rattle.map_kind.specs.VertexWords.{IsVertexWordOf, IsVertexWordBelow}

-- w is the word of one link up to dim that is not cell
abbrev pub IsOther : ℕ → ℕ → LinkWord → Type 0
IsOther dim cell w = (j : ℕ) × (0 ≤ j) × (j ≤ dim) × (j ≢ cell) × (w ≡ one_link j)

-- the words of a cell of a generalized map are those of one link each
pub IsCellWord-alpha : (dim cell : ℕ) (w : LinkWord) → IsOther dim cell w ↔ (IsCellWord alpha cell w × IsWithin dim w)
IsCellWord-alpha dim cell w = (λ s. to s.0 s.2 s.3 s.4, λ s. from s.0 s.1)
  where
    to : (j : ℕ) → j ≤ dim → j ≢ cell → w ≡ one_link j → IsCellWord alpha cell w × IsWithin dim w
    to j low apart is = (inl (j, apart, is), subst (IsWithin dim) (sym is) (low, tt))

    run : RunsAlong alpha cell w → IsWithin dim w → IsOther dim cell w
    run r h = (r.0, omega arith, (subst (IsWithin dim) r.2 h).0, r.1, r.2)

    from : IsCellWord alpha cell w → IsWithin dim w → IsOther dim cell w
    from (inl r) h = run r h
    from (inr (v, r, is)) h = run (r.0, r.1, is ∙ ap (inverse_word alpha) r.2) h

-- w is the word of one link from low up to dim that is not cell
abbrev pub IsSingleWord : ℕ → ℕ → ℕ → LinkWord → Type 0
IsSingleWord low dim cell w = (j : ℕ) × (low ≤ j) × (j ≤ dim) × (j ≢ cell) × (w ≡ one_link j)

-- the words of an edge of a combinatorial map are those of one link each from 2 upwards
edge_words : (dim : ℕ) (w : LinkWord) → IsSingleWord 2 dim 1 w ↔ (IsCellWord beta 1 w × IsWithin dim w)
edge_words dim w = (λ s. (inl (s.0, s.1, s.4), subst (IsWithin dim) (sym s.4) (s.2, tt)), λ s. from s.0 s.1)
  where
    run : RunsAlong beta 1 w → IsWithin dim w → IsSingleWord 2 dim 1 w
    run r h = (r.0, r.1, (subst (IsWithin dim) r.2 h).0, omega (arith, r.1), r.2)

    from : IsCellWord beta 1 w → IsWithin dim w → IsSingleWord 2 dim 1 w
    from (inl r) h = run r h
    from (inr (v, r, is)) h = run (r.0, r.1, is ∙ ap (inverse_word beta) r.2 ∙ ap one_link (own r.0 r.1)) h
      where
        own : (j : ℕ) → 2 ≤ j → inverse beta j ≡ j
        own (suc (suc j)) low = refl
        own (suc zero) low = absurd (omega (arith, low))
        own zero low = absurd (omega (arith, low))

pub IsCellWord-beta-edge : (dim cell : ℕ) → cell ≡ 1 → (w : LinkWord) → IsSingleWord 2 dim cell w ↔ (IsCellWord beta cell w × IsWithin dim w)
IsCellWord-beta-edge dim cell is w = subst (λ i. IsSingleWord 2 dim i w ↔ (IsCellWord beta i w × IsWithin dim w)) (sym is) (edge_words dim w)

-- those of a cell of dimension 2 or more of a combinatorial map are those of one link each
pub IsCellWord-beta : (dim cell : ℕ) → 2 ≤ cell → cell ≤ dim → (w : LinkWord) → IsSingleWord 0 dim cell w ↔ (IsCellWord beta cell w × IsWithin dim w)
IsCellWord-beta dim zero low high w = absurd (omega (arith, low))
IsCellWord-beta dim (suc zero) low high w = absurd (omega (arith, low))
IsCellWord-beta dim (suc (suc i)) low high w = (λ s. to s.0 s.2 s.3 s.4, λ s. from s.0 s.1)
  where
    to : (j : ℕ) → j ≤ dim → j ≢ suc (suc i) → w ≡ one_link j → IsCellWord beta (suc (suc i)) w × IsWithin dim w
    to zero within apart is = (inr (one_link 1, (1, omega arith, (λ e. absurd (omega (arith, e))), refl), is), subst (IsWithin dim) (sym is) (within, tt))
    to (suc j) within apart is = (inl (suc j, omega arith, apart, is), subst (IsWithin dim) (sym is) (within, tt))

    run : RunsAlong beta (suc (suc i)) w → IsWithin dim w → IsSingleWord 0 dim (suc (suc i)) w
    run r h = (r.0, omega arith, (subst (IsWithin dim) r.3 h).0, r.2, r.3)

    back : (j : ℕ) → 1 ≤ j → j ≢ suc (suc i) → w ≡ one_link (inverse beta j) → IsWithin dim w → IsSingleWord 0 dim (suc (suc i)) w
    back zero first apart is h = absurd (omega (arith, first))
    back (suc zero) first apart is h = (0, omega arith, omega arith, (λ e. absurd (omega (arith, e))), is)
    back (suc (suc j)) first apart is h = (suc (suc j), omega arith, (subst (IsWithin dim) is h).0, apart, is)

    from : IsCellWord beta (suc (suc i)) w → IsWithin dim w → IsSingleWord 0 dim (suc (suc i)) w
    from (inl r) h = run r h
    from (inr (v, r, is)) h = back r.0 r.1 r.2 (is ∙ ap (inverse_word beta) r.3) h

-- those of a vertex of a combinatorial map are its words of two links
vertex_words : (dim : ℕ) (w : LinkWord) → IsVertexWordBelow (dim + 1) w ↔ (IsCellWord beta 0 w × IsWithin dim w)
vertex_words dim w = (λ s. to s.0 s.1 s.2.0 s.2.1 s.2.2 s.2.3, λ s. from s.0 s.1)
  where
    low_inverse : (near far : ℕ) → near < far → far ≤ dim → 1 ≤ near → inverse beta near ≤ dim
    low_inverse zero far less within first = omega arith
    low_inverse (suc zero) far less within first = omega arith
    low_inverse (suc (suc i)) far less within first = omega (arith, less, within)

    own : (near far : ℕ) → near < far → 1 ≤ near → inverse beta far ≡ far
    own near zero less first = absurd (omega (arith, less))
    own near (suc zero) less first = absurd (omega (arith, less, first))
    own near (suc (suc j)) less first = refl

    to : (far : ℕ) → far < dim + 1 → (near : ℕ) → 1 ≤ near → near < far → IsVertexWordOf near far w → IsCellWord beta 0 w × IsWithin dim w
    to far within near first less (inl is) = (inl (near, far, first, less, is), subst (IsWithin dim) (sym is) (omega (arith, within), omega (arith, within, less)))
    to far within near first less (inr is) = (
      inr (two_links far near, (near, far, first, less, refl), is ∙ ap (two_links (inverse beta near)) (sym (own near far less first))),
      subst (IsWithin dim) (sym is) (low_inverse near far less (omega (arith, within)) first, omega (arith, within)),
    )

    from : IsCellWord beta 0 w → IsWithin dim w → IsVertexWordBelow (dim + 1) w
    from (inl (near, far, first, less, is)) h = (far, (let low = (subst (IsWithin dim) is h).0 in omega (arith, low)), (near, first, less, inl is))
    from (inr (v, (near, far, first, less, was), is)) h =
        let whole = is ∙ ap (inverse_word beta) was ∙ ap (two_links (inverse beta near)) (own near far less first) in
        (far, (let low = (subst (IsWithin dim) whole h).1 in omega (arith, low)), (near, first, less, inr whole))

pub IsCellWord-beta-vertex : (dim cell : ℕ) → cell ≡ 0 → (w : LinkWord) → IsVertexWordBelow (dim + 1) w ↔ (IsCellWord beta cell w × IsWithin dim w)
IsCellWord-beta-vertex dim cell is w = subst (λ i. IsVertexWordBelow (dim + 1) w ↔ (IsCellWord beta i w × IsWithin dim w)) (sym is) (vertex_words dim w)
