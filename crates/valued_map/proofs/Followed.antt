-- Which links the words of cells follow.
use Rattle.std.proofs.Common.{ℕ, zero, suc, ◌≡◌, ◌≢◌, ◌≤◌, ◌⊎◌, inl, inr, Some, is_some, refl, sym, ap, ◌∙◌, arith}
use Rattle.std.proofs.lemmas.Bool.{false≢true}
use Rattle.map_defs.specs.Kind.{alpha, beta}
use Rattle.map_defs.specs.LinkWords.{LinkWord, one_link, two_links, inverse_word}
use Rattle.valued_map.specs.Changing.{IsFollowed}

-- a word of one link follows no other
one-follows : (w : LinkWord) (i link : ℕ) → w ≡ one_link i → (w.first ≡ link) ⊎ (w.second ≡ Some link) → i ≡ link
one-follows w i link is (inl first) = sym (ap (λ (v : LinkWord). v.first) is) ∙ first
one-follows w i link is (inr second) = absurd (false≢true (ap is_some (sym (ap (λ (v : LinkWord). v.second) is) ∙ second)))

-- in a generalized map, all links but that of the dimension
pub alpha-follows : (dim link : ℕ) → IsFollowed alpha dim link → link ≢ dim
alpha-follows dim link (w, inl (i, other, is), follows) = λ same. other (one-follows w i link is follows ∙ same)
alpha-follows dim link (w, inr (v, (i, other, is), back), follows) = λ same. other (one-follows w i link (back ∙ ap (inverse_word alpha) is) follows ∙ same)

pub alpha-followed : (dim link : ℕ) → link ≢ dim → IsFollowed alpha dim link
alpha-followed dim link other = (one_link link, inl (link, other, refl), inl refl)

-- in a combinatorial map, for the vertices all links
pub vertex-followed : (link : ℕ) → IsFollowed beta 0 link
vertex-followed zero = (two_links 0 2, inr (two_links 2 1, (1, 2, omega arith, omega arith, refl), refl), inl refl)
vertex-followed (suc zero) = (two_links 2 1, inl (1, 2, omega arith, omega arith, refl), inr refl)
vertex-followed (suc (suc i)) = (two_links (suc (suc i)) 1, inl (1, suc (suc i), omega arith, omega arith, refl), inl refl)

-- for the edges the links from 2 upwards
pub edge-follows : (link : ℕ) → IsFollowed beta 1 link → 2 ≤ link
edge-follows link (w, inl (i, two, is), follows) = let same = one-follows w i link is follows in omega (arith, two)
edge-follows link (w, inr (v, (zero, two, is), back), follows) = absurd (omega (arith, two))
edge-follows link (w, inr (v, (suc zero, two, is), back), follows) = absurd (omega (arith, two))
edge-follows link (w, inr (v, (suc (suc i), two, is), back), follows) =
    let same = one-follows w (suc (suc i)) link (back ∙ ap (inverse_word beta) is) follows in omega arith

pub edge-followed : (link : ℕ) → 2 ≤ link → IsFollowed beta 1 link
edge-followed link two = (one_link link, inl (link, two, refl), inl refl)

-- and for the cells above all links but that of the dimension
pub cell-follows : (dim link : ℕ) → IsFollowed beta (suc (suc dim)) link → link ≢ suc (suc dim)
cell-follows dim link (w, inl (i, some, other, is), follows) = λ same. other (one-follows w i link is follows ∙ same)
cell-follows dim link (w, inr (v, (zero, some, other, is), back), follows) = absurd (omega (arith, some))
cell-follows dim link (w, inr (v, (suc zero, some, other, is), back), follows) = λ same.
    let none = one-follows w 0 link (back ∙ ap (inverse_word beta) is) follows in omega arith
cell-follows dim link (w, inr (v, (suc (suc i), some, other, is), back), follows) = λ same.
    other (one-follows w (suc (suc i)) link (back ∙ ap (inverse_word beta) is) follows ∙ same)

pub cell-followed : (dim link : ℕ) → link ≢ suc (suc dim) → IsFollowed beta (suc (suc dim)) link
cell-followed dim zero other = (one_link 0, inr (one_link 1, (1, omega arith, (λ same. omega arith), refl), refl), inl refl)
cell-followed dim (suc link) other = (one_link (suc link), inl (suc link, omega arith, other, refl), inl refl)
