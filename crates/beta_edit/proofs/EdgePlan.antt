-- An edge between two corners, told by the lists of links and of pairs.
use Rattle.std.proofs.Common.{ℕ, zero, suc, ◌≤◌, ◌↔◌, List, [], ◌∷◌, Contains, refl, sym, ap, inl, inr, arith}
use Rattle.map_defs.specs.Kind.{beta}
use Rattle.map_defs.specs.Links.{Links, HasDimension}
use Rattle.map_defs.specs.Pairs.{IsGood, InPairs}
use Rattle.map_defs.specs.Insertion.{BetaEdgeSeed, BetaEdgePairs}
use Rattle.sewing.specs.Triples.{Triple, Lists}
use Rattle.cell_edit.proofs.PairsAlong.{listed-pairs, listed-good, good-listed, seeded-pairs, seeded-good, good-seeded}

-- ---- the two seeds in a list
abbrev pub edge_seeds : Links → ℕ → ℕ → List Triple
edge_seeds L d e = record { x = L 0 d; y = e; t = 1 } ∷ record { x = L 0 e; y = d; t = 1 } ∷ []

two-listed : (L : Links) (d e x y t : ℕ) → Lists (edge_seeds L d e) x y t ↔ BetaEdgeSeed L d e x y t
two-listed L d e x y t = (to, from)
  where
    to : Lists (edge_seeds L d e) x y t → BetaEdgeSeed L d e x y t
    to (zero, low, is) = inl (sym (ap (λ (q : Triple). q.x) is), sym (ap (λ (q : Triple). q.y) is), sym (ap (λ (q : Triple). q.t) is))
    to (suc zero, low, is) = inr (sym (ap (λ (q : Triple). q.x) is), sym (ap (λ (q : Triple). q.y) is), sym (ap (λ (q : Triple). q.t) is))
    to (suc (suc p), low, is) = absurd (omega arith)

    from : BetaEdgeSeed L d e x y t → Lists (edge_seeds L d e) x y t
    from (inl s) = rw (s.0, s.1, s.2) (0, omega arith, refl)
    from (inr s) = rw (s.0, s.1, s.2) (1, omega arith, refl)

-- the pairs that grow from these along listed links are those of the edge
module _ (n : ℕ) (dim : 2 ≤ n) (L : Links) (above : HasDimension n L) (js : List ℕ) (listed : (j : ℕ) → Contains js j ↔ ((j ≤ n) × (3 ≤ j))) (d e : ℕ) where
  abbrev Listed : ℕ → ℕ → ℕ → Type 0
  Listed = InPairs beta L (Contains js) (Lists (edge_seeds L d e))

  abbrev Along : ℕ → ℕ → ℕ → Type 0
  Along = InPairs beta L (λ j. 3 ≤ j) (Lists (edge_seeds L d e))

  pub edge-pairs : (x y t : ℕ) → Listed x y t ↔ BetaEdgePairs L d e x y t
  edge-pairs x y t =
      let along : Listed x y t ↔ Along x y t = listed-pairs beta L n dim above (λ j. 3 ≤ j) js listed (Lists (edge_seeds L d e)) x y t in
      let seeded : Along x y t ↔ BetaEdgePairs L d e x y t = seeded-pairs beta L (λ j. 3 ≤ j) (Lists (edge_seeds L d e)) (BetaEdgeSeed L d e) (two-listed L d e) x y t in
      ((λ p. seeded.0 (along.0 p)), λ p. along.1 (seeded.1 p))

  pub edge-good : IsGood beta L (Contains js) Listed → IsGood beta L (λ j. 3 ≤ j) (BetaEdgePairs L d e)
  edge-good good = seeded-good beta L (λ j. 3 ≤ j) (Lists (edge_seeds L d e)) (BetaEdgeSeed L d e) (two-listed L d e)
      (listed-good beta L n dim above (λ j. 3 ≤ j) js listed (Lists (edge_seeds L d e)) good)

  pub good-edge : IsGood beta L (λ j. 3 ≤ j) (BetaEdgePairs L d e) → IsGood beta L (Contains js) Listed
  good-edge good = good-listed beta L n dim above (λ j. 3 ≤ j) js listed (Lists (edge_seeds L d e))
      (good-seeded beta L (λ j. 3 ≤ j) (Lists (edge_seeds L d e)) (BetaEdgeSeed L d e) (two-listed L d e) good)
