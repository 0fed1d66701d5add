-- The pairs of a sewing go along the links distant from its own; links above the dimension add none.
use Rattle.std.proofs.Common.{◌≡◌, ◌≢◌, ℕ, zero, suc, ◌+◌, ◌≤◌, ◌<◌, ◌⊎◌, ◌↔◌, List, [], ◌∷◌, ◌++◌, Contains, refl, sym, ap, subst, inl, inr, arith}
use Rattle.std.proofs.lemmas.Bool.{cases_lt}
use Rattle.std.proofs.lemmas.List.Elements.{Contains-append_left, Contains-push, Contains-push_cases}
use Rattle.map_defs.specs.Kind.{Kind, inverse, IsDistant}
use Rattle.map_defs.specs.Links.{Links, HasDimension}
use Rattle.map_defs.specs.Pairs.{InPairs, IsGood, JustOne}
use Rattle.map_defs.specs.Sewing.{SewnPairs}
use Rattle.link_laws.proofs.Basics.{inverse_own}
use Rattle.sewing.specs.Triples.{Triple, Lists}
use Rattle.sewing.proofs.PairFacts.{pairs-along}

-- ---- the distant links below a number, collected one after another
pub distant-skip : (P : ℕ → Type 0) (n : ℕ) (js : List ℕ) → (P n → ⊥) → ((j : ℕ) → Contains js j ↔ ((j < n) × P j)) → (j : ℕ) → Contains js j ↔ ((j < n + 1) × P j)
distant-skip P n js not same j = (
  λ has. let p = (same j).0 has in (omega (arith, p.0), p.1),
  λ p. (same j).1 (below p (cases_lt j n), p.1),
)
  where
    below : (j < n + 1) × P j → (j < n) ⊎ (n ≤ j) → j < n
    below p (inl low) = low
    below p (inr high) = let e : j ≡ n = omega (arith, p.0) in absurd (not (subst P e p.1))

pub distant-push : (P : ℕ → Type 0) (n : ℕ) (js : List ℕ) → P n → ((j : ℕ) → Contains js j ↔ ((j < n) × P j)) → (j : ℕ) → Contains (js ++ n ∷ []) j ↔ ((j < n + 1) × P j)
distant-push P n js here same j = (λ has. to (Contains-push_cases js n j has), λ p. from p (cases_lt j n))
  where
    to : Contains js j ⊎ (n ≡ j) → (j < n + 1) × P j
    to (inl has) = let p = (same j).0 has in (omega (arith, p.0), p.1)
    to (inr e) = (omega arith, subst P e here)

    from : (j < n + 1) × P j → (j < n) ⊎ (n ≤ j) → Contains (js ++ n ∷ []) j
    from p (inl low) = Contains-append_left js (n ∷ []) j ((same j).1 (low, p.1))
    from p (inr high) = let e : n ≡ j = omega (arith, p.0) in subst (Contains (js ++ n ∷ [])) e (Contains-push js n)

pub distant-all : (P : ℕ → Type 0) (dim n : ℕ) (js : List ℕ) → n ≡ dim + 1 → ((j : ℕ) → Contains js j ↔ ((j < n) × P j)) → (j : ℕ) → Contains js j ↔ ((j ≤ dim) × P j)
distant-all P dim n js end same j = (
  λ has. let p = (same j).0 has in (omega (arith, p.0), p.1),
  λ p. (same j).1 (omega (arith, p.0), p.1),
)

-- ---- one seed in a list
pub one_listed : (d e i x y t : ℕ) → Lists (record { x = d; y = e; t = i } ∷ []) x y t ↔ JustOne d e i x y t
one_listed d e i x y t = (λ has. to has, λ same. rw (same.0, same.1, same.2) (0, omega arith, refl))
  where
    to : Lists (record { x = d; y = e; t = i } ∷ []) x y t → JustOne d e i x y t
    to (zero, low, is) = (sym (ap (λ (q : Triple). q.x) is), sym (ap (λ (q : Triple). q.y) is), sym (ap (λ (q : Triple). q.t) is))
    to (suc n, low, is) = absurd (omega arith)

-- ---- the pairs along the listed distant links are those of the sewing
module _ (k : Kind) (L : Links) (n i d e : ℕ) (js : List ℕ) (dim : 2 ≤ n) (above : HasDimension n L)
    (distant : (j : ℕ) → Contains js j ↔ ((j ≤ n) × IsDistant k i j)) where
  low_or_free : (j : ℕ) → (j ≤ n) ⊎ ((x : ℕ) → L j x ≡ 0)
  low_or_free j = elim (cases_lt n j) [ inl high ↦ inr (λ x. above j x high) | inr low ↦ inl low ]

  pub listed-sewn : (x y t : ℕ) → InPairs k L (Contains js) (Lists (record { x = d; y = e; t = i } ∷ [])) x y t ↔ SewnPairs k L i d e x y t
  listed-sewn x y t = (
    pairs-along k L (Contains js) (IsDistant k i) (Lists (record { x = d; y = e; t = i } ∷ [])) (JustOne d e i) (λ u v s has. (one_listed d e i u v s).0 has) (λ j u has h. ((distant j).0 has).1) x y t,
    pairs-along k L (IsDistant k i) (Contains js) (JustOne d e i) (Lists (record { x = d; y = e; t = i } ∷ [])) (λ u v s one. (one_listed d e i u v s).1 one) along x y t,
  )
    where
      along : (j u : ℕ) → IsDistant k i j → L j u ≢ 0 → Contains js j
      along j u far h = elim (low_or_free j) [ inl low ↦ (distant j).1 (low, far) | inr free ↦ absurd (h (free u)) ]

  pub good-sewn : IsGood k L (Contains js) (InPairs k L (Contains js) (Lists (record { x = d; y = e; t = i } ∷ []))) → IsGood k L (IsDistant k i) (SewnPairs k L i d e)
  good-sewn good = record {
    one = λ x y z t p q. good.one x y z t ((listed-sewn x y t).1 p) ((listed-sewn x z t).1 q);
    moves = λ x y t p. good.moves x y t ((listed-sewn x y t).1 p);
    even = λ x y t j p far. even x y t j p far (cases_lt n j);
  }
    where
      even : (x y t j : ℕ) → SewnPairs k L i d e x y t → IsDistant k i j → (n < j) ⊎ (j ≤ n) → (L j x ≡ 0) ↔ (L (inverse k j) y ≡ 0)
      even x y t j p far (inl high) =
          let own : inverse k j ≡ j = inverse_own k j (omega arith) in
          (λ _. rw own (above j y high), λ _. above j x high)
      even x y t j p far (inr low) = good.even x y t j ((listed-sewn x y t).1 p) ((distant j).1 (low, far))

  pub sewn-good : IsGood k L (IsDistant k i) (SewnPairs k L i d e) → IsGood k L (Contains js) (InPairs k L (Contains js) (Lists (record { x = d; y = e; t = i } ∷ [])))
  sewn-good good = record {
    one = λ x y z t p q. good.one x y z t ((listed-sewn x y t).0 p) ((listed-sewn x z t).0 q);
    moves = λ x y t p. good.moves x y t ((listed-sewn x y t).0 p);
    even = λ x y t j p has. good.even x y t j ((listed-sewn x y t).0 p) ((distant j).0 has).1;
  }
