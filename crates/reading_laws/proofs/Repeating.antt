-- A corner that comes twice, as it is met again behind those before it and by its places.
use Rattle.std.proofs.Common.{◌≡◌, ℕ, zero, suc, ◌<◌, Bool, true, false, cond, ◌||◌, ◌==◌, List, [], ◌∷◌, length, get_or, refl, ◌⊎◌, inl, inr, eq-eqb, arith}
use Rattle.std.specs.List.{list_any}
use Rattle.std.proofs.lemmas.Bool.{eqb-true, or_cases, both_ways}
use Rattle.map_defs.specs.MeshMap.{repeats}
use Rattle.reading_laws.specs.MeshFaults.{RepeatsCorner}

abbrev stands : ℕ → List ℕ → Bool
stands v before = list_any (λ u. u == v) before

-- a corner that stands before, or that comes twice
abbrev IsAgain : List ℕ → List ℕ → Type 0
IsAgain before corners = ((j : ℕ) × (j < length corners) × (stands (get_or corners j 0) before ≡ true)) ⊎ RepeatsCorner corners

again-on : (before corners : List ℕ) (v : ℕ) → IsAgain (v ∷ before) corners → IsAgain before (v ∷ corners)
again-on before corners v (inl (j, h, e)) = elim (or_cases (v == get_or corners j 0) (stands (get_or corners j 0) before) e) [
  | inl same ↦ inr (0, suc j, omega arith, omega arith, eqb-true v (get_or corners j 0) same)
  | inr there ↦ inl (suc j, omega arith, there)
]
again-on before corners v (inr (i, j, lt, h, e)) = inr (suc i, suc j, omega arith, omega arith, e)

again : (before corners : List ℕ) → repeats before corners ≡ true → IsAgain before corners
again before [] e = absurd (cc)
again before (v ∷ corners) e = at (stands v before) refl e (again (v ∷ before) corners)
  where
    at : (b : Bool) → stands v before ≡ b → cond b true (repeats (v ∷ before) corners) ≡ true → (repeats (v ∷ before) corners ≡ true → IsAgain (v ∷ before) corners) → IsAgain before (v ∷ corners)
    at true there e later = inl (0, omega arith, there)
    at false there e later = again-on before corners v (later e)

stands-more : (v u : ℕ) (before : List ℕ) → stands v before ≡ true → stands v (u ∷ before) ≡ true
stands-more v u before e = at (u == v)
  where
    at : (b : Bool) → b || stands v before ≡ true
    at true = refl
    at false = e

not-again : (before corners : List ℕ) → repeats before corners ≡ false → IsAgain before corners → ⊥
not-again before [] e (inl (j, h, there)) = absurd (omega arith)
not-again before [] e (inr (i, j, lt, h, same)) = absurd (omega arith)
not-again before (v ∷ corners) e is = at (stands v before) refl e (not-again (v ∷ before) corners) is
  where
    at : (b : Bool) → stands v before ≡ b → cond b true (repeats (v ∷ before) corners) ≡ false → (repeats (v ∷ before) corners ≡ false → IsAgain (v ∷ before) corners → ⊥)
        → IsAgain before (v ∷ corners) → ⊥
    at true there e none is = absurd (cc)
    at false there e none (inl (zero, h, is)) = both_ways (stands v before) there is
    at false there e none (inl (suc j, h, is)) = none e (inl (j, omega arith, stands-more (get_or corners j 0) v before is))
    at false there e none (inr (zero, suc j, lt, h, same)) =
        let met : v == get_or corners j 0 ≡ true = eq-eqb v (get_or corners j 0) same in
        none e (inl (j, omega arith, rw met refl))
    at false there e none (inr (i, zero, lt, h, same)) = absurd (omega arith)
    at false there e none (inr (suc i, suc j, lt, h, same)) = none e (inr (i, j, omega arith, omega arith, same))

-- The test tells whether a corner comes twice.
pub comes-twice : (corners : List ℕ) → repeats [] corners ≡ true → RepeatsCorner corners
comes-twice corners e = elim (again [] corners e) [
  | inl (j, h, there) ↦ absurd (cc (there))
  | inr twice ↦ twice
]

pub comes-once : (corners : List ℕ) → repeats [] corners ≡ false → RepeatsCorner corners → ⊥
comes-once corners e twice = not-again [] corners e (inr twice)
