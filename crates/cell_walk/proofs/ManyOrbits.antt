-- The orbits of some darts, one after another, and a walk that looks for one dart.
use Rattle.std.proofs.Common.{◌≡◌, ℕ, ◌+◌, ◌<◌, ◌≤◌, ◌⊎◌, ◌↔◌, List, [], ◌∷◌, ◌++◌, length, take, get_or, Contains, sym, ap, ◌∙◌, subst, inl, inr}
use Rattle.std.proofs.lemmas.List.{take_all, take_more}
use Rattle.std.proofs.lemmas.List.Elements.{Contains-append_left, Contains-push, Contains-push_cases}
use Rattle.map_defs.specs.Links.{Links}
use Rattle.map_defs.specs.LinkWords.{LinkWord}
use Rattle.map_defs.specs.Cells.{InOrbit, onward, Leads}
use Rattle.cell_walk.specs.Visits.{IsClosed}
use Rattle.cell_walk.proofs.Walks.{IsWalked, closed-none, walked-all, orbit-alone}

-- the darts found are those of the orbits of these darts
abbrev pub HoldsOrbits : (ℕ → ℕ → Type 0) → List ℕ → List ℕ → Type 0
HoldsOrbits Step darts found = (y : ℕ) → Contains found y ↔ ((d : ℕ) × Contains darts d × InOrbit Step d y)

pub orbits-closed : (Step : ℕ → ℕ → Type 0) (darts found : List ℕ) → HoldsOrbits Step darts found → IsClosed Step found
orbits-closed Step darts found holds x y has step =
    let from = (holds x).0 has in
    (holds y).1 (from.0, from.1, onward from.2 step)

pub orbits-more : (Step : ℕ → ℕ → Type 0) (darts : List ℕ) (k d : ℕ) (old new : List ℕ) → k < length darts → d ≡ get_or darts k d → HoldsOrbits Step (take k darts) old
    → ((y : ℕ) → Contains new y ↔ (Contains old y ⊎ InOrbit Step d y)) → HoldsOrbits Step (take (k + 1) darts) new
orbits-more Step darts k d old new low at holds walked y = (λ has. to ((walked y).0 has), λ from. back from (Contains-push_cases (take k darts) d from.0 (subst (λ xs. Contains xs from.0) grown from.1)))
  where
    grown : take (k + 1) darts ≡ take k darts ++ d ∷ []
    grown = take_more darts k d low ∙ ap (λ e. take k darts ++ e ∷ []) (sym at)

    to : Contains old y ⊎ InOrbit Step d y → (e : ℕ) × Contains (take (k + 1) darts) e × InOrbit Step e y
    to (inl has) =
        let from = (holds y).0 has in
        (from.0, subst (λ xs. Contains xs from.0) (sym grown) (Contains-append_left (take k darts) (d ∷ []) from.0 from.1), from.2)
    to (inr o) = (d, subst (λ xs. Contains xs d) (sym grown) (Contains-push (take k darts) d), o)

    back : (from : (e : ℕ) × Contains (take (k + 1) darts) e × InOrbit Step e y) → Contains (take k darts) from.0 ⊎ (d ≡ from.0) → Contains new y
    back from (inl has) = (walked y).1 (inl ((holds y).1 (from.0, has, from.2)))
    back from (inr is) = (walked y).1 (inr (subst (λ e. InOrbit Step e y) (sym is) from.2))

pub orbits-all : (Step : ℕ → ℕ → Type 0) (darts : List ℕ) (k : ℕ) (found : List ℕ) → length darts ≤ k → HoldsOrbits Step (take k darts) found → HoldsOrbits Step darts found
orbits-all Step darts k found past holds = subst (λ ds. HoldsOrbits Step ds found) (take_all k darts past) holds

-- a walk before which nothing was found: all that it finds lies in the orbit, and in the end it has found the orbit
pub found-reached : (L : Links) (Words : LinkWord → Type 0) (d next : ℕ) (found : List ℕ) → IsWalked L Words d [] next found → (y : ℕ) → Contains found y → InOrbit (Leads L Words) d y
found-reached L Words d next found walk y has = orbit-alone (Leads L Words) d y (walk.reached y has)

pub found-whole : (L : Links) (Words : LinkWord → Type 0) (d next : ℕ) (found : List ℕ) → length found ≤ next → IsWalked L Words d [] next found → (y : ℕ) → Contains found y ↔ InOrbit (Leads L Words) d y
found-whole L Words d next found past walk y =
    let same = walked-all L Words d [] next found past (closed-none (Leads L Words)) walk y in
    (found-reached L Words d next found walk y, λ o. same.1 (inr o))
