-- Lists of the darts of orbits, one after another.
use Rattle.std.proofs.Common.{◌≡◌, ℕ, ◌+◌, ◌≤◌, ◌<◌, ◌↔◌, ◌⊎◌, List, [], ◌∷◌, ◌++◌, length, take, drop, get_or, Contains, refl, sym, ap, subst, ◌∙◌, inl, inr, arith}
use Rattle.std.specs.List.Sorted.{IsStrictlyIncreasing}
use Rattle.std.proofs.lemmas.Bool.{cases_lt}
use Rattle.std.proofs.lemmas.List.{length_push, length-append, get_or_append_left, get_or_push, take_more, take_all, take-append-drop}
use Rattle.std.proofs.lemmas.List.Elements.{Contains-append_cases, Contains-append_left, Contains-append_right}
use Rattle.map_defs.specs.Cells.{InOrbit}
use Rattle.flat_lists.specs.Cutting.{cut, AreEnds}
use Rattle.flat_lists.proofs.CutLists.{cut-push}
use Rattle.link_laws.proofs.Orbits.{orbit_trans}
use Rattle.cell_walk.specs.CellLists.{AreListsOf}
use Rattle.cell_walk.specs.Surveys.{IsSurveyed}
use Rattle.cell_walk.proofs.SurveyFacts.{IsWalkable, orbit-turns}

module _ (Belongs : ℕ → ℕ → Type 0) where
  pub lists-none : AreListsOf Belongs [] []
  lists-none = record { long = refl; members = λ n low. absurd (omega arith); ascending = λ n low. absurd (omega arith) }

  -- the list of one more dart
  pub lists-more : (darts : List ℕ) (d : ℕ) (lists : List (List ℕ)) (list : List ℕ) → ((y : ℕ) → Contains list y ↔ Belongs d y) → IsStrictlyIncreasing list
      → AreListsOf Belongs darts lists → AreListsOf Belongs (darts ++ d ∷ []) (lists ++ list ∷ [])
  lists-more darts d lists list members up are = record {
    long = omega (arith, length_push darts d, length_push lists list, are.long);
    members = λ n low. member n (cases_lt n (length darts)) low;
    ascending = λ n low. rising n (cases_lt n (length darts)) low;
  }
    where
      old : (n : ℕ) → n < length darts → get_or (lists ++ list ∷ []) n [] ≡ get_or lists n []
      old n low = get_or_append_left lists (list ∷ []) [] n (omega (arith, are.long))

      last : (n : ℕ) → length darts ≤ n → n < length (darts ++ d ∷ []) → get_or (lists ++ list ∷ []) n [] ≡ list
      last n high low = get_or_push lists list [] n (omega (arith, are.long, length_push darts d))

      member : (n : ℕ) → (n < length darts) ⊎ (length darts ≤ n) → n < length (darts ++ d ∷ []) → (y : ℕ) → Contains (get_or (lists ++ list ∷ []) n []) y ↔ Belongs (get_or (darts ++ d ∷ []) n 0) y
      member n (inl low) within y = rw (old n low, get_or_append_left darts (d ∷ []) 0 n low) (are.members n low y)
      member n (inr high) within y = rw (last n high within, get_or_push darts d 0 n (omega (arith, length_push darts d))) (members y)

      rising : (n : ℕ) → (n < length darts) ⊎ (length darts ≤ n) → n < length (darts ++ d ∷ []) → IsStrictlyIncreasing (get_or (lists ++ list ∷ []) n [])
      rising n (inl low) within = rw (old n low) (are.ascending n low)
      rising n (inr high) within = rw (last n high within) up

  -- the same, of darts one after another
  pub lists-on : (darts : List ℕ) (i d : ℕ) (lists next : List (List ℕ)) (list : List ℕ) → i < length darts → d ≡ get_or darts i d → next ≡ lists ++ list ∷ []
      → ((y : ℕ) → Contains list y ↔ Belongs d y) → IsStrictlyIncreasing list → AreListsOf Belongs (take i darts) lists → AreListsOf Belongs (take (i + 1) darts) next
  lists-on darts i d lists next list low at is members up are =
      rw (take_more darts i d low) (rw (sym at, is) (lists-more (take i darts) d lists list members up are))

  -- the same, of lists that are cut out of the list of all darts
  pub lists-cut : (darts : List ℕ) (d : ℕ) (found new list ends : List ℕ) (last : ℕ) → new ≡ found ++ list → last ≡ length new → AreEnds 0 ends (length found)
      → ((y : ℕ) → Contains list y ↔ Belongs d y) → IsStrictlyIncreasing list → AreListsOf Belongs darts (cut 0 found ends)
      → AreListsOf Belongs (darts ++ d ∷ []) (cut 0 new (ends ++ last ∷ []))
  lists-cut darts d found new list ends last is long are_ends members up are =
      rw (is, cut-push 0 found list ends (length found) last (omega arith) (omega (arith, long, ap length is, length-append found list)) are_ends)
      (lists-more darts d (cut 0 found ends) list members up are)

-- an orbit was found, and stands behind what was found before
pub record IsOrbitBehind (Step : ℕ → ℕ → Type 0) (d : ℕ) (found new list : List ℕ) : Type 0 where
  pub behind : new ≡ found ++ list
  pub orbit : (y : ℕ) → Contains list y ↔ InOrbit Step d y

pub orbit-grown : (Step : ℕ → ℕ → Type 0) (d : ℕ) (found new list : List ℕ) → IsOrbitBehind Step d found new list → (y : ℕ) → Contains new y ↔ (Contains found y ⊎ InOrbit Step d y)
orbit-grown Step d found new list is y = (to, from)
  where
    to : Contains new y → Contains found y ⊎ InOrbit Step d y
    to has = elim (Contains-append_cases found list y (subst (λ (xs : List ℕ). Contains xs y) is.behind has)) [
      | inl old ↦ inl old
      | inr more ↦ inr ((is.orbit y).0 more)
    ]

    from : Contains found y ⊎ InOrbit Step d y → Contains new y
    from (inl old) = subst (λ (xs : List ℕ). Contains xs y) (sym is.behind) (Contains-append_left found list y old)
    from (inr more) = subst (λ (xs : List ℕ). Contains xs y) (sym is.behind) (Contains-append_right found list y ((is.orbit y).1 more))

-- what was found before stands before the rest
pub found-before : (place : ℕ) (found walked new : List ℕ) → place ≡ length found → take (length found) walked ≡ found → take place new ≡ take place walked → new ≡ found ++ drop place new
found-before place found walked new known before kept =
    sym (take-append-drop place new) ∙ ap (λ (xs : List ℕ). xs ++ drop place new) (kept ∙ (ap (λ (n : ℕ). take n walked) known ∙ before))

module _ (Step : ℕ → ℕ → Type 0) (Live : ℕ → Type 0) (walkable : IsWalkable Step Live) where
  -- what a walk from a new dart finds, sorted, is its orbit
  pub found-since : (d place : ℕ) (found walked new least : List ℕ) → Live d → (Contains found d → ⊥) → IsSurveyed Step Live d found least → place ≡ length found → take (length found) walked ≡ found
      → ((y : ℕ) → Contains walked y ↔ (Contains found y ⊎ InOrbit Step d y)) → take place new ≡ take place walked
      → ((y : ℕ) → Contains (drop place new) y ↔ (Contains walked y × (Contains (take place walked) y → ⊥))) → IsOrbitBehind Step d found new (drop place new)
  found-since d place found walked new least live unknown survey known before grown kept members =
      record { behind = found-before place found walked new known before kept; orbit = λ y. (to y, from y) }
    where
      same : take place walked ≡ found
      same = ap (λ (n : ℕ). take n walked) known ∙ before

      to : (y : ℕ) → Contains (drop place new) y → InOrbit Step d y
      to y has = elim ((grown y).0 ((members y).0 has).0) [
        | inl old ↦ absurd (((members y).0 has).1 (subst (λ (xs : List ℕ). Contains xs y) (sym same) old))
        | inr orbit ↦ orbit
      ]

      from : (y : ℕ) → InOrbit Step d y → Contains (drop place new) y
      from y orbit = (members y).1 (
        (grown y).1 (inr orbit),
        λ old. (let e = survey.met y (subst (λ (xs : List ℕ). Contains xs y) same old) in
            unknown (survey.all e.0 d e.1 e.2 (orbit_trans Step e.0 y d e.3 (orbit-turns Step Live walkable d y live orbit)))),
      )

-- the lists of all darts
pub lists-all : (Belongs : ℕ → ℕ → Type 0) (darts : List ℕ) (i : ℕ) (lists : List (List ℕ)) → length darts ≤ i → AreListsOf Belongs (take i darts) lists → AreListsOf Belongs darts lists
lists-all Belongs darts i lists past are = subst (λ (xs : List ℕ). AreListsOf Belongs xs lists) (take_all i darts past) are

-- lists of other darts that belong together
pub lists-same : (Belongs Other : ℕ → ℕ → Type 0) (darts : List ℕ) (lists : List (List ℕ)) → ((d y : ℕ) → Belongs d y ↔ Other d y) → AreListsOf Belongs darts lists → AreListsOf Other darts lists
lists-same Belongs Other darts lists same are = record {
  long = are.long;
  members = λ n low y. (
    λ has. (same (get_or darts n 0) y).0 ((are.members n low y).0 has),
    λ other. (are.members n low y).1 ((same (get_or darts n 0) y).1 other),
  );
  ascending = are.ascending;
}
