-- The survey of all darts, dart by dart.
use Rattle.std.proofs.Common.{◌≡◌, ◌≢◌, ℕ, ◌+◌, ◌≤◌, ◌<◌, ◌⊎◌, ◌↔◌, List, [], ◌∷◌, ◌++◌, length, slice_index, Contains, sym, subst, inl, inr, arith}
use Rattle.std.proofs.lemmas.Bool.{cases_lt}
use Rattle.std.proofs.lemmas.List.{get_or_append_left, get_or_at, length_push}
use Rattle.std.proofs.lemmas.List.Elements.{Contains-append_left, Contains-push, Contains-push_cases, Contains-get_or}
use Rattle.std.specs.List.Sorted.{IsStrictlyIncreasing}
use Rattle.map_defs.specs.Cells.{InOrbit, here, onward}
use Rattle.link_laws.proofs.Orbits.{orbit_trans, orbit_back}
use Rattle.cell_walk.specs.Surveys.{TurnsBack, IsLeast, IsSurveyed}

-- one more number at the end of an ascending list
pub increasing-push : (xs : List ℕ) (y : ℕ) → IsStrictlyIncreasing xs → ((x : ℕ) → Contains xs x → x < y) → IsStrictlyIncreasing (xs ++ y ∷ [])
increasing-push xs y up below k low = go (cases_lt (k + 1) (length xs))
  where
    go : (k + 1 < length xs) ⊎ (length xs ≤ k + 1) → slice_index (xs ++ y ∷ []) k < slice_index (xs ++ y ∷ []) (k + 1)
    go (inl within) =
        rw (get_or_append_left xs (y ∷ []) 0 k (omega arith), get_or_append_left xs (y ∷ []) 0 (k + 1) within) (up k within)
    go (inr past) =
        let last : length xs ≡ k + 1 = omega (arith, low, length_push xs y) in
        rw (get_or_append_left xs (y ∷ []) 0 k (omega arith), get_or_at xs y [] 0 (k + 1) last)
        (below (slice_index xs k) (Contains-get_or xs k 0 (omega arith)))

-- what is asked of the steps of a map
pub record IsWalkable (Step : ℕ → ℕ → Type 0) (Live : ℕ → Type 0) : Type 0 where
  pub dart : (x y : ℕ) → Step x y → y ≢ 0
  pub lands : (x y : ℕ) → Step x y → Live y
  pub turns : TurnsBack Step
  pub some : (d : ℕ) → Live d → d ≢ 0

module _ (Step : ℕ → ℕ → Type 0) (Live : ℕ → Type 0) (walkable : IsWalkable Step Live) where
  orbit-live : (d e : ℕ) → Live d → InOrbit Step d e → Live e
  orbit-live d e live here = live
  orbit-live d e live (onward {x = u} {y = v} o s) = walkable.lands u v s

  pub orbit-turns : (d e : ℕ) → Live d → InOrbit Step d e → InOrbit Step e d
  orbit-turns d e live o = orbit_back Step walkable.dart walkable.turns d e (walkable.some d live) o

  pub surveyed-none : IsSurveyed Step Live 1 [] []
  surveyed-none = record {
    met = λ y has. absurd (omega (arith, has.1));
    all = λ e y low live o. absurd (walkable.some e live (omega arith));
    closed = λ x y has s. absurd (omega (arith, has.1));
    sound = λ d has. absurd (omega (arith, has.1));
    whole = λ d low live least. absurd (walkable.some d live (omega arith));
    ascending = λ k low. absurd (omega arith);
  }

  -- the darts below next + 1 are those below next, and next
  upto : (next e : ℕ) → e < next + 1 → (e < next) ⊎ (e ≡ next)
  upto next e low = go (cases_lt e next)
    where
      go : (e < next) ⊎ (next ≤ e) → (e < next) ⊎ (e ≡ next)
      go (inl below) = inl below
      go (inr above) = inr (omega arith)

  pub surveyed-dead : (next : ℕ) (found least : List ℕ) → (Live next → ⊥) → IsSurveyed Step Live next found least → IsSurveyed Step Live (next + 1) found least
  surveyed-dead next found least dead survey = record {
    met = λ y has. let e = survey.met y has in (e.0, omega (arith, e.1), e.2, e.3);
    all = λ e y low live o. all e y live o (upto next e low);
    closed = survey.closed;
    sound = λ d has. let s = survey.sound d has in (omega (arith, s.0), s.1, s.2);
    whole = λ d low live first. whole d live first (upto next d low);
    ascending = survey.ascending;
  }
    where
      all : (e y : ℕ) → Live e → InOrbit Step e y → (e < next) ⊎ (e ≡ next) → Contains found y
      all e y live o (inl low) = survey.all e y low live o
      all e y live o (inr is) = absurd (dead (subst Live is live))

      whole : (d : ℕ) → Live d → IsLeast Step d → (d < next) ⊎ (d ≡ next) → Contains least d
      whole d live first (inl low) = survey.whole d low live first
      whole d live first (inr is) = absurd (dead (subst Live is live))

  pub surveyed-met : (next : ℕ) (found least : List ℕ) → Contains found next → IsSurveyed Step Live next found least → IsSurveyed Step Live (next + 1) found least
  surveyed-met next found least known survey = record {
    met = λ y has. let e = survey.met y has in (e.0, omega (arith, e.1), e.2, e.3);
    all = λ e y low live o. all e y live o (upto next e low);
    closed = survey.closed;
    sound = λ d has. let s = survey.sound d has in (omega (arith, s.0), s.1, s.2);
    whole = λ d low live first. whole d live first (upto next d low);
    ascending = survey.ascending;
  }
    where
      from : (e : ℕ) × (e < next) × Live e × InOrbit Step e next
      from = survey.met next known

      all : (e y : ℕ) → Live e → InOrbit Step e y → (e < next) ⊎ (e ≡ next) → Contains found y
      all e y live o (inl low) = survey.all e y low live o
      all e y live o (inr is) = survey.all from.0 y from.1 from.2 (orbit_trans Step from.0 next y from.3 (subst (λ z. InOrbit Step z y) is o))

      whole : (d : ℕ) → Live d → IsLeast Step d → (d < next) ⊎ (d ≡ next) → Contains least d
      whole d live first (inl low) = survey.whole d low live first
      whole d live first (inr is) =
          let lesser : d ≤ from.0 = first from.0 (subst (λ z. InOrbit Step z from.0) (sym is) (orbit-turns from.0 next from.2 from.3)) in
          absurd (omega (arith, lesser, is, from.1))

  pub surveyed-least : (next : ℕ) (found least new : List ℕ) → Live next → (Contains found next → ⊥) → ((y : ℕ) → Contains new y ↔ (Contains found y ⊎ InOrbit Step next y)) → IsSurveyed Step Live next found least → IsSurveyed Step Live (next + 1) new (least ++ next ∷ [])
  surveyed-least next found least new live unknown grown survey = record {
    met = λ y has. met y ((grown y).0 has);
    all = λ e y low lives o. (grown y).1 (all e y lives o (upto next e low));
    closed = λ x y has s. (grown y).1 (closed x y ((grown x).0 has) s);
    sound = λ d has. sound d (Contains-push_cases least next d has);
    whole = λ d low lives is_first. whole d lives is_first (upto next d low);
    ascending = increasing-push least next survey.ascending (λ x has. (survey.sound x has).0);
  }
    where
      first : IsLeast Step next
      first e o = go (cases_lt e next)
        where
          go : (e < next) ⊎ (next ≤ e) → next ≤ e
          go (inl below) = absurd (unknown (survey.all e next below (orbit-live next e live o) (orbit-turns next e live o)))
          go (inr above) = above

      met : (y : ℕ) → Contains found y ⊎ InOrbit Step next y → (e : ℕ) × (e < next + 1) × Live e × InOrbit Step e y
      met y (inl has) = let e = survey.met y has in (e.0, omega (arith, e.1), e.2, e.3)
      met y (inr o) = (next, omega arith, live, o)

      all : (e y : ℕ) → Live e → InOrbit Step e y → (e < next) ⊎ (e ≡ next) → Contains found y ⊎ InOrbit Step next y
      all e y lives o (inl low) = inl (survey.all e y low lives o)
      all e y lives o (inr is) = inr (subst (λ z. InOrbit Step z y) is o)

      closed : (x y : ℕ) → Contains found x ⊎ InOrbit Step next x → Step x y → Contains found y ⊎ InOrbit Step next y
      closed x y (inl has) s = inl (survey.closed x y has s)
      closed x y (inr o) s = inr (onward o s)

      sound : (d : ℕ) → Contains least d ⊎ (next ≡ d) → (d < next + 1) × Live d × IsLeast Step d
      sound d (inl has) = let s = survey.sound d has in (omega (arith, s.0), s.1, s.2)
      sound d (inr is) = (omega (arith, is), subst Live is live, subst (IsLeast Step) is first)

      whole : (d : ℕ) → Live d → IsLeast Step d → (d < next) ⊎ (d ≡ next) → Contains (least ++ next ∷ []) d
      whole d lives is_first (inl low) = Contains-append_left least (next ∷ []) d (survey.whole d low lives is_first)
      whole d lives is_first (inr is) = subst (Contains (least ++ next ∷ [])) (sym is) (Contains-push least next)

  pub surveyed-all : (next : ℕ) (found least : List ℕ) → ((d : ℕ) → Live d → d < next) → IsSurveyed Step Live next found least → (d : ℕ) → Contains least d ↔ (Live d × IsLeast Step d)
  surveyed-all next found least past survey d =
      (λ has. let s = survey.sound d has in (s.1, s.2), λ s. survey.whole d (past d s.0) s.0 s.1)
