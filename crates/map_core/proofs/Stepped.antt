-- A step of a map, noted where a mark stands: the state is the machine's after it, and what the map keeps is kept.
use Rattle.std.proofs.Common.{◌≡◌, ℕ, ◌<◌, ◌↔◌, Bool, true, false, IsTrue, Option, Some, None, IsSome, refl, sym, ap, ◌∙◌, subst, inl, inr, arith}
use Rattle.std.proofs.lemmas.Bool.{cases_eq, false≢true}
use Rattle.machine_defs.specs.State.{Content, steps_to}
use Rattle.machine_defs.specs.Difference.{Difference}
use Rattle.trail_laws.specs.Trails.{Trail, IsOrdered}
use Rattle.trail_laws.specs.Told.{told, IsTraced}
use Rattle.trail_laws.proofs.Noting.{told-unmarked, traced-unmarked, told-noted, traced-noted}
use Rattle.valued_map.specs.Told.{IsTold, IsStep}
use Rattle.map_core.specs.Noted.{advanced}

-- where no mark stands no step is told
pub none-stands : (asked : Bool) (standing : ℕ) → IsTrue asked ↔ (0 < standing) → asked ≡ false → standing ≡ 0
none-stands asked standing noting off = elim (cases_eq standing 0) [
  | inl none ↦ none
  | inr some ↦ absurd (false≢true (sym off ∙ noting.1 (omega arith)))
]

module _ (now next : Content) (t : Trail) (h : IsTraced now t) (o : IsOrdered t) where
  module _ (asked : Bool) (noting : IsTrue asked ↔ (0 < t.standing)) (step : Option Difference) (s : IsStep asked now next step) where
    -- there is room where a step is told
    pub told-asked : IsSome step → 0 < t.standing
    told-asked some = noting.0 (go asked step s.told some)
      where
        go : (b : Bool) (d : Option Difference) → IsTold b now next d → IsSome d → IsTrue b
        go true d told there = refl
        go false None told there = absurd (false≢true there)
        go false (Some d) told there = absurd told

    told-as : (b : Bool) (d : Option Difference) → asked ≡ b → IsTold b now next d → told next (advanced t d) ≡ steps_to (told now t) next
    told-as false None off told = told-unmarked now next t h o (none-stands asked t.standing noting off) s.kept
    told-as false (Some d) off told = absurd told
    told-as true None on told = absurd told
    told-as true (Some d) on told = told-noted now next t d h o s.kept s.follows told (λ none. let some = noting.0 on in omega arith)

    traced-as : (b : Bool) (d : Option Difference) → asked ≡ b → IsTold b now next d → IsTraced next (advanced t d)
    traced-as false None off told = traced-unmarked now next t h o (none-stands asked t.standing noting off) s.kept
    traced-as false (Some d) off told = absurd told
    traced-as true None on told = absurd told
    traced-as true (Some d) on told = traced-noted now next t d h o s.kept s.follows told (λ none. let some = noting.0 on in omega arith)

    -- of the trail that is there once a step was noted
    module _ (u v : Trail) (same : u ≡ t) (noted : v ≡ advanced u step) where
      pub told-advanced : told next v ≡ steps_to (told now t) next
      told-advanced = ap (told next) (noted ∙ ap (λ (w : Trail). advanced w step) same) ∙ told-as asked step refl s.told

      pub traced-advanced : IsTraced next v
      traced-advanced = subst (IsTraced next) (sym (noted ∙ ap (λ (w : Trail). advanced w step) same)) (traced-as asked step refl s.told)

  -- where nothing changed
  pub traced-same : (u : Trail) → u ≡ t → next ≡ now → IsTraced next u
  traced-same u same alike = subst (λ (w : Trail). IsTraced next w) (sym same) (subst (λ (c : Content). IsTraced c t) (sym alike) h)

  pub told-same : (u : Trail) → u ≡ t → next ≡ now → told next u ≡ told now t
  told-same u same alike = ap (told next) same ∙ ap (λ (c : Content). told c t) alike
