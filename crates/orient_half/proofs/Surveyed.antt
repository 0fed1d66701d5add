-- The survey of all darts: what is known when the components of the first ones were searched.
use Rattle.std.proofs.Common.{ℕ, ◌≡◌, ◌≢◌, ◌≤◌, ◌<◌, ◌+◌, ◌⊎◌, inl, inr, sym, ap, subst, ◌∙◌, Bool, true, not, Option, None, Some, List, [], ◌∷◌, length, get_or, Contains, slice_set, replicate, arith}
use Rattle.std.proofs.lemmas.Bool.{cases_lt}
use Rattle.std.proofs.lemmas.List.{get_or_past, get_or-replicate, length-replicate, length-set, get_or_default}
use Rattle.map_defs.specs.Links.{Links}
use Rattle.map_defs.specs.Cells.{here, InComponent, NamesComponent}
use Rattle.half_defs.specs.Orientation.{IsOddWalk, IsFirstOddWalk}
use Rattle.orient_half.specs.declared.search.Reached.{Reached}
use Rattle.orient_half.specs.Marks.{Marks, mark_at, sign_at, IsReached, IsKept, Flips}
use Rattle.orient_half.specs.Searches.{IsSearched, IsSurveyed}
use Rattle.orient_half.proofs.EvenWalks.{no_odd_walk}
use Rattle.orient_half.proofs.Grown.{mark}
use Rattle.orient_half.proofs.MarkFacts.{Some-one, mark-of, reached-mark, sign-mark, reached-sign, kept-sign, kept-reached, kept-flips, put-here, put-cases, put-kept, put-reached}
use Rattle.orient_half.proofs.WholeLinks.{AreWhole, component-turns, component-live}

-- a dart below next + 1 is below next, or it is next
below-more : (next e : ℕ) → e < next + 1 → (e < next) ⊎ (e ≡ next)
below-more next e low = go (cases_lt e next)
  where
    go : (e < next) ⊎ (next ≤ e) → (e < next) ⊎ (e ≡ next)
    go (inl below) = inl below
    go (inr above) = inr (omega arith)

unreached : (count d : ℕ) → mark_at (replicate count None) d ≡ None
unreached count d = go (cases_lt d count)
  where
    go : (d < count) ⊎ (count ≤ d) → mark_at (replicate count None) d ≡ None
    go (inl low) = get_or-replicate count d None None low
    go (inr past) = get_or_past (replicate count None) d None (omega (arith, length-replicate {A = Option Reached} count None))

module _ (n : ℕ) (Live : ℕ → Type 0) (L : Links) where
  pub surveyed-none : (count : ℕ) → ((d : ℕ) → Live d → d ≢ 0) → ((d : ℕ) → Live d → d < count) → IsSurveyed n Live L 1 (replicate count None)
  surveyed-none count some low = record {
    held = record {
      room = λ d live. let fits = low d live in omega (arith, length-replicate {A = Option Reached} count None);
      live = λ d reached. absurd (none d reached);
      within = λ d r e. absurd (none d (reached-mark (mark_at (replicate count None) d) r e));
    };
    met = λ d live below. absurd (some d live (omega arith));
    flipped = λ d i reached within. absurd (none d reached);
    least = λ d reached names. absurd (none d reached);
  }
    where
      none : (d : ℕ) → IsReached (replicate count None) d → ⊥
      none d reached = let m = mark-of (mark_at (replicate count None) d) reached in let e : None ≡ Some m.0 = sym (unreached count d) ∙ m.1 in cc

  -- the search of a component begins
  pub searched-begun : (first : ℕ) (old : Marks) → Live first → mark_at old first ≡ None → IsSurveyed n Live L first old → IsSearched n Live L first old (slice_set old first (Some (mark true 0))) (first ∷ [])
  searched-begun first old live fresh survey = record {
    held = record {
      room = λ d lives. let fits = survey.held.room d lives in omega (arith, length-set old first (Some (mark true 0)));
      live = λ d reached. lives d (put-reached old first (mark true 0) low d reached);
      within = λ d r e. within d r (put-cases old first (mark true 0) low d r e);
    };
    kept = kept;
    led = record {
      begun = sign-mark (mark_at (slice_set old first (Some (mark true 0))) first) (mark true 0) (put-here old first (mark true 0) low);
      back = λ d r e apart. back d r apart (put-cases old first (mark true 0) low d r e);
    };
    reached = λ d reached. met d (put-reached old first (mark true 0) low d reached);
    within = λ d has. inside d (Contains-one d has);
  }
    where
      low : first < length old
      low = survey.held.room first live

      kept : IsKept old (slice_set old first (Some (mark true 0)))
      kept = put-kept old first (mark true 0) low fresh

      lives : (d : ℕ) → (d ≡ first) ⊎ IsReached old d → Live d
      lives d (inl is) = subst Live (sym is) live
      lives d (inr reached) = survey.held.live d reached

      within : (d : ℕ) (r : Reached) → ((d ≡ first) × (r ≡ mark true 0)) ⊎ ((d ≢ first) × (mark_at old d ≡ Some r)) → r.link ≤ n
      within d r (inl is) = subst (λ (s : Reached). s.link ≤ n) (sym is.1) (omega arith)
      within d r (inr known) = survey.held.within d r known.1

      back : (d : ℕ) (r : Reached) → d ≢ first → ((d ≡ first) × (r ≡ mark true 0)) ⊎ ((d ≢ first) × (mark_at old d ≡ Some r)) → sign_at (slice_set old first (Some (mark true 0))) (L r.link d) ≡ Some (not r.positive)
      back d r apart (inl is) = absurd (apart is.0)
      back d r apart (inr known) =
          let f : Flips L old d r.link = survey.flipped d r.link (reached-mark (mark_at old d) r known.1) (survey.held.within d r known.1) in
          let same : f.0 ≡ r.positive = Some-one f.0 r.positive (sym f.1 ∙ sign-mark (mark_at old d) r known.1) in
          kept-sign old (slice_set old first (Some (mark true 0))) kept (L r.link d) (not r.positive) (f.2 ∙ ap (λ (b : Bool). Some (not b)) same)

      Contains-one : (d : ℕ) → Contains (first ∷ []) d → first ≡ d
      Contains-one d has = let at : has.0 ≡ 0 = omega (arith, has.1) in ap (λ (k : ℕ). get_or (first ∷ []) k d) (sym at) ∙ has.2

      met : (d : ℕ) → (d ≡ first) ⊎ IsReached old d → IsReached old d ⊎ Contains (first ∷ []) d
      met d (inl is) = inr (0, omega arith, sym is)
      met d (inr reached) = inl reached

      inside : (d : ℕ) → first ≡ d → InComponent L first d
      inside d is = subst (InComponent L first) is here

  -- and it is done when all links of the darts that were reached flip the signs
  pub surveyed-more : AreWhole n Live L → (first next : ℕ) (old marks : Marks) (queue : List ℕ) → Live first → length queue ≤ next → IsSurveyed n Live L first old → IsSearched n Live L first old marks queue → ((k i : ℕ) → k < next → i ≤ n → Flips L marks (get_or queue k 0) i) → IsSurveyed n Live L (first + 1) marks
  surveyed-more whole first next old marks queue live past survey search done = record {
    held = search.held;
    met = λ d lives low. met d lives (below-more first d low);
    flipped = λ d i reached within. flipped d i within (search.reached d reached);
    least = λ d reached names. least d names (search.reached d reached);
  }
    where
      met : (d : ℕ) → Live d → (d < first) ⊎ (d ≡ first) → IsReached marks d
      met d lives (inl below) = kept-reached old marks search.kept d (survey.met d lives below)
      met d lives (inr is) = subst (IsReached marks) (sym is) (reached-sign (mark_at marks first) true search.led.begun)

      flipped : (d i : ℕ) → i ≤ n → IsReached old d ⊎ Contains queue d → Flips L marks d i
      flipped d i within (inl reached) = kept-flips old marks search.kept L d i (survey.flipped d i reached within)
      flipped d i within (inr has) =
          subst (λ (x : ℕ). Flips L marks x i) (sym (get_or_default queue has.0 d 0 has.1) ∙ has.2) (done has.0 i (omega (arith, has.1)) within)

      least : (d : ℕ) → NamesComponent L d → IsReached old d ⊎ Contains queue d → sign_at marks d ≡ Some true
      least d names (inl reached) = kept-sign old marks search.kept d true (survey.least d reached names)
      least d names (inr has) = at (cases_lt d first)
        where
          among : InComponent L first d
          among = search.within d has

          at : (d < first) ⊎ (first ≤ d) → sign_at marks d ≡ Some true
          at (inl below) = kept-sign old marks search.kept d true (survey.least d (survey.met d (component-live n Live L whole first d live among) below) names)
          at (inr above) =
              let lesser : d ≤ first = names first (component-turns n Live L whole first d live among) in
              let is : d ≡ first = omega arith in
              ap (sign_at marks) is ∙ search.led.begun

  -- darts below first have no odd walk
  pub first-odd : (first : ℕ) (old : Marks) (links : List ℕ) → Live first → IsSurveyed n Live L first old → IsOddWalk n L first links → IsFirstOddWalk n Live L first links
  first-odd first old links live survey walk = record {
    live = live;
    walk = walk;
    least = λ e others lives odd. least e others lives odd (cases_lt e first);
  }
    where
      least : (e : ℕ) (others : List ℕ) → Live e → IsOddWalk n L e others → (e < first) ⊎ (first ≤ e) → first ≤ e
      least e others lives odd (inl below) = absurd (no_odd_walk n L old survey.flipped e others (survey.met e lives below) odd)
      least e others lives odd (inr above) = above
