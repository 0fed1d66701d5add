-- Marks of the darts that a walk has found, and a list of these darts beside them.
use Rattle.std.proofs.Common.{◌≡◌, ◌≢◌, ℕ, ◌+◌, ◌≤◌, ◌<◌, ◌⊎◌, ◌↔◌, Bool, true, false, List, [], ◌∷◌, ◌++◌, length, get_or, set, sum_by, cond, Contains, refl, sym, ap, ◌∙◌, subst, inl, inr, arith, length-set}
use Rattle.std.proofs.lemmas.Bool.{cases_eq}
use Rattle.std.proofs.lemmas.List.{get_or-set_same, get_or-set_other}
use Rattle.std.proofs.lemmas.List.Elements.{Contains-append_left, Contains-push, Contains-push_cases}
use Rattle.std.proofs.lemmas.List.Sums.{sum_by-set}
use Rattle.map_defs.specs.Kind.{Kind}
use Rattle.map_defs.specs.Links.{Links}
use Rattle.map_defs.specs.LinkWords.{LinkWord, through}
use Rattle.map_defs.specs.Cells.{Leads}
use Rattle.map_defs.specs.Rows.{Rows, links_of, IsLive, IsSound}
use Rattle.cell_walk.specs.Ways.{IsEither, AreWays, IsFollowed}
use Rattle.cell_walk.specs.Marks.{IsMarked, AreMarked, IsMarkedMore, IsOrbitFound}
use Rattle.cell_walk.proofs.CellDarts.{links-nothing}
use Rattle.cell_walk.proofs.OnWays.{IsOnWay, on_way-none, on_way-more, on_way-all, gone-round, closed-alike, round-alike}
use Rattle.cell_walk.proofs.RowSteps.{word-lands, word-low, live-real, live-low}

-- what was marked stays so when another mark is set
pub kept-set : (marks : List Bool) (d : ℕ) → d < length marks → (e : ℕ) → IsMarked marks e → IsMarked (set marks d true) e
kept-set marks d within e marked = go (cases_eq e d)
  where
    go : (e ≡ d) ⊎ (e ≢ d) → IsMarked (set marks d true) e
    go (inl is) = ap (λ k. get_or (set marks d true) k false) is ∙ get_or-set_same marks d true false within
    go (inr other) = get_or-set_other marks d e true false other ∙ marked

-- another dart is marked, and put behind the list
pub told-more : (marks : List Bool) (darts : List ℕ) (d : ℕ) → d < length marks → d ≢ 0 → AreMarked marks darts → AreMarked (set marks d true) (darts ++ d ∷ [])
told-more marks darts d within dart are = record {
  nothing = kept-set marks d within 0 are.nothing;
  told = λ e real. (λ marked. to e real marked (cases_eq e d), λ has. from e real (Contains-push_cases darts d e has));
}
  where
    to : (e : ℕ) → e ≢ 0 → IsMarked (set marks d true) e → (e ≡ d) ⊎ (e ≢ d) → Contains (darts ++ d ∷ []) e
    to e real marked (inl is) = subst (Contains (darts ++ d ∷ [])) (sym is) (Contains-push darts d)
    to e real marked (inr other) = Contains-append_left darts (d ∷ []) e ((are.told e real).0 (sym (get_or-set_other marks d e true false other) ∙ marked))

    from : (e : ℕ) → e ≢ 0 → Contains darts e ⊎ (d ≡ e) → IsMarked (set marks d true) e
    from e real (inl known) = kept-set marks d within e ((are.told e real).1 known)
    from e real (inr is) = ap (λ k. get_or (set marks d true) k false) (sym is) ∙ get_or-set_same marks d true false within

-- how many places are not marked
abbrev pub unmarked_count : List Bool → ℕ
unmarked_count marks = sum_by (λ m. cond m 0 1) marks

-- a mark that is set makes them fewer
pub fewer-unmarked : (marks : List Bool) (d : ℕ) → d < length marks → (IsMarked marks d → ⊥) → unmarked_count (set marks d true) < unmarked_count marks
fewer-unmarked marks d within fresh = go (get_or marks d false) refl
  where
    sum : unmarked_count (set marks d true) + cond (get_or marks d false) 0 1 ≡ unmarked_count marks + 0
    sum = sum_by-set (λ m. cond m 0 1) marks d true false within

    go : (m : Bool) → get_or marks d false ≡ m → unmarked_count (set marks d true) < unmarked_count marks
    go true marked = absurd (fresh marked)
    go false is = let plain : unmarked_count (set marks d true) + 1 ≡ unmarked_count marks + 0 = ap (λ m. unmarked_count (set marks d true) + cond m 0 1) (sym is) ∙ sum in omega (arith, plain)

-- The walk from d along p and q in turn, after some darts were marked before, stands at a live dart, from which w leads
-- next.
pub record IsMarking (k : Kind) (rows : Rows) (p q : LinkWord) (d : ℕ) (old : List Bool) (w v : LinkWord) (at : ℕ) (marks : List Bool) : Type 0 where
  pub places : length marks ≡ length old
  pub kept : (e : ℕ) → IsMarked old e → IsMarked marks e
  pub live : IsLive rows at
  pub way : (before : List ℕ) → AreMarked old before → (found : List ℕ) × AreMarked marks found × IsOnWay k (links_of rows) p q d before w v at found

module _ (k : Kind) (n : ℕ) (rows : Rows) (sound : IsSound k n rows) (p q : LinkWord) (d : ℕ) (old : List Bool) where
  pub marking-none : IsLive rows d → IsMarked old d → IsMarking k rows p q d old p q d old
  marking-none live met = record {
    places = refl;
    kept = λ e marked. marked;
    live = live;
    way = λ before are. (before, are, on_way-none k (links_of rows) p q d before ((are.told d (live-real k n rows sound d live)).0 met));
  }

  -- the word leads to a dart that was not marked, which is marked
  pub marking-more : (w v : LinkWord) (at next : ℕ) (marks : List Bool) → length rows ≤ length old → through (links_of rows) w at ≡ next → next ≢ 0
      → IsMarking k rows p q d old w v at marks → IsMarking k rows p q d old v w next (set marks next true)
  marking-more w v at next marks wide leads dart walk = record {
    places = length-set marks next true ∙ walk.places;
    kept = λ e marked. kept-set marks next within e (walk.kept e marked);
    live = live;
    way = λ before are.
        let on = walk.way before are in (
          on.0 ++ next ∷ [],
          told-more marks on.0 next within dart on.1,
          on_way-more k (links_of rows) (links-nothing k n rows sound) sound.back p q d before w v at next on.0 leads dart on.2,
        );
  }
    where
      live : IsLive rows next
      live = word-lands k n rows sound w at next leads dart

      within : next < length marks
      within = omega (arith, live-low rows next live, wide, walk.places)

  -- the word leads nowhere, or to a dart that was marked
  pub marking-all : (w v : LinkWord) (at : ℕ) (marks : List Bool) → IsMarked marks (through (links_of rows) w at)
      → IsMarking k rows p q d old w v at marks → IsMarkedMore (IsFollowed k (links_of rows) p q d) old marks
  marking-all w v at marks ended walk = record {
    places = walk.places;
    kept = walk.kept;
    found = λ before are.
        let on = walk.way before are in (
          on.0,
          on.1,
          on_way-all k (links_of rows) p q d before w v at on.0 (λ y leads real. (on.1.told y real).0 (subst (IsMarked marks) leads ended)) on.2,
        );
  }

  -- the number of the dart to which the word leads is that of a mark
  pub marking-low : (w v : LinkWord) (at number : ℕ) (marks : List Bool) → 0 < length rows → length rows ≤ length old → number ≡ through (links_of rows) w at
      → IsMarking k rows p q d old w v at marks → number < length marks
  marking-low w v at number marks begun wide is walk =
      let low : number < length rows = subst (λ (m : ℕ). m < length rows) (sym is) (word-low k n rows sound begun w at) in
      omega (arith, low, wide, walk.places)

  -- one step on, as its dart was newly marked
  pub marking-step : (w v : LinkWord) (at number next : ℕ) (marks new : List Bool) → length rows ≤ length old → number ≡ through (links_of rows) w at
      → (number ≡ next) × (next ≢ 0) × (IsMarked marks next → ⊥) → new ≡ set marks next true → IsMarking k rows p q d old w v at marks → IsMarking k rows p q d old v w next new
  marking-step w v at number next marks new wide is some marked walk =
      rw marked (marking-more w v at next marks wide (sym is ∙ some.0) some.1 walk)

  -- the last step
  pub marking-end : (w v : LinkWord) (at number : ℕ) (marks new : List Bool) → number ≡ through (links_of rows) w at → IsMarked marks number → new ≡ marks
      → IsMarking k rows p q d old w v at marks → IsMarkedMore (IsFollowed k (links_of rows) p q d) old new
  marking-end w v at number marks new is ended same walk = rw same (marking-all w v at marks (subst (IsMarked marks) is ended) walk)

-- a dart was newly marked
pub fewer-step : (number next : ℕ) (marks new : List Bool) → number < length marks → (number ≡ next) × (next ≢ 0) × (IsMarked marks next → ⊥) → new ≡ set marks next true → unmarked_count new < unmarked_count marks
fewer-step number next marks new low some marked = rw marked (fewer-unmarked marks next (subst (λ (m : ℕ). m < length marks) some.0 low) some.2)

-- When d was marked, and what lies on both ways from it, its orbit was found.
pub round-marked : (k : Kind) (L : Links) (f g b c : LinkWord) (d : ℕ) (old half new : List Bool) → d < length old → d ≢ 0 → AreWays k f g b c
    → IsMarkedMore (IsFollowed k L f g d) (set old d true) half → IsMarkedMore (IsFollowed k L b c d) half new → IsMarkedMore (IsOrbitFound (Leads L (IsEither f b)) d) old new
round-marked k L f g b c d old half new within dart ways one other = record {
  places = other.places ∙ one.places ∙ length-set old d true;
  kept = λ e marked. other.kept e (one.kept e (kept-set old d within e marked));
  found = λ before are.
      let first = one.found (before ++ d ∷ []) (told-more old before d within dart are) in
      let second = other.found first.0 first.1 in
      (second.0, second.1, λ shut. gone-round k L f g b c d before first.0 second.0 ways shut first.2 second.2);
}

-- the same words lead to the same orbits
pub marked-alike : (L : Links) (V W : LinkWord → Type 0) → ((w : LinkWord) → V w ↔ W w) → (d : ℕ) (old new : List Bool)
    → IsMarkedMore (IsOrbitFound (Leads L W) d) old new → IsMarkedMore (IsOrbitFound (Leads L V) d) old new
marked-alike L V W same d old new more = record {
  places = more.places;
  kept = more.kept;
  found = λ before are.
      let found = more.found before are in
      (found.0, found.1, λ shut. round-alike L V W same d before found.0 (found.2 (closed-alike L V W same before shut)));
}
