-- The list of signs grows, dart by dart, and tells the signs of a map in the end.
use Rattle.std.proofs.Common.{ℕ, ◌≡◌, ◌≤◌, ◌<◌, ◌+◌, ◌⊎◌, inl, inr, sym, ap, ap₂, subst, ◌∙◌, Bool, true, not, Some, List, [], ◌∷◌, ◌++◌, length, slice_index, slice_index_or, Contains, arith}
use Rattle.std.proofs.lemmas.Bool.{cases_lt}
use Rattle.std.proofs.lemmas.List.{get_or_append_left, get_or_at, length_push, get_or-map, length-map, map-append}
use Rattle.std.proofs.lemmas.List.Elements.{Contains-append_left, Contains-push, Contains-push_cases, Contains-get_or}
use Rattle.std.specs.List.Sorted.{IsStrictlyIncreasing}
use Rattle.map_defs.specs.Links.{Links}
use Rattle.half_defs.specs.Orientation.{Sign, darts_of, AreSigns}
use Rattle.orient_half.specs.Marks.{Marks, mark_at, sign_at, IsReached, Flips}
use Rattle.orient_half.specs.Searches.{IsSurveyed}
use Rattle.orient_half.specs.SignLists.{IsListed}
use Rattle.orient_half.proofs.MarkFacts.{Some-one, mark-of, sign-mark, reached-sign}

abbrev pub sign : ℕ → Bool → Sign
sign dart positive = record { dart = dart; positive = positive }

-- one more number at the end of an ascending list
increasing-push : (xs : List ℕ) (y : ℕ) → IsStrictlyIncreasing xs → ((x : ℕ) → Contains xs x → x < y) → IsStrictlyIncreasing (xs ++ y ∷ [])
increasing-push xs y up below k low = go (cases_lt (k + 1) (length xs))
  where
    go : (k + 1 < length xs) ⊎ (length xs ≤ k + 1) → slice_index (xs ++ y ∷ []) k < slice_index (xs ++ y ∷ []) (k + 1)
    go (inl within) =
        rw (get_or_append_left xs (y ∷ []) 0 k (omega arith), get_or_append_left xs (y ∷ []) 0 (k + 1) within) (up k within)
    go (inr past) =
        let last : length xs ≡ k + 1 = omega (arith, low, length_push xs y) in
        rw (get_or_append_left xs (y ∷ []) 0 k (omega arith), get_or_at xs y [] 0 (k + 1) last)
        (below (slice_index xs k) (Contains-get_or xs k 0 (omega arith)))

abbrev dart_of : Sign → ℕ
dart_of s = s.dart

-- the darts of a list of signs
has-dart : (signs : List Sign) (s : Sign) → Contains signs s → Contains (darts_of signs) s.dart
has-dart signs s has =
    (has.0, omega (arith, has.1, length-map signs dart_of), get_or-map dart_of signs has.0 s s.dart has.1 ∙ ap dart_of has.2)

dart-has : (signs : List Sign) (d : ℕ) → Contains (darts_of signs) d → (s : Sign) × Contains signs s × (s.dart ≡ d)
dart-has signs d has =
    let low : has.0 < length signs = omega (arith, has.1, length-map signs dart_of) in
    (slice_index_or signs has.0 (sign 0 true), Contains-get_or signs has.0 (sign 0 true) low, sym (get_or-map dart_of signs has.0 (sign 0 true) d low) ∙ has.2)

module _ (marks : Marks) where
  -- a dart below next + 1 is below next, or it is next
  below-more : (next e : ℕ) → e < next + 1 → (e < next) ⊎ (e ≡ next)
  below-more next e low = go (cases_lt e next)
    where
      go : (e < next) ⊎ (next ≤ e) → (e < next) ⊎ (e ≡ next)
      go (inl below) = inl below
      go (inr above) = inr (omega arith)

  pub listed-skip : (next : ℕ) (signs : List Sign) → (IsReached marks next → ⊥) → IsListed marks next signs → IsListed marks (next + 1) signs
  listed-skip next signs none listed = record {
    ascending = listed.ascending;
    members = λ s. (
      (λ has. let told = (listed.members s).0 has in (omega (arith, told.0), told.1)),
      λ told. has s told.1 (below-more next s.dart told.0),
    );
  }
    where
      has : (s : Sign) → sign_at marks s.dart ≡ Some s.positive → (s.dart < next) ⊎ (s.dart ≡ next) → Contains signs s
      has s e (inl below) = (listed.members s).1 (below, e)
      has s e (inr is) = absurd (none (subst (IsReached marks) is (reached-sign (mark_at marks s.dart) s.positive e)))

  pub listed-push : (next : ℕ) (b : Bool) (signs : List Sign) → sign_at marks next ≡ Some b → IsListed marks next signs → IsListed marks (next + 1) (signs ++ sign next b ∷ [])
  listed-push next b signs here listed = record {
    ascending = subst IsStrictlyIncreasing (sym (map-append dart_of signs (sign next b ∷ []))) (increasing-push (darts_of signs) next listed.ascending below);
    members = λ s. (
      (λ has. told s (Contains-push_cases signs (sign next b) s has)),
      λ told. has s told.1 (below-more next s.dart told.0),
    );
  }
    where
      below : (d : ℕ) → Contains (darts_of signs) d → d < next
      below d has = let s = dart-has signs d has in omega (arith, ((listed.members s.0).0 s.1).0, s.2)

      told : (s : Sign) → Contains signs s ⊎ (sign next b ≡ s) → (s.dart < next + 1) × (sign_at marks s.dart ≡ Some s.positive)
      told s (inl has) = let t = (listed.members s).0 has in (omega (arith, t.0), t.1)
      told s (inr is) = subst (λ (t : Sign). (t.dart < next + 1) × (sign_at marks t.dart ≡ Some t.positive)) is (omega arith, here)

      has : (s : Sign) → sign_at marks s.dart ≡ Some s.positive → (s.dart < next) ⊎ (s.dart ≡ next) → Contains (signs ++ sign next b ∷ []) s
      has s e (inl before) = Contains-append_left signs (sign next b ∷ []) s ((listed.members s).1 (before, e))
      has s e (inr is) =
          let same : b ≡ s.positive = Some-one b s.positive (sym here ∙ (ap (sign_at marks) (sym is) ∙ e)) in
          subst (Contains (signs ++ sign next b ∷ [])) (ap₂ sign (sym is) same) (Contains-push signs (sign next b))

-- the list of all signs is that of the map
pub signs-all : (n : ℕ) (Live : ℕ → Type 0) (L : Links) (next : ℕ) (marks : Marks) (signs : List Sign) → ((d : ℕ) → Live d → d < next) → IsSurveyed n Live L next marks → IsListed marks next signs → AreSigns n Live L signs
signs-all n Live L next marks signs low survey listed = record {
  ascending = listed.ascending;
  members = λ d. (live d, has d);
  flips = flips;
  least = λ s has names.
      let e : sign_at marks s.dart ≡ Some s.positive = ((listed.members s).0 has).1 in
      Some-one s.positive true (sym e ∙ survey.least s.dart (reached-sign (mark_at marks s.dart) s.positive e) names);
}
  where
    live : (d : ℕ) → Contains (darts_of signs) d → Live d
    live d has =
        let s = dart-has signs d has in
        subst Live s.2 (survey.held.live s.0.dart (reached-sign (mark_at marks s.0.dart) s.0.positive ((listed.members s.0).0 s.1).1))

    has : (d : ℕ) → Live d → Contains (darts_of signs) d
    has d lives =
        let m = mark-of (mark_at marks d) (survey.met d lives (low d lives)) in
        has-dart signs (sign d m.0.positive) ((listed.members (sign d m.0.positive)).1 (low d lives, sign-mark (mark_at marks d) m.0 m.1))

    flips : (s t : Sign) (i : ℕ) → Contains signs s → Contains signs t → i ≤ n → L i s.dart ≡ t.dart → t.positive ≡ not s.positive
    flips s t i one other within leads =
        let e : sign_at marks s.dart ≡ Some s.positive = ((listed.members s).0 one).1 in
        let f : sign_at marks t.dart ≡ Some t.positive = ((listed.members t).0 other).1 in
        let g : Flips L marks s.dart i = survey.flipped s.dart i (reached-sign (mark_at marks s.dart) s.positive e) within in
        let same : g.0 ≡ s.positive = Some-one g.0 s.positive (sym g.1 ∙ e) in
        Some-one t.positive (not s.positive) (sym f ∙ (ap (sign_at marks) (sym leads) ∙ (g.2 ∙ ap (λ (b : Bool). Some (not b)) same)))
