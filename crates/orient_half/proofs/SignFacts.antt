-- What the signs of an oriented map say of its links, and the list of its positive darts.
use Rattle.std.proofs.Common.{◌≡◌, ◌≢◌, ℕ, zero, suc, ◌+◌, ◌<◌, ◌≤◌, List, [], ◌∷◌, length, get_or, map, Bool, true, false, not, cond, refl, sym, ap, ap₂, ◌∙◌, subst, arith}
use Rattle.std.specs.Prelude.{Contains, filter}
use Rattle.std.specs.List.{AllPairs}
use Rattle.std.specs.List.Sorted.{IsStrictlyIncreasing}
use Rattle.std.proofs.lemmas.Bool.{false≢true}
use Rattle.std.proofs.lemmas.List.{get_or-map, length-map}
use Rattle.std.proofs.lemmas.List.Elements.{Contains-get_or, All-filter, All-contains, All-contains_itself, filter_passes}
use Rattle.std.proofs.lemmas.List.Kept.{AllPairs-filter, AllPairs-from_increasing}
use Rattle.map_defs.specs.Links.{Links, LeadsToLive}
use Rattle.half_defs.specs.Orientation.{Sign, IsPositive, IsOriented}
use Rattle.half_defs.specs.Halves.{AreOrigins}

abbrev dart_of : Sign → ℕ
dart_of sign = sign.dart

abbrev is_positive : Sign → Bool
is_positive sign = sign.positive

-- a sign that no list needs
abbrev no_sign : Sign
no_sign = record { dart = 0; positive = true }

same-sign : (s : Sign) (d : ℕ) (b : Bool) → s.dart ≡ d → s.positive ≡ b → s ≡ record { dart = d; positive = b }
same-sign s d b dart positive = ap₂ (λ (x : ℕ) (y : Bool). let t : Sign = record { dart = x; positive = y } in t) dart positive

has-dart : (signs : List Sign) (s : Sign) → Contains signs s → Contains (map dart_of signs) s.dart
has-dart signs s has = (has.0, omega (arith, has.1, length-map signs dart_of), get_or-map dart_of signs has.0 s s.dart has.1 ∙ ap dart_of has.2)

has-sign : (signs : List Sign) (d : ℕ) → Contains (map dart_of signs) d → (s : Sign) × Contains signs s × (s.dart ≡ d)
has-sign signs d has =
    let low : has.0 < length signs = omega (arith, has.1, length-map signs dart_of) in
    (get_or signs has.0 no_sign, Contains-get_or signs has.0 no_sign low, sym (get_or-map dart_of signs has.0 no_sign d low) ∙ has.2)

-- a positive dart is live
pub positive-lives : (n : ℕ) (Live : ℕ → Type 0) (L : Links) (signs : List Sign) → IsOriented n Live L signs → (d : ℕ) → IsPositive signs d → Live d
positive-lives n Live L signs oriented d has = (oriented.signed.members d).0 (has-dart signs (record { dart = d; positive = true }) has)

module _ (n : ℕ) (Live : ℕ → Type 0) (L : Links) (signs : List Sign) (lands : LeadsToLive Live L) (oriented : IsOriented n Live L signs) where
  -- a dart with a sign is live
  sign-lives : (s : Sign) → Contains signs s → Live s.dart
  sign-lives s has = (oriented.signed.members s.dart).0 (has-dart signs s has)

  -- each link leads from a dart with a sign to a dart with the other one
  across : (i d : ℕ) (b : Bool) → i ≤ n → Contains signs (record { dart = d; positive = b }) → (L i d ≢ 0) × Contains signs (record { dart = L i d; positive = not b })
  across i d b low has =
      let linked : L i d ≢ 0 = λ free. oriented.closed (d, i, sign-lives (record { dart = d; positive = b }) has, low, free) in
      let t : (s : Sign) × Contains signs s × (s.dart ≡ L i d) = has-sign signs (L i d) ((oriented.signed.members (L i d)).1 (lands i d linked)) in
      let flips : t.0.positive ≡ not b = oriented.signed.flips (record { dart = d; positive = b }) t.0 i has t.1 low (sym t.2) in
      (linked, subst (Contains signs) (same-sign t.0 (L i d) (not b) t.2 flips) t.1)

  -- two links lead from a positive dart to a positive dart
  pub positive-across : (i j d : ℕ) → i ≤ n → j ≤ n → IsPositive signs d → (L i d ≢ 0) × (L j (L i d) ≢ 0) × IsPositive signs (L j (L i d))
  positive-across i j d low high has =
      let one = across i d true low has in
      let other = across j (L i d) false high one.1 in
      (one.0, other.0, other.1)

-- a filter keeps what passes
kept : (signs : List Sign) (s : Sign) → Contains signs s → is_positive s ≡ true → Contains (filter is_positive signs) s
kept [] s has passes = absurd (let low = has.1 in omega arith)
kept (t ∷ signs) s (zero, low, is) passes = first (is_positive t) (ap is_positive is ∙ passes)
  where
    first : (b : Bool) → b ≡ true → Contains (cond b (t ∷ filter is_positive signs) (filter is_positive signs)) s
    first true holds = (0, omega arith, is)
    first false fails = absurd (false≢true fails)
kept (t ∷ signs) s (suc k, low, is) passes = rest (is_positive t) (kept signs s (k, omega arith, is) passes)
  where
    rest : (b : Bool) → Contains (filter is_positive signs) s → Contains (cond b (t ∷ filter is_positive signs) (filter is_positive signs)) s
    rest true has = (suc has.0, omega (arith, has.1), has.2)
    rest false has = has

-- the darts of the positive signs
pub positive-origins : (n : ℕ) (Live : ℕ → Type 0) (L : Links) (signs : List Sign) → IsOriented n Live L signs
    → AreOrigins (IsPositive signs) (map (λ (sign : Sign). sign.dart) (filter (λ (sign : Sign). sign.positive) signs))
positive-origins n Live L signs oriented = record { ascending = ascending; members = λ d. (forth d, back d) }
  where
    ascending : IsStrictlyIncreasing (map dart_of (filter is_positive signs))
    ascending k low =
        let all : AllPairs (λ (s t : Sign). s.dart < t.dart) signs = λ i j e less high.
        (let below = AllPairs-from_increasing (map dart_of signs) oriented.signed.ascending i j 0 less (omega (arith, high, length-map signs dart_of)) in
        rw (get_or-map dart_of signs i e 0 (omega (arith, less, high)), get_or-map dart_of signs j e 0 high) at below) in
        let long = length-map (filter is_positive signs) dart_of in
        let pair = AllPairs-filter (λ (s t : Sign). s.dart < t.dart) is_positive signs all k (k + 1) no_sign (omega arith) (omega (arith, low, long)) in
        rw (get_or-map dart_of (filter is_positive signs) k no_sign 0 (omega (arith, low, long)), get_or-map dart_of (filter is_positive signs) (k + 1) no_sign 0 (omega (arith, low, long))) pair

    forth : (d : ℕ) → Contains (map dart_of (filter is_positive signs)) d → IsPositive signs d
    forth d has =
        let s : (t : Sign) × Contains (filter is_positive signs) t × (t.dart ≡ d) = has-sign (filter is_positive signs) d has in
        let own : Contains signs s.0 = All-contains (Contains signs) (filter is_positive signs) s.0 (All-filter is_positive (Contains signs) signs (All-contains_itself signs)) s.1 in
        let passes : is_positive s.0 ≡ true = All-contains (λ (t : Sign). is_positive t ≡ true) (filter is_positive signs) s.0 (filter_passes is_positive signs) s.1 in
        subst (Contains signs) (same-sign s.0 d true s.2 passes) own

    back : (d : ℕ) → IsPositive signs d → Contains (map dart_of (filter is_positive signs)) d
    back d has =
        let s : Sign = record { dart = d; positive = true } in
        has-dart (filter is_positive signs) s (kept signs s has refl)
