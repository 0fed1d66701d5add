-- The half of a double is the map that was doubled, dart by dart and link by link.
use Rattle.std.proofs.Common.{ℕ, zero, suc, ◌≡◌, ◌+◌, ◌<◌, ◌≤◌, ◌⊎◌, ◌↔◌, List, length, map, get_or, Contains, refl, sym, ap, ◌∙◌, inl, inr, arith}
use Rattle.std.specs.List.{range_with_len}
use Rattle.std.specs.List.Sorted.{IsStrictlyIncreasing}
use Rattle.std.proofs.lemmas.Bool.{cases_lt}
use Rattle.std.proofs.lemmas.List.FromFn.{length-map-range_with_len, get_or-map-range_with_len}
use Rattle.map_defs.specs.Kind.{beta}
use Rattle.map_defs.specs.Links.{Links, HasDimension, LeadsToLive}
use Rattle.map_defs.specs.Laws.{Laws}
use Rattle.half_defs.specs.Halves.{AreOrigins, origin, odd_dart, IsHalf, IsDouble}
use Rattle.link_laws.proofs.InverseLinks.{turned_of_laws, turned_one}
use Rattle.value_laws.proofs.Rising.{rising_one}
use Rattle.half_laws.proofs.DoubleRanks.{origin_past, ranked, ranked_is, ranked_past, ranked_dimension, ranked_laws}
use Rattle.half_laws.proofs.DoubleLinks.{odd_dart_one, odd_dart_is, DoublesRanks, double_of_ranks}

-- d is the odd dart of a rank from 1 to m
abbrev pub IsOddDart : ℕ → ℕ → Type 0
IsOddDart m d = (r : ℕ) × (1 ≤ r) × (r ≤ m) × (d ≡ odd_dart r)

module _ (m : ℕ) where
  odds : List ℕ
  odds = map odd_dart (range_with_len 1 m)

  odds_long : length odds ≡ m
  unfolding odds
  odds_long = length-map-range_with_len odd_dart 1 m

  odds_at : (k d : ℕ) → k < m → get_or odds k d ≡ odd_dart (suc k)
  unfolding odds
  odds_at k d l = get_or-map-range_with_len odd_dart 1 m k (suc k) d l (omega arith)

  odds_rise : IsStrictlyIncreasing odds
  odds_rise k within =
      let here : get_or odds k 0 ≡ suc (k + k) = odds_at k 0 (omega (arith, odds_long, within)) in
      let next : get_or odds (k + 1) 0 ≡ odd_dart (suc (k + 1)) = odds_at (k + 1) 0 (omega (arith, odds_long, within)) in
      let more = odd_dart_is (suc (k + 1)) (omega arith) in
      omega (arith, here, next, more)

  odds_members : (d : ℕ) → Contains odds d ↔ IsOddDart m d
  odds_members d = (
    λ h. let l = h.1 in let within : h.0 < m = omega (arith, odds_long, l) in (suc h.0, omega arith, omega arith, sym h.2 ∙ odds_at h.0 d within),
    λ h. go h.0 h.1 h.2 h.3,
  )
    where
      go : (r : ℕ) → 1 ≤ r → r ≤ m → d ≡ odd_dart r → Contains odds d
      go zero low high e = absurd (omega arith)
      go (suc k) low high e = (k, omega (arith, odds_long), odds_at k d (omega arith) ∙ sym e)

  module _ (origins : List ℕ) (are : AreOrigins (IsOddDart m) origins) where
    same_odds : origins ≡ odds
    same_odds = rising_one origins odds are.ascending odds_rise (λ d. ((λ h. (odds_members d).1 ((are.members d).0 h)), λ h. (are.members d).1 ((odds_members d).0 h)))

    -- there are as many odd darts as ranks, and each is the one of its rank
    pub odds_count : length origins ≡ m
    odds_count = ap length same_odds ∙ odds_long

    pub odd_origin : (r : ℕ) → r ≤ m → origin origins r ≡ odd_dart r
    odd_origin zero within = refl
    odd_origin (suc r) within = ap (λ (xs : List ℕ). get_or xs r 0) same_odds ∙ odds_at r 0 (omega arith)

module _ (Has : ℕ → Type 0) (origins : List ℕ) (are : AreOrigins Has origins) (n : ℕ) (L N : Links) (w : Laws beta L) (leads : LeadsToLive Has L) (high : HasDimension n L) (none : Has 0 → ⊥)
    (double : IsDouble n L origins N) (odd_darts : List ℕ) (odd : AreOrigins (IsOddDart (length origins)) odd_darts) (H : Links) (half : IsHalf n N odd_darts H) where
  abbrev M : Links
  M = ranked Has origins are L leads

  d : DoublesRanks (length origins) M N
  d = double_of_ranks Has origins are n L leads N double none w high

  count : length odd_darts ≡ length origins
  count = odds_count (length origins) odd_darts odd

  nil : (i : ℕ) → 1 ≤ i → N i (N 0 0) ≡ 0
  nil i low = ap (N i) (d.pairs 0 (omega arith)) ∙ (d.leads i 0 low ∙ ap odd_dart ((ranked_laws Has origins are L leads none beta w).nil i))

  from : (i r : ℕ) → 1 ≤ i → (length origins < r) ⊎ (r ≤ length origins) → N i (N 0 (origin odd_darts r)) ≡ odd_dart (M i r)
  from i r low (inl past) = ap (λ x. N i (N 0 x)) (origin_past odd_darts r (omega (arith, count))) ∙ (nil i low ∙ ap odd_dart (sym (ranked_past Has origins are L leads none w.nil i r past)))
  from i r low (inr within) = ap (λ x. N i (N 0 x)) (odd_origin (length origins) odd_darts odd r within) ∙ (ap (N i) (d.pairs r within) ∙ d.leads i r low)

  -- link by link the half has the links by ranks
  same_link : (i r : ℕ) → 1 ≤ i → H i r ≡ M i r
  same_link i r low = elim (cases_lt n i) [
    | inl above ↦ half.above i r above ∙ sym (ranked_dimension Has origins are L leads none n high i r above)
    | inr within ↦ odd_dart_one (H i r) (M i r)
        (sym (odd_origin (length origins) odd_darts odd (H i r) (let h = half.within i r in omega (arith, h, count)))
        ∙ (half.along i r low within ∙ from i r low (cases_lt (length origins) r)))
  ]

  same : (i r : ℕ) → H i r ≡ M i r
  same zero r = turned_one H M half.turned (turned_of_laws M (ranked_laws Has origins are L leads none beta w)) (λ x. same_link 1 x (omega arith)) r
  same (suc i) r = same_link (suc i) r (omega arith)

  pub double_half : (length odd_darts ≡ length origins) × ((i r : ℕ) → origin origins (H i r) ≡ L i (origin origins r))
  double_half = (count, λ i r. ap (origin origins) (same i r) ∙ ranked_is Has origins are L leads i r)
