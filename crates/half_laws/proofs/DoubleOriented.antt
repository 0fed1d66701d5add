-- The double of a combinatorial map without free links is oriented, and its odd darts are the positive ones.
use Rattle.std.proofs.Common.{ℕ, zero, suc, ◌≡◌, ◌≢◌, ◌+◌, ◌≤◌, ◌↔◌, List, length, Contains, Bool, true, false, not, sym, ap, ◌∙◌, subst, inl, inr, arith}
use Rattle.std.proofs.lemmas.Bool.{false≢true}
use Rattle.map_defs.specs.Kind.{beta, inverse}
use Rattle.map_defs.specs.Links.{Links, HasDimension, LeadsToLive}
use Rattle.map_defs.specs.Laws.{Laws}
use Rattle.map_defs.specs.Cells.{here, onward, NamesComponent}
use Rattle.half_defs.specs.Halves.{AreOrigins, origin, odd_dart, even_dart, IsDouble}
use Rattle.half_defs.specs.Orientation.{HasBoundary, IsFolded, Sign, IsPositive, AreSigns, IsOriented}
use Rattle.link_laws.proofs.Basics.{inverse_own, inverse_within}
use Rattle.half_laws.proofs.DoubleRanks.{origin_has, ranked, ranked_within, ranked_is, ranked_laws}
use Rattle.half_laws.proofs.DoubleLinks.{odd_dart_is, even_or_odd, odd_dart_one, odd_dart_none, DoublesRanks, double_of_ranks}
use Rattle.half_laws.proofs.DoubleLaws.{to_odd, to_even}
use Rattle.half_laws.proofs.DoubleSigns.{is_odd, even_dart_is_even, odd_dart_is_odd, signs_to, signs_ascending, signs_members, sign_told, sign_held}

module _ (m n : ℕ) (M N : Links) (w : Laws beta M) (within : (i r : ℕ) → M i r ≤ m) (d : DoublesRanks m M N) where
  -- the darts of the double
  abbrev Doubled : ℕ → Type 0
  Doubled x = (1 ≤ x) × (x ≤ m + m)

  even_rank : (x r : ℕ) → Doubled x → x ≡ even_dart r → (1 ≤ r) × (r ≤ m)
  even_rank x r (low, high) e = (omega arith, omega arith)

  odd_rank : (x r : ℕ) → Doubled x → 1 ≤ r → x ≡ odd_dart r → r ≤ m
  odd_rank x r (low, high) dart e = let o = odd_dart_is r dart in omega (arith, o, e)

  -- a sign's dart has the sign's parity
  even_sign : (s : Sign) (r : ℕ) → Contains (signs_to (m + m)) s → s.dart ≡ even_dart r → s.positive ≡ false
  even_sign s r there e = (sign_told (m + m) s there).2 ∙ (ap is_odd e ∙ even_dart_is_even r)

  odd_sign : (s : Sign) (r : ℕ) → Contains (signs_to (m + m)) s → s.dart ≡ odd_dart r → s.positive ≡ true
  odd_sign s r there e = (sign_told (m + m) s there).2 ∙ (ap is_odd e ∙ odd_dart_is_odd r (low r e))
    where
      low : (r : ℕ) → s.dart ≡ odd_dart r → 1 ≤ r
      low zero none = let h = (sign_told (m + m) s there).0 in absurd (omega (arith, h, none))
      low (suc r) some = omega arith

  flips : (s t : Sign) (i : ℕ) → Contains (signs_to (m + m)) s → Contains (signs_to (m + m)) t → N i s.dart ≡ t.dart → t.positive ≡ not s.positive
  flips s t i hs ht e = elim (even_or_odd s.dart).1 [
    | inl even ↦ let to = to_odd m M N w within d i (even_or_odd s.dart).0 in
        odd_sign t to.0 ht (sym e ∙ (ap (N i) even ∙ to.1)) ∙ ap not (sym (even_sign s (even_or_odd s.dart).0 hs even))
    | inr odd ↦ let to = to_even m M N w within d i (even_or_odd s.dart).0 in
        even_sign t to.0 ht (sym e ∙ (ap (N i) odd.1 ∙ to.1)) ∙ ap not (sym (odd_sign s (even_or_odd s.dart).0 hs odd.1))
  ]

  -- the even dart of a rank comes after the odd one, in one component with it
  not_least : (x r : ℕ) → Doubled x → x ≡ even_dart r → NamesComponent N x → ⊥
  not_least x r stands e least =
      let rank = even_rank x r stands e in
      let to : N 0 x ≡ odd_dart r = ap (N 0) e ∙ d.pairs_back r rank.1 in
      let dart : odd_dart r ≢ 0 = λ none. let z = odd_dart_none r none in let low = rank.0 in omega (arith, z, low) in
      let above : x ≤ odd_dart r = least (odd_dart r) (onward here (0, to, dart)) in
      let o = odd_dart_is r rank.0 in
      omega (arith, o, above, e)

  least : (s : Sign) → Contains (signs_to (m + m)) s → NamesComponent N s.dart → s.positive ≡ true
  least s there names = elim (even_or_odd s.dart).1 [
    | inl even ↦ let told = sign_told (m + m) s there in absurd (not_least s.dart (even_or_odd s.dart).0 (told.0, told.1) even names)
    | inr odd ↦ odd_sign s (even_or_odd s.dart).0 there odd.1
  ]

  pub doubled_signs : AreSigns n Doubled N (signs_to (m + m))
  doubled_signs = record {
    ascending = signs_ascending (m + m);
    members = signs_members (m + m);
    flips = λ s t i hs ht low e. flips s t i hs ht e;
    least = least;
  }

  pub positive_is_odd : (x : ℕ) → IsPositive (signs_to (m + m)) x ↔ ((r : ℕ) × (1 ≤ r) × (r ≤ m) × (x ≡ odd_dart r))
  positive_is_odd x = (
    λ h. let told = sign_told (m + m) (record { dart = x; positive = true }) h in elim (even_or_odd x).1 [
      | inl even ↦ absurd (false≢true (sym (even_sign (record { dart = x; positive = true }) (even_or_odd x).0 h even)))
      | inr odd ↦ ((even_or_odd x).0, odd.0, odd_rank x (even_or_odd x).0 (told.0, told.1) odd.0 odd.1, odd.1)
    ],
    λ h. there h.0 h.1 h.2 h.3,
  )
    where
      there : (r : ℕ) → 1 ≤ r → r ≤ m → x ≡ odd_dart r → IsPositive (signs_to (m + m)) x
      there r low high e =
          let o = odd_dart_is r low in
          subst (λ (b : Bool). Contains (signs_to (m + m)) (record { dart = x; positive = b })) (ap is_odd e ∙ odd_dart_is_odd r low)
          (sign_held (m + m) x (omega (arith, o, e)) (omega (arith, o, e)))

  module _ (dim : 2 ≤ n) (full : (i r : ℕ) → i ≤ n → 1 ≤ r → r ≤ m → M i r ≢ 0) where
    even_linked : (i r : ℕ) → i ≤ n → 1 ≤ r → r ≤ m → N i (even_dart r) ≢ 0
    even_linked zero r high low rank free = let z = odd_dart_none r (sym (d.pairs_back r rank) ∙ free) in omega (arith, z)
    even_linked (suc i) r high low rank free = full (suc i) r high low rank (odd_dart_none (M (suc i) r) (sym (d.leads (suc i) r (omega arith)) ∙ free))

    odd_linked : (i r : ℕ) → i ≤ n → 1 ≤ r → r ≤ m → N i (odd_dart r) ≢ 0
    odd_linked zero r high low rank free = let z : even_dart r ≡ 0 = sym (d.pairs r rank) ∙ free in omega (arith, z)
    odd_linked (suc i) r high low rank free =
        let z : even_dart (M (inverse beta (suc i)) r) ≡ 0 = sym (d.leads_back (suc i) r (omega arith)) ∙ free in
        full (inverse beta (suc i)) r (inverse_within beta n (suc i) dim high) low rank (omega (arith, z))

    closed : HasBoundary n Doubled N → ⊥
    closed (x, i, stands, high, free) = elim (even_or_odd x).1 [
      | inl even ↦ let rank = even_rank x (even_or_odd x).0 stands even in even_linked i (even_or_odd x).0 high rank.0 rank.1 (sym (ap (N i) even) ∙ free)
      | inr odd ↦ odd_linked i (even_or_odd x).0 high odd.0 (odd_rank x (even_or_odd x).0 stands odd.0 odd.1) (sym (ap (N i) odd.1) ∙ free)
    ]

    -- link i of a rank, from 2 upwards, is no link to itself
    no_fold : (i r : ℕ) → 2 ≤ i → 1 ≤ r → M i r ≢ r
    no_fold i r high low same = w.apart i r (inverse_own beta i high) (omega arith) same

    unfolded : (x i : ℕ) → IsFolded n Doubled N x i → ⊥
    unfolded x i (stands, high, low, same) = elim (even_or_odd x).1 [
      | inl even ↦ at_even (even_or_odd x).0 even
      | inr odd ↦ at_odd (even_or_odd x).0 odd.0 odd.1
    ]
      where
        at_even : (r : ℕ) → x ≡ even_dart r → ⊥
        at_even r e =
            let rank = even_rank x r stands e in
            let two : odd_dart (M i r) ≡ odd_dart r = sym (d.leads i r (omega arith)) ∙ (ap (N i) (sym e) ∙ (same ∙ (ap (N 0) e ∙ d.pairs_back r rank.1))) in
            no_fold i r high rank.0 (odd_dart_one (M i r) r two)

        at_odd : (r : ℕ) → 1 ≤ r → x ≡ odd_dart r → ⊥
        at_odd r dart e =
            let rank = odd_rank x r stands dart e in
            let own : M (inverse beta i) r ≡ M i r = ap (λ t. M t r) (inverse_own beta i high) in
            let two : even_dart (M (inverse beta i) r) ≡ even_dart r = sym (d.leads_back i r (omega arith)) ∙ (ap (N i) (sym e) ∙ (same ∙ (ap (N 0) e ∙ d.pairs r rank))) in
            no_fold i r high dart (let z : M i r + M i r ≡ r + r = ap even_dart (sym own) ∙ two in omega (arith, z))

    pub ranks_oriented : IsOriented n Doubled N (signs_to (m + m))
    ranks_oriented = record { closed = closed; unfolded = unfolded; signed = doubled_signs }

pub double_oriented : (Has : ℕ → Type 0) (origins : List ℕ) (n : ℕ) (L N : Links) → 2 ≤ n → Laws beta L → LeadsToLive Has L → HasDimension n L → (Has 0 → ⊥)
    → (HasBoundary n Has L → ⊥) → AreOrigins Has origins → IsDouble n L origins N
    → (signs : List Sign) × IsOriented n (λ d. (1 ≤ d) × (d ≤ length origins + length origins)) N signs
    × ((d : ℕ) → IsPositive signs d ↔ ((r : ℕ) × (1 ≤ r) × (r ≤ length origins) × (d ≡ odd_dart r)))
double_oriented Has origins n L N dim w leads high none closed are double = (
  signs_to (m + m),
  ranks_oriented m n M N law within d dim full,
  positive_is_odd m n M N law within d,
)
  where
    m : ℕ
    m = length origins

    M : Links
    M = ranked Has origins are L leads

    law : Laws beta M
    law = ranked_laws Has origins are L leads none beta w

    within : (i r : ℕ) → M i r ≤ m
    within = ranked_within Has origins are L leads

    d : DoublesRanks m M N
    d = double_of_ranks Has origins are n L leads N double none w high

    full : (i r : ℕ) → i ≤ n → 1 ≤ r → r ≤ m → M i r ≢ 0
    full i r low start end free =
        closed (origin origins r, i, origin_has Has origins are r start end, low, sym (ranked_is Has origins are L leads i r) ∙ ap (origin origins) free)
