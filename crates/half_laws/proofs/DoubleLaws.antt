-- The double of a combinatorial map keeps the laws of a generalized map.
use Rattle.std.proofs.Common.{ℕ, zero, suc, ◌≡◌, ◌≢◌, ◌+◌, ◌<◌, ◌≤◌, List, length, sym, ap, ◌∙◌, inl, inr, arith}
use Rattle.std.proofs.lemmas.Bool.{cases_lt}
use Rattle.map_defs.specs.Kind.{alpha, beta, inverse}
use Rattle.map_defs.specs.Links.{Links, HasDimension, LeadsToLive}
use Rattle.map_defs.specs.Laws.{Laws}
use Rattle.half_defs.specs.Halves.{AreOrigins, odd_dart, even_dart, IsDouble}
use Rattle.link_laws.proofs.Basics.{inverse_twice, inverse_own, distant_alpha_is, distant_high, IsDistant-inverses}
use Rattle.half_laws.proofs.DoubleRanks.{ranked, ranked_within, ranked_laws}
use Rattle.half_laws.proofs.DoubleLinks.{odd_dart_is, even_or_odd, even_or_odd_once, DoublesRanks, double_of_ranks}

module _ (m : ℕ) (M N : Links) (w : Laws beta M) (within : (i r : ℕ) → M i r ≤ m) (d : DoublesRanks m M N) where
  nil : (i : ℕ) → N i 0 ≡ 0
  nil zero = d.pairs 0 (omega arith)
  nil (suc i) = d.leads (suc i) 0 (omega arith) ∙ ap odd_dart (w.nil (suc i))

  past_even : (i r : ℕ) → m < r → N i (even_dart r) ≡ 0
  past_even i r past = d.past i (even_dart r) (omega arith)

  past_odd : (i r : ℕ) → m < r → N i (odd_dart r) ≡ 0
  past_odd i r past = d.past i (odd_dart r) (let o = odd_dart_is r (omega arith) in omega (arith, o))

  -- links lead from even darts to odd ones, and back
  pub to_odd : (i r : ℕ) → (s : ℕ) × (N i (even_dart r) ≡ odd_dart s)
  to_odd zero r = elim (cases_lt m r) [ inl past ↦ (0, past_even 0 r past) | inr low ↦ (r, d.pairs_back r low) ]
  to_odd (suc i) r = (M (suc i) r, d.leads (suc i) r (omega arith))

  pub to_even : (i r : ℕ) → (s : ℕ) × (N i (odd_dart r) ≡ even_dart s)
  to_even zero r = elim (cases_lt m r) [ inl past ↦ (0, past_odd 0 r past) | inr low ↦ (r, d.pairs r low) ]
  to_even (suc i) r = (M (inverse beta (suc i)) r, d.leads_back (suc i) r (omega arith))

  back_even : (i r : ℕ) → N i (even_dart r) ≢ 0 → N i (N i (even_dart r)) ≡ even_dart r
  back_even zero r linked = elim (cases_lt m r) [
    | inl past ↦ absurd (linked (past_even 0 r past))
    | inr low ↦ ap (N 0) (d.pairs_back r low) ∙ d.pairs r low
  ]
  back_even (suc i) r linked =
      let to : N (suc i) (even_dart r) ≡ odd_dart (M (suc i) r) = d.leads (suc i) r (omega arith) in
      ap (N (suc i)) to ∙ (d.leads_back (suc i) (M (suc i) r) (omega arith) ∙ ap even_dart (w.back (suc i) r (λ free. linked (to ∙ ap odd_dart free))))

  back_odd : (i r : ℕ) → N i (odd_dart r) ≢ 0 → N i (N i (odd_dart r)) ≡ odd_dart r
  back_odd zero r linked = elim (cases_lt m r) [
    | inl past ↦ absurd (linked (past_odd 0 r past))
    | inr low ↦ ap (N 0) (d.pairs r low) ∙ d.pairs_back r low
  ]
  back_odd (suc i) r linked =
      let j : ℕ = inverse beta (suc i) in
      let to : N (suc i) (odd_dart r) ≡ even_dart (M j r) = d.leads_back (suc i) r (omega arith) in
      let round : M (inverse beta j) (M j r) ≡ r = w.back j r (λ free. linked (to ∙ ap even_dart free)) in
      ap (N (suc i)) to ∙ (d.leads (suc i) (M j r) (omega arith) ∙ ap odd_dart (sym (ap (λ t. M t (M j r)) (inverse_twice beta (suc i))) ∙ round))

  back : (i x : ℕ) → N i x ≢ 0 → N i (N i x) ≡ x
  back i x linked = elim (even_or_odd x).1 [
    | inl e ↦ let h = back_even i (even_or_odd x).0 (λ free. linked (ap (N i) e ∙ free)) in cc (h, e)
    | inr o ↦ let h = back_odd i (even_or_odd x).0 (λ free. linked (ap (N i) o.1 ∙ free)) in let e = o.1 in cc (h, e)
  ]

  apart : (i x : ℕ) → x ≢ 0 → N i x ≢ x
  apart i x dart same = elim (even_or_odd x).1 [
    | inl e ↦ even_apart (even_or_odd x).0 e
    | inr o ↦ odd_apart (even_or_odd x).0 o.0 o.1
  ]
    where
      even_apart : (r : ℕ) → x ≡ even_dart r → ⊥
      even_apart r e =
          let to = to_odd i r in
          let is : odd_dart to.0 ≡ even_dart r = cc (to.1, e, same) in
          elim (cases_lt 0 to.0) [
            | inl dart_there ↦ even_or_odd_once r to.0 dart_there (sym is)
            | inr none ↦ dart (e ∙ (sym is ∙ ap odd_dart (let z : to.0 ≡ 0 = omega arith in z)))
          ]

      odd_apart : (r : ℕ) → 1 ≤ r → x ≡ odd_dart r → ⊥
      odd_apart r low e =
          let to = to_even i r in
          even_or_odd_once to.0 r low (cc (to.1, e, same))

  -- from 2 upwards a link is its own inverse, so the links of the double are those by ranks
  own_back : (j r : ℕ) → 2 ≤ j → N j (odd_dart r) ≡ even_dart (M j r)
  own_back j r high = d.leads_back j r (omega arith) ∙ ap (λ t. even_dart (M t r)) (inverse_own beta j high)

  zero_even : (j r : ℕ) → 2 ≤ j → N 0 (N j (even_dart r)) ≡ N j (N 0 (even_dart r))
  zero_even j r high = elim (cases_lt m r) [
    | inl past ↦ ap (N 0) (past_even j r past) ∙ (nil 0 ∙ (sym (nil j) ∙ ap (N j) (sym (past_even 0 r past))))
    | inr low ↦ ap (N 0) (d.leads j r (omega arith)) ∙ (d.pairs (M j r) (within j r) ∙ (sym (own_back j r high) ∙ ap (N j) (sym (d.pairs_back r low))))
  ]

  zero_odd : (j r : ℕ) → 2 ≤ j → N 0 (N j (odd_dart r)) ≡ N j (N 0 (odd_dart r))
  zero_odd j r high = elim (cases_lt m r) [
    | inl past ↦ ap (N 0) (past_odd j r past) ∙ (nil 0 ∙ (sym (nil j) ∙ ap (N j) (sym (past_odd 0 r past))))
    | inr low ↦ ap (N 0) (own_back j r high) ∙ (d.pairs_back (M j r) (within j r) ∙ (sym (d.leads j r (omega arith)) ∙ ap (N j) (sym (d.pairs r low))))
  ]

  high_even : (i j r : ℕ) → 1 ≤ i → i + 2 ≤ j → N i (N j (even_dart r)) ≡ N j (N i (even_dart r))
  high_even i j r low high =
      let square : M (inverse beta i) (M j r) ≡ M (inverse beta j) (M i r) = w.square i j r (distant_high beta i j low high) in
      ap (N i) (d.leads j r (omega arith)) ∙ (d.leads_back i (M j r) low ∙ (ap even_dart square
      ∙ (sym (d.leads_back j (M i r) (omega arith)) ∙ ap (N j) (sym (d.leads i r low)))))

  high_odd : (i j r : ℕ) → 1 ≤ i → i + 2 ≤ j → N i (N j (odd_dart r)) ≡ N j (N i (odd_dart r))
  high_odd i j r low high =
      let square : M i (M (inverse beta j) r) ≡ M j (M (inverse beta i) r) =
      ap (λ t. M t (M (inverse beta j) r)) (sym (inverse_twice beta i)) ∙ (w.square (inverse beta i) (inverse beta j) r (IsDistant-inverses beta i j (distant_high beta i j low high))
      ∙ ap (λ t. M t (M (inverse beta i) r)) (inverse_twice beta j)) in
      ap (N i) (d.leads_back j r (omega arith)) ∙ (d.leads i (M (inverse beta j) r) low ∙ (ap odd_dart square
      ∙ (sym (d.leads j (M (inverse beta i) r) (omega arith)) ∙ ap (N j) (sym (d.leads_back i r low)))))

  ordered_even : (i j r : ℕ) → i + 2 ≤ j → N i (N j (even_dart r)) ≡ N j (N i (even_dart r))
  ordered_even zero j r high = zero_even j r (omega arith)
  ordered_even (suc i) j r high = high_even (suc i) j r (omega arith) high

  ordered_odd : (i j r : ℕ) → i + 2 ≤ j → N i (N j (odd_dart r)) ≡ N j (N i (odd_dart r))
  ordered_odd zero j r high = zero_odd j r (omega arith)
  ordered_odd (suc i) j r high = high_odd (suc i) j r (omega arith) high

  ordered : (i j x : ℕ) → i + 2 ≤ j → N i (N j x) ≡ N j (N i x)
  ordered i j x high = elim (even_or_odd x).1 [
    | inl e ↦ ap (λ y. N i (N j y)) e ∙ (ordered_even i j (even_or_odd x).0 high ∙ ap (λ y. N j (N i y)) (sym e))
    | inr o ↦ ap (λ y. N i (N j y)) o.1 ∙ (ordered_odd i j (even_or_odd x).0 high ∙ ap (λ y. N j (N i y)) (sym o.1))
  ]

  pub ranks_keep : Laws alpha N
  ranks_keep = record {
    nil = nil;
    back = back;
    apart = λ i x own. apart i x;
    square = λ i j x far. elim (distant_alpha_is i j far) [ inl high ↦ ordered i j x high | inr high ↦ sym (ordered j i x high) ];
  }

pub double_keeps : (Has : ℕ → Type 0) (origins : List ℕ) (n : ℕ) (L N : Links) → Laws beta L → LeadsToLive Has L → HasDimension n L → (Has 0 → ⊥)
    → AreOrigins Has origins → IsDouble n L origins N → Laws alpha N
double_keeps Has origins n L N w leads high none are double =
    ranks_keep (length origins) (ranked Has origins are L leads) N (ranked_laws Has origins are L leads none beta w) (ranked_within Has origins are L leads)
    (double_of_ranks Has origins are n L leads N double none w high)
