-- There is one double: what is told of its links leaves no choice.
use Rattle.std.proofs.Common.{ℕ, zero, suc, ◌≡◌, ◌+◌, ◌<◌, ◌≤◌, List, length, sym, ap, ◌∙◌, inl, inr, arith}
use Rattle.std.proofs.lemmas.Bool.{cases_lt}
use Rattle.map_defs.specs.Links.{Links, LeadsToLive}
use Rattle.half_defs.specs.Halves.{AreOrigins, odd_dart, even_dart, IsDouble}
use Rattle.half_laws.proofs.DoubleLinks.{even_or_odd, odd_dart_is, double_leads, double_leads_back, double_past}

module _ (Has : ℕ → Type 0) (origins : List ℕ) (are : AreOrigins Has origins) (n : ℕ) (L : Links) (leads : LeadsToLive Has L) (N O : Links) (first : IsDouble n L origins N) (second : IsDouble n L origins O) where
  beyond : (i x : ℕ) → length origins + length origins < x → N i x ≡ O i x
  beyond i x past = double_past Has origins are n L leads N first i x past ∙ sym (double_past Has origins are n L leads O second i x past)

  same_even : (i r : ℕ) → i ≤ n → N i (even_dart r) ≡ O i (even_dart r)
  same_even zero r within = elim (cases_lt (length origins) r) [
    | inl past ↦ beyond 0 (even_dart r) (omega arith)
    | inr low ↦ first.pairs_back r low ∙ sym (second.pairs_back r low)
  ]
  same_even (suc i) r within = double_leads Has origins are n L leads N first (suc i) r (omega arith) within ∙ sym (double_leads Has origins are n L leads O second (suc i) r (omega arith) within)

  same_odd : (i r : ℕ) → 1 ≤ r → i ≤ n → N i (odd_dart r) ≡ O i (odd_dart r)
  same_odd zero r dart within = elim (cases_lt (length origins) r) [
    | inl past ↦ beyond 0 (odd_dart r) (let o = odd_dart_is r dart in omega (arith, o))
    | inr low ↦ first.pairs r low ∙ sym (second.pairs r low)
  ]
  same_odd (suc i) r dart within = double_leads_back Has origins are n L leads N first (suc i) r (omega arith) within ∙ sym (double_leads_back Has origins are n L leads O second (suc i) r (omega arith) within)

  pub double_once : (i d : ℕ) → N i d ≡ O i d
  double_once i d = elim (cases_lt n i) [
    | inl above ↦ first.above i d above ∙ sym (second.above i d above)
    | inr within ↦ elim (even_or_odd d).1 [
      | inl e ↦ ap (N i) e ∙ (same_even i (even_or_odd d).0 within ∙ ap (O i) (sym e))
      | inr o ↦ ap (N i) o.1 ∙ (same_odd i (even_or_odd d).0 o.0 within ∙ ap (O i) (sym o.1))
    ]
  ]
