-- The links of the double by ranks: each dart of the double is the even or the odd one of a rank.
use Rattle.std.proofs.Common.{ℕ, zero, suc, ◌≡◌, ◌≢◌, ◌+◌, ◌<◌, ◌≤◌, ◌⊎◌, List, length, refl, sym, ap, ◌∙◌, inl, inr, arith}
use Rattle.std.proofs.lemmas.Bool.{cases_lt}
use Rattle.map_defs.specs.Kind.{beta, inverse}
use Rattle.map_defs.specs.Links.{Links, HasDimension, LeadsToLive}
use Rattle.map_defs.specs.Laws.{Laws}
use Rattle.half_defs.specs.Halves.{AreOrigins, odd_dart, even_dart, IsDouble}
use Rattle.link_laws.proofs.Basics.{stable, inverse_twice}
use Rattle.half_laws.proofs.DoubleRanks.{ranked, ranked_within, ranked_is, ranked_dimension, ranked_laws}

pub odd_dart_is : (r : ℕ) → 1 ≤ r → odd_dart r + 1 ≡ r + r
odd_dart_is zero h = absurd (omega arith)
odd_dart_is (suc r) h = omega arith

-- each number is the even dart or the odd dart of a rank
pub even_or_odd : (x : ℕ) → (r : ℕ) × ((x ≡ even_dart r) ⊎ ((1 ≤ r) × (x ≡ odd_dart r)))
even_or_odd zero = (0, inl refl)
even_or_odd (suc x) = elim (even_or_odd x).1 [
  | inl e ↦ (suc (even_or_odd x).0, inr (omega arith, ap suc e))
  | inr o ↦ ((even_or_odd x).0, inl (let h = odd_dart_is (even_or_odd x).0 o.0 in omega (arith, h, o.1)))
]

-- no dart is both
pub even_or_odd_once : (r s : ℕ) → 1 ≤ s → even_dart r ≢ odd_dart s
even_or_odd_once r s h e = let o = odd_dart_is s h in omega (arith, o, e)

pub odd_dart_one : (r s : ℕ) → odd_dart r ≡ odd_dart s → r ≡ s
odd_dart_one zero zero e = refl
odd_dart_one zero (suc s) e = absurd (omega arith)
odd_dart_one (suc r) zero e = absurd (omega arith)
odd_dart_one (suc r) (suc s) e = omega (arith, e)

pub odd_dart_none : (r : ℕ) → odd_dart r ≡ 0 → r ≡ 0
odd_dart_none r e = odd_dart_one r 0 e

-- M are the links of a map by ranks 1 to m, and N those of its double.
pub record DoublesRanks (m : ℕ) (M N : Links) : Type 0 where
  pub pairs : (r : ℕ) → r ≤ m → N 0 (odd_dart r) ≡ even_dart r
  pub pairs_back : (r : ℕ) → r ≤ m → N 0 (even_dart r) ≡ odd_dart r
  pub past : (i x : ℕ) → m + m < x → N i x ≡ 0
  pub leads : (i r : ℕ) → 1 ≤ i → N i (even_dart r) ≡ odd_dart (M i r)
  pub leads_back : (i r : ℕ) → 1 ≤ i → N i (odd_dart r) ≡ even_dart (M (inverse beta i) r)

-- a link is free where its inverse is free everywhere
pub inverse_free : (L : Links) → Laws beta L → (i : ℕ) → ((d : ℕ) → L i d ≡ 0) → (d : ℕ) → L (inverse beta i) d ≡ 0
inverse_free L w i free d = stable (L (inverse beta i) d) 0 (λ linked.
    let back : L (inverse beta (inverse beta i)) (L (inverse beta i) d) ≡ d = w.back (inverse beta i) d linked in
    let none : d ≡ 0 = sym back ∙ (ap (λ j. L j (L (inverse beta i) d)) (inverse_twice beta i) ∙ free (L (inverse beta i) d)) in
    linked (ap (L (inverse beta i)) none ∙ w.nil (inverse beta i)))

module _ (Has : ℕ → Type 0) (origins : List ℕ) (are : AreOrigins Has origins) (n : ℕ) (L : Links) (leads : LeadsToLive Has L) (N : Links) (double : IsDouble n L origins N) where
  abbrev M : Links
  M = ranked Has origins are L leads

  -- the links of the double up to its dimension
  pub double_leads : (i r : ℕ) → 1 ≤ i → i ≤ n → N i (even_dart r) ≡ odd_dart (M i r)
  double_leads i r low high =
      double.leads i r (M i r) low high (ranked_within Has origins are L leads i r) (sym (ranked_is Has origins are L leads i r))

  pub double_leads_back : (i r : ℕ) → 1 ≤ i → i ≤ n → N i (odd_dart r) ≡ even_dart (M (inverse beta i) r)
  double_leads_back i r low high =
      double.leads_back i (M (inverse beta i) r) r low high (ranked_within Has origins are L leads (inverse beta i) r) (sym (ranked_is Has origins are L leads (inverse beta i) r))

  pub double_past : (i x : ℕ) → length origins + length origins < x → N i x ≡ 0
  double_past i x past = stable (N i x) 0 (λ linked. let h = double.made i x linked in omega arith)

  pub double_of_ranks : (Has 0 → ⊥) → Laws beta L → HasDimension n L → DoublesRanks (length origins) M N
  double_of_ranks none w high = record {
    pairs = double.pairs;
    pairs_back = double.pairs_back;
    past = double_past;
    leads = λ i r low. elim (cases_lt n i) [
      | inl above ↦ double.above i (even_dart r) above ∙ ap odd_dart (sym (ranked_dimension Has origins are L leads none n high i r above))
      | inr within ↦ double_leads i r low within
    ];
    leads_back = λ i r low. elim (cases_lt n i) [
      | inl above ↦
          let free : M (inverse beta i) r ≡ 0 = inverse_free M (ranked_laws Has origins are L leads none beta w) i (λ s. ranked_dimension Has origins are L leads none n high i s above) r in
          double.above i (odd_dart r) above ∙ ap even_dart (sym free)
      | inr within ↦ double_leads_back i r low within
    ];
  }
