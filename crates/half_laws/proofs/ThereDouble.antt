-- The double of a combinatorial map exists.
use Rattle.std.proofs.Common.{ℕ, zero, suc, ◌≡◌, ◌+◌, ◌<◌, ◌≤◌, ◌⊎◌, List, length, refl, sym, ap, ◌∙◌, inl, inr, arith}
use Rattle.std.proofs.lemmas.Bool.{cases_lt}
use Rattle.map_defs.specs.Kind.{beta, inverse}
use Rattle.map_defs.specs.Links.{Links, IsMadeUpTo, HasDimension, LeadsToLive}
use Rattle.map_defs.specs.Laws.{Laws}
use Rattle.map_defs.specs.Rows.{Rows, links_of}
use Rattle.half_defs.specs.Halves.{AreOrigins, odd_dart, even_dart, IsDouble, HasDarts}
use Rattle.link_laws.proofs.Basics.{stable}
use Rattle.half_laws.proofs.DoubleRanks.{ranked, ranked_of, ranked_made, ranked_dimension, ranked_laws}
use Rattle.half_laws.proofs.DoubleLinks.{even_or_odd, even_or_odd_once, odd_dart_is, odd_dart_one, inverse_free}
use Rattle.half_laws.proofs.ThereRows.{rows_there}
use Rattle.half_laws.proofs.ThereLists.{origins_there}

-- the dart x as the even or the odd one of a rank
abbrev View : ℕ → Type 0
View x = (r : ℕ) × ((x ≡ even_dart r) ⊎ ((1 ≤ r) × (x ≡ odd_dart r)))

module _ (m : ℕ) (M : Links) where
  if_rank : (r d : ℕ) → (m < r) ⊎ (r ≤ m) → ℕ
  if_rank r d (inl past) = 0
  if_rank r d (inr low) = d

  even_link : ℕ → ℕ → ℕ
  even_link zero r = if_rank r (odd_dart r) (cases_lt m r)
  even_link (suc i) r = odd_dart (M (suc i) r)

  odd_link : ℕ → ℕ → ℕ
  odd_link zero r = if_rank r (even_dart r) (cases_lt m r)
  odd_link (suc i) r = even_dart (M (inverse beta (suc i)) r)

  link_at : (i x : ℕ) → View x → ℕ
  link_at i x (r, inl even) = even_link i r
  link_at i x (r, inr odd) = odd_link i r

  doubled : Links
  doubled i x = link_at i x (even_or_odd x)

  link_even : (i r x : ℕ) (v : View x) → x ≡ even_dart r → link_at i x v ≡ even_link i r
  unfolding link_at
  link_even i r x (s, inl even) e = ap (even_link i) (let two : s + s ≡ r + r = sym even ∙ e in omega (arith, two))
  link_even i r x (s, inr odd) e = absurd (even_or_odd_once r s odd.0 (sym e ∙ odd.1))

  link_odd : (i r x : ℕ) (v : View x) → 1 ≤ r → x ≡ odd_dart r → link_at i x v ≡ odd_link i r
  unfolding link_at
  link_odd i r x (s, inl even) low e = absurd (even_or_odd_once s r low (sym even ∙ e))
  link_odd i r x (s, inr odd) low e = ap (odd_link i) (odd_dart_one s r (sym odd.1 ∙ e))

  at_even : (i r : ℕ) → doubled i (even_dart r) ≡ even_link i r
  unfolding doubled
  at_even i r = link_even i r (even_dart r) (even_or_odd (even_dart r)) refl

  at_odd : (i r : ℕ) → 1 ≤ r → doubled i (odd_dart r) ≡ odd_link i r
  unfolding doubled
  at_odd i r low = link_odd i r (odd_dart r) (even_or_odd (odd_dart r)) low refl

  if_low : (r d : ℕ) (c : (m < r) ⊎ (r ≤ m)) → r ≤ m → if_rank r d c ≡ d
  unfolding if_rank
  if_low r d (inl past) low = absurd (omega arith)
  if_low r d (inr within) low = refl

  if_past : (r d : ℕ) (c : (m < r) ⊎ (r ≤ m)) → m < r → if_rank r d c ≡ 0
  unfolding if_rank
  if_past r d (inl past) up = refl
  if_past r d (inr within) up = absurd (omega arith)

  -- the laws of the links by ranks are not needed here, but that 0 and what was not made have none
  module _ (nil : (i : ℕ) → M i 0 ≡ 0) (made : IsMadeUpTo m M) where
    free_past : (i r : ℕ) → m < r → M i r ≡ 0
    free_past i r past = stable (M i r) 0 (λ linked. let h = made i r linked in omega arith)

    even_past : (i r : ℕ) → m < r → even_link i r ≡ 0
    unfolding even_link
    even_past zero r past = if_past r (odd_dart r) (cases_lt m r) past
    even_past (suc i) r past = ap odd_dart (free_past (suc i) r past)

    odd_past : (i r : ℕ) → m < r → odd_link i r ≡ 0
    unfolding odd_link
    odd_past zero r past = if_past r (even_dart r) (cases_lt m r) past
    odd_past (suc i) r past = ap even_dart (free_past (inverse beta (suc i)) r past)

    doubled_pairs : (r : ℕ) → r ≤ m → doubled 0 (odd_dart r) ≡ even_dart r
    unfolding even_link odd_link
    doubled_pairs zero low = at_even 0 0 ∙ if_low 0 (odd_dart 0) (cases_lt m 0) low
    doubled_pairs (suc r) low = at_odd 0 (suc r) (omega arith) ∙ if_low (suc r) (even_dart (suc r)) (cases_lt m (suc r)) low

    doubled_pairs_back : (r : ℕ) → r ≤ m → doubled 0 (even_dart r) ≡ odd_dart r
    unfolding even_link
    doubled_pairs_back r low = at_even 0 r ∙ if_low r (odd_dart r) (cases_lt m r) low

    doubled_leads : (i r : ℕ) → 1 ≤ i → doubled i (even_dart r) ≡ odd_dart (M i r)
    unfolding even_link
    doubled_leads zero r low = absurd (omega arith)
    doubled_leads (suc i) r low = at_even (suc i) r

    doubled_leads_back : (i r : ℕ) → 1 ≤ i → doubled i (odd_dart r) ≡ even_dart (M (inverse beta i) r)
    unfolding even_link odd_link
    doubled_leads_back zero r low = absurd (omega arith)
    doubled_leads_back (suc i) zero low = at_even (suc i) 0 ∙ (ap odd_dart (nil (suc i)) ∙ ap even_dart (sym (nil (inverse beta (suc i)))))
    doubled_leads_back (suc i) (suc r) low = at_odd (suc i) (suc r) (omega arith)

    doubled_made : IsMadeUpTo (m + m) doubled
    doubled_made i x linked = elim (cases_lt (m + m) x) [
      | inr within ↦ within
      | inl past ↦ elim (even_or_odd x).1 [
        | inl even ↦ let r = (even_or_odd x).0 in absurd (linked (ap (doubled i) even ∙ (at_even i r ∙ even_past i r (omega (arith, even, past)))))
        | inr odd ↦
            let r = (even_or_odd x).0 in
            let o = odd_dart_is r odd.0 in
            let e = odd.1 in
            absurd (linked (ap (doubled i) e ∙ (at_odd i r odd.0 ∙ odd_past i r (omega (arith, o, e, past)))))
      ]
    ]

pub double_same : (n : ℕ) (L : Links) (origins : List ℕ) (N O : Links) → ((i d : ℕ) → O i d ≡ N i d) → IsDouble n L origins N → IsDouble n L origins O
double_same n L origins N O same double = record {
  made = λ i d linked. double.made i d (λ free. linked (same i d ∙ free));
  pairs = λ r low. same 0 (odd_dart r) ∙ double.pairs r low;
  pairs_back = λ r low. same 0 (even_dart r) ∙ double.pairs_back r low;
  leads = λ i r s low up within e. same i (even_dart r) ∙ double.leads i r s low up within e;
  leads_back = λ i r s low up within e. same i (odd_dart s) ∙ double.leads_back i r s low up within e;
  above = λ i d up. same i d ∙ double.above i d up;
}

module _ (Has : ℕ → Type 0) (origins : List ℕ) (are : AreOrigins Has origins) (n : ℕ) (L : Links) (w : Laws beta L) (leads : LeadsToLive Has L) (high : HasDimension n L) (none : Has 0 → ⊥) where
  abbrev Ranked : Links
  Ranked = ranked Has origins are L leads

  law : Laws beta Ranked
  law = ranked_laws Has origins are L leads none beta w

  ranks_made : IsMadeUpTo (length origins) Ranked
  ranks_made = ranked_made Has origins are L leads none w.nil

  abbrev N : Links
  N = doubled (length origins) Ranked

  free_above : (i x : ℕ) → n < i → N i x ≡ 0
  free_above i x up = elim (even_or_odd x).1 [
    | inl even ↦ ap (N i) even ∙ (doubled_leads (length origins) Ranked law.nil ranks_made i (even_or_odd x).0 (omega arith) ∙ ap odd_dart (free (even_or_odd x).0))
    | inr odd ↦ ap (N i) odd.1 ∙ (doubled_leads_back (length origins) Ranked law.nil ranks_made i (even_or_odd x).0 (omega arith) ∙ ap even_dart (inverse_free Ranked law i free (even_or_odd x).0))
  ]
    where
      free : (r : ℕ) → Ranked i r ≡ 0
      free r = ranked_dimension Has origins are L leads none n high i r up

  is_double : IsDouble n L origins N
  is_double = record {
    made = doubled_made (length origins) Ranked law.nil ranks_made;
    pairs = doubled_pairs (length origins) Ranked law.nil ranks_made;
    pairs_back = doubled_pairs_back (length origins) Ranked law.nil ranks_made;
    leads = λ i r s low up within e. doubled_leads (length origins) Ranked law.nil ranks_made i r low ∙ ap odd_dart (ranked_of Has origins are L leads none i r s within e);
    leads_back = λ i r s low up within e. doubled_leads_back (length origins) Ranked law.nil ranks_made i s low ∙ ap even_dart (ranked_of Has origins are L leads none (inverse beta i) s r within e);
    above = free_above;
  }

  past : (i d : ℕ) → length origins + length origins < d → N i d ≡ 0
  past i d up = stable (N i d) 0 (λ linked. let h = is_double.made i d linked in omega arith)

  nothing : (i : ℕ) → N i 0 ≡ 0
  nothing zero = is_double.pairs 0 (omega arith)
  nothing (suc i) = doubled_leads (length origins) Ranked law.nil ranks_made (suc i) 0 (omega arith) ∙ ap odd_dart (law.nil (suc i))

  pub double_there : (rows : Rows) × HasDarts n (length origins + length origins) rows × IsDouble n L origins (links_of rows)
  double_there =
      let found = rows_there n (length origins + length origins) N is_double.above nothing past in
      (found.0, found.1, double_same n L origins N (links_of found.0) found.2 is_double)

-- the live darts, and rows of the double
pub double_found : (Has : ℕ → Type 0) → ((d : ℕ) → Has d ⊎ (Has d → ⊥)) → (bound : ℕ) → ((d : ℕ) → Has d → d ≤ bound)
    → (n : ℕ) (L : Links) → Laws beta L → LeadsToLive Has L → HasDimension n L → (Has 0 → ⊥)
    → (origins : List ℕ) × (double : Rows) × AreOrigins Has origins × HasDarts n (length origins + length origins) double × IsDouble n L origins (links_of double)
double_found Has told bound low n L w leads high none =
    let listed = origins_there Has told bound none low in
    let there = double_there Has listed.0 listed.1 n L w leads high none in
    (listed.0, there.0, listed.1, there.1, there.2)
