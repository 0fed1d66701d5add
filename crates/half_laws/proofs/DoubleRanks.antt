-- Ranks: each dart with the property has one, and links are told by ranks too.
use Rattle.std.proofs.Common.{ℕ, zero, suc, ◌≡◌, ◌≢◌, ◌<◌, ◌≤◌, List, length, slice_index, Contains, refl, sym, ap, ◌∙◌, subst, inl, inr, arith}
use Rattle.std.proofs.lemmas.Bool.{cases_lt}
use Rattle.std.proofs.lemmas.List.{get_or_default, get_or_past}
use Rattle.std.proofs.lemmas.List.Elements.{Contains-get_or}
use Rattle.map_defs.specs.Kind.{Kind, inverse}
use Rattle.map_defs.specs.Links.{Links, IsMadeUpTo, HasDimension, LeadsToLive}
use Rattle.map_defs.specs.Laws.{Laws}
use Rattle.half_defs.specs.Halves.{AreOrigins, origin}
use Rattle.link_laws.proofs.Basics.{same_or_not}
use Rattle.value_laws.proofs.Rising.{rising_place}

pub origin_past : (origins : List ℕ) (r : ℕ) → length origins < r → origin origins r ≡ 0
origin_past origins zero h = refl
origin_past origins (suc r) h = get_or_past origins r 0 (omega arith)

module _ (Has : ℕ → Type 0) (origins : List ℕ) (are : AreOrigins Has origins) where
  -- a dart with the property has a rank
  pub rank_found : (d : ℕ) → Has d → (r : ℕ) × (1 ≤ r) × (r ≤ length origins) × (origin origins r ≡ d)
  rank_found d h =
      let c : Contains origins d = (are.members d).1 h in
      let l : c.0 < length origins = c.1 in
      (suc c.0, omega arith, omega arith, get_or_default origins c.0 0 d l ∙ c.2)

  pub origin_has : (r : ℕ) → 1 ≤ r → r ≤ length origins → Has (origin origins r)
  origin_has zero low high = absurd (omega arith)
  origin_has (suc r) low high = (are.members (slice_index origins r)).0 (Contains-get_or origins r 0 (omega arith))

  -- one dart has one rank
  pub origin_one : (Has 0 → ⊥) → (r s : ℕ) → r ≤ length origins → s ≤ length origins → origin origins r ≡ origin origins s → r ≡ s
  origin_one none zero zero hr hs e = refl
  origin_one none zero (suc s) hr hs e = absurd (none (subst Has (sym e) (origin_has (suc s) (omega arith) hs)))
  origin_one none (suc r) zero hr hs e = absurd (none (subst Has e (origin_has (suc r) (omega arith) hr)))
  origin_one none (suc r) (suc s) hr hs e = ap suc (rising_place origins are.ascending r s (omega arith) (omega arith) e)

  -- what has the property unless it is 0 has a rank, or it is 0
  pub rank_or_none : (d : ℕ) → (d ≢ 0 → Has d) → (s : ℕ) × (s ≤ length origins) × (d ≡ origin origins s)
  rank_or_none d has = elim (same_or_not d 0) [
    | inl none ↦ (0, omega arith, none)
    | inr some ↦ let q = rank_found d (has some) in (q.0, q.2, sym q.3)
  ]

  module _ (L : Links) (leads : LeadsToLive Has L) where
    led_found : (i r : ℕ) → (s : ℕ) × (s ≤ length origins) × (L i (origin origins r) ≡ origin origins s)
    led_found i r = rank_or_none (L i (origin origins r)) (leads i (origin origins r))

    -- the rank of the dart at a link of the dart of rank r, or 0
    pub ranked : Links
    ranked i r = (led_found i r).0

    pub ranked_within : (i r : ℕ) → ranked i r ≤ length origins
    unfolding ranked
    ranked_within i r = (led_found i r).1

    pub ranked_is : (i r : ℕ) → origin origins (ranked i r) ≡ L i (origin origins r)
    unfolding ranked
    ranked_is i r = sym (led_found i r).2

    module _ (none : Has 0 → ⊥) where
      pub ranked_of : (i r s : ℕ) → s ≤ length origins → L i (origin origins r) ≡ origin origins s → ranked i r ≡ s
      ranked_of i r s within e = origin_one none (ranked i r) s (ranked_within i r) within (ranked_is i r ∙ e)

      pub ranked_free : (i r : ℕ) → L i (origin origins r) ≡ 0 → ranked i r ≡ 0
      ranked_free i r e = ranked_of i r 0 (omega arith) e

      pub ranked_dimension : (n : ℕ) → HasDimension n L → HasDimension n ranked
      ranked_dimension n high i r above = ranked_free i r (high i (origin origins r) above)

      pub ranked_past : ((i : ℕ) → L i 0 ≡ 0) → (i r : ℕ) → length origins < r → ranked i r ≡ 0
      ranked_past nil i r past = ranked_free i r (ap (L i) (origin_past origins r past) ∙ nil i)

      pub ranked_made : ((i : ℕ) → L i 0 ≡ 0) → IsMadeUpTo (length origins) ranked
      ranked_made nil i r linked = elim (cases_lt (length origins) r) [ inl past ↦ absurd (linked (ranked_past nil i r past)) | inr within ↦ within ]

      -- links that are told by ranks keep the laws of a map
      pub ranked_laws : (k : Kind) → Laws k L → Laws k ranked
      ranked_laws k w = record {
        nil = λ i. ranked_free i 0 (w.nil i);
        back = λ i r linked. ranked_of (inverse k i) (ranked i r) r (ranked_made w.nil i r linked)
            (ap (L (inverse k i)) (ranked_is i r) ∙ w.back i (origin origins r) (λ free. linked (ranked_free i r free)));
        apart = λ i r own dart same.
            let within : r ≤ length origins = subst (λ s. s ≤ length origins) same (ranked_within i r) in
            w.apart i (origin origins r) own (λ e. dart (origin_one none r 0 within (omega arith) e)) (sym (ranked_is i r) ∙ ap (origin origins) same);
        square = λ i j r far. origin_one none (ranked (inverse k i) (ranked j r)) (ranked (inverse k j) (ranked i r)) (ranked_within (inverse k i) (ranked j r)) (ranked_within (inverse k j) (ranked i r))
            (ranked_is (inverse k i) (ranked j r) ∙ (ap (L (inverse k i)) (ranked_is j r) ∙ (w.square i j (origin origins r) far
            ∙ (ap (L (inverse k j)) (sym (ranked_is i r)) ∙ sym (ranked_is (inverse k j) (ranked i r))))));
      }
