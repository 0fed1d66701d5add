-- Short walks: a walk that comes to a dart twice can be cut, so it is told of two darts whether a walk joins them.
use Rattle.std.proofs.Common.{ℕ, zero, suc, ◌≡◌, ◌≢◌, ◌+◌, ◌*◌, ◌-◌, ◌<◌, ◌≤◌, ◌%◌, ◌⊎◌, List, [], ◌∷◌, ◌++◌, length, take, drop, take-append-drop, length-append, length-drop, length-take-le, refl, sym, ap, ◌∙◌, subst, inl, inr, arith}
use Rattle.std.specs.Prelude.{All}
use Rattle.std.proofs.lemmas.Bool.{cases_lt}
use Rattle.std.proofs.lemmas.List.Elements.{All-head, All-tail, All-append, All-take, All-drop}
use Rattle.map_defs.specs.Links.{Links, LeadsToLive}
use Rattle.half_defs.specs.Orientation.{walked}
use Rattle.link_laws.proofs.Basics.{same_or_not}
use Rattle.link_laws.proofs.Pigeonhole.{pigeonhole}
use Rattle.value_laws.proofs.Rising.{find_least}
use Rattle.half_laws.proofs.ThereSearch.{le_or_not, both_or_not}
use Rattle.half_laws.proofs.ThereWalks.{Walks, stays, walk_link, walk_on, walked_on}

module _ (n : ℕ) (L : Links) where
  -- walks of a given number of links
  none_counted : (x d : ℕ) → x ≢ d → Walks n L x 0 d → ⊥
  none_counted x d apart walk = go walk.links walk.ends walk.counted
    where
      go : (links : List ℕ) → walked L x links ≡ d → length links ≡ 0 → ⊥
      go [] ends counted = apart ends
      go (i ∷ links) ends counted = omega arith

  first_link : (x count d : ℕ) → Walks n L x (suc count) d → (i : ℕ) × (i ≤ n) × Walks n L (L i x) count d
  first_link x count d walk = go walk.links walk.within walk.ends walk.counted
    where
      go : (links : List ℕ) → All (λ i. i ≤ n) links → walked L x links ≡ d → length links ≡ suc count → (i : ℕ) × (i ≤ n) × Walks n L (L i x) count d
      go [] within ends counted = absurd (omega arith)
      go (i ∷ links) within ends counted =
          (i, All-head (λ j. j ≤ n) i links within, record { links = links; within = All-tail (λ j. j ≤ n) i links within; ends = ends; counted = omega arith })

  counted_or_not : (count x d : ℕ) → Walks n L x count d ⊎ (Walks n L x count d → ⊥)
  counted_or_not zero x d = elim (same_or_not x d) [
    | inl same ↦ inl (subst (λ y. Walks n L x 0 y) same (stays n L x))
    | inr apart ↦ inr (none_counted x d apart)
  ]
  counted_or_not (suc count) x d = elim (find_least (λ i. (i ≤ n) × Walks n L (L i x) count d) (λ i. both_or_not (le_or_not i n) (counted_or_not count (L i x) d)) (suc n)) [
    | inl found ↦
        let whole : Walks n L x (1 + count) d = walk_on n L x 1 (L found.0 x) count d (walk_link n L found.0 x found.1.0) found.1.1 in
        inl (subst (λ k. Walks n L x k d) (let e : 1 + count ≡ suc count = omega arith in e) whole)
    | inr out ↦ inr (λ walk. let first = first_link x count d walk in out first.0 (let l = first.1 in omega arith) (first.1, first.2))
  ]

  module _ (Live : ℕ → Type 0) (leads : LeadsToLive Live L) (bound : ℕ) (low : (d : ℕ) → Live d → d ≤ bound) where
    -- the dart after so many links of a walk
    at : (x : ℕ) (links : List ℕ) → ℕ → ℕ
    at x links k = walked L x (take k links)

    at_rest : (x : ℕ) (links : List ℕ) (k : ℕ) → walked L (at x links k) (drop k links) ≡ walked L x links
    unfolding at
    at_rest x links k = sym (walked_on L x (take k links) (drop k links)) ∙ ap (walked L x) (take-append-drop k links)

    walked_low : (x : ℕ) → x ≤ bound → (links : List ℕ) → walked L x links ≤ bound
    walked_low x within [] = within
    walked_low x within (i ∷ links) = walked_low (L i x) (elim (same_or_not (L i x) 0) [ inl free ↦ omega arith | inr linked ↦ low (L i x) (leads i x linked) ]) links

    -- where the walk comes to the same dart after as many links, by twos, those between are left out
    cut : (x d : ℕ) (links : List ℕ) (p q : ℕ) → All (λ i. i ≤ n) links → walked L x links ≡ d → p < q → q ≤ length links → at x links p ≡ at x links q → p % 2 ≡ q % 2
        → (short : ℕ) × (short < length links) × (short % 2 ≡ length links % 2) × Walks n L x short d
    unfolding at
    cut x d links p q within ends less up same parity =
        let front : length (take p links) ≡ p = length-take-le p links (omega arith) in
        let rest : length (drop q links) ≡ length links - q = length-drop q links in (
          p + (length links - q),
          omega arith,
          omega (arith, parity),
          record {
            links = take p links ++ drop q links;
            within = All-append (λ i. i ≤ n) (take p links) (drop q links) (All-take (λ i. i ≤ n) p links within) (All-drop (λ i. i ≤ n) q links within);
            ends = walked_on L x (take p links) (drop q links) ∙ (ap (λ y. walked L y (drop q links)) same ∙ (at_rest x links q ∙ ends));
            counted = (let l = length-append (take p links) (drop q links) in omega (arith, l, front, rest));
          },
        )

    -- a dart and the parity of a number of links, as one number
    place : ℕ → ℕ → ℕ
    place d k = 2 * d + k % 2

    place_one : (d e k l : ℕ) → place d k ≡ place e l → (d ≡ e) × (k % 2 ≡ l % 2)
    unfolding place
    place_one d e k l same = (omega (arith, same), omega (arith, same))

    shorter : (x d : ℕ) → x ≤ bound → (count : ℕ) → 2 * bound + 2 ≤ count → Walks n L x count d → (short : ℕ) × (short < count) × (short % 2 ≡ count % 2) × Walks n L x short d
    unfolding at place
    shorter x d within count long walk =
        let twice = pigeonhole (2 * bound + 2) (λ k. place (at x walk.links k) k) (λ k l. let h = walked_low x within (take k walk.links) in omega (arith, h)) in
        twice_at twice.0 twice.1 twice.2 twice.3 twice.4
      where
        as_counted : (short m : ℕ) → m ≡ count → (short < m) × (short % 2 ≡ m % 2) × Walks n L x short d → (s : ℕ) × (s < count) × (s % 2 ≡ count % 2) × Walks n L x s d
        as_counted short m e (less, parity, told) = (short, omega arith, omega (arith, parity, e), told)

        twice_at : (p q : ℕ) → p < q → q ≤ 2 * bound + 2 → place (at x walk.links p) p ≡ place (at x walk.links q) q → (short : ℕ) × (short < count) × (short % 2 ≡ count % 2) × Walks n L x short d
        twice_at p q less up e =
            let counted = walk.counted in
            let same = place_one (at x walk.links p) (at x walk.links q) p q e in
            let short = cut x d walk.links p q walk.within walk.ends less (omega (arith, counted)) same.0 same.1 in
            as_counted short.0 (length walk.links) counted (short.1, short.2, short.3)

    short_from : (fuel x d : ℕ) → x ≤ bound → (count : ℕ) → count < fuel → Walks n L x count d → (short : ℕ) × (short < 2 * bound + 2) × (short % 2 ≡ count % 2) × Walks n L x short d
    short_from zero x d within count l walk = absurd (omega arith)
    short_from (suc fuel) x d within count l walk = elim (cases_lt count (2 * bound + 2)) [
      | inl few ↦ (count, few, refl, walk)
      | inr many ↦
          let next = shorter x d within count many walk in
          let short = short_from fuel x d within next.0 (let less = next.1 in omega arith) next.3 in
          (short.0, short.1, short.2 ∙ next.2, short.3)
    ]

    -- it is told whether a walk of a parity joins two darts
    pub joined_or_not : (parity x d : ℕ) → x ≤ bound → ((count : ℕ) × (count % 2 ≡ parity) × Walks n L x count d) ⊎ (((count : ℕ) × (count % 2 ≡ parity) × Walks n L x count d) → ⊥)
    joined_or_not parity x d within = elim (find_least (λ count. (count % 2 ≡ parity) × Walks n L x count d) (λ count. both_or_not (same_or_not (count % 2) parity) (counted_or_not count x d)) (2 * bound + 2)) [
      | inl found ↦ inl (found.0, found.1.0, found.1.1)
      | inr out ↦ inr (λ walk.
          let short = short_from (suc walk.0) x d within walk.0 (omega arith) walk.2 in
          out short.0 short.1 (short.2 ∙ walk.1, short.3))
    ]
