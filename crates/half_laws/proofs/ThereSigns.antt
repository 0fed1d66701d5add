-- A generalized map has signs or a fault: its darts are finite, so each question has an answer.
use Rattle.std.proofs.Common.{ℕ, suc, ◌≡◌, ◌≢◌, ◌+◌, ◌≤◌, ◌%◌, ◌⊎◌, ◌↔◌, List, length, Contains, Bool, true, false, not, refl, sym, ap, ◌∙◌, subst, inl, inr, arith}
use Rattle.std.specs.List.Sorted.{IsStrictlyIncreasing}
use Rattle.map_defs.specs.Kind.{alpha}
use Rattle.map_defs.specs.Links.{Links, HasDimension, LeadsToLive}
use Rattle.map_defs.specs.Laws.{Laws}
use Rattle.map_defs.specs.Cells.{here, IsLinked, InComponent, NamesComponent}
use Rattle.half_defs.specs.Orientation.{HasBoundary, IsFolded, IsFirstFold, IsOddWalk, IsFirstOddWalk, Sign, darts_of, AreSigns, OrientFault, Boundary, Folded, Odd, HasFault, IsOriented}
use Rattle.half_defs.specs.Halves.{AreOrigins}
use Rattle.link_laws.proofs.Basics.{same_or_not}
use Rattle.link_laws.proofs.Orbits.{orbit_trans}
use Rattle.value_laws.proofs.Rising.{find_least}
use Rattle.half_laws.proofs.DoubleSigns.{signs_of, signs_darts, sign_is}
use Rattle.half_laws.proofs.ThereLists.{told_test, has_test, out_test, origins_there}
use Rattle.half_laws.proofs.ThereWalks.{Walks, stays, walk_link, walk_on, walk_back, walk_component, component_walk, component_live, odd_walk, walk_odd}
use Rattle.half_laws.proofs.ThereSearch.{le_or_not, both_or_not, first_at}
use Rattle.half_laws.proofs.ThereShort.{joined_or_not}

even_or_odd_count : (k : ℕ) → (k % 2 ≡ 0) ⊎ (k % 2 ≡ 1)
even_or_odd_count k = elim (same_or_not (k % 2) 0) [ inl even ↦ inl even | inr odd ↦ inr (omega (arith, odd)) ]

odd_next : (k : ℕ) → k % 2 ≡ 1 → (k + 1) % 2 ≡ 0
odd_next k odd = omega (arith, odd)

odd_round : (a b : ℕ) → a % 2 ≡ 0 → b % 2 ≡ 0 → (a + 1 + b) % 2 ≡ 1
odd_round a b even_a even_b = omega (arith, even_a, even_b)

module _ (n : ℕ) (Live : ℕ → Type 0) (L : Links) (w : Laws alpha L) (leads : LeadsToLive Live L) (high : HasDimension n L) (none : Live 0 → ⊥) where
  some : (d : ℕ) → Live d → d ≢ 0
  some d live e = none (subst Live e live)

  -- the least dart of two walks that meet is one
  one_least : (a k b l x : ℕ) → x ≢ 0 → NamesComponent L a → NamesComponent L b → Live a → Live b → Walks n L a k x → Walks n L b l x → a ≡ b
  one_least a k b l x dart least_a least_b live_a live_b p q =
      let there : a ≤ b = least_a b (walk_component n L w a (k + l) b (some b live_b) (walk_on n L a k x l b p (walk_back n L w b l x dart q))) in
      let back : b ≤ a = least_b a (walk_component n L w b (l + k) a (some a live_a) (walk_on n L b l x k a q (walk_back n L w a k x dart p))) in
      omega arith

  -- a walk with an even number of links leads to the dart from the least one of its component
  record IsEven (d : ℕ) : Type 0 where
    pub live : Live d
    pub least : ℕ
    pub names : NamesComponent L least
    pub there : Live least
    pub count : ℕ
    pub walk : Walks n L least count d
    pub even : count % 2 ≡ 0

  module _ (bound : ℕ) (low : (d : ℕ) → Live d → d ≤ bound) (told : (d : ℕ) → Live d ⊎ (Live d → ⊥)) where
    joined : (parity x d : ℕ) → Live x → ((count : ℕ) × (count % 2 ≡ parity) × Walks n L x count d) ⊎ (((count : ℕ) × (count % 2 ≡ parity) × Walks n L x count d) → ⊥)
    joined parity x d live = joined_or_not n L Live leads bound low parity x d (low x live)

    -- it is told of two darts whether they lie in one component
    together : (d x : ℕ) → Live d → (Live x × InComponent L d x) ⊎ ((Live x × InComponent L d x) → ⊥)
    together d x live = elim (told x) [
      | inr dead ↦ inr (λ h. dead h.0)
      | inl live_x ↦ elim (joined 0 d x live) [
        | inl walk ↦ inl (live_x, walk_component n L w d walk.0 x (some x live_x) walk.2)
        | inr no_even ↦ elim (joined 1 d x live) [
          | inl walk ↦ inl (live_x, walk_component n L w d walk.0 x (some x live_x) walk.2)
          | inr no_odd ↦ inr (λ h. let walk = component_walk n L high d x h.1 in
              elim (even_or_odd_count walk.0) [ inl even ↦ no_even (walk.0, even, walk.1) | inr odd ↦ no_odd (walk.0, odd, walk.1) ])
        ]
      ]
    ]

    -- the least dart of a component
    named : (d : ℕ) → Live d → (e : ℕ) × Live e × InComponent L d e × NamesComponent L e
    named d live = elim (find_least (λ x. Live x × InComponent L d x) (λ x. together d x live) (suc d)) [
      | inl found ↦ (
        found.0,
        found.1.0,
        found.1.1,
        λ y h.
            found.2 y (component_live n L Live leads found.0 y found.1.0 h, orbit_trans (IsLinked L) d found.0 y found.1.1 h),
      )
      | inr out ↦ absurd (out d (omega arith) (live, here))
    ]

    even_or_not : (d : ℕ) → IsEven d ⊎ (IsEven d → ⊥)
    even_or_not d = elim (told d) [ inr dead ↦ inr (λ p. dead p.live) | inl live ↦ by live (named d live) ]
      where
        by : Live d → (e : ℕ) × Live e × InComponent L d e × NamesComponent L e → IsEven d ⊎ (IsEven d → ⊥)
        by live (e, live_e, there, names) = elim (joined 0 e d live_e) [
          | inl (count, even, walk) ↦ inl (record { live = live; least = e; names = names; there = live_e; count = count; walk = walk; even = even })
          | inr out ↦ inr (λ p. let to = component_walk n L high d e there in
              let same : p.least ≡ e = one_least p.least p.count e to.0 d (some d live) p.names names p.there live_e p.walk (walk_back n L w d to.0 e (some e live_e) to.1) in
              out (p.count, p.even, subst (λ z. Walks n L z p.count d) same p.walk))
        ]

    module _ (no_odd : (e : ℕ) (links : List ℕ) → Live e → IsOddWalk n L e links → ⊥) where
      -- even walks do not lead to both ends of a link
      both : (i s t : ℕ) → i ≤ n → L i s ≡ t → IsEven s → IsEven t → ⊥
      both i s t within led p q =
          let on : Walks n L p.least (p.count + 1) t = walk_on n L p.least p.count s 1 t p.walk (subst (λ z. Walks n L s 1 z) led (walk_link n L i s within)) in
          let same : p.least ≡ q.least = one_least p.least (p.count + 1) q.least q.count t (some t q.live) p.names q.names p.there q.there on q.walk in
          let back : Walks n L t q.count p.least = walk_back n L w p.least q.count t (some t q.live) (subst (λ z. Walks n L z q.count t) (sym same) q.walk) in
          let round : Walks n L p.least (p.count + 1 + q.count) p.least = walk_on n L p.least (p.count + 1) t q.count p.least on back in
          let odd = odd_walk n L p.least (p.count + 1 + q.count) round (odd_round p.count q.count p.even q.even) in
          no_odd p.least odd.0 p.there odd.1

      -- and they lead to one of the two
      neither : (i s t : ℕ) → i ≤ n → L i s ≡ t → Live s → Live t → (IsEven s → ⊥) → (IsEven t → ⊥) → ⊥
      neither i s t within led live_s live_t p q = by (named s live_s)
        where
          by : (e : ℕ) × Live e × InComponent L s e × NamesComponent L e → ⊥
          by (e, live, there, names) =
              let to = component_walk n L high s e there in
              let back : Walks n L e to.0 s = walk_back n L w s to.0 e (some e live) to.1 in
              let on : Walks n L e (to.0 + 1) t = walk_on n L e to.0 s 1 t back (subst (λ z. Walks n L s 1 z) led (walk_link n L i s within)) in
              elim (even_or_odd_count to.0) [
                | inl even ↦ p (record { live = live_s; least = e; names = names; there = live; count = to.0; walk = back; even = even })
                | inr odd ↦ q (record { live = live_t; least = e; names = names; there = live; count = to.0 + 1; walk = on; even = odd_next to.0 odd })
              ]

      darts : (origins : List ℕ) × AreOrigins Live origins
      darts = origins_there Live told bound none low

      positive : ℕ → Bool
      positive = told_test IsEven even_or_not

      signs : List Sign
      signs = signs_of positive darts.0

      same_darts : darts_of signs ≡ darts.0
      unfolding signs
      same_darts = signs_darts positive darts.0

      sign_live : (s : Sign) → Contains signs s → Live s.dart × (s.positive ≡ positive s.dart)
      unfolding signs
      sign_live s h = let is = sign_is positive darts.0 s h in ((darts.1.members s.dart).0 is.0, is.1)

      is_positive : (d : ℕ) → IsEven d → positive d ≡ true
      unfolding positive
      is_positive d p = has_test IsEven even_or_not d p

      is_negative : (d : ℕ) → (IsEven d → ⊥) → positive d ≡ false
      unfolding positive
      is_negative d p = out_test IsEven even_or_not d p

      flips : (s t : Sign) (i : ℕ) → Contains signs s → Contains signs t → i ≤ n → L i s.dart ≡ t.dart → t.positive ≡ not s.positive
      flips s t i hs ht within led = by (even_or_not s.dart) (even_or_not t.dart)
        where
          told_s : Live s.dart × (s.positive ≡ positive s.dart)
          told_s = sign_live s hs

          told_t : Live t.dart × (t.positive ≡ positive t.dart)
          told_t = sign_live t ht

          by : IsEven s.dart ⊎ (IsEven s.dart → ⊥) → IsEven t.dart ⊎ (IsEven t.dart → ⊥) → t.positive ≡ not s.positive
          by (inl p) (inl q) = absurd (both i s.dart t.dart within led p q)
          by (inl p) (inr q) = told_t.1 ∙ (is_negative t.dart q ∙ ap not (sym (told_s.1 ∙ is_positive s.dart p)))
          by (inr p) (inl q) = told_t.1 ∙ (is_positive t.dart q ∙ ap not (sym (told_s.1 ∙ is_negative s.dart p)))
          by (inr p) (inr q) = absurd (neither i s.dart t.dart within led told_s.0 told_t.0 p q)

      least : (s : Sign) → Contains signs s → NamesComponent L s.dart → s.positive ≡ true
      least s h names =
          let is = sign_live s h in
          is.1 ∙ is_positive s.dart (record { live = is.0; least = s.dart; names = names; there = is.0; count = 0; walk = stays n L s.dart; even = refl })

      signs_there : (signs : List Sign) × AreSigns n Live L signs
      signs_there = (
        signs,
        record {
          ascending = subst (λ (ds : List ℕ). IsStrictlyIncreasing ds) (sym same_darts) darts.1.ascending;
          members = λ d. subst (λ (ds : List ℕ). Contains ds d ↔ Live d) (sym same_darts) (darts.1.members d);
          flips = flips;
          least = least;
        },
      )

    -- the three faults, each or none
    abbrev OpenAt : ℕ → ℕ → Type 0
    OpenAt d i = Live d × ((i ≤ n) × (L i d ≡ 0))

    open_told : (d i : ℕ) → OpenAt d i ⊎ (OpenAt d i → ⊥)
    open_told d i = both_or_not (told d) (both_or_not (le_or_not i n) (same_or_not (L i d) 0))

    boundary_or_not : HasBoundary n Live L ⊎ (HasBoundary n Live L → ⊥)
    boundary_or_not = elim (first_at OpenAt open_told bound n (λ d i h. (low d h.0, h.1.0))) [
      | inl found ↦ inl (found.0, found.1, found.2.0, found.2.1.0, found.2.1.1)
      | inr out ↦ inr (λ h. out h.0 h.1 (h.2, (h.3, h.4)))
    ]

    folded_told : (d i : ℕ) → IsFolded n Live L d i ⊎ (IsFolded n Live L d i → ⊥)
    folded_told d i = elim (both_or_not (both_or_not (told d) (le_or_not 2 i)) (both_or_not (le_or_not i n) (same_or_not (L i d) (L 0 d)))) [
      | inl h ↦ inl (h.0.0, h.0.1, h.1.0, h.1.1)
      | inr out ↦ inr (λ h. out ((h.0, h.1), (h.2, h.3)))
    ]

    fold_or_not : ((d : ℕ) × (i : ℕ) × IsFirstFold n Live L d i) ⊎ ((d i : ℕ) → IsFolded n Live L d i → ⊥)
    fold_or_not = elim (first_at (IsFolded n Live L) folded_told bound n (λ d i h. (low d h.0, h.2))) [
      | inl found ↦ inl (found.0, found.1, record { folded = found.2; least = found.3 })
      | inr out ↦ inr out
    ]

    odd_at : (d : ℕ) → (Live d × ((links : List ℕ) × IsOddWalk n L d links)) ⊎ ((Live d × ((links : List ℕ) × IsOddWalk n L d links)) → ⊥)
    odd_at d = elim (told d) [
      | inr dead ↦ inr (λ h. dead h.0)
      | inl live ↦ elim (joined 1 d d live) [
        | inl walk ↦ inl (live, odd_walk n L d walk.0 walk.2 walk.1)
        | inr out ↦ inr (λ h. out (length h.1.0, h.1.1.odd, walk_odd n L d h.1.0 h.1.1))
      ]
    ]

    odd_or_not : ((d : ℕ) × (links : List ℕ) × IsFirstOddWalk n Live L d links) ⊎ ((d : ℕ) (links : List ℕ) → Live d → IsOddWalk n L d links → ⊥)
    odd_or_not = elim (find_least (λ d. Live d × ((links : List ℕ) × IsOddWalk n L d links)) odd_at (suc bound)) [
      | inl found ↦ inl (
        found.0,
        found.1.1.0,
        record { live = found.1.0; walk = found.1.1.1; least = λ e others live walk. found.2 e (live, (others, walk)) },
      )
      | inr out ↦ inr (λ d links live walk. out d (let l = low d live in omega arith) (live, (links, walk)))
    ]

    pub signs_or_fault : ((signs : List Sign) × IsOriented n Live L signs) ⊎ ((fault : OrientFault) × HasFault n Live L fault)
    signs_or_fault = by boundary_or_not fold_or_not odd_or_not
      where
        by : HasBoundary n Live L ⊎ (HasBoundary n Live L → ⊥) → ((d : ℕ) × (i : ℕ) × IsFirstFold n Live L d i) ⊎ ((d i : ℕ) → IsFolded n Live L d i → ⊥)
            → ((d : ℕ) × (links : List ℕ) × IsFirstOddWalk n Live L d links) ⊎ ((d : ℕ) (links : List ℕ) → Live d → IsOddWalk n L d links → ⊥)
            → ((signs : List Sign) × IsOriented n Live L signs) ⊎ ((fault : OrientFault) × HasFault n Live L fault)
        by (inl boundary) f o = inr (Boundary, boundary)
        by (inr closed) (inl fold) o = inr (Folded fold.0 fold.1, (closed, fold.2))
        by (inr closed) (inr unfolded) (inl odd) = inr (Odd odd.0 odd.1, (closed, unfolded, odd.2))
        by (inr closed) (inr unfolded) (inr no_odd) = let found = signs_there no_odd in inl (found.0, record { closed = closed; unfolded = unfolded; signed = found.1 })
