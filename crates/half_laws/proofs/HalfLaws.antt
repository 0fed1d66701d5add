-- The half keeps the laws: each of its links is two links of the map, and what the laws say of those is what they say of it.
use Rattle.std.proofs.Common.{ℕ, zero, suc, ◌≡◌, ◌≢◌, ◌+◌, ◌≤◌, inl, inr, refl, sym, ap, subst, ◌∙◌, List, length, Contains, arith}
use Rattle.map_defs.specs.Kind.{alpha, beta, inverse, place, IsDistant}
use Rattle.map_defs.specs.Links.{Links, LeadsToLive}
use Rattle.map_defs.specs.Laws.{Laws}
use Rattle.link_laws.proofs.Basics.{stable, distant_alpha}
use Rattle.half_defs.specs.Orientation.{Sign, IsPositive, IsOriented}
use Rattle.half_defs.specs.Halves.{AreOrigins, origin, IsHalf}
use Rattle.half_laws.proofs.HalfRanks.{within_or_above, IsRank, rank_or_not, rank_listed, rank_of, rank_none, rank_one}
use Rattle.half_laws.proofs.HalfSigns.{IsLiveOrNone, live_some, led_live, twice, led, positive_lives, flipped_twice}

-- the two links of the map that a link of the half runs along
abbrev pub half_link : Links → Links
half_link L zero d = L 0 (L 1 d)
half_link L (suc i) d = L (suc i) (L 0 d)

module _ (n : ℕ) (Live : ℕ → Type 0) (L : Links) (w : Laws alpha L) (to : LeadsToLive Live L) (signs : List Sign) (o : IsOriented n Live L signs) where
  back_twice : (i d : ℕ) → i ≤ n → IsLiveOrNone Live d → L i (L i d) ≡ d
  back_twice = twice n Live L w to signs o

  led_case : (i d : ℕ) → i ≤ n → IsLiveOrNone Live d → IsLiveOrNone Live (L i d)
  led_case = led n Live L w to signs o

  led_to : (i d : ℕ) → i ≤ n → Live d → Live (L i d)
  led_to = led_live n Live L w to signs o

  lives : (d : ℕ) → IsPositive signs d → Live d
  lives = positive_lives n Live L w to signs o

  -- links 0 and j change places, from 2 upwards
  pub square_zero : (j d : ℕ) → 2 ≤ j → L 0 (L j d) ≡ L j (L 0 d)
  square_zero j d l = w.square 0 j d (distant_alpha 0 j (inl (omega arith)))

  -- so the links 0 to the left and to the right of such a link cancel
  pub zero_around : (j d : ℕ) → 2 ≤ j → IsLiveOrNone Live d → L 0 (L j (L 0 d)) ≡ L j d
  zero_around j d l h = square_zero j (L 0 d) l ∙ ap (L j) (back_twice 0 d (omega arith) h)

  half_link_square : (i j d : ℕ) → place beta i + 2 ≤ j → j ≤ n → IsLiveOrNone Live d → half_link L (inverse beta i) (half_link L j d) ≡ half_link L j (half_link L i d)
  half_link_square i zero d far l h = absurd (omega arith)
  half_link_square zero (suc j) d far l h =
      let a : L 0 (L (suc j) (L 0 d)) ≡ L (suc j) d = zero_around (suc j) d (omega arith) h in
      let b : L 1 (L (suc j) d) ≡ L (suc j) (L 1 d) = w.square 1 (suc j) d (distant_alpha 1 (suc j) (inl far)) in
      let c : L 0 (L 0 (L 1 d)) ≡ L 1 d = back_twice 0 (L 1 d) (omega arith) (led_case 1 d (omega arith) h) in cc
  half_link_square (suc zero) (suc j) d far l h =
      let a : L 0 (L (suc j) (L 1 (L 0 d))) ≡ L (suc j) (L 0 (L 1 (L 0 d))) = square_zero (suc j) (L 1 (L 0 d)) (omega arith) in
      let b : L 1 (L (suc j) (L 0 d)) ≡ L (suc j) (L 1 (L 0 d)) = w.square 1 (suc j) (L 0 d) (distant_alpha 1 (suc j) (inl far)) in cc
  half_link_square (suc (suc i)) (suc j) d far l h =
      let a : L 0 (L (suc j) (L 0 d)) ≡ L (suc j) d = zero_around (suc j) d (omega arith) h in
      let b : L 0 (L (suc (suc i)) (L 0 d)) ≡ L (suc (suc i)) d = zero_around (suc (suc i)) d (omega arith) h in
      let c : L (suc (suc i)) (L (suc j) d) ≡ L (suc j) (L (suc (suc i)) d) = w.square (suc (suc i)) (suc j) d (distant_alpha (suc (suc i)) (suc j) (inl far)) in cc

  module _ (origins : List ℕ) (a : AreOrigins (IsPositive signs) origins) where
    pub origin_some : Contains origins 0 → ⊥
    origin_some h = live_some n Live L w to signs o 0 (lives 0 ((a.members 0).0 h)) refl

    pub origin_positive : (r : ℕ) → IsRank origins r → IsPositive signs (origin origins r)
    origin_positive r h = (a.members (origin origins r)).0 (rank_listed origins r h)

    pub origin_live : (r : ℕ) → IsRank origins r → Live (origin origins r)
    origin_live r h = lives (origin origins r) (origin_positive r h)

    pub origin_case : (r : ℕ) → IsLiveOrNone Live (origin origins r)
    origin_case r = elim (rank_or_not origins r) [ inl e ↦ inl e | inr h ↦ inr (origin_live r h) ]

    pub origin_one : (r s : ℕ) → r ≤ length origins → s ≤ length origins → origin origins r ≡ origin origins s → r ≡ s
    origin_one r s = rank_one origins a.ascending origin_some r s

    module _ (N : Links) (h : IsHalf n L origins N) where
      -- links 0 and 1 lead back and forth
      pub zero_back : (r : ℕ) → N 0 r ≢ 0 → N 1 (N 0 r) ≡ r
      zero_back r m = (h.turned.back (N 0 r) r m (λ e. m (ap (N 0) e ∙ h.turned.nothing))).1 refl

      one_back : (r : ℕ) → N 1 r ≢ 0 → r ≢ 0 → N 0 (N 1 r) ≡ r
      one_back r m k = (h.turned.back r (N 1 r) k m).0 refl

      zero_none : (r : ℕ) → origin origins r ≡ 0 → N 0 r ≡ 0
      zero_none r e = stable (N 0 r) 0 (λ m.
          let b : N 1 (N 0 r) ≡ r = zero_back r m in
          let c : N 1 (N 0 r) ≤ length origins = h.within 1 (N 0 r) in
          let z : r ≡ 0 = rank_none origins a.ascending origin_some r (subst (λ s. s ≤ length origins) b c) e in
          m (ap (N 0) z ∙ h.turned.nothing))

      -- the links of the half, link 0 among them, run along two links of the map
      zero_along : (r : ℕ) → 1 ≤ n → IsRank origins r → origin origins (N 0 r) ≡ L 0 (L 1 (origin origins r))
      zero_along r l k = ap (origin origins) leads ∙ q.2
        where
          q : (s : ℕ) × IsRank origins s × (origin origins s ≡ L 0 (L 1 (origin origins r)))
          q = rank_of origins (L 0 (L 1 (origin origins r))) ((a.members (L 0 (L 1 (origin origins r)))).1 (flipped_twice n Live L w to signs o 1 0 (origin origins r) l (omega arith) (origin_positive r k)))

          some : q.0 ≢ 0
          some e = let g = q.1.0 in omega arith

          meets : N 1 q.0 ≡ r
          meets = origin_one (N 1 q.0) r (h.within 1 q.0) k.1
              (let x : origin origins (N 1 q.0) ≡ L 1 (L 0 (origin origins q.0)) = h.along 1 q.0 (omega arith) l in
              let y : L 0 (L 0 (L 1 (origin origins r))) ≡ L 1 (origin origins r) = back_twice 0 (L 1 (origin origins r)) (omega arith) (inr (led_to 1 (origin origins r) l (origin_live r k))) in
              let z : L 1 (L 1 (origin origins r)) ≡ origin origins r = back_twice 1 (origin origins r) l (inr (origin_live r k)) in
              let e : origin origins q.0 ≡ L 0 (L 1 (origin origins r)) = q.2 in cc)

          leads : N 0 r ≡ q.0
          leads = (h.turned.back q.0 r some (λ e. let g = k.0 in omega arith)).0 meets

      pub half_along : (i r : ℕ) → 1 ≤ n → i ≤ n → origin origins (N i r) ≡ half_link L i (origin origins r)
      half_along (suc i) r one l = h.along (suc i) r (omega arith) l
      half_along zero r one l = elim (rank_or_not origins r) [
        | inl e ↦ let x : N 0 r ≡ 0 = zero_none r e in
            let y : origin origins 0 ≡ 0 = refl in
            let u : L 1 0 ≡ 0 = w.nil 1 in
            let v : L 0 0 ≡ 0 = w.nil 0 in cc
        | inr k ↦ zero_along r one k
      ]

      pub half_nil : (i : ℕ) → N i 0 ≡ 0
      half_nil zero = h.turned.nothing
      half_nil (suc i) = elim (within_or_above n (suc i)) [
        | inl l ↦ rank_none origins a.ascending origin_some (N (suc i) 0) (h.within (suc i) 0)
            (h.along (suc i) 0 (omega arith) l ∙ (ap (L (suc i)) (w.nil 0) ∙ w.nil (suc i)))
        | inr l ↦ h.above (suc i) 0 l
      ]

      -- a linked dart of the half has a rank, and the link is one of its map's
      pub linked_within : (i r : ℕ) → N i r ≢ 0 → i ≤ n
      linked_within i r m = elim (within_or_above n i) [ inl l ↦ l | inr l ↦ absurd (m (h.above i r l)) ]

      linked_rank : (i r : ℕ) → 1 ≤ i → N i r ≢ 0 → IsRank origins r
      linked_rank i r one m = elim (rank_or_not origins r) [
        | inl e ↦ absurd (m (rank_none origins a.ascending origin_some (N i r) (h.within i r)
            (h.along i r one (linked_within i r m) ∙ (ap (λ d. L i (L 0 d)) e ∙ (ap (L i) (w.nil 0) ∙ w.nil i)))))
        | inr k ↦ k
      ]

      -- a link from 2 upwards leads back, and joins no dart to itself, since link 0 would lead along it
      high_back : (j r : ℕ) → 2 ≤ j → N j r ≢ 0 → N j (N j r) ≡ r
      high_back j r two m =
          let l : j ≤ n = linked_within j r m in
          let x : origin origins (N j r) ≡ L j (L 0 (origin origins r)) = h.along j r (omega arith) l in
          let y : origin origins (N j (N j r)) ≡ L j (L 0 (origin origins (N j r))) = h.along j (N j r) (omega arith) l in
          let z : L 0 (L j (L 0 (origin origins r))) ≡ L j (origin origins r) = zero_around j (origin origins r) two (origin_case r) in
          let t : L j (L j (origin origins r)) ≡ origin origins r = back_twice j (origin origins r) l (origin_case r) in
          origin_one (N j (N j r)) r (h.within j (N j r)) (linked_rank j r (omega arith) m).1 cc

      high_apart : (j r : ℕ) → 2 ≤ j → r ≢ 0 → N j r ≢ r
      high_apart j r two m e =
          let linked : N j r ≢ 0 = λ z. m (sym e ∙ z) in
          let l : j ≤ n = linked_within j r linked in
          let x : origin origins (N j r) ≡ L j (L 0 (origin origins r)) = h.along j r (omega arith) l in
          let t : L j (L j (L 0 (origin origins r))) ≡ L 0 (origin origins r) = back_twice j (L 0 (origin origins r)) l (led_case 0 (origin origins r) (omega arith) (origin_case r)) in
          o.unfolded (origin origins r) j (origin_live r (linked_rank j r (omega arith) linked), two, l, cc)

      half_back : (i r : ℕ) → N i r ≢ 0 → N (inverse beta i) (N i r) ≡ r
      half_back zero r m = zero_back r m
      half_back (suc zero) r m = one_back r m (λ e. let g = (linked_rank 1 r (omega arith) m).0 in omega arith)
      half_back (suc (suc i)) r m = high_back (suc (suc i)) r (omega arith) m

      half_apart : (i r : ℕ) → inverse beta i ≡ i → r ≢ 0 → N i r ≢ r
      half_apart zero r own m e = omega arith
      half_apart (suc zero) r own m e = omega arith
      half_apart (suc (suc i)) r own m e = high_apart (suc (suc i)) r (omega arith) m e

      square_up : (i j r : ℕ) → place beta i + 2 ≤ j → N (inverse beta i) (N j r) ≡ N j (N i r)
      square_up i j r far = elim (within_or_above n j) [
        | inr l ↦ let x : N j r ≡ 0 = h.above j r l in
            let y : N (inverse beta i) 0 ≡ 0 = half_nil (inverse beta i) in
            let z : N j (N i r) ≡ 0 = h.above j (N i r) l in cc
        | inl l ↦ let x : origin origins (N j r) ≡ half_link L j (origin origins r) = half_along j r (omega arith) l in
            let y : origin origins (N (inverse beta i) (N j r)) ≡ half_link L (inverse beta i) (origin origins (N j r)) = half_along (inverse beta i) (N j r) (omega arith) (inverse_low i far l) in
            let z : origin origins (N i r) ≡ half_link L i (origin origins r) = half_along i r (omega arith) (place_low i far l) in
            let t : origin origins (N j (N i r)) ≡ half_link L j (origin origins (N i r)) = half_along j (N i r) (omega arith) l in
            let s : half_link L (inverse beta i) (half_link L j (origin origins r)) ≡ half_link L j (half_link L i (origin origins r)) = half_link_square i j (origin origins r) far l (origin_case r) in
            origin_one (N (inverse beta i) (N j r)) (N j (N i r)) (h.within (inverse beta i) (N j r)) (h.within j (N i r)) (y ∙ (ap (half_link L (inverse beta i)) x ∙ (s ∙ (ap (half_link L j) (sym z) ∙ sym t))))
      ]
        where
          place_low : (i : ℕ) → place beta i + 2 ≤ j → j ≤ n → i ≤ n
          place_low zero f l = omega arith
          place_low (suc i) f l = omega arith

          inverse_low : (i : ℕ) → place beta i + 2 ≤ j → j ≤ n → inverse beta i ≤ n
          inverse_low zero f l = omega arith
          inverse_low (suc zero) f l = omega arith
          inverse_low (suc (suc i)) f l = omega arith

      half_square : (i j r : ℕ) → IsDistant beta i j → N (inverse beta i) (N j r) ≡ N (inverse beta j) (N i r)
      unfolding IsDistant
      half_square i j r (inl p) = above j p
        where
          above : (j : ℕ) → place beta i + 2 ≤ place beta j → N (inverse beta i) (N j r) ≡ N (inverse beta j) (N i r)
          above zero f = absurd (one_place i f)
            where
              one_place : (i : ℕ) → place beta i + 2 ≤ 1 → ⊥
              one_place i f = omega arith
          above (suc zero) f = absurd (omega arith)
          above (suc (suc j)) f = square_up i (suc (suc j)) r f
      half_square i j r (inr p) = above i p
        where
          above : (i : ℕ) → place beta j + 2 ≤ place beta i → N (inverse beta i) (N j r) ≡ N (inverse beta j) (N i r)
          above zero f = absurd (omega arith)
          above (suc zero) f = absurd (omega arith)
          above (suc (suc i)) f = sym (square_up j (suc (suc i)) r f)

      pub half_lawful : Laws beta N
      half_lawful = record { nil = half_nil; back = half_back; apart = half_apart; square = half_square }
