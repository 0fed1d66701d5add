-- Link 1 of a combinatorial map is one-to-one where the map is closed at a link from 2 upwards.
use Rattle.std.proofs.Common.{ℕ, ◌≡◌, ◌≢◌, ◌≤◌, refl, sym, ap, subst, inr, ◌∙◌, arith, List}
use Rattle.map_defs.specs.Kind.{beta}
use Rattle.map_defs.specs.Links.{Links, IsMadeUpTo, LeadsToLive}
use Rattle.map_defs.specs.Laws.{Laws}
use Rattle.map_defs.specs.Births.{IsFresh, IsNumbered, IsCounted}
use Rattle.map_defs.specs.Closing.{IsOpen, IsAround}
use Rattle.link_laws.proofs.Basics.{inverse_own, distant_zero, distant_one, IsDistant-turned}
use Rattle.link_laws.proofs.LawFacts.{link_one}
use Rattle.link_laws.proofs.Walking.{walk_one}
use Rattle.insert_laws.proofs.Fresh.{fresh_link}
use Rattle.insert_laws.proofs.Around.{around_some}
use Rattle.insert_laws.proofs.Closed.{ClosingPair, ends_open, open_carried, pair_turned}
use Rattle.insert_laws.proofs.ClosedFree.{live_dart, live_bound, open_fresh}
use Rattle.insert_laws.proofs.OneToOne.{pieces_one}

module _ (L : Links) (w : Laws beta L) (Live : ℕ → Type 0) (live : LeadsToLive Live L) (made : ℕ) (counted : IsCounted made Live) where
  dart : (x : ℕ) → Live x → x ≢ 0
  dart = live_dart made Live counted

  bound : IsMadeUpTo made L
  bound = live_bound beta L w Live live made counted

  -- at link 2 the new dart of x leads to that of y, the next around the boundary
  module _ (keys : List ℕ) (star : ℕ → ℕ) (numbers : IsNumbered (IsOpen Live 2 L) keys made star) (f : ℕ → ℕ)
      (around : (x y : ℕ) → IsOpen Live 2 L x → IsAround beta 2 1 L x y → f (star x) ≡ star y)
      (kept : (x : ℕ) → ((y : ℕ) → IsOpen Live 2 L y → x ≢ star y) → f x ≡ L 1 x) where
    Piece : ℕ → ℕ → Type 0
    Piece x z = (u : ℕ) × (v : ℕ) × ClosingPair beta 2 Live L u v 1 × (x ≡ star u) × (z ≡ star v)

    fresh : IsFresh L (IsOpen Live 2 L) star
    fresh = open_fresh beta L w Live live made counted 2 keys star numbers

    around_told : (x z : ℕ) → Piece x z → f x ≡ z
    unfolding Piece
    around_told x z (u, v, p, e, q) = ap f e ∙ (around u v p.open_dart p.walk ∙ sym q)

    ends_dart : (z v : ℕ) → z ≢ 0 → z ≡ star v → v ≢ 0
    ends_dart z v n q o = n (q ∙ (ap star o ∙ fresh.nothing))

    around_one : (x y z : ℕ) → z ≢ 0 → Piece x z → Piece y z → x ≡ y
    unfolding Piece
    around_one x y z n (u, v, p, e, q) (c, d, r, g, m) =
        let hv : v ≢ 0 = ends_dart z v n q in
        let hd : d ≢ 0 = ends_dart z d n m in
        let ov : IsOpen Live 2 L v = ends_open beta 2 refl Live L w dart live made bound u v 1 p hv in
        let od : IsOpen Live 2 L d = ends_open beta 2 refl Live L w dart live made bound c d 1 r hd in
        let same : v ≡ d = fresh.one v d ov od (sym q ∙ m) in
        let back : ClosingPair beta 2 Live L v u 0 = pair_turned beta 2 refl Live L w dart live made bound u v 1 p hv in
        let back_too : ClosingPair beta 2 Live L d c 0 = pair_turned beta 2 refl Live L w dart live made bound c d 1 r hd in
        let begins : u ≡ c = walk_one back.walk (subst (λ a. IsAround beta 2 0 L a c) (sym same) back_too.walk) in
        e ∙ (ap star begins ∙ sym g)

    around_led : (x y : ℕ) → L 1 y ≢ 0 → Piece x (L 1 y) → (z : ℕ) × Piece y z
    unfolding Piece
    around_led x y n (u, v, p, e, q) =
        absurd (fresh_link beta L w (IsOpen Live 2 L) star fresh 1 y (v, ends_open beta 2 refl Live L w dart live made bound u v 1 p (ends_dart (L 1 y) v n q), q))

    pub around_link_one : (x y : ℕ) → f x ≢ 0 → f x ≡ f y → x ≡ y
    unfolding Piece
    around_link_one = pieces_one L w Piece f (record {
      told = around_told;
      one = around_one;
      led = around_led;
      kept = λ x n. kept x (λ y h e. around_some beta L w 2 refl 1 made y bound h.1
          (λ v r. n (star v) (y, v, (record { open_dart = h; below = refl; walk = r }), e, refl)));
    })

  -- links 0 and 1 lead on from free dart to free dart, above link 2
  pub zero_open : (i u : ℕ) → 3 ≤ i → IsOpen Live i L u → L 0 u ≢ 0 → IsOpen Live i L (L 0 u)
  zero_open i u high h n = open_carried beta i (inverse_own beta i (omega arith)) Live L w dart live made bound u 0 h (inr (IsDistant-turned beta 0 i (distant_zero i high))) n

  pub one_open : (i u : ℕ) → 3 ≤ i → IsOpen Live i L u → L 1 u ≢ 0 → IsOpen Live i L (L 1 u)
  one_open i u high h n = open_carried beta i (inverse_own beta i (omega arith)) Live L w dart live made bound u 1 h (inr (IsDistant-turned beta 1 i (distant_one i high))) n

  -- above link 2 it leads to the new dart of the one before x
  module _ (i : ℕ) (high : 3 ≤ i) (keys : List ℕ) (star : ℕ → ℕ) (numbers : IsNumbered (IsOpen Live i L) keys made star) (f : ℕ → ℕ)
      (along : (x : ℕ) → IsOpen Live i L x → f (star x) ≡ star (L 0 x))
      (kept : (x : ℕ) → ((y : ℕ) → IsOpen Live i L y → x ≢ star y) → f x ≡ L 1 x) where
    AlongPiece : ℕ → ℕ → Type 0
    AlongPiece x z = (u : ℕ) × IsOpen Live i L u × (x ≡ star u) × (z ≡ star (L 0 u))

    along_fresh : IsFresh L (IsOpen Live i L) star
    along_fresh = open_fresh beta L w Live live made counted i keys star numbers

    before_dart : (z u : ℕ) → z ≢ 0 → z ≡ star (L 0 u) → L 0 u ≢ 0
    before_dart z u n q o = n (q ∙ (ap star o ∙ along_fresh.nothing))

    along_one : (x y z : ℕ) → z ≢ 0 → AlongPiece x z → AlongPiece y z → x ≡ y
    unfolding AlongPiece
    along_one x y z n (u, h, e, q) (c, g, r, m) =
        let hu : L 0 u ≢ 0 = before_dart z u n q in
        let hc : L 0 c ≢ 0 = before_dart z c n m in
        let same : L 0 u ≡ L 0 c = along_fresh.one (L 0 u) (L 0 c) (zero_open i u high h hu) (zero_open i c high g hc) (sym q ∙ m) in
        e ∙ (ap star (link_one beta L w 0 u c hu same) ∙ sym r)

    along_led : (x y : ℕ) → L 1 y ≢ 0 → AlongPiece x (L 1 y) → (z : ℕ) × AlongPiece y z
    unfolding AlongPiece
    along_led x y n (u, h, e, q) =
        absurd (fresh_link beta L w (IsOpen Live i L) star along_fresh 1 y (L 0 u, zero_open i u high h (before_dart (L 1 y) u n q), q))

    pub along_link_one : (x y : ℕ) → f x ≢ 0 → f x ≡ f y → x ≡ y
    unfolding AlongPiece
    along_link_one = pieces_one L w AlongPiece f (record {
      told = λ x z (u, h, e, q). ap f e ∙ (along u h ∙ sym q);
      one = along_one;
      led = along_led;
      kept = λ x n. kept x (λ y h e. n (star (L 0 y)) (y, h, e, refl));
    })
