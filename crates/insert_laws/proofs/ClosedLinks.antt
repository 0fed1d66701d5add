-- A combinatorial map as closing tells it but for its link 0 gets a link 0 that leads back, and is closed with it.
use Rattle.std.proofs.Common.{ℕ, zero, suc, ◌≡◌, ◌≢◌, ◌≤◌, refl, sym, ap, ⊎_elim, ◌∙◌, arith, List}
use Rattle.map_defs.specs.Kind.{beta, inverse, IsDistant}
use Rattle.map_defs.specs.Links.{Links, IsTurned, IsMadeUpTo, LeadsToLive}
use Rattle.map_defs.specs.Laws.{Laws}
use Rattle.map_defs.specs.Births.{IsFresh, IsNumbered, IsCounted}
use Rattle.map_defs.specs.Closing.{IsOpen, IsAround, IsClosed}
use Rattle.link_laws.proofs.Basics.{same_or_not, stable, distant_one, distant_zero_is, IsDistant-turned}
use Rattle.link_laws.proofs.LawFacts.{back_to}
use Rattle.insert_laws.proofs.Fresh.{fresh_link}
use Rattle.insert_laws.proofs.Around.{around_some}
use Rattle.insert_laws.proofs.Closed.{ClosingPair, ends_open}
use Rattle.insert_laws.proofs.ClosedFree.{live_dart, live_bound, open_fresh}
use Rattle.insert_laws.proofs.ClosedOneToOne.{zero_open, one_open, around_link_one, along_link_one}
use Rattle.insert_laws.proofs.LinkZero.{turned_links}

-- closed, as far as the links from 1 upwards tell it
pub record IsClosedFromOne (i : ℕ) (Live : ℕ → Type 0) (star : ℕ → ℕ) (L M : Links) : Type 0 where
  pub new : (x : ℕ) → IsOpen Live i L x → M i x ≡ star x
  pub old : (x : ℕ) → IsOpen Live i L x → M i (star x) ≡ x
  pub beyond : (x : ℕ) → IsOpen Live i L x → M (suc i) (star x) ≡ 0
  pub along : (x j : ℕ) → 1 ≤ j → IsOpen Live i L x → IsDistant beta i j → M j (star x) ≡ star (L (inverse beta j) x)
  pub around : (x y t : ℕ) → IsOpen Live i L x → suc t ≡ i → IsAround beta i t L x y → M t (star x) ≡ star y
  pub kept : (x t : ℕ) → 1 ≤ t → (IsOpen Live i L x → t ≢ i) → ((y : ℕ) → IsOpen Live i L y → x ≢ star y) → M t x ≡ L t x

module _ (L : Links) (w : Laws beta L) (Live : ℕ → Type 0) (live : LeadsToLive Live L) (made : ℕ) (counted : IsCounted made Live) (keys : List ℕ) (star : ℕ → ℕ) (M : Links) where
  dart : (x : ℕ) → Live x → x ≢ 0
  dart = live_dart made Live counted

  bound : IsMadeUpTo made L
  bound = live_bound beta L w Live live made counted

  closed_one : (i : ℕ) → 2 ≤ i → IsNumbered (IsOpen Live i L) keys made star → IsClosedFromOne i Live star L M → (x y : ℕ) → M 1 x ≢ 0 → M 1 x ≡ M 1 y → x ≡ y
  closed_one zero l numbers s = absurd (omega arith)
  closed_one (suc zero) l numbers s = absurd (omega arith)
  closed_one (suc (suc zero)) l numbers s = around_link_one L w Live live made counted keys star numbers (M 1)
      (λ x y h a. s.around x y 1 h refl a)
      (λ x n. s.kept x 1 (omega arith) (λ h e. omega arith) n)
  closed_one (suc (suc (suc i))) l numbers s = along_link_one L w Live live made counted (suc (suc (suc i))) (omega arith) keys star numbers (M 1)
      (λ x h. s.along x 1 (omega arith) h (IsDistant-turned beta 1 (suc (suc (suc i))) (distant_one (suc (suc (suc i))) (omega arith))))
      (λ x n. s.kept x 1 (omega arith) (λ h e. omega arith) n)

  -- link 1 of a new dart leads to no old one
  stays_new : (i : ℕ) → 2 ≤ i → IsNumbered (IsOpen Live i L) keys made star → IsClosedFromOne i Live star L M
      → (c x : ℕ) → IsOpen Live i L c → x ≢ 0 → ((y : ℕ) → IsOpen Live i L y → x ≢ star y) → M 1 (star c) ≢ x
  stays_new zero l numbers s c x h hx n e = absurd (omega arith)
  stays_new (suc zero) l numbers s c x h hx n e = absurd (omega arith)
  stays_new (suc (suc zero)) l numbers s c x h hx n e = around_some beta L w 2 refl 1 made c bound h.1 (λ y r.
      let a : x ≡ star y = sym e ∙ s.around c y 1 h refl r in
      let p : ClosingPair beta 2 Live L c y 1 = record { open_dart = h; below = refl; walk = r } in
      ⊎_elim
      (λ (o : y ≡ 0). hx (a ∙ (ap star o ∙ numbers.nothing)))
      (λ (m : y ≢ 0). n y (ends_open beta 2 refl Live L w dart live made bound c y 1 p m) a)
      (same_or_not y 0))
  stays_new (suc (suc (suc i))) l numbers s c x h hx n e =
      let far : IsDistant beta (suc (suc (suc i))) 1 = IsDistant-turned beta 1 (suc (suc (suc i))) (distant_one (suc (suc (suc i))) (omega arith)) in
      let a : x ≡ star (L 0 c) = sym e ∙ s.along c 1 (omega arith) h far in
      ⊎_elim
      (λ (o : L 0 c ≡ 0). hx (a ∙ (ap star o ∙ numbers.nothing)))
      (λ (m : L 0 c ≢ 0). n (L 0 c) (zero_open L w Live live made counted (suc (suc (suc i))) c (omega arith) h m) a)
      (same_or_not (L 0 c) 0)

  module _ (i : ℕ) (high : 2 ≤ i) (numbers : IsNumbered (IsOpen Live i L) keys made star) (s : IsClosedFromOne i Live star L M)
      (N : Links) (same : (t x : ℕ) → 1 ≤ t → N t x ≡ M t x) (turned : IsTurned N) where
    fresh : IsFresh L (IsOpen Live i L) star
    fresh = open_fresh beta L w Live live made counted i keys star numbers

    kept_one : (x : ℕ) → ((y : ℕ) → IsOpen Live i L y → x ≢ star y) → N 1 x ≡ L 1 x
    kept_one x n = same 1 x (omega arith) ∙ s.kept x 1 (omega arith) (λ h e. omega arith) n

    not_link : (t x : ℕ) → (y : ℕ) → IsOpen Live i L y → L t x ≢ star y
    not_link t x y h e = fresh_link beta L w (IsOpen Live i L) star fresh t x (y, h, e)

    zero_free : (x b : ℕ) → ((y : ℕ) → IsOpen Live i L y → x ≢ star y) → x ≢ 0 → b ≢ 0 → L 0 x ≡ 0 → N 1 b ≡ x → ⊥
    zero_free x b n hx hb z e =
        let old : (y : ℕ) → IsOpen Live i L y → b ≢ star y = λ y h q. stays_new i high numbers s y x h hx n (sym (same 1 (star y) (omega arith)) ∙ (ap (N 1) (sym q) ∙ e)) in
        let a : L 1 b ≡ x = sym (kept_one b old) ∙ e in
        hb (sym (back_to beta L w 1 b x hx a) ∙ z)

    kept_zero : (x : ℕ) → ((y : ℕ) → IsOpen Live i L y → x ≢ star y) → N 0 x ≡ L 0 x
    kept_zero x n = ⊎_elim
        (λ (o : x ≡ 0). ap (N 0) o ∙ (turned.nothing ∙ (sym (w.nil 0) ∙ ap (L 0) (sym o))))
        (λ (hx : x ≢ 0). ⊎_elim
        (λ (z : L 0 x ≡ 0). stable (N 0 x) 0 (λ m. zero_free x (N 0 x) n hx m z ((turned.back (N 0 x) x m hx).1 refl)) ∙ sym z)
        (λ (m : L 0 x ≢ 0). (turned.back (L 0 x) x m hx).0 (kept_one (L 0 x) (not_link 0 x) ∙ w.back 0 x m))
        (same_or_not (L 0 x) 0))
        (same_or_not x 0)

    -- above link 2 link 0 of a new dart runs as link 1 did
    along_one : (x : ℕ) → 3 ≤ i → IsOpen Live i L x → N 1 (star x) ≡ star (L 0 x)
    along_one x l h = same 1 (star x) (omega arith) ∙ s.along x 1 (omega arith) h (IsDistant-turned beta 1 i (distant_one i l))

    along_free : (x b : ℕ) → 3 ≤ i → IsOpen Live i L x → L 1 x ≡ 0 → N 1 b ≡ star x → ⊥
    along_free x b l h z e =
        let old : (c : ℕ) → IsOpen Live i L c → b ≢ star c = λ c g q.
        let a : star (L 0 c) ≡ star x = sym (along_one c l g) ∙ (ap (N 1) (sym q) ∙ e) in
        let m : L 0 c ≢ 0 = λ o. fresh.dart x h (sym a ∙ (ap star o ∙ fresh.nothing)) in
        let r : L 0 c ≡ x = fresh.one (L 0 c) x (zero_open L w Live live made counted i c l g m) h a in
        dart c g.0 (sym (back_to beta L w 0 c x (dart x h.0) r) ∙ z) in
        not_link 1 b x h (sym (kept_one b old) ∙ e)

    along_zero : (x : ℕ) → 3 ≤ i → IsOpen Live i L x → N 0 (star x) ≡ star (L 1 x)
    along_zero x l h =
        let hs : star x ≢ 0 = fresh.dart x h in
        ⊎_elim
        (λ (z : L 1 x ≡ 0). stable (N 0 (star x)) 0 (λ m. along_free x (N 0 (star x)) l h z ((turned.back (N 0 (star x)) (star x) m hs).1 refl)) ∙ sym (ap star z ∙ fresh.nothing))
        (λ (m : L 1 x ≢ 0).
        let o : IsOpen Live i L (L 1 x) = one_open L w Live live made counted i x l h m in
        (turned.back (star (L 1 x)) (star x) (fresh.dart (L 1 x) o) hs).0 (along_one (L 1 x) l o ∙ ap star (w.back 1 x m)))
        (same_or_not (L 1 x) 0)

    along_at : (x j : ℕ) → IsOpen Live i L x → IsDistant beta i j → N j (star x) ≡ star (L (inverse beta j) x)
    along_at x zero h f = along_zero x (distant_zero_is i (IsDistant-turned beta i 0 f)) h
    along_at x (suc j) h f = same (suc j) (star x) (omega arith) ∙ s.along x (suc j) (omega arith) h f

    kept_at : (x t : ℕ) → (IsOpen Live i L x → t ≢ i) → ((y : ℕ) → IsOpen Live i L y → x ≢ star y) → N t x ≡ L t x
    kept_at x zero m n = kept_zero x n
    kept_at x (suc t) m n = same (suc t) x (omega arith) ∙ s.kept x (suc t) (omega arith) m n

    closed_with_zero : IsClosed beta i Live star L N
    closed_with_zero = record {
      new = λ x h. same i x (omega arith) ∙ s.new x h;
      old = λ x h. same i (star x) (omega arith) ∙ s.old x h;
      beyond = λ x h. same (suc i) (star x) (omega arith) ∙ s.beyond x h;
      along = along_at;
      around = λ x y t h e p. same t (star x) (omega arith) ∙ s.around x y t h e p;
      kept = kept_at;
      turned = λ _. turned;
    }

  pub closed_links : (i : ℕ) → 2 ≤ i → IsNumbered (IsOpen Live i L) keys made star → IsClosedFromOne i Live star L M → (limit : ℕ) → ((x : ℕ) → M 1 x ≢ 0 → x ≤ limit)
      → (N : Links) × ((t x : ℕ) → 1 ≤ t → N t x ≡ M t x) × IsClosed beta i Live star L N
  closed_links i high numbers s limit low =
      let r : (N : Links) × ((t x : ℕ) → 1 ≤ t → N t x ≡ M t x) × IsTurned N = turned_links M limit low (closed_one i high numbers s) in
      (r.0, r.1, closed_with_zero i high numbers s r.0 r.1 r.2)
