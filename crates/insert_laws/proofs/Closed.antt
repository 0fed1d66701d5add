-- Closing at a link is an insertion in general, and so keeps the laws.
use Rattle.std.proofs.Common.{ℕ, zero, suc, ◌≡◌, ◌≢◌, ◌↔◌, refl, sym, ap, subst, inl, inr, ⊎_elim, ◌∙◌, arith}
use Rattle.map_defs.specs.Kind.{Kind, alpha, beta, inverse}
use Rattle.map_defs.specs.Links.{Links, IsMadeUpTo, LeadsToLive}
use Rattle.map_defs.specs.Laws.{Laws}
use Rattle.map_defs.specs.Births.{IsFresh}
use Rattle.map_defs.specs.Insertion.{IsJustBelow, IsCarrying, GoesAlong, IsInsertable, IsInserted}
use Rattle.map_defs.specs.Closing.{IsOpen, IsAround, IsClosed}
use Rattle.link_laws.proofs.Basics.{stable, same_or_not, IsDistant-turned}
use Rattle.link_laws.proofs.LawFacts.{alike}
use Rattle.link_laws.proofs.Walking.{walk_one}
use Rattle.insert_laws.proofs.Fresh.{IsNew, fresh_link}
use Rattle.insert_laws.proofs.Places.{below_inverse}
use Rattle.insert_laws.proofs.Around.{around_free, around_live, around_back, around_moves, around_mirror, around_even, around_some}
use Rattle.insert_laws.proofs.InsertSquare.{insertion_keeps}

-- the pairs of a closing: from each free dart around the boundary to the next
pub record ClosingPair (k : Kind) (i : ℕ) (Live : ℕ → Type 0) (L : Links) (x y t : ℕ) : Type 0 where
  pub open_dart : IsOpen Live i L x
  pub below : IsJustBelow k i t
  pub walk : IsAround k i t L x y

module _ (k : Kind) (i : ℕ) (own : inverse k i ≡ i) (Live : ℕ → Type 0) (L : Links) (w : Laws k L) (dart : (x : ℕ) → Live x → x ≢ 0) (live : LeadsToLive Live L) (made : ℕ) (bound : IsMadeUpTo made L) where
  pub open_carried : (x j : ℕ) → IsOpen Live i L x → IsCarrying k i j → L j x ≢ 0 → IsOpen Live i L (L j x)
  open_carried x j h (inl e) n = absurd (n (ap (λ t. L t x) e ∙ h.1))
  open_carried x j h (inr f) n =
      let a : (L i x ≡ 0) ↔ (L (inverse k i) (L j x) ≡ 0) = alike k L w j i x (IsDistant-turned k i j f) n in
      let b : L (inverse k i) (L j x) ≡ 0 = a.0 h.1 in
      (live j x n, cc (own, b))

  pub ends_open : (x y t : ℕ) → ClosingPair k i Live L x y t → y ≢ 0 → IsOpen Live i L y
  ends_open x y t p n = (around_live k L w i own t Live live x y p.walk n, around_free k L w i own t x y p.walk)

  pub pair_turned : (x y t : ℕ) → ClosingPair k i Live L x y t → y ≢ 0 → ClosingPair k i Live L y x (inverse k t)
  pair_turned x y t p n = record {
    open_dart = ends_open x y t p n;
    below = below_inverse k i t p.below;
    walk = around_back k L w i own t x y p.open_dart.1 n p.walk;
  }

  pair_across : (x y t j : ℕ) → ClosingPair k i Live L x y t → GoesAlong k i t j → L j x ≢ 0 → ClosingPair k i Live L (L j x) (L (inverse k j) y) (inverse k t)
  pair_across x y t j p (inl e) n = absurd (n (ap (λ u. L u x) e ∙ p.open_dart.1))
  pair_across x y t j p (inr f) n = record {
    open_dart = open_carried x j p.open_dart (inr f.0) n;
    below = below_inverse k i t p.below;
    walk = around_mirror k L w i own t j x y f.0 f.1 p.walk;
  }

  pair_even : (x y t j : ℕ) → ClosingPair k i Live L x y t → GoesAlong k i t j → L j x ≡ 0 → L (inverse k j) y ≡ 0
  pair_even x y t j p (inl e) z = let a : L i y ≡ 0 = around_free k L w i own t x y p.walk in cc (own, ap (inverse k) e)
  pair_even x y t j p (inr f) z = around_even k L w i own t j x y f.0 f.1 p.walk z

  pub closing_can : IsInsertable k i (IsOpen Live i L) (ClosingPair k i Live L) L
  closing_can = record {
    own = own;
    dart = λ x h. dart x h.0;
    carried = open_carried;
    some = λ x t h b nope. around_some k L w i own t made x bound h.1 (λ y p. nope y (record { open_dart = h; below = b; walk = p }));
    begins = λ x y t p. (p.open_dart, p.below);
    ends = ends_open;
    turned = pair_turned;
    moves = λ x y t p own_t. around_moves k L w i own t x y (dart x p.open_dart.0) own_t p.walk;
    across = pair_across;
    even = pair_even;
  }

-- a link one place below the link i is the link before it, or link 0 of a combinatorial map
data IsBelow : Kind → ℕ → ℕ → Type 0 where
  before : {k : Kind} {i t : ℕ} → suc t ≡ i → IsBelow k i t
  zero_of_beta : IsBelow beta 2 0

below_two : (i : ℕ) → i ≡ 2 → IsBelow beta i 0
below_two i e = subst (λ j. IsBelow beta j 0) (sym e) zero_of_beta

below_cases : (k : Kind) (i t : ℕ) → inverse k i ≡ i → IsJustBelow k i t → IsBelow k i t
below_cases alpha i t own b = before (omega arith)
below_cases beta zero zero own b = absurd (omega arith)
below_cases beta (suc i) zero own b = below_two (suc i) (omega arith)
below_cases beta zero (suc t) own b = absurd (omega arith)
below_cases beta (suc i) (suc t) own b = before (omega arith)

-- link 0 of the new darts in a combinatorial map leads around the boundary the other way
module _ (Live : ℕ → Type 0) (L : Links) (w : Laws beta L) (dart : (x : ℕ) → Live x → x ≢ 0) (live : LeadsToLive Live L) (made : ℕ) (bound : IsMadeUpTo made L) (star : ℕ → ℕ) (fresh : IsFresh L (IsOpen Live 2 L) star) (N : Links) (s : IsClosed beta 2 Live star L N) where
  leads_back : (x y : ℕ) → IsOpen Live 2 L x → IsOpen Live 2 L y → N 1 (star y) ≡ star x → N 0 (star x) ≡ star y
  leads_back x y hx hy e = ((s.turned refl).back (star y) (star x) (fresh.dart y hy) (fresh.dart x hx)).0 e

  turned_pair : (x y : ℕ) → ClosingPair beta 2 Live L x y 0 → y ≢ 0 → N 0 (star x) ≡ star y
  turned_pair x y p n =
      let q : ClosingPair beta 2 Live L y x 1 = pair_turned beta 2 refl Live L w dart live made bound x y 0 p n in
      leads_back x y p.open_dart q.open_dart (s.around y x 1 q.open_dart refl q.walk)

  -- where the walk meets a free link no dart leads to the new dart
  turned_free : (x b : ℕ) → ClosingPair beta 2 Live L x 0 0 → b ≢ 0 → N 1 b ≡ star x → ⊥
  turned_free x b p hb e =
      let old : IsNew (IsOpen Live 2 L) star b → ⊥ = λ (c, h, q).
      around_some beta L w 2 refl 1 made c bound h.1 (λ z r.
      let a : N 1 (star c) ≡ star z = s.around c z 1 h refl r in
      let g : star z ≡ star x = cc in
      let hz : z ≢ 0 = λ o. fresh.dart x p.open_dart (sym g ∙ (ap star o ∙ fresh.nothing)) in
      let pz : ClosingPair beta 2 Live L c z 1 = record { open_dart = h; below = refl; walk = r } in
      let turned_z : ClosingPair beta 2 Live L z c 0 = pair_turned beta 2 refl Live L w dart live made bound c z 1 pz hz in
      let m : z ≡ x = fresh.one z x turned_z.open_dart p.open_dart g in
      let back : IsAround beta 2 0 L x c = rw m at turned_z.walk in
      dart c h.0 (walk_one back p.walk)) in
      let kept : N 1 b ≡ L 1 b = s.kept b 1 (λ h l. omega arith) (λ y h q. old (y, h, q)) in
      fresh_link beta L w (IsOpen Live 2 L) star fresh 1 b (x, p.open_dart, sym kept ∙ e)

  pub turned_paired : (x y : ℕ) → ClosingPair beta 2 Live L x y 0 → N 0 (star x) ≡ star y
  turned_paired x y p = ⊎_elim
      (λ (o : y ≡ 0).
      let p0 : ClosingPair beta 2 Live L x 0 0 = rw o at p in
      let hx : star x ≢ 0 = fresh.dart x p.open_dart in
      stable (N 0 (star x)) 0 (λ n. turned_free x (N 0 (star x)) p0 n (((s.turned refl).back (N 0 (star x)) (star x) n hx).1 refl)) ∙ sym (ap star o ∙ fresh.nothing))
      (λ (n : y ≢ 0). turned_pair x y p n)
      (same_or_not y 0)

closing_paired : (k : Kind) (i : ℕ) (own : inverse k i ≡ i) (Live : ℕ → Type 0) (L : Links) (w : Laws k L) (dart : (x : ℕ) → Live x → x ≢ 0) (live : LeadsToLive Live L) (made : ℕ) (bound : IsMadeUpTo made L) (star : ℕ → ℕ) (fresh : IsFresh L (IsOpen Live i L) star) (N : Links) → IsClosed k i Live star L N
    → (x y t : ℕ) → ClosingPair k i Live L x y t → IsBelow k i t → N t (star x) ≡ star y
closing_paired k i own Live L w dart live made bound star fresh N s x y t p (before e) = s.around x y t p.open_dart e p.walk
closing_paired k i own Live L w dart live made bound star fresh N s x y t p zero_of_beta = turned_paired Live L w dart live made bound star fresh N s x y p

module _ (k : Kind) (i : ℕ) (own : inverse k i ≡ i) (Live : ℕ → Type 0) (L : Links) (w : Laws k L) (dart : (x : ℕ) → Live x → x ≢ 0) (live : LeadsToLive Live L) (made : ℕ) (bound : IsMadeUpTo made L) (star : ℕ → ℕ) (fresh : IsFresh L (IsOpen Live i L) star) (N : Links) (s : IsClosed k i Live star L N) where
  pub closing_inserted : IsInserted k i (IsOpen Live i L) (ClosingPair k i Live L) star L N
  closing_inserted = record {
    new = s.new;
    old = s.old;
    beyond = λ x h. s.beyond x h ∙ sym (ap star h.1 ∙ fresh.nothing);
    paired = λ x y t p. closing_paired k i own Live L w dart live made bound star fresh N s x y t p (below_cases k i t own p.below);
    along = s.along;
    kept = s.kept;
  }

  pub closing_keeps : Laws k N
  closing_keeps = insertion_keeps k i (IsOpen Live i L) (ClosingPair k i Live L) star L w (closing_can k i own Live L w dart live made bound) fresh N closing_inserted
