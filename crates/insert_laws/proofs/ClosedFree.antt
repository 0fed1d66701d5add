-- After closing at a link no dart is free there.
use Rattle.std.proofs.Common.{ℕ, zero, suc, ◌≡◌, ◌≢◌, ◌<◌, ◌≤◌, sym, inr, ⊎_elim, ◌∙◌, arith, List, length}
use Rattle.map_defs.specs.Kind.{Kind, alpha, beta, inverse}
use Rattle.map_defs.specs.Links.{Links, IsMadeUpTo, LeadsToLive}
use Rattle.map_defs.specs.Laws.{Laws}
use Rattle.map_defs.specs.Births.{IsFresh, IsNumbered, AreBorn, IsCounted}
use Rattle.map_defs.specs.Insertion.{IsInserted}
use Rattle.map_defs.specs.Closing.{IsOpen, IsClosed}
use Rattle.link_laws.proofs.Basics.{same_or_not, IsDistant-inverse_right}
use Rattle.link_laws.proofs.LawFacts.{dart_of_link}
use Rattle.insert_laws.proofs.Places.{IsBeside, same, next, below, far, link_cases}
use Rattle.insert_laws.proofs.Numbers.{numbered_all, numbered_fresh}
use Rattle.insert_laws.proofs.Around.{around_some, around_dart}
use Rattle.insert_laws.proofs.Closed.{ClosingPair, open_carried, ends_open, closing_inserted, closing_keeps}

-- a linked dart is live
pub linked_live : (k : Kind) (L : Links) → Laws k L → (Live : ℕ → Type 0) → LeadsToLive Live L → (t x : ℕ) → L t x ≢ 0 → Live x
linked_live k L w Live live t x h =
    let b : L (inverse k t) (L t x) ≡ x = w.back t x h in
    rw b at (live (inverse k t) (L t x) (λ o. dart_of_link k L w t x h (sym b ∙ o)))

-- live darts are counted: they are darts, they alone are linked, and the new darts of those free at a link are fresh
pub live_dart : (made : ℕ) (Live : ℕ → Type 0) → IsCounted made Live → (x : ℕ) → Live x → x ≢ 0
live_dart made Live counted x h o = let l : 1 ≤ x = (counted x h).0 in omega arith

pub live_bound : (k : Kind) (L : Links) → Laws k L → (Live : ℕ → Type 0) → LeadsToLive Live L → (made : ℕ) → IsCounted made Live → IsMadeUpTo made L
live_bound k L w Live live made counted t x h = (counted x (linked_live k L w Live live t x h)).1

pub open_fresh : (k : Kind) (L : Links) → Laws k L → (Live : ℕ → Type 0) → LeadsToLive Live L → (made : ℕ) → IsCounted made Live
    → (i : ℕ) (keys : List ℕ) (star : ℕ → ℕ) → IsNumbered (IsOpen Live i L) keys made star → IsFresh L (IsOpen Live i L) star
open_fresh k L w Live live made counted i keys star numbers = numbered_fresh (IsOpen Live i L) keys made star numbers L (λ x h. (counted x h.0).1) (live_bound k L w Live live made counted)

-- the inverse of a link below one that is its own inverse is below it too
inverse_below : (k : Kind) (i t : ℕ) → inverse k i ≡ i → t < i → inverse k t < i
inverse_below alpha i t own l = l
inverse_below beta zero t own l = absurd (omega arith)
inverse_below beta (suc zero) t own l = absurd (omega arith)
inverse_below beta (suc (suc i)) zero own l = omega arith
inverse_below beta (suc (suc i)) (suc zero) own l = omega arith
inverse_below beta (suc (suc i)) (suc (suc t)) own l = l

module _ (k : Kind) (i : ℕ) (own : inverse k i ≡ i) (Live : ℕ → Type 0) (keys : List ℕ) (made : ℕ) (star : ℕ → ℕ) (L N : Links) (w : Laws k L) (counted : IsCounted made Live) (live : LeadsToLive Live L) (numbers : IsNumbered (IsOpen Live i L) keys made star) (s : IsClosed k i Live star L N) where
  dart : (x : ℕ) → Live x → x ≢ 0
  dart = live_dart made Live counted

  bound : IsMadeUpTo made L
  bound = live_bound k L w Live live made counted

  fresh : IsFresh L (IsOpen Live i L) star
  fresh = open_fresh k L w Live live made counted i keys star numbers

  pub closed_laws : Laws k N
  closed_laws = closing_keeps k i own Live L w dart live made bound star fresh N s

  -- a live dart is no new one
  live_old : (x y : ℕ) → Live x → IsOpen Live i L y → x ≢ star y
  live_old x y h g e = fresh.outside y g (rw e at h, fresh.unlinked i y g)

  linked_old : (x : ℕ) → Live x → N i x ≢ 0
  linked_old x h o = ⊎_elim
      (λ (z : L i x ≡ 0). fresh.dart x (h, z) (sym (s.new x (h, z)) ∙ o))
      (λ (n : L i x ≢ 0). n (sym (s.kept x i (λ g. absurd (n g.1)) (λ y g. live_old x y h g)) ∙ o))
      (same_or_not (L i x) 0)

  linked_new : (x : ℕ) → IsOpen Live i L x → N i (star x) ≢ 0
  linked_new x h o = dart x h.0 (sym (s.old x h) ∙ o)

  module _ (LiveAfter : ℕ → Type 0) (born : AreBorn made (length keys) Live LiveAfter) where
    -- a claim on the darts that live afterwards, from the old ones and the new ones
    by_age : (P : ℕ → Type 0) → ((x : ℕ) → Live x → P x) → ((x : ℕ) → IsOpen Live i L x → P (star x)) → (x : ℕ) → LiveAfter x → P x
    by_age P f g x h = ⊎_elim
        (λ o. f x o)
        (λ b. let q : (y : ℕ) × IsOpen Live i L y × (x ≡ star y) = numbered_all (IsOpen Live i L) keys made star numbers x b.0 b.1 in rw q.2 (g q.0 q.1))
        ((born x).0 h)

    pub closed_linked : (x : ℕ) → LiveAfter x → N i x ≢ 0
    closed_linked = by_age (λ x. N i x ≢ 0) linked_old linked_new

    module _ (full : (t x : ℕ) → Live x → t < i → L t x ≢ 0) where
      lower_old : (t x : ℕ) → t < i → Live x → N t x ≢ 0
      lower_old t x l h o = full t x h l (sym (s.kept x t (λ g. λ e. omega arith) (λ y g. live_old x y h g)) ∙ o)

      lower_new : (t x : ℕ) → t < i → IsOpen Live i L x → N t (star x) ≢ 0
      lower_new t x l h o = by (link_cases k i t own)
        where
          inserted : IsInserted k i (IsOpen Live i L) (ClosingPair k i Live L) star L N
          inserted = closing_inserted k i own Live L w dart live made bound star fresh N s

          by : IsBeside k i t → ⊥
          by (same e) = omega arith
          by (next e) = omega arith
          by (below b) = around_some k L w i own t made x bound h.1 (λ y p.
              let hy : y ≢ 0 = around_dart k L w i own t Live live (λ c g. full (inverse k t) c g (inverse_below k i t own l)) x y h.0 p in
              let pair : ClosingPair k i Live L x y t = record { open_dart = h; below = b; walk = p } in
              fresh.dart y (ends_open k i own Live L w dart live made bound x y t pair hy) (sym (inserted.paired x y t pair) ∙ o))
          by (far f) =
              let n : L (inverse k t) x ≢ 0 = full (inverse k t) x h.0 (inverse_below k i t own l) in
              fresh.dart (L (inverse k t) x) (open_carried k i own Live L w dart live made bound x (inverse k t) h (inr (IsDistant-inverse_right k i t f)) n) (sym (s.along x t h f) ∙ o)

      pub closed_linked_upto : (t x : ℕ) → LiveAfter x → t ≤ i → N t x ≢ 0
      closed_linked_upto t x h l = ⊎_elim
          (λ (e : t ≡ i). rw e (closed_linked x h))
          (λ (n : t ≢ i). let lt : t < i = omega arith in by_age (λ x. N t x ≢ 0) (λ x. lower_old t x lt) (λ x. lower_new t x lt) x h)
          (same_or_not t i)
