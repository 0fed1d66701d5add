-- Along one link that is its own inverse a pairing ends at the triple across its seed, which leads back.
use Rattle.std.proofs.Common.{◌≡◌, ◌≢◌, ℕ, zero, suc, ◌⊎◌, ◌↔◌, List, [], ◌∷◌, length, None, refl, sym, ap, ◌∙◌, subst, inl, inr, arith}
use Rattle.map_defs.specs.Kind.{Kind, inverse}
use Rattle.map_defs.specs.Links.{Links}
use Rattle.map_defs.specs.Pairs.{InPairs}
use Rattle.map_defs.specs.Rows.{Rows, row_at, links_of, IsSound}
use Rattle.link_laws.proofs.Basics.{inverse_twice}
use Rattle.sewing.specs.Triples.{Triple, Lists}
use Rattle.sewing.specs.PairSteps.{AreApart, LeadsBack, turn, IsTwofold, empty, both, IsPairable, IsListed, IsLink, OrInverse, IsCrossed, IsStepped}
use Rattle.sewing.proofs.PairFacts.{IsClosed, pairs-least, pairs-within, pairable-from, pairs-inverse}
use Rattle.sewing.proofs.PairWalks.{Contains-before, IsEven, none, two, twofold-turned, twofold-moves, step-none, step-then, IsDone, IsWalked, walked-begun, walked-pairs, walked-good, listed-none, listed-more}
use Rattle.sewing.proofs.BookPlaces.{one-where-apart}

-- nothing is linked to no dart
pub free-nothing : (rows : Rows) → row_at rows 0 ≡ None → (j : ℕ) → links_of rows j 0 ≡ 0
free-nothing rows empty-place j = rw empty-place refl

twofold-even : (k : Kind) (triples : List Triple) → IsTwofold k triples → IsEven (length triples)
twofold-even k triples empty = none
twofold-even k triples (both {triples = rest} p other more) = two (twofold-even k rest more)

module _ (k : Kind) (L : Links) (J : ℕ → Type 0) (single : (i j : ℕ) → J i → J j → (i ≡ j) × (inverse k j ≡ j))
    (nothing : (j : ℕ) → L j 0 ≡ 0) (back : (j x : ℕ) → L j x ≢ 0 → L (inverse k j) (L j x) ≡ x) where
  own : (j : ℕ) → J j → inverse k j ≡ j
  own j there = (single j j there there).1

  back-own : (i j x : ℕ) → J i → J j → L i x ≢ 0 → L j (L i x) ≡ x
  back-own i j x here there h =
      let e = single i j here there in
      subst (λ (m : ℕ). L m (L i x) ≡ x) (ap (inverse k) e.0 ∙ e.1) (back i x h)

  some-dart : (j x : ℕ) → L j x ≢ 0 → x ≢ 0
  some-dart j x h e = h (ap (L j) e ∙ nothing j)

  -- a triple, the triple across, and both turned round
  data IsNear (p : Triple) : ℕ → ℕ → ℕ → Type 0 where
    near : IsNear p p.x p.y p.t
    near-turned : IsNear p p.y p.x (inverse k p.t)
    far : (i : ℕ) → J i → L i p.x ≢ 0 → L i p.y ≢ 0 → IsNear p (L i p.x) (L i p.y) (inverse k p.t)
    far-turned : (i : ℕ) → J i → L i p.x ≢ 0 → L i p.y ≢ 0 → IsNear p (L i p.y) (L i p.x) p.t

  near-closed : (p : Triple) → IsClosed k L J (IsNear p)
  near-closed p = record { turned = turned; across = λ x y t j there is hx hy. across j there x y t is hx (rw (own j there) at hy) }
    where
      turned : (x y t : ℕ) → IsNear p x y t → IsNear p y x (inverse k t)
      turned x y t near = near-turned
      turned x y t near-turned = rw (inverse_twice k p.t) near
      turned x y t (far i here hx hy) = rw (inverse_twice k p.t) (far-turned i here hx hy)
      turned x y t (far-turned i here hx hy) = far i here hx hy

      own-across : (j : ℕ) → J j → (x y t : ℕ) → IsNear p x y t → L j x ≢ 0 → L j y ≢ 0 → IsNear p (L j x) (L j y) (inverse k t)
      own-across j there x y t near hx hy = far j there hx hy
      own-across j there x y t near-turned hx hy = rw (inverse_twice k p.t) (far-turned j there hy hx)
      own-across j there x y t (far i here gx gy) hx hy = rw (back-own i j p.x here there gx, back-own i j p.y here there gy, inverse_twice k p.t) near
      own-across j there x y t (far-turned i here gx gy) hx hy = rw (back-own i j p.x here there gx, back-own i j p.y here there gy) near-turned

      across : (j : ℕ) → J j → (x y t : ℕ) → IsNear p x y t → L j x ≢ 0 → L j y ≢ 0 → IsNear p (L j x) (L (inverse k j) y) (inverse k t)
      across j there x y t is hx hy = rw (own j there) (own-across j there x y t is hx hy)

  module _ (p : Triple) (old new : List Triple) (listed : IsListed k (p ∷ []) old) (step : IsStepped k L (OrInverse k J) p old new) where
    one-seed : (x y t : ℕ) → Lists (p ∷ []) x y t → IsNear p x y t
    one-seed x y t (zero, low, is) = subst (λ (q : Triple). IsNear p q.x q.y q.t) is near
    one-seed x y t (suc n, low, is) = absurd (omega arith)

    listed-near : (x y t : ℕ) → Lists old x y t → IsNear p x y t
    listed-near x y t has = elim (listed.only x y t has) [
      | inl seed ↦ one-seed x y t seed
      | inr seed ↦ rw (inverse_twice k t) at ((near-closed p).turned y x (inverse k t) (one-seed y x (inverse k t) seed))
    ]

    found-near : (x y t : ℕ) → Lists new x y t → IsNear p x y t
    found-near x y t has = pairs-least k L J (Lists old) (IsNear p) listed-near (near-closed p) x y t (pairs-inverse k L J (Lists old) x y t (step.only x y t has))

    grown : (x y t : ℕ) → Lists old x y t → Lists new x y t
    grown x y t has = Contains-before old new step.before (record { x = x; y = y; t = t }) has

    there-turned : (x y t : ℕ) → Lists new x y t → Lists new y x (inverse k t)
    there-turned x y t has = twofold-turned k new step.twofold (record { x = x; y = y; t = t }) has

    seed-there : Lists new p.x p.y p.t
    seed-there = grown p.x p.y p.t (listed.begun p.x p.y p.t (0, omega arith, refl))

    crossed : (i : ℕ) → J i → IsCrossed k L i (Lists new) p.x p.y p.t
    crossed i here = step.crossed i (inl here)

    across-there : (i : ℕ) → J i → L i p.x ≢ 0 → L i p.y ≢ 0 → Lists new (L i p.x) (L i p.y) (inverse k p.t)
    across-there i here hx hy = rw (own i here) at ((crossed i here).across hx (rw (own i here) hy))

    near-there : (x y t : ℕ) → IsNear p x y t → Lists new x y t
    near-there x y t near = seed-there
    near-there x y t near-turned = there-turned p.x p.y p.t seed-there
    near-there x y t (far i here hx hy) = across-there i here hx hy
    near-there x y t (far-turned i here hx hy) = rw (inverse_twice k p.t) at (there-turned (L i p.x) (L i p.y) (inverse k p.t) (across-there i here hx hy))

    seed-even : (j : ℕ) → J j → (L j p.x ≡ 0) ↔ (L j p.y ≡ 0)
    seed-even j there = rw (own j there) at (crossed j there).even

    own-even : (j : ℕ) → J j → (x y t : ℕ) → IsNear p x y t → (L j x ≡ 0) ↔ (L j y ≡ 0)
    own-even j there x y t near = seed-even j there
    own-even j there x y t near-turned = let same = seed-even j there in (same.1, same.0)
    own-even j there x y t (far i here hx hy) = rw (back-own i j p.x here there hx, back-own i j p.y here there hy)
        (λ e. absurd (some-dart i p.x hx e), λ e. absurd (some-dart i p.y hy e))
    own-even j there x y t (far-turned i here hx hy) = rw (back-own i j p.x here there hx, back-own i j p.y here there hy)
        (λ e. absurd (some-dart i p.y hy e), λ e. absurd (some-dart i p.x hx e))

    near-done : (x y t : ℕ) → IsNear p x y t → IsDone k L J (Lists new) x y t
    near-done x y t is = record {
      turned = near-there y x (inverse k t) ((near-closed p).turned x y t is);
      moves = twofold-moves k new step.twofold (record { x = x; y = y; t = t }) (near-there x y t is);
      crossed = λ j there. record {
        even = rw (own j there) (own-even j there x y t is);
        across = λ hx hy. near-there (L j x) (L (inverse k j) y) (inverse k t) ((near-closed p).across x y t j there is hx hy);
      };
    }

    -- the walk ends with the visit of the seed
    pub walked-back : IsWalked k L J (Lists (p ∷ [])) (length new) new
    walked-back = record {
      sound = λ x y t has. pairs-within k L J (Lists old) (Lists (p ∷ [])) (walked-begun k L J (p ∷ []) old listed).sound x y t (pairs-inverse k L J (Lists old) x y t (step.only x y t has));
      begun = λ x y t seed. grown x y t (listed.begun x y t seed);
      twofold = step.twofold;
      even = twofold-even k new step.twofold;
      done = λ n q low within is. near-done q.x q.y q.t (found-near q.x q.y q.t (n, within, is));
    }

-- a seed with the seed turned round
one-listed : (k : Kind) (p : Triple) → (inverse k p.t ≡ p.t → p.x ≢ p.y) → IsListed k (p ∷ []) (p ∷ turn k p ∷ [])
one-listed k p moves = listed-more k (p ∷ []) 0 p (omega arith) refl [] (p ∷ turn k p ∷ []) (listed-none k) (inr (moves, refl))

pub two-twofold : (k : Kind) (p : Triple) → (inverse k p.t ≡ p.t → p.x ≢ p.y) → IsTwofold k (p ∷ turn k p ∷ [])
two-twofold k p moves = both p moves empty

-- one step along the one link, or none where there is no link
pub step-one : (k : Kind) (L : Links) (J : ℕ → Type 0) (j : ℕ) (p : Triple) (old new : List Triple) → LeadsBack k J → J j → IsStepped k L (IsLink j) p old new
    → IsStepped k L (OrInverse k J) p old new
step-one k L J j p old new single there step =
    step-then k L (OrInverse k J) (IsLink j) (λ _. ⊥) p old new new (λ i is. inl (subst J (sym is) there)) (λ i no_link. absurd no_link) same step
    (step-none k L (λ _. ⊥) p new (λ i no_link. no_link) step.twofold)
  where
    same : (i : ℕ) → OrInverse k J i → IsLink j i ⊎ ⊥
    same i (inl here) = inl (single i j here there).0
    same i (inr here) =
        let e = single (inverse k i) j here there in
        inl (sym (inverse_twice k i) ∙ ap (inverse k) e.0 ∙ e.1)

pub step-no-link : (k : Kind) (L : Links) (J : ℕ → Type 0) (p : Triple) → (inverse k p.t ≡ p.t → p.x ≢ p.y) → ((j : ℕ) → J j → ⊥)
    → IsStepped k L (OrInverse k J) p (p ∷ turn k p ∷ []) (p ∷ turn k p ∷ [])
step-no-link k L J p moves free = step-none k L (OrInverse k J) p (p ∷ turn k p ∷ []) no_link (two-twofold k p moves)
  where
    no_link : (j : ℕ) → OrInverse k J j → ⊥
    no_link j (inl there) = free j there
    no_link j (inr there) = free (inverse k j) there

module _ (k : Kind) (n : ℕ) (rows : Rows) (sound : IsSound k n rows) (J : ℕ → Type 0) (single : LeadsBack k J) (p : Triple)
    (moves : inverse k p.t ≡ p.t → p.x ≢ p.y) where
  near-walk : (new : List Triple) → IsStepped k (links_of rows) (OrInverse k J) p (p ∷ turn k p ∷ []) new → IsWalked k (links_of rows) J (Lists (p ∷ [])) (length new) new
  near-walk new step = walked-back k (links_of rows) J single (free-nothing rows sound.nothing) sound.back p (p ∷ turn k p ∷ []) new (one-listed k p moves) step

  pub near-members : (new : List Triple) → IsStepped k (links_of rows) (OrInverse k J) p (p ∷ turn k p ∷ []) new
      → (x y t : ℕ) → Lists new x y t ↔ InPairs k (links_of rows) J (Lists (p ∷ [])) x y t
  near-members new step = walked-pairs k (links_of rows) J (Lists (p ∷ [])) (length new) new (omega arith) (near-walk new step)

  pub near-good : (new : List Triple) → AreApart new → IsStepped k (links_of rows) (OrInverse k J) p (p ∷ turn k p ∷ []) new → IsPairable k (links_of rows) J (Lists (p ∷ []))
  near-good new apart step = walked-good k (links_of rows) J (Lists (p ∷ [])) (length new) new (omega arith) (near-walk new step) (one-where-apart new apart)

  pub near-bad : (j : ℕ) → J j → (IsPairable k (links_of rows) (IsLink j) (Lists (p ∷ turn k p ∷ [])) → ⊥) → IsPairable k (links_of rows) J (Lists (p ∷ [])) → ⊥
  near-bad j there bad good =
      bad (pairable-from k (links_of rows) J (IsLink j) (Lists (p ∷ [])) (Lists (p ∷ turn k p ∷ [])) (λ i is. subst J (sym is) there)
      (walked-begun k (links_of rows) J (p ∷ []) (p ∷ turn k p ∷ []) (one-listed k p moves)).sound good)
