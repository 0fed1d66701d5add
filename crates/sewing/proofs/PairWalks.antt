-- A walk of pairs: the triples found so far, of which the first ones were visited, and what is found in the end.
use Rattle.std.proofs.Common.{◌≡◌, ◌≢◌, ℕ, zero, suc, ◌+◌, ◌≤◌, ◌<◌, ◌⊎◌, ◌↔◌, List, [], ◌∷◌, ◌++◌, length, take, get_or, Contains, refl, sym, ap, ◌∙◌, subst, inl, inr, arith}
use Rattle.std.proofs.lemmas.Bool.{cases_lt, cases_eq}
use Rattle.std.proofs.lemmas.List.{take_all, take_at, take_more, get_or-take, length-take, take-take, get_or_default}
use Rattle.std.proofs.lemmas.List.Elements.{Contains-append_left, Contains-append_right, Contains-append_cases, Contains-push, Contains-push_cases}
use Rattle.map_defs.specs.Kind.{Kind, inverse}
use Rattle.map_defs.specs.Links.{Links}
use Rattle.map_defs.specs.Pairs.{InPairs, seed, turned, across, IsGood}
use Rattle.link_laws.proofs.Basics.{inverse_twice}
use Rattle.sewing.specs.Triples.{Triple, Lists}
use Rattle.sewing.specs.PairSteps.{turn, IsTwofold, empty, both, IsPairAdded, FailsToPair, IsPairable, IsListed, FailsListed, IsLink, IsNewLink, OrInverse, IsCrossed, IsStepped}
use Rattle.sewing.proofs.PairFacts.{IsClosed, pairs-least, pairs-within, pairs-from, pairable-from, pairs-inverse, pairable-inverse, good-same}

-- what stood in the list stays there
pub Contains-before : {X : Type 0} (old new : List X) → take (length old) new ≡ old → (y : X) → Contains old y → Contains new y
Contains-before old new before y has =
    let longer : length old ≤ length new = omega (arith, length-take (length old) new, ap length before) in
    (has.0, omega (arith, has.1, longer), sym (get_or-take (length old) new has.0 y has.1) ∙ ap (λ xs. get_or xs has.0 y) before ∙ has.2)

before-before : {X : Type 0} (a b c : List X) → take (length a) b ≡ a → take (length b) c ≡ b → take (length a) c ≡ a
before-before a b c first then =
    let longer : length a ≤ length b = omega (arith, length-take (length a) b, ap length first) in
    sym (take-take (length a) (length b) c longer) ∙ ap (take (length a)) then ∙ first

-- what stands among the first stands in the list
pub Contains-take : {X : Type 0} (n : ℕ) (xs : List X) (x : X) → Contains (take n xs) x → Contains xs x
Contains-take n xs x has =
    let low = length-take n xs in
    (has.0, omega (arith, has.1, low), sym (get_or-take n xs has.0 x (omega (arith, has.1, low))) ∙ has.2)

-- a number stands in the list or not
has-or-not : (xs : List ℕ) (x : ℕ) → Contains xs x ⊎ (Contains xs x → ⊥)
has-or-not [] x = inr (λ has. omega (arith, has.1))
has-or-not (y ∷ ys) x = go (cases_eq y x) (has-or-not ys x)
  where
    go : (y ≡ x) ⊎ (y ≢ x) → Contains ys x ⊎ (Contains ys x → ⊥) → Contains (y ∷ ys) x ⊎ (Contains (y ∷ ys) x → ⊥)
    go (inl is) later = inl (0, omega arith, is)
    go (inr other) (inl has) = inl (suc has.0, omega (arith, has.1), has.2)
    go (inr other) (inr none) = inr (λ has. neither has.0 has.1 has.2)
      where
        neither : (n : ℕ) → n < length (y ∷ ys) → get_or (y ∷ ys) n x ≡ x → ⊥
        neither zero low is = other is
        neither (suc n) low is = none (n, omega (arith, low), is)

-- ---- a list in which each triple stands before the triple turned round
turn-turn : (k : Kind) (p : Triple) → turn k (turn k p) ≡ p
turn-turn k p = rw (inverse_twice k p.t) refl

module _ (k : Kind) where
  twofold-more : (triples : List Triple) (p : Triple) → (inverse k p.t ≡ p.t → p.x ≢ p.y) → IsTwofold k triples → IsTwofold k (triples ++ p ∷ turn k p ∷ [])
  twofold-more triples p moves empty = both p moves empty
  twofold-more triples p moves (both {triples = rest} q other more) = both q other (twofold-more rest p moves more)

  turned-at : (triples : List Triple) → IsTwofold k triples → (p : Triple) (n : ℕ) → n < length triples → get_or triples n p ≡ p → Contains triples (turn k p)
  turned-at triples empty p n low is = absurd (omega (arith, low))
  turned-at triples (both {triples = rest} q other more) p zero low is = subst (λ (r : Triple). Contains (q ∷ turn k q ∷ rest) (turn k r)) is (1, omega arith, refl)
  turned-at triples (both {triples = rest} q other more) p (suc zero) low is =
      subst (λ (r : Triple). Contains (q ∷ turn k q ∷ rest) (turn k r)) is (0, omega arith, sym (turn-turn k q))
  turned-at triples (both {triples = rest} q other more) p (suc (suc n)) low is =
      let later = turned-at rest more p n (omega (arith, low)) is in
      (suc (suc later.0), omega (arith, later.1), later.2)

  -- each triple of the list stands there turned round
  pub twofold-turned : (triples : List Triple) → IsTwofold k triples → (p : Triple) → Contains triples p → Contains triples (turn k p)
  twofold-turned triples twofold p has = turned-at triples twofold p has.0 has.1 has.2

  moves-at : (triples : List Triple) → IsTwofold k triples → (p : Triple) (n : ℕ) → n < length triples → get_or triples n p ≡ p → inverse k p.t ≡ p.t → p.x ≢ p.y
  moves-at triples empty p n low is = absurd (omega (arith, low))
  moves-at triples (both {triples = rest} q other more) p zero low is = subst (λ (r : Triple). inverse k r.t ≡ r.t → r.x ≢ r.y) is other
  moves-at triples (both {triples = rest} q other more) p (suc zero) low is =
      subst (λ (r : Triple). inverse k r.t ≡ r.t → r.x ≢ r.y) is (λ own same. other (sym (sym (inverse_twice k q.t) ∙ own)) (sym same))
  moves-at triples (both {triples = rest} q other more) p (suc (suc n)) low is = moves-at rest more p n (omega (arith, low)) is

  -- no triple of the list joins a dart to itself by a link that is its own inverse
  pub twofold-moves : (triples : List Triple) → IsTwofold k triples → (p : Triple) → Contains triples p → inverse k p.t ≡ p.t → p.x ≢ p.y
  twofold-moves triples twofold p has = moves-at triples twofold p has.0 has.1 has.2

-- a number of two after two
pub data IsEven : ℕ → Type 0 where
  none : IsEven zero
  two : {n : ℕ} → IsEven n → IsEven (suc (suc n))

-- at an even place stands a triple, and at the next place the triple turned round
twofold-next : (k : Kind) (triples : List Triple) (n : ℕ) → IsTwofold k triples → IsEven n → (d : Triple) → n < length triples → (suc n < length triples) × (get_or triples (suc n) d ≡ turn k (get_or triples n d))
twofold-next k triples n empty even d low = absurd (omega (arith, low))
twofold-next k triples n (both q other more) none d low = (omega arith, refl)
twofold-next k triples n (both {triples = rest} q other more) (two {n = i} even) d low =
    let next = twofold-next k rest i more even d (omega (arith, low)) in
    (omega (arith, next.0), next.1)

-- ---- a triple that was added with the triple turned round
module _ (k : Kind) (old new : List Triple) (p : Triple) (added : IsPairAdded k old new p) where
  added-before : take (length old) new ≡ old
  added-before = elim added [
    | inl known ↦ rw known.1 (take_all (length old) old (omega arith))
    | inr fresh ↦ rw fresh.1 (take_at old (p ∷ turn k p ∷ []) (length old) refl)
  ]

  added-has : Contains new p
  added-has = elim added [
    | inl known ↦ subst (λ ps. Contains ps p) (sym known.1) known.0
    | inr fresh ↦ subst (λ ps. Contains ps p) (sym fresh.1) (Contains-append_right old (p ∷ turn k p ∷ []) p (0, omega arith, refl))
  ]

  one-of-two : (q : Triple) (n : ℕ) → n < length (p ∷ turn k p ∷ []) → get_or (p ∷ turn k p ∷ []) n q ≡ q → (p ≡ q) ⊎ (turn k p ≡ q)
  one-of-two q zero low is = inl is
  one-of-two q (suc zero) low is = inr is
  one-of-two q (suc (suc n)) low is = absurd (omega (arith, low))

  added-only : (q : Triple) → Contains new q → Contains old q ⊎ ((p ≡ q) ⊎ (turn k p ≡ q))
  added-only q has = elim added [
    | inl known ↦ inl (subst (λ ps. Contains ps q) known.1 has)
    | inr fresh ↦ elim (Contains-append_cases old (p ∷ turn k p ∷ []) q (subst (λ ps. Contains ps q) fresh.1 has)) [
      | inl early ↦ inl early
      | inr late ↦ inr (one-of-two q late.0 late.1 late.2)
    ]
  ]

  added-twofold : IsTwofold k old → IsTwofold k new
  added-twofold twofold = elim added [
    | inl known ↦ subst (IsTwofold k) (sym known.1) twofold
    | inr fresh ↦ subst (IsTwofold k) (sym fresh.1) (twofold-more k old p fresh.0 twofold)
  ]

-- one of the links that were followed, or the inverse of one, where it is none of the set
abbrev pub IsFollowed : Kind → List ℕ → List ℕ → ℕ → Type 0
IsFollowed k set past i = Contains past i ⊎ (Contains past (inverse k i) × (Contains set i → ⊥))

module _ (k : Kind) (L : Links) where
  -- where a triple of the pairs cannot be added to a list of some of them, the pairs cannot be joined
  pub fails-bad : (J : ℕ → Type 0) (Seed : ℕ → ℕ → ℕ → Type 0) (found : List Triple) (x y t : ℕ) → IsTwofold k found → ((u v s : ℕ) → Lists found u v s → InPairs k L J Seed u v s)
      → InPairs k L J Seed x y t → FailsToPair k found x y t → IsPairable k L J Seed → ⊥
  fails-bad J Seed found x y t twofold sound here (inl other) good = other.2 (good.one x other.0 y t (sound x other.0 t other.1) here)
  fails-bad J Seed found x y t twofold sound here (inr (inl loops)) good = good.moves x y t here loops.1 loops.0
  fails-bad J Seed found x y t twofold sound here (inr (inr lone)) good =
      let same : lone.0 ≡ x = good.one y lone.0 x (inverse k t) (sound y lone.0 (inverse k t) lone.1) (turned here) in
      let back : Lists found y x (inverse k t) = subst (λ (z : ℕ). Lists found y z (inverse k t)) same lone.1 in
      let there : Lists found x y (inverse k (inverse k t)) = twofold-turned k found twofold (record { x = y; y = x; t = inverse k t }) back in
      lone.2 (rw (inverse_twice k t) at there)

  crossed-more : (j : ℕ) (P Q : ℕ → ℕ → ℕ → Type 0) → ((x y t : ℕ) → P x y t → Q x y t) → (x y t : ℕ) → IsCrossed k L j P x y t → IsCrossed k L j Q x y t
  crossed-more j P Q grown x y t crossed = record { even = crossed.even; across = λ hx hy. grown _ _ _ (crossed.across hx hy) }

  -- ---- the triple across a link
  pub stepped-linked : (j : ℕ) (p q : Triple) (old new : List Triple) → q.x ≡ L j p.x → q.y ≡ L (inverse k j) p.y → q.t ≡ inverse k p.t → q.x ≢ 0 → q.y ≢ 0
      → Contains old p → IsTwofold k old → IsPairAdded k old new q → IsStepped k L (IsLink j) p old new
  stepped-linked j p q old new at_x at_y at_t hx hy found twofold added = record {
    before = added-before k old new q added;
    only = λ u v t has. only u v t (added-only k old new q added (record { x = u; y = v; t = t }) has);
    twofold = added-twofold k old new q added twofold;
    crossed = λ i is. subst (λ h. IsCrossed k L h (Lists new) p.x p.y p.t) (sym is) crossed;
  }
    where
      here : InPairs k L (IsLink j) (Lists old) q.x q.y q.t
      here = rw (at_x, at_y, at_t) (across j refl (seed found) (λ e. hx (at_x ∙ e)) (λ e. hy (at_y ∙ e)))

      only : (u v t : ℕ) → Lists old u v t ⊎ (◌≡◌ {A = Triple} q (record { x = u; y = v; t = t }) ⊎ ◌≡◌ {A = Triple} (turn k q) (record { x = u; y = v; t = t })) → InPairs k L (IsLink j) (Lists old) u v t
      only u v t (inl has) = seed has
      only u v t (inr (inl is)) = subst (λ (r : Triple). InPairs k L (IsLink j) (Lists old) r.x r.y r.t) is here
      only u v t (inr (inr is)) = subst (λ (r : Triple). InPairs k L (IsLink j) (Lists old) r.x r.y r.t) is (turned here)

      crossed : IsCrossed k L j (Lists new) p.x p.y p.t
      crossed = record {
        even = (λ e. absurd (hx (at_x ∙ e)), λ e. absurd (hy (at_y ∙ e)));
        across = λ _ _. rw (← at_x, ← at_y, ← at_t) (added-has k old new q added);
      }

  pub linked-bad : (j : ℕ) (p q : Triple) (old : List Triple) → q.x ≡ L j p.x → q.y ≡ L (inverse k j) p.y → q.t ≡ inverse k p.t → q.x ≢ 0 → q.y ≢ 0
      → Contains old p → IsTwofold k old → FailsToPair k old q.x q.y q.t → IsPairable k L (IsLink j) (Lists old) → ⊥
  linked-bad j p q old at_x at_y at_t hx hy found twofold fails =
      fails-bad (IsLink j) (Lists old) old q.x q.y q.t twofold (λ u v s has. seed has)
      (rw (at_x, at_y, at_t) (across j refl (seed found) (λ e. hx (at_x ∙ e)) (λ e. hy (at_y ∙ e)))) fails

  pub stepped-free : (j : ℕ) (p : Triple) (found : List Triple) → L j p.x ≡ 0 → L (inverse k j) p.y ≡ 0 → IsTwofold k found → IsStepped k L (IsLink j) p found found
  stepped-free j p found ex ey twofold = record {
    before = take_all (length found) found (omega arith);
    only = λ u v t has. seed has;
    twofold = twofold;
    crossed = λ i is. subst (λ h. IsCrossed k L h (Lists found) p.x p.y p.t) (sym is) (record { even = (λ _. ey, λ _. ex); across = λ hx _. absurd (hx ex) });
  }

  pub uneven-bad : (j : ℕ) (p : Triple) (found : List Triple) → Contains found p → (((L j p.x ≡ 0) ↔ (L (inverse k j) p.y ≡ 0)) → ⊥) → IsPairable k L (IsLink j) (Lists found) → ⊥
  uneven-bad j p found has uneven good = uneven (good.even p.x p.y p.t j (seed has) refl)

  -- ---- one step after another
  pub step-none : (J : ℕ → Type 0) (p : Triple) (found : List Triple) → ((j : ℕ) → J j → ⊥) → IsTwofold k found → IsStepped k L J p found found
  step-none J p found no_link twofold = record {
    before = take_all (length found) found (omega arith);
    only = λ u v t has. seed has;
    twofold = twofold;
    crossed = λ j there. absurd (no_link j there);
  }

  step-only : (J I : ℕ → Type 0) (p : Triple) (a b : List Triple) → ((j : ℕ) → I j → J j) → IsStepped k L I p a b → (x y t : ℕ) → Lists b x y t → InPairs k L J (Lists a) x y t
  step-only J I p a b along step x y t has = pairs-from k L J I (Lists a) (Lists a) along (λ u v s there. seed there) x y t (step.only x y t has)

  pub step-then : (J I H : ℕ → Type 0) (p : Triple) (a b c : List Triple) → ((j : ℕ) → I j → J j) → ((j : ℕ) → H j → J j) → ((j : ℕ) → J j → I j ⊎ H j)
      → IsStepped k L I p a b → IsStepped k L H p b c → IsStepped k L J p a c
  step-then J I H p a b c along along' apart first then = record {
    before = before-before a b c first.before then.before;
    only = λ x y t has. pairs-from k L J H (Lists a) (Lists b) along' (step-only J I p a b along first) x y t (then.only x y t has);
    twofold = then.twofold;
    crossed = λ j there. crossed j (apart j there);
  }
    where
      grown : (x y t : ℕ) → Lists b x y t → Lists c x y t
      grown x y t has = Contains-before b c then.before (record { x = x; y = y; t = t }) has

      crossed : (j : ℕ) → I j ⊎ H j → IsCrossed k L j (Lists c) p.x p.y p.t
      crossed j (inl past) = crossed-more j (Lists b) (Lists c) grown p.x p.y p.t (first.crossed j past)
      crossed j (inr now) = then.crossed j now

  pub step-bad : (J I H : ℕ → Type 0) (p : Triple) (a b : List Triple) → ((j : ℕ) → I j → J j) → ((j : ℕ) → H j → J j) → IsStepped k L I p a b
      → (IsPairable k L H (Lists b) → ⊥) → IsPairable k L J (Lists a) → ⊥
  step-bad J I H p a b along along' step bad good = bad (pairable-from k L J H (Lists a) (Lists b) along' (step-only J I p a b along step) good)

  -- ---- a link and its inverse
  pub both-known : (J : ℕ → Type 0) (j : ℕ) (p : Triple) (a b : List Triple) → J (inverse k j) → IsStepped k L (IsLink j) p a b → IsStepped k L (IsNewLink k J j) p a b
  both-known J j p a b known step =
      step-then (IsNewLink k J j) (IsLink j) (λ _. ⊥) p a b b (λ i is. inl is) (λ i no_link. absurd no_link) apart step (step-none (λ _. ⊥) p b (λ i no_link. no_link) step.twofold)
    where
      apart : (i : ℕ) → IsNewLink k J j i → IsLink j i ⊎ ⊥
      apart i (inl is) = inl is
      apart i (inr back) = absurd (back.1 (subst J (sym back.0) known))

  back-new : (J : ℕ → Type 0) (j : ℕ) → (J (inverse k j) → ⊥) → (i : ℕ) → IsLink (inverse k j) i → IsNewLink k J j i
  back-new J j fresh i is = inr (is, λ known. fresh (subst J is known))

  pub both-then : (J : ℕ → Type 0) (j : ℕ) (p : Triple) (a b c : List Triple) → (J (inverse k j) → ⊥) → IsStepped k L (IsLink j) p a b → IsStepped k L (IsLink (inverse k j)) p b c
      → IsStepped k L (IsNewLink k J j) p a c
  both-then J j p a b c fresh first then =
      step-then (IsNewLink k J j) (IsLink j) (IsLink (inverse k j)) p a b c (λ i is. inl is) (back-new J j fresh) (λ i there. elim there [ inl is ↦ inl is | inr back ↦ inr back.0 ]) first then

  pub both-bad : (J : ℕ → Type 0) (j : ℕ) (p : Triple) (a b : List Triple) → (J (inverse k j) → ⊥) → IsStepped k L (IsLink j) p a b → (IsPairable k L (IsLink (inverse k j)) (Lists b) → ⊥)
      → IsPairable k L (IsNewLink k J j) (Lists a) → ⊥
  both-bad J j p a b fresh step bad = step-bad (IsNewLink k J j) (IsLink j) (IsLink (inverse k j)) p a b (λ i is. inl is) (back-new J j fresh) step bad

  pub first-bad : (J : ℕ → Type 0) (j : ℕ) (a : List Triple) → (IsPairable k L (IsLink j) (Lists a) → ⊥) → IsPairable k L (IsNewLink k J j) (Lists a) → ⊥
  first-bad J j a bad good = bad (pairable-from k L (IsNewLink k J j) (IsLink j) (Lists a) (Lists a) (λ i is. inl is) (λ u v s there. seed there) good)

  -- ---- the visit of one triple, of which some links were followed
  module _ (set : List ℕ) (n j : ℕ) (within : n < length set) (at : j ≡ get_or set n j) where
    longer : take (n + 1) set ≡ take n set ++ j ∷ []
    longer = take_more set n j within ∙ ap (λ i. take n set ++ i ∷ []) (sym at)

    earlier : (i : ℕ) → Contains (take n set) i → Contains (take (n + 1) set) i
    earlier i past = rw longer (Contains-append_left (take n set) (j ∷ []) i past)

    this : (i : ℕ) → j ≡ i → Contains (take (n + 1) set) i
    this i is = rw longer (subst (Contains (take n set ++ j ∷ [])) is (Contains-push (take n set) j))

    turned-back : (i : ℕ) → i ≡ inverse k j → j ≡ inverse k i
    turned-back i is = sym (ap (inverse k) is ∙ inverse_twice k j)

    before-this : (i : ℕ) → IsFollowed k set (take n set) i → IsFollowed k set (take (n + 1) set) i
    before-this i (inl past) = inl (earlier i past)
    before-this i (inr past) = inr (earlier (inverse k i) past.0, past.1)

    at-this : (i : ℕ) → IsNewLink k (Contains set) j i → IsFollowed k set (take (n + 1) set) i
    at-this i (inl is) = inl (this i (sym is))
    at-this i (inr back) = inr (this (inverse k i) (turned-back i back.0), back.1)

    parts : (i : ℕ) → Contains (take (n + 1) set) i → Contains (take n set) i ⊎ (j ≡ i)
    parts i there = Contains-push_cases (take n set) j i (subst (λ js. Contains js i) longer there)

    both-parts : (i : ℕ) → IsFollowed k set (take (n + 1) set) i → IsFollowed k set (take n set) i ⊎ IsNewLink k (Contains set) j i
    both-parts i (inl there) = elim (parts i there) [ inl past ↦ inl (inl past) | inr is ↦ inr (inl (sym is)) ]
    both-parts i (inr there) =
        elim (parts (inverse k i) there.0) [ inl past ↦ inl (inr (past, there.1)) | inr is ↦ inr (inr (sym (inverse_twice k i) ∙ ap (inverse k) (sym is), there.1)) ]

    pub visiting-more : (p : Triple) (a b c : List Triple) → IsStepped k L (IsFollowed k set (take n set)) p a b → IsStepped k L (IsNewLink k (Contains set) j) p b c
        → IsStepped k L (IsFollowed k set (take (n + 1) set)) p a c
    visiting-more p a b c first then =
        step-then (IsFollowed k set (take (n + 1) set)) (IsFollowed k set (take n set)) (IsNewLink k (Contains set) j) p a b c before-this at-this both-parts first then

    wider : (i : ℕ) → IsFollowed k set (take n set) i → OrInverse k (Contains set) i
    wider i (inl past) = inl (Contains-take n set i past)
    wider i (inr past) = inr (Contains-take n set (inverse k i) past.0)

    this-wider : (i : ℕ) → IsNewLink k (Contains set) j i → OrInverse k (Contains set) i
    this-wider i (inl is) = inl (subst (Contains set) (sym is) (n, within, sym at))
    this-wider i (inr back) = inr (subst (Contains set) (turned-back i back.0) (n, within, sym at))

    pub visiting-bad : (p : Triple) (a b : List Triple) → IsStepped k L (IsFollowed k set (take n set)) p a b → (IsPairable k L (IsNewLink k (Contains set) j) (Lists b) → ⊥)
        → IsPairable k L (Contains set) (Lists a) → ⊥
    visiting-bad p a b step bad good =
        step-bad (OrInverse k (Contains set)) (IsFollowed k set (take n set)) (IsNewLink k (Contains set) j) p a b wider this-wider step bad
        (pairable-inverse k L (Contains set) (Lists a) good)

  pub visiting-begun : (set : List ℕ) (p : Triple) (found : List Triple) → IsTwofold k found → IsStepped k L (IsFollowed k set []) p found found
  visiting-begun set p found twofold = step-none (IsFollowed k set []) p found no_link twofold
    where
      no_link : (j : ℕ) → IsFollowed k set [] j → ⊥
      no_link j (inl has) = omega (arith, has.1)
      no_link j (inr has) = omega (arith, has.0.1)

  pub visited-all : (set : List ℕ) (n : ℕ) (p : Triple) (old new : List Triple) → length set ≤ n
      → IsStepped k L (IsFollowed k set (take n set)) p old new → IsStepped k L (OrInverse k (Contains set)) p old new
  visited-all set n p old new past step =
      let whole : IsStepped k L (IsFollowed k set set) p old new = subst (λ js. IsStepped k L (IsFollowed k set js) p old new) (take_all n set past) step in
      step-then (OrInverse k (Contains set)) (IsFollowed k set set) (λ _. ⊥) p old new new wide (λ i no_link. absurd no_link) (λ i there. inl (follow i there (has-or-not set i)))
      whole (step-none (λ _. ⊥) p new (λ i no_link. no_link) whole.twofold)
    where
      wide : (i : ℕ) → IsFollowed k set set i → OrInverse k (Contains set) i
      wide i (inl there) = inl there
      wide i (inr there) = inr there.0

      follow : (i : ℕ) → OrInverse k (Contains set) i → Contains set i ⊎ (Contains set i → ⊥) → IsFollowed k set set i
      follow i there (inl has) = inl has
      follow i (inl there) (inr fresh) = inl there
      follow i (inr there) (inr fresh) = inr (there, fresh)

  -- ---- all that a triple leads to is there, and it breaks no condition
  pub record IsDone (J : ℕ → Type 0) (Has : ℕ → ℕ → ℕ → Type 0) (x y t : ℕ) : Type 0 where
    pub turned : Has y x (inverse k t)
    pub moves : inverse k t ≡ t → x ≢ y
    pub crossed : (j : ℕ) → J j → IsCrossed k L j Has x y t

  done-more : (J : ℕ → Type 0) (P Q : ℕ → ℕ → ℕ → Type 0) → ((x y t : ℕ) → P x y t → Q x y t) → (x y t : ℕ) → IsDone J P x y t → IsDone J Q x y t
  done-more J P Q grown x y t done = record {
    turned = grown _ _ _ done.turned;
    moves = done.moves;
    crossed = λ j there. crossed-more j P Q grown x y t (done.crossed j there);
  }

  module _ (J : ℕ → Type 0) (p : Triple) (old new : List Triple) (found : Contains old p) (step : IsStepped k L (OrInverse k J) p old new) where
    there : Contains new p
    there = Contains-before old new step.before p found

    back : Contains new (turn k p)
    back = twofold-turned k new step.twofold p there

    visited-done : IsDone J (Lists new) p.x p.y p.t
    visited-done = record {
      turned = back;
      moves = twofold-moves k new step.twofold p there;
      crossed = λ j along. step.crossed j (inl along);
    }

    -- crossing the triple turned round along a link is crossing the triple along the inverse of the link
    crossed-back : (j : ℕ) → IsCrossed k L (inverse k j) (Lists new) p.x p.y p.t → IsCrossed k L j (Lists new) p.y p.x (inverse k p.t)
    crossed-back j crossed = record {
      even = (even.1, even.0);
      across = λ hy hx. turned-round hy hx;
    }
      where
        even : (L (inverse k j) p.x ≡ 0) ↔ (L j p.y ≡ 0)
        even = rw (inverse_twice k j) at crossed.even

        turned-round : L j p.y ≢ 0 → L (inverse k j) p.x ≢ 0 → Lists new (L j p.y) (L (inverse k j) p.x) (inverse k (inverse k p.t))
        turned-round hy hx =
            let far : Lists new (L (inverse k j) p.x) (L (inverse k (inverse k j)) p.y) (inverse k p.t) = crossed.across hx (rw (inverse_twice k j) hy) in
            let near : Lists new (L (inverse k j) p.x) (L j p.y) (inverse k p.t) = rw (inverse_twice k j) at far in
            twofold-turned k new step.twofold (record { x = L (inverse k j) p.x; y = L j p.y; t = inverse k p.t }) near

    turned-done : IsDone J (Lists new) p.y p.x (inverse k p.t)
    turned-done = record {
      turned = twofold-turned k new step.twofold (turn k p) back;
      moves = twofold-moves k new step.twofold (turn k p) back;
      crossed = λ j along. crossed-back j (step.crossed (inverse k j) (inr (subst J (sym (inverse_twice k j)) along)));
    }

  -- ---- the whole walk, of which the first triples were visited
  pub record IsWalked (J : ℕ → Type 0) (Seed : ℕ → ℕ → ℕ → Type 0) (next : ℕ) (found : List Triple) : Type 0 where
    pub sound : (x y t : ℕ) → Lists found x y t → InPairs k L J Seed x y t
    pub begun : (x y t : ℕ) → Seed x y t → Lists found x y t
    pub twofold : IsTwofold k found
    pub even : IsEven next
    pub done : (n : ℕ) (p : Triple) → n < next → n < length found → get_or found n p ≡ p → IsDone J (Lists found) p.x p.y p.t

  seeds-sound : (J : ℕ → Type 0) (seeds : List Triple) (x y t : ℕ) → Lists seeds x y t ⊎ Lists seeds y x (inverse k t) → InPairs k L J (Lists seeds) x y t
  seeds-sound J seeds x y t (inl has) = seed has
  seeds-sound J seeds x y t (inr has) =
      let back : InPairs k L J (Lists seeds) x y (inverse k (inverse k t)) = turned (seed has) in
      rw (inverse_twice k t) at back

  pub walked-begun : (J : ℕ → Type 0) (seeds found : List Triple) → IsListed k seeds found → IsWalked J (Lists seeds) 0 found
  walked-begun J seeds found listed = record {
    sound = λ x y t has. seeds-sound J seeds x y t (listed.only x y t has);
    begun = listed.begun;
    twofold = listed.twofold;
    even = none;
    done = λ n p low within is. absurd (omega arith);
  }

  -- seeds that cannot be listed are not good
  pub listed-bad : (J : ℕ → Type 0) (seeds : List Triple) → FailsListed k seeds → IsPairable k L J (Lists seeds) → ⊥
  listed-bad J seeds f =
      fails-bad J (Lists seeds) f.found f.one.x f.one.y f.one.t f.twofold (λ u v s has. seeds-sound J seeds u v s (f.only u v s has)) (seed f.listed) f.fails

  pub walked-more : (J : ℕ → Type 0) (Seed : ℕ → ℕ → ℕ → Type 0) (next : ℕ) (p : Triple) (old new : List Triple) → next < length old → get_or old next p ≡ p
      → IsWalked J Seed next old → IsStepped k L (OrInverse k J) p old new → IsWalked J Seed (next + 2) new
  walked-more J Seed next p old new within at walk step = record {
    sound = λ x y t has. pairs-within k L J (Lists old) Seed walk.sound x y t (pairs-inverse k L J (Lists old) x y t (step.only x y t has));
    begun = λ x y t s. grown x y t (walk.begun x y t s);
    twofold = step.twofold;
    even = subst IsEven two-more (two walk.even);
    done = λ n q low inside is. done n q (cases_lt n next) (cases_eq n next) low is;
  }
    where
      two-more : suc (suc next) ≡ next + 2
      two-more = omega arith

      here : Contains old p
      here = (next, within, at)

      grown : (x y t : ℕ) → Lists old x y t → Lists new x y t
      grown x y t has = Contains-before old new step.before (record { x = x; y = y; t = t }) has

      stays : (n : ℕ) (q : Triple) → n < length old → get_or new n q ≡ get_or old n q
      stays n q below = sym (get_or-take (length old) new n q below) ∙ ap (λ ps. get_or ps n q) step.before

      Done : Triple → Type 0
      Done r = IsDone J (Lists new) r.x r.y r.t

      done : (n : ℕ) (q : Triple) → (n < next) ⊎ (next ≤ n) → (n ≡ next) ⊎ (n ≢ next) → n < next + 2 → get_or new n q ≡ q → IsDone J (Lists new) q.x q.y q.t
      done n q (inl below) other last is =
          done-more J (Lists old) (Lists new) grown q.x q.y q.t (walk.done n q below (omega arith) (sym (stays n q (omega arith)) ∙ is))
      done n q (inr above) (inl is_next) last is =
          let same : p ≡ q = sym at ∙ get_or_default old next p q within ∙ ap (λ m. get_or old m q) (sym is_next) ∙ sym (stays n q (omega arith)) ∙ is in
          subst Done same (visited-done J p old new here step)
      done n q (inr above) (inr past) last is =
          let behind = twofold-next k old next walk.twofold walk.even q within in
          let after : n ≡ suc next = omega arith in
          let first : p ≡ get_or old next q = sym at ∙ get_or_default old next p q within in
          let same : turn k p ≡ q = ap (turn k) first ∙ sym behind.1 ∙ ap (λ m. get_or old m q) (sym after) ∙ sym (stays n q (omega (arith, behind.0))) ∙ is in
          subst Done same (turned-done J p old new here step)

  -- when all that was found was visited, it is the pairs
  walked-done : (J : ℕ → Type 0) (Seed : ℕ → ℕ → ℕ → Type 0) (next : ℕ) (found : List Triple) → length found ≤ next → IsWalked J Seed next found
      → (x y t : ℕ) → Lists found x y t → IsDone J (Lists found) x y t
  walked-done J Seed next found past walk x y t has = walk.done has.0 (record { x = x; y = y; t = t }) (omega (arith, has.1)) has.1 has.2

  pub walked-pairs : (J : ℕ → Type 0) (Seed : ℕ → ℕ → ℕ → Type 0) (next : ℕ) (found : List Triple) → length found ≤ next → IsWalked J Seed next found
      → (x y t : ℕ) → Lists found x y t ↔ InPairs k L J Seed x y t
  walked-pairs J Seed next found past walk x y t = (walk.sound x y t, pairs-least k L J Seed (Lists found) walk.begun shut x y t)
    where
      shut : IsClosed k L J (Lists found)
      shut = record {
        turned = λ u v s has. (walked-done J Seed next found past walk u v s has).turned;
        across = λ u v s j there has hu hv. ((walked-done J Seed next found past walk u v s has).crossed j there).across hu hv;
      }

  pub walked-good : (J : ℕ → Type 0) (Seed : ℕ → ℕ → ℕ → Type 0) (next : ℕ) (found : List Triple) → length found ≤ next → IsWalked J Seed next found
      → ((x y z t : ℕ) → Lists found x y t → Lists found x z t → y ≡ z) → IsGood k L J (InPairs k L J Seed)
  walked-good J Seed next found past walk one =
      let listed : (x y t : ℕ) → InPairs k L J Seed x y t → Lists found x y t = λ x y t p. (walked-pairs J Seed next found past walk x y t).1 p in
      record {
        one = λ x y z t p q. one x y z t (listed x y t p) (listed x z t q);
        moves = λ x y t p. (walked-done J Seed next found past walk x y t (listed x y t p)).moves;
        even = λ x y t j p there. ((walked-done J Seed next found past walk x y t (listed x y t p)).crossed j there).even;
      }

  -- what is found on the way is of the same pairs: where they are good, so are those of the seeds
  pub walked-bad : (J : ℕ → Type 0) (Seed : ℕ → ℕ → ℕ → Type 0) (next : ℕ) (found : List Triple) → IsWalked J Seed next found
      → (IsGood k L J (InPairs k L J (Lists found)) → ⊥) → IsGood k L J (InPairs k L J Seed) → ⊥
  walked-bad J Seed next found walk bad good =
      bad (good-same k L J (InPairs k L J Seed) (InPairs k L J (Lists found)) (pairs-within k L J (Lists found) Seed walk.sound) good)

-- ---- the seeds, of which the first ones were added
pub listed-none : (k : Kind) → IsListed k [] []
listed-none k = record { only = λ x y t has. inl has; begun = λ x y t has. has; twofold = empty }

module _ (k : Kind) (triples : List Triple) (n : ℕ) (p : Triple) (within : n < length triples) (at : p ≡ get_or triples n p) where
  longer-seeds : take (n + 1) triples ≡ take n triples ++ p ∷ []
  longer-seeds = take_more triples n p within ∙ ap (λ q. take n triples ++ q ∷ []) (sym at)

  early-seed : (x y t : ℕ) → Lists (take n triples) x y t → Lists (take (n + 1) triples) x y t
  early-seed x y t has = rw longer-seeds (Contains-append_left (take n triples) (p ∷ []) (record { x = x; y = y; t = t }) has)

  this-seed : Contains (take (n + 1) triples) p
  this-seed = rw longer-seeds (Contains-push (take n triples) p)

  pub listed-more : (old new : List Triple) → IsListed k (take n triples) old → IsPairAdded k old new p → IsListed k (take (n + 1) triples) new
  listed-more old new listed added = record {
    only = λ x y t has. only x y t (added-only k old new p added (record { x = x; y = y; t = t }) has);
    begun = λ x y t has. begun x y t (Contains-push_cases (take n triples) p (record { x = x; y = y; t = t }) (subst (λ ps. Contains ps (record { x = x; y = y; t = t })) longer-seeds has));
    twofold = added-twofold k old new p added listed.twofold;
  }
    where
      early : (x y t : ℕ) → Lists (take n triples) x y t ⊎ Lists (take n triples) y x (inverse k t) → Lists (take (n + 1) triples) x y t ⊎ Lists (take (n + 1) triples) y x (inverse k t)
      early x y t (inl has) = inl (early-seed x y t has)
      early x y t (inr has) = inr (early-seed y x (inverse k t) has)

      only : (x y t : ℕ) → Lists old x y t ⊎ (◌≡◌ {A = Triple} p (record { x = x; y = y; t = t }) ⊎ ◌≡◌ {A = Triple} (turn k p) (record { x = x; y = y; t = t }))
          → Lists (take (n + 1) triples) x y t ⊎ Lists (take (n + 1) triples) y x (inverse k t)
      only x y t (inl has) = early x y t (listed.only x y t has)
      only x y t (inr (inl is)) = inl (subst (Contains (take (n + 1) triples)) is this-seed)
      only x y t (inr (inr is)) = inr (subst (Contains (take (n + 1) triples)) (sym (turn-turn k p) ∙ ap (turn k) is) this-seed)

      begun : (x y t : ℕ) → Lists (take n triples) x y t ⊎ ◌≡◌ {A = Triple} p (record { x = x; y = y; t = t }) → Lists new x y t
      begun x y t (inl has) = Contains-before old new (added-before k old new p added) (record { x = x; y = y; t = t }) (listed.begun x y t has)
      begun x y t (inr is) = subst (Contains new) is (added-has k old new p added)

  pub listed-fails : (old : List Triple) → IsListed k (take n triples) old → FailsToPair k old p.x p.y p.t → FailsListed k triples
  listed-fails old listed fails = record {
    found = old;
    only = λ x y t has. all x y t (listed.only x y t has);
    twofold = listed.twofold;
    one = p;
    listed = (n, within, sym at);
    fails = fails;
  }
    where
      all : (x y t : ℕ) → Lists (take n triples) x y t ⊎ Lists (take n triples) y x (inverse k t) → Lists triples x y t ⊎ Lists triples y x (inverse k t)
      all x y t (inl has) = inl (Contains-take n triples (record { x = x; y = y; t = t }) has)
      all x y t (inr has) = inr (Contains-take n triples (record { x = y; y = x; t = inverse k t }) has)
