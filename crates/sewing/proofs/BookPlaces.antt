-- The triples of a book: looked through, told by a map beyond the first few, sorted by dart and link.
use Rattle.std.proofs.Common.{◌≡◌, ◌≢◌, ℕ, zero, suc, ◌+◌, ◌<◌, ◌≤◌, ◌↔◌, ◌⊎◌, List, [], ◌∷◌, ◌++◌, min, length, take, drop, get_or, position, Bool, true, false, cond, Option, Some, None, Contains, refl, sym, ap, ◌∙◌, subst, inl, inr, arith, nat_cmp, nat_eq, nat_lt}
use Rattle.std.proofs.lemmas.Bool.{cases_eq, cases_lt, false≢true, lt-ltb}
use Rattle.std.proofs.lemmas.Cmp.{nat_cmp_total, then_total, on_total, ranked}
use Rattle.std.proofs.lemmas.List.{get_or_default, get_or-take, length-take, take-append-drop, drop-append-le, drop_all}
use Rattle.std.proofs.lemmas.List.Elements.{Contains-append_left, Contains-append_right, Contains-append_cases, Contains-push, Contains-push_cases}
use Rattle.std.proofs.lemmas.List.Quantifiers.{all_pairs_push, position-Some}
use Rattle.std.proofs.lemmas.Map.Lookups.{CmpEqualImpliesEq, exact_pairs, exact_unsigned}
use Rattle.std.proofs.lemmas.Map.Keys.{Less-from_sorted, IsDistinct-IsPermutation, IsDistinct-from_apart, apart_from_distinct, sorted_from_all_adjacent}
use Rattle.std.proofs.lemmas.Map.Views.{tells_apart}
use Rattle.std.specs.Prelude.{IsPermutation}
use Rattle.std.specs.Cmp.{IsTotalOrder}
use Rattle.std.specs.Cmp.Derive.{both_true}
use Rattle.std.specs.List.{IsDistinct, position_or_len}
use Rattle.std.specs.Ordering.{is_lt, ordering_then, ordering_reverse, MatchOrdering}
use Rattle.std.specs.declared.cmp.Ordering.{Ordering}
use Rattle.std.specs.declared.cmp.Ordering.TheVariants.{Less, Equal, Greater}
use Rattle.std.specs.BTreeMap.{BTreeMap, is_at, get, Updates}
use Rattle.map_defs.specs.Kind.{Kind, inverse}
use Rattle.sewing.specs.Triples.{Triple, Lists, ComesBefore, IsAscending}
use Rattle.sewing.specs.PairSteps.{TellsTriples, IsKept, AreApart, is_of, turn}

-- by the dart, then by the link
abbrev pub by_place : ℕ × ℕ → ℕ × ℕ → Ordering
by_place p q = ordering_then (nat_cmp p.0 q.0) (nat_cmp p.1 q.1)

by_place-total : IsTotalOrder by_place
by_place-total = then_total (on_total (λ (p : ℕ × ℕ). p.0) nat_cmp_total) (on_total (λ (p : ℕ × ℕ). p.1) nat_cmp_total)

by_place-exact : CmpEqualImpliesEq by_place
by_place-exact = exact_pairs nat_cmp nat_cmp exact_unsigned exact_unsigned

-- ---- whether a triple is that of a dart and a link
same-or-not : (a b : ℕ) → ((a ≡ b) × (nat_eq a b ≡ true)) ⊎ ((a ≡ b → ⊥) × (nat_eq a b ≡ false))
same-or-not a b = grind arith

is_of-true : (x t : ℕ) (p : Triple) → is_of x t p ≡ true → (p.x ≡ x) × (p.t ≡ t)
is_of-true x t p is = elim (same-or-not p.x x) [
  | inl e ↦ elim (same-or-not p.t t) [ inl f ↦ (e.0, f.0) | inr f ↦ absurd (false≢true (rw (e.1, f.1) at is)) ]
  | inr e ↦ absurd (false≢true (rw e.1 at is))
]

is_of-same : (x t : ℕ) (p : Triple) → p.x ≡ x → p.t ≡ t → is_of x t p ≡ true
is_of-same x t p ex et = both_true (same p.x x ex) (same p.t t et)
  where
    same : (a b : ℕ) → a ≡ b → nat_eq a b ≡ true
    same a b e = elim (same-or-not a b) [ inl p ↦ p.1 | inr p ↦ absurd (p.0 e) ]

abbrev same_place : Triple → Triple → Bool
same_place p q = is_of p.x p.t q

same_place-flips : (p q : Triple) → same_place p q ≡ same_place q p
same_place-flips p q = go (same_place p q) (same_place q p) refl refl
  where
    turned : (a b : Triple) → same_place a b ≡ true → same_place b a ≡ true
    turned a b is = let e = is_of-true a.x a.t b is in is_of-same b.x b.t a (sym e.0) (sym e.1)

    go : (r s : Bool) → same_place p q ≡ r → same_place q p ≡ s → r ≡ s
    go true true is at = refl
    go false false is at = refl
    go true false is at = sym (turned p q is) ∙ at
    go false true is at = sym is ∙ turned q p at

-- where no two triples are of one dart and link, a dart has one partner at most at a link
pub one-where-apart : (triples : List Triple) → AreApart triples → (x y z t : ℕ) → Lists triples x y t → Lists triples x z t → y ≡ z
one-where-apart triples apart x y z t p q =
    let d : Triple = record { x = x; y = y; t = t } in
    let e : Triple = record { x = x; y = z; t = t } in
    let at_i : get_or triples p.0 d ≡ d = p.2 in
    let at_j : get_or triples q.0 d ≡ e = get_or_default triples q.0 d e q.1 ∙ q.2 in
    let ex : (get_or triples p.0 d).x ≡ (get_or triples q.0 d).x = ap (λ (r : Triple). r.x) at_i ∙ sym (ap (λ (r : Triple). r.x) at_j) in
    let et : (get_or triples p.0 d).t ≡ (get_or triples q.0 d).t = ap (λ (r : Triple). r.t) at_i ∙ sym (ap (λ (r : Triple). r.t) at_j) in
    elim (cases_eq p.0 q.0) [
      | inl same ↦ ap (λ (r : Triple). r.y) (sym at_i ∙ ap (λ (k : ℕ). get_or triples k d) same ∙ at_j)
      | inr other ↦ elim (cases_lt p.0 q.0) [
        | inl lt ↦ absurd (apart p.0 q.0 d lt q.1 ex et)
        | inr ge ↦ absurd (apart q.0 p.0 d (omega arith) p.1 (sym ex) (sym et))
      ]
    ]

-- a triple of a dart without a partner at the link comes behind
pub apart-push : (triples : List Triple) (p : Triple) → ((y : ℕ) → Lists triples p.x y p.t → ⊥) → AreApart triples → AreApart (triples ++ p ∷ [])
apart-push triples p fresh apart = all_pairs_push (λ (q r : Triple). q.x ≡ r.x → q.t ≡ r.t → ⊥) triples p apart other
  where
    other : (k : ℕ) (d : Triple) → k < length triples → (get_or triples k d).x ≡ p.x → (get_or triples k d).t ≡ p.t → ⊥
    other k d within ex et =
        let q : Triple = get_or triples k d in
        let here : Contains triples q = (k, within, get_or_default triples k q d within) in
        fresh q.y (subst (λ (a : ℕ). Lists triples a q.y p.t) ex (subst (λ (b : ℕ). Lists triples q.x q.y b) et here))

-- a triple and the triple turned round, unless they are one
pub apart-two : (k : Kind) (p : Triple) → (inverse k p.t ≡ p.t → p.x ≢ p.y) → AreApart (p ∷ turn k p ∷ [])
apart-two k p moves = apart-push (p ∷ []) (turn k p) fresh (apart-push [] p (λ y has. omega (arith, has.1)) (λ i j d lt within. absurd (omega (arith, within))))
  where
    fresh : (y : ℕ) → Lists (p ∷ []) p.y y (inverse k p.t) → ⊥
    fresh y (zero, low, is) = moves (sym (ap (λ (q : Triple). q.t) is)) (ap (λ (q : Triple). q.x) is)
    fresh y (suc n, low, is) = omega (arith, low)

module _ (triples : List Triple) (apart : IsDistinct (λ p q. is_of p.x p.t q) triples) where
  pub clash : (i j : ℕ) (d : Triple) → i < j → j < length triples → (get_or triples i d).x ≡ (get_or triples j d).x → (get_or triples i d).t ≡ (get_or triples j d).t → ⊥
  clash i j d lt within ex et =
      false≢true (sym (apart_from_distinct same_place triples i j d apart lt within) ∙ is_of-same (get_or triples i d).x (get_or triples i d).t (get_or triples j d) (sym ex) (sym et))

  -- at a link a dart has one partner at most
  pub one-partner : (x y z t : ℕ) → Lists triples x y t → Lists triples x z t → y ≡ z
  one-partner = one-where-apart triples clash

-- ---- the first place where a test passes
passed-cons : {X : Type 0} (p : X → Bool) (x : X) (xs : List X) (r : Bool) → p x ≡ r → ((k : ℕ) (d : X) → k < length xs → p (get_or xs k d) ≡ true → position_or_len p xs < length xs)
    → (k : ℕ) (d : X) → k < length (x ∷ xs) → p (get_or (x ∷ xs) k d) ≡ true → position_or_len p (x ∷ xs) < length (x ∷ xs)
passed-cons p x xs true at more k d lt is = rw at (omega arith)
passed-cons p x xs false at more zero d lt is = absurd (false≢true (sym at ∙ is))
passed-cons p x xs false at more (suc k) d lt is = rw at (let later = more k d (omega arith) is in omega arith)

passed : {X : Type 0} (p : X → Bool) (xs : List X) (k : ℕ) (d : X) → k < length xs → p (get_or xs k d) ≡ true → position_or_len p xs < length xs
passed p [] k d lt is = absurd (omega arith)
passed p (x ∷ xs) k d lt is = passed-cons p x xs (p x) refl (passed p xs) k d lt is

none-passes : {X : Type 0} (p : X → Bool) (xs : List X) (k : ℕ) (d : X) → position p xs ≡ None → k < length xs → p (get_or xs k d) ≡ true → ⊥
none-passes p xs k d none lt is =
    let test : nat_lt (position_or_len p xs) (length xs) ≡ true = lt-ltb _ _ (passed p xs k d lt is) in
    let there : Some (position_or_len p xs) ≡ None = sym (ap (λ t. cond t (Some (position_or_len p xs)) None) test) ∙ none in
    absurd (cc (there))

-- ---- what a look-up finds
module _ (partner : ℕ × ℕ → Option ℕ) (triples : List Triple) (kept : IsKept partner triples) (x t : ℕ) where
  -- among the first few
  pub found-early : (place : ℕ) (q : Triple) → position (is_of x t) (take 16 triples) ≡ Some place → get_or triples place q ≡ q → (y : ℕ) → (Some q.y ≡ Some y) ↔ Lists triples x y t
  found-early place q is here y = (to, from)
    where
      first : (place < length (take 16 triples)) × (is_of x t (get_or (take 16 triples) place q) ≡ true)
      first = let p = position-Some (is_of x t) (take 16 triples) place q is in (p.0, p.1)

      there : (place < length triples) × (is_of x t q ≡ true)
      there =
          let long : length (take 16 triples) ≡ min 16 (length triples) = length-take 16 triples in
          let low : place < 16 = omega (arith, first.0, long) in
          (omega (arith, first.0, long), sym (ap (is_of x t) (get_or-take 16 triples place q low ∙ here)) ∙ first.1)

      listed : Contains triples q
      listed = (place, there.0, here)

      named : Lists triples x q.y t
      named = let e = is_of-true x t q there.1 in subst (λ (a : ℕ). Lists triples a q.y t) e.0 (subst (λ (b : ℕ). Lists triples q.x q.y b) e.1 listed)

      to : Some q.y ≡ Some y → Lists triples x y t
      to e = let same : q.y ≡ y = cc in subst (λ (b : ℕ). Lists triples x b t) same named

      from : Lists triples x y t → Some q.y ≡ Some y
      from has = ap Some (one-partner triples kept.apart x q.y y t named has)

  -- beyond them
  pub found-later : (found : Option ℕ) → position (is_of x t) (take 16 triples) ≡ None → found ≡ partner (x, t) → (y : ℕ) → (found ≡ Some y) ↔ Lists triples x y t
  found-later found none is y = (to, from)
    where
      whole : take 16 triples ++ drop 16 triples ≡ triples
      whole = take-append-drop 16 triples

      d : Triple
      d = record { x = x; y = y; t = t }

      to : found ≡ Some y → Lists triples x y t
      to e = subst (λ (l : List Triple). Contains l d) whole (Contains-append_right (take 16 triples) (drop 16 triples) d ((kept.told x y t).0 (sym is ∙ e)))

      early : Contains (take 16 triples) d → ⊥
      early has = none-passes (is_of x t) (take 16 triples) has.0 d none has.1 (ap (is_of x t) has.2 ∙ is_of-same x t d refl refl)

      from : Lists triples x y t → found ≡ Some y
      from has = elim (Contains-append_cases (take 16 triples) (drop 16 triples) d (subst (λ (l : List Triple). Contains l d) (sym whole) has)) [
        | inl h ↦ absurd (early h)
        | inr h ↦ is ∙ (kept.told x y t).1 h
      ]

-- ---- what stays kept
pub kept-none : (partner : ℕ × ℕ → Option ℕ) → ((p : ℕ × ℕ) → partner p ≡ None) → IsKept partner []
unfolding IsDistinct
kept-none partner none = record {
  apart = tt;
  told = λ x y t. (λ is. absurd (let e : None ≡ Some y = sym (none (x, t)) ∙ is in cc), λ has. absurd (omega (arith, has.1)));
}

-- a partner is told for the first time
tells-more : (m n : BTreeMap (ℕ × ℕ) ℕ) (old : List Triple) (p : Triple) → TellsTriples (get by_place m) old → get by_place m (p.x, p.t) ≡ None
    → Updates by_place m n (p.x, p.t) (Some p.y) → TellsTriples (get by_place n) (old ++ p ∷ [])
tells-more m n old p tells fresh updates x y t = (λ is. to is (is_at (by_place (p.x, p.t)) (x, t)) refl, λ has. from (Contains-push_cases old p (record { x = x; y = y; t = t }) has))
  where
    same : is_at (by_place (p.x, p.t)) (x, t) ≡ true → ◌≡◌ {A = ℕ × ℕ} (p.x, p.t) (x, t)
    same at = tells_apart by_place-exact (p.x, p.t) (x, t) at

    now : get by_place n (p.x, p.t) ≡ Some p.y
    now = updates.1

    to : get by_place n (x, t) ≡ Some y → (r : Bool) → is_at (by_place (p.x, p.t)) (x, t) ≡ r → Lists (old ++ p ∷ []) x y t
    to is true at =
        let e : ◌≡◌ {A = ℕ × ℕ} (p.x, p.t) (x, t) = same at in
        let ex : p.x ≡ x = ap (λ (q : ℕ × ℕ). q.0) e in
        let et : p.t ≡ t = ap (λ (q : ℕ × ℕ). q.1) e in
        let both : Some p.y ≡ Some y = sym now ∙ ap (get by_place n) e ∙ is in
        let ey : p.y ≡ y = cc in
        rw (← ex, ← et, ← ey) (Contains-push old p)
    to is false at = Contains-append_left old (p ∷ []) (record { x = x; y = y; t = t }) ((tells x y t).0 (sym (updates.2 (x, t) at) ∙ is))

    early : Lists old x y t → (r : Bool) → is_at (by_place (p.x, p.t)) (x, t) ≡ r → get by_place n (x, t) ≡ Some y
    early has true at =
        let e : None ≡ Some y = sym fresh ∙ ap (get by_place m) (same at) ∙ (tells x y t).1 has in
        absurd cc
    early has false at = updates.2 (x, t) at ∙ (tells x y t).1 has

    from : Lists old x y t ⊎ (p ≡ record { x = x; y = y; t = t }) → get by_place n (x, t) ≡ Some y
    from (inl has) = early has (is_at (by_place (p.x, p.t)) (x, t)) refl
    from (inr is) = subst (λ (q : Triple). get by_place n (q.x, q.t) ≡ Some q.y) is now

none-unless : (o : Option ℕ) → ((x : ℕ) → o ≡ Some x → ⊥) → o ≡ None
none-unless None h = refl
none-unless (Some x) h = absurd (h x refl)

-- a triple of a dart without a partner at the link comes behind
module _ (triples : List Triple) (p : Triple) (fresh : (y : ℕ) → Lists triples p.x y p.t → ⊥) where
  apart-more : IsDistinct (λ p q. is_of p.x p.t q) triples → IsDistinct (λ p q. is_of p.x p.t q) (triples ++ p ∷ [])
  apart-more apart =
      IsDistinct-from_apart same_place (triples ++ p ∷ [])
      (all_pairs_push (λ (q r : Triple). same_place q r ≡ false) triples p (λ i j d lt within. apart_from_distinct same_place triples i j d apart lt within) other)
    where
      other : (k : ℕ) (d : Triple) → k < length triples → same_place (get_or triples k d) p ≡ false
      other k d within = go (same_place q p) refl
        where
          q : Triple
          q = get_or triples k d

          go : (r : Bool) → same_place q p ≡ r → r ≡ false
          go false is = refl
          go true is =
              let e = is_of-true q.x q.t p is in
              let here : Contains triples q = (k, within, get_or_default triples k q d within) in
              absurd (fresh q.y (subst (λ (a : ℕ). Lists triples a q.y p.t) (sym e.0) (subst (λ (b : ℕ). Lists triples q.x q.y b) (sym e.1) here)))

  pub kept-early : (partner : ℕ × ℕ → Option ℕ) → IsKept partner triples → length triples < 16 → IsKept partner (triples ++ p ∷ [])
  kept-early partner kept few = record {
    apart = apart-more kept.apart;
    told =
        let before : drop 16 triples ≡ [] = drop_all 16 triples (omega arith) in
        let after : drop 16 (triples ++ p ∷ []) ≡ [] = drop_all 16 (triples ++ p ∷ []) (grind (arith, few)) in
        subst (TellsTriples partner) (before ∙ sym after) kept.told;
  }

  pub kept-later : (m n : BTreeMap (ℕ × ℕ) ℕ) → IsKept (get by_place m) triples → 16 ≤ length triples → Updates by_place m n (p.x, p.t) (Some p.y)
      → IsKept (get by_place n) (triples ++ p ∷ [])
  kept-later m n kept many updates = record {
    apart = apart-more kept.apart;
    told = subst (TellsTriples (get by_place n)) (sym (drop-append-le 16 triples (p ∷ []) many)) (tells-more m n (drop 16 triples) p kept.told none updates);
  }
    where
      later : (y : ℕ) → Lists (drop 16 triples) p.x y p.t → Lists triples p.x y p.t
      later y has =
          subst (λ (l : List Triple). Lists l p.x y p.t) (take-append-drop 16 triples) (Contains-append_right (take 16 triples) (drop 16 triples) (record { x = p.x; y = y; t = p.t }) has)

      none : get by_place m (p.x, p.t) ≡ None
      none = none-unless (get by_place m (p.x, p.t)) (λ y is. fresh y (later y ((kept.told p.x y p.t).0 is)))

pub kept-same : (m n : BTreeMap (ℕ × ℕ) ℕ) (triples : List Triple) → n.entries ≡ m.entries → IsKept (get by_place m) triples → IsKept (get by_place n) triples
kept-same m n triples same kept = rw same kept

-- ---- the triples in the order of the places
before-then : (p q : Triple) (a b : Ordering) → MatchOrdering a (p.x < q.x) (p.x ≡ q.x) (q.x < p.x) → MatchOrdering b (p.t < q.t) (p.t ≡ q.t) (q.t < p.t)
    → ordering_then a b ≡ Less → ComesBefore p q
before-then p q Less b first then is = inl first
before-then p q Equal Less first then is = inr (first, then)
before-then p q Equal Equal first then is = absurd cc
before-then p q Equal Greater first then is = absurd cc
before-then p q Greater b first then is = absurd cc

abbrev by_triple : Triple → Triple → Ordering
by_triple p q = by_place (p.x, p.t) (q.x, q.t)

by_triple-total : IsTotalOrder by_triple
by_triple-total = on_total (λ (p : Triple). (p.x, p.t)) by_place-total

-- a triple that is not less than another, and of another place, comes after it
comes-after : (p q : Triple) → is_lt (by_triple q p) ≡ false → same_place p q ≡ false → by_triple p q ≡ Less
comes-after p q not-less other = go (by_triple q p) refl
  where
    go : (r : Ordering) → by_triple q p ≡ r → by_triple p q ≡ Less
    go Less at = absurd (false≢true (sym not-less ∙ ap is_lt at))
    go Equal at =
        let e : ◌≡◌ {A = ℕ × ℕ} (q.x, q.t) (p.x, p.t) = by_place-exact (q.x, q.t) (p.x, p.t) at in
        absurd (false≢true (sym other ∙ is_of-same p.x p.t q (ap (λ (r : ℕ × ℕ). r.0) e) (ap (λ (r : ℕ × ℕ). r.1) e)))
    go Greater at = by_triple-total.antisymm p q ∙ ap ordering_reverse at

pub sorted-ascending : (triples sorted : List Triple) → IsDistinct (λ p q. is_of p.x p.t q) triples → IsPermutation triples sorted
    → ((k : ℕ) (d : Triple) → k + 1 < length sorted → is_lt (by_triple (get_or sorted (k + 1) d) (get_or sorted k d)) ≡ false) → IsAscending sorted
sorted-ascending triples sorted apart moved neighbours i j d lt within =
    let distinct : IsDistinct (λ p q. is_of p.x p.t q) sorted = IsDistinct-IsPermutation same_place same_place-flips triples sorted moved apart in
    let strict = sorted_from_all_adjacent by_triple-total sorted d
    (λ k inside. comes-after (get_or sorted k d) (get_or sorted (k + 1) d) (neighbours k d inside) (apart_from_distinct same_place sorted k (k + 1) d distinct (omega arith) inside)) in
    let p : Triple = get_or sorted i d in
    let q : Triple = get_or sorted j d in
    before-then p q (nat_cmp p.x q.x) (nat_cmp p.t q.t) (ranked p.x q.x (nat_cmp p.x q.x) refl) (ranked p.t q.t (nat_cmp p.t q.t) refl) (Less-from_sorted by_triple sorted i j d strict lt within)
