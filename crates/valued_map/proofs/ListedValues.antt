-- Lists of values in the order of a log.
use Rattle.std.proofs.Common.{◌≡◌, ◌≢◌, ℕ, zero, suc, ◌+◌, ◌-◌, ◌<◌, ◌≤◌, ◌⊎◌, ◌↔◌, List, [], ◌∷◌, ◌++◌, length, get_or, map, take, slice_set, append_assoc, Option, refl, sym, ap, ◌∙◌, subst, inl, inr, arith, Contains, AllPairs}
use Rattle.std.specs.List.Sorted.{IsStrictlyIncreasing}
use Rattle.std.proofs.lemmas.Bool.{cases_lt, cases_eq}
use Rattle.std.proofs.lemmas.List.{take_all, take_more, map_push, length-append, length-map, get_or_append_left, get_or-append_right, get_or-map, get_or_default, get_or-set_same, get_or-set_other, length-set}
use Rattle.std.proofs.lemmas.List.Elements.{Contains-append_left, Contains-append_right, Contains-append_cases, Contains-push, Contains-push_cases, Contains-get_or}
use Rattle.std.proofs.lemmas.List.Quantifiers.{all_pairs_push}
use Rattle.std.proofs.lemmas.List.Kept.{AllPairs-from_increasing}
use Rattle.map_defs.specs.Values.{Value, Rule}
use Rattle.machine_defs.specs.State.{Content, value_at}
use Rattle.machine_defs.specs.Difference.{ValueChange, RuleChange, IsValueBefore, IsRuleBefore}
use Rattle.store_defs.specs.Stores.{Store}
use Rattle.store_defs.specs.Labelings.{Labeling}
use Rattle.store_defs.specs.Groups.{rule_at}
use Rattle.label_laws.specs.Stored.{stored_value}
use Rattle.valued_map.specs.Told.{AreOldValues, AreNewValues, AreDiffering, AreRuleChanges, IsValueAdded, IsRuleAdded, IsPlaceBelow, old_value}

value_change : ℕ → ℕ → Option Value → Option Value → ValueChange
value_change dim dart old new = record { dim = dim; dart = dart; old = old; new = new }

pub same-value-change : (b c : ValueChange) → b.dim ≡ c.dim → b.dart ≡ c.dart → b.old ≡ c.old → b.new ≡ c.new → b ≡ c
unfolding value_change
same-value-change b c dim dart old new =
    let one : b ≡ value_change b.dim b.dart b.old b.new = refl in
    let other : c ≡ value_change c.dim c.dart c.old c.new = refl in
    cc

-- the values before and after at the same places are those that differ
pub new-differing : (Place : ℕ → ℕ → Type 0) (l m : Labeling) (p q : Store) (olds values : List ValueChange) → AreOldValues Place l p olds → AreNewValues m q olds values
    → AreDiffering Place (stored_value p l) (stored_value q m) values
new-differing Place l m p q olds values old new = record { members = λ c. (to c, back c); ordered = new.ordered old.ordered }
  where
    to : (c : ValueChange) → Contains values c → Place c.dim c.dart × (c.old ≡ stored_value p l c.dim c.dart) × (c.new ≡ stored_value q m c.dim c.dart) × (c.old ≢ c.new)
    to c held =
        let (o, there, dim, dart, same, is, differ) = (new.members c).0 held in
        let at = old.placed o there in (
          subst (λ (i : ℕ). Place i c.dart) (sym dim) (subst (Place o.dim) (sym dart) at.0),
          same ∙ at.1 ∙ ap (λ (i : ℕ). stored_value p l i o.dart) (sym dim) ∙ ap (stored_value p l c.dim) (sym dart),
          is,
          differ,
        )

    back : (c : ValueChange) → Place c.dim c.dart × (c.old ≡ stored_value p l c.dim c.dart) × (c.new ≡ stored_value q m c.dim c.dart) × (c.old ≢ c.new) → Contains values c
    back c (place, was, is, differ) =
        let (o, there, dim, dart) = old.all c.dim c.dart place in
        let at = old.placed o there in
        (new.members c).1 (
          o,
          there,
          sym dim,
          sym dart,
          was ∙ ap (λ (i : ℕ). stored_value p l i c.dart) (sym dim) ∙ ap (stored_value p l o.dim) (sym dart) ∙ sym at.1,
          is,
          differ,
        )

-- where all else stays these are the values that differ at all
pub values-differ : (Place : ℕ → ℕ → Type 0) (old new : ℕ → ℕ → Option Value) (values : List ValueChange) (a b : Content)
    → ((i d : ℕ) → Place i d → value_at a i d ≡ old i d) → ((i d : ℕ) → Place i d → value_at b i d ≡ new i d)
    → ((i d : ℕ) → Place i d ⊎ (value_at a i d ≡ value_at b i d)) → AreDiffering Place old new values
    → (c : ValueChange) → Contains values c ↔ ((c.old ≡ value_at a c.dim c.dart) × (c.new ≡ value_at b c.dim c.dart) × (c.old ≢ c.new))
values-differ Place old new values a b before after else are c = (to, back)
  where
    to : Contains values c → (c.old ≡ value_at a c.dim c.dart) × (c.new ≡ value_at b c.dim c.dart) × (c.old ≢ c.new)
    to held =
        let (place, was, is, differ) = (are.members c).0 held in
        (was ∙ sym (before c.dim c.dart place), is ∙ sym (after c.dim c.dart place), differ)

    back : (c.old ≡ value_at a c.dim c.dart) × (c.new ≡ value_at b c.dim c.dart) × (c.old ≢ c.new) → Contains values c
    back (was, is, differ) = elim (else c.dim c.dart) [
      | inl place ↦ (are.members c).1 (place, was ∙ before c.dim c.dart place, is ∙ after c.dim c.dart place, differ)
      | inr same ↦ absurd (differ (was ∙ same ∙ sym is))
    ]

-- a dart has a change in a dimension, or none
abbrev Names : List ValueChange → ℕ → ℕ → Type 0
Names values i d = (c : ValueChange) × Contains values c × (c.dim ≡ i) × (c.dart ≡ d)

named-or-not : (values : List ValueChange) (i d : ℕ) → Names values i d ⊎ (Names values i d → ⊥)
named-or-not [] i d = inr (λ named. absurd (let lt : named.1.0 < 0 = named.1.1 in omega arith))
named-or-not (v ∷ values) i d = on (cases_eq v.dim i) (cases_eq v.dart d) (named-or-not values i d)
  where
    later : Names (v ∷ values) i d → (v.dim ≡ i → v.dart ≡ d → ⊥) → Names values i d
    later (c, (zero, lt, is), dim, dart) other = absurd (other (ap (λ (x : ValueChange). x.dim) is ∙ dim) (ap (λ (x : ValueChange). x.dart) is ∙ dart))
    later (c, (suc k, lt, is), dim, dart) other = (c, (k, omega arith, is), dim, dart)

    on : (v.dim ≡ i) ⊎ (v.dim ≡ i → ⊥) → (v.dart ≡ d) ⊎ (v.dart ≡ d → ⊥) → Names values i d ⊎ (Names values i d → ⊥) → Names (v ∷ values) i d ⊎ (Names (v ∷ values) i d → ⊥)
    on (inl dim) (inl dart) rest = inl (v, (zero, omega arith, refl), dim, dart)
    on dim dart (inl (c, (k, lt, is), at, of)) = inl (c, (suc k, omega arith, is), at, of)
    on (inr other) dart (inr none) = inr (λ named. none (later named (λ e f. other e)))
    on dim (inr other) (inr none) = inr (λ named. none (later named (λ e f. other f)))

-- a place is among those whose old values are listed, or not
pub place-or-not : (Place : ℕ → ℕ → Type 0) (l : Labeling) (p : Store) (olds : List ValueChange) → AreOldValues Place l p olds → (i d : ℕ) → Place i d ⊎ (Place i d → ⊥)
place-or-not Place l p olds are i d = elim (named-or-not olds i d) [
  | inl named ↦ inl (subst (λ (j : ℕ). Place j d) named.2 (subst (Place named.0.dim) named.3 (are.placed named.0 named.1).0))
  | inr none ↦ inr (λ place. none (are.all i d place))
]

-- the values that differ, from the old ones at all places that change
pub olds-differ : (Place : ℕ → ℕ → Type 0) (l m : Labeling) (p q : Store) (olds values : List ValueChange) (a b : Content)
    → ((i d : ℕ) → value_at a i d ≡ stored_value p l i d) → ((i d : ℕ) → value_at b i d ≡ stored_value q m i d)
    → ((i d : ℕ) → (Place i d → ⊥) → value_at a i d ≡ value_at b i d) → AreOldValues Place l p olds → AreNewValues m q olds values
    → (c : ValueChange) → Contains values c ↔ ((c.old ≡ value_at a c.dim c.dart) × (c.new ≡ value_at b c.dim c.dart) × (c.old ≢ c.new))
olds-differ Place l m p q olds values a b before after outside old new =
    values-differ Place (stored_value p l) (stored_value q m) values a b (λ i d _. before i d) (λ i d _. after i d) else (new-differing Place l m p q olds values old new)
  where
    else : (i d : ℕ) → Place i d ⊎ (value_at a i d ≡ value_at b i d)
    else i d = elim (place-or-not Place l p olds old i d) [ inl place ↦ inl place | inr out ↦ inr (outside i d out) ]

-- no values yet
pub no-olds : (Place : ℕ → ℕ → Type 0) (l : Labeling) (p : Store) → ((i d : ℕ) → Place i d → ⊥) → AreOldValues Place l p []
no-olds Place l p none = record {
  placed = λ c h. absurd (let lt : h.0 < 0 = h.1 in omega arith);
  all = λ i d place. absurd (none i d place);
  ordered = λ i j d h within. absurd (omega arith);
}

pub no-differing : (Place : ℕ → ℕ → Type 0) (old new : ℕ → ℕ → Option Value) → ((i d : ℕ) → Place i d → ⊥) → AreDiffering Place old new []
no-differing Place old new none = record {
  members = λ c. ((λ h. absurd (let lt : h.0 < 0 = h.1 in omega arith)), λ h. absurd (none c.dim c.dart h.0));
  ordered = λ i j d h within. absurd (omega arith);
}

-- the same places, told otherwise
pub olds-as : (Place Other : ℕ → ℕ → Type 0) (l : Labeling) (p : Store) (values : List ValueChange) → ((i d : ℕ) → Place i d ↔ Other i d) → AreOldValues Place l p values → AreOldValues Other l p values
olds-as Place Other l p values same are = record {
  placed = λ c h. (let at = are.placed c h in ((same c.dim c.dart).0 at.0, at.1));
  all = λ i d place. are.all i d ((same i d).1 place);
  ordered = are.ordered;
}

pub differing-as : (Place Other : ℕ → ℕ → Type 0) (old new : ℕ → ℕ → Option Value) (values : List ValueChange) → ((i d : ℕ) → Place i d ↔ Other i d)
    → AreDiffering Place old new values → AreDiffering Other old new values
differing-as Place Other old new values same are = record {
  members = λ c. (
    (λ h. let at = (are.members c).0 h in ((same c.dim c.dart).0 at.0, at.1, at.2, at.3)),
    λ h. (are.members c).1 ((same c.dim c.dart).1 h.0, h.1, h.2, h.3),
  );
  ordered = are.ordered;
}

-- one dart more, which comes after the others
pub differing-more : (Place : ℕ → ℕ → Type 0) (old new : ℕ → ℕ → Option Value) (i d : ℕ) (values more : List ValueChange)
    → ((j x : ℕ) → Place j x → (j < i) ⊎ ((j ≡ i) × (x < d)))
    → AreDiffering Place old new values → IsValueAdded (record { dim = i; dart = d; old = old i d; new = new i d }) values more
    → AreDiffering (λ j x. Place j x ⊎ ((j ≡ i) × (x ≡ d))) old new more
differing-more Place old new i d values more before are (inl (same, kept)) =
    subst (AreDiffering (λ j x. Place j x ⊎ ((j ≡ i) × (x ≡ d))) old new) (sym kept)
    (record {
      members = λ c. (
        (λ h. let at = (are.members c).0 h in (inl at.0, at.1, at.2, at.3)),
        λ h. (elim h.0 [
          | inl place ↦ (are.members c).1 (place, h.1, h.2, h.3)
          | inr here ↦ absurd (h.3 (h.1 ∙ ap (λ (j : ℕ). old j c.dart) here.0 ∙ ap (old i) here.1 ∙ same
              ∙ sym (h.2 ∙ ap (λ (j : ℕ). new j c.dart) here.0 ∙ ap (new i) here.1)))
        ]),
      );
      ordered = are.ordered;
    })
differing-more Place old new i d values more before are (inr (differ, pushed)) =
    subst (AreDiffering (λ j x. Place j x ⊎ ((j ≡ i) × (x ≡ d))) old new) (sym pushed)
    (record { members = λ c. (to c, back c); ordered = all_pairs_push IsValueBefore values here are.ordered front })
  where
    here : ValueChange
    here = record { dim = i; dart = d; old = old i d; new = new i d }

    front : (j : ℕ) (z : ValueChange) → j < length values → IsValueBefore (get_or values j z) here
    front j z lt = let at = (are.members (get_or values j z)).0 (Contains-get_or values j z lt) in before (get_or values j z).dim (get_or values j z).dart at.0

    to : (c : ValueChange) → Contains (values ++ here ∷ []) c → (Place c.dim c.dart ⊎ ((c.dim ≡ i) × (c.dart ≡ d))) × (c.old ≡ old c.dim c.dart) × (c.new ≡ new c.dim c.dart) × (c.old ≢ c.new)
    to c held = elim (Contains-push_cases values here c held) [
      | inl early ↦ (let at = (are.members c).0 early in (inl at.0, at.1, at.2, at.3))
      | inr last ↦ subst (λ (x : ValueChange). (Place x.dim x.dart ⊎ ((x.dim ≡ i) × (x.dart ≡ d))) × (x.old ≡ old x.dim x.dart) × (x.new ≡ new x.dim x.dart) × (x.old ≢ x.new)) last
          (inr (refl, refl), refl, refl, differ)
    ]

    back : (c : ValueChange) → (Place c.dim c.dart ⊎ ((c.dim ≡ i) × (c.dart ≡ d))) × (c.old ≡ old c.dim c.dart) × (c.new ≡ new c.dim c.dart) × (c.old ≢ c.new) → Contains (values ++ here ∷ []) c
    back c (inl place, was, is, other) = Contains-append_left values (here ∷ []) c ((are.members c).1 (place, was, is, other))
    back c (inr (dim, dart), was, is, other) =
        subst (Contains (values ++ here ∷ []))
        (same-value-change here c (sym dim) (sym dart)
        (sym (was ∙ ap (λ (j : ℕ). old j c.dart) dim ∙ ap (old i) dart)) (sym (is ∙ ap (λ (j : ℕ). new j c.dart) dim ∙ ap (new i) dart)))
        (Contains-push values here)

held-map : (f : ℕ → ValueChange) (xs : List ℕ) (x : ℕ) → Contains xs x → Contains (map f xs) (f x)
held-map f xs x (k, lt, is) = (k, omega (arith, length-map xs f), get_or-map f xs k x (f x) lt ∙ ap f is)

-- the values of darts of one more dimension
module _ (Place : ℕ → ℕ → Type 0) (l : Labeling) (p : Store) (i : ℕ) (values : List ValueChange) (darts : List ℕ) (before : (j x : ℕ) → Place j x → j < i)
    (rising : IsStrictlyIncreasing darts) (are : AreOldValues Place l p values) where
  abbrev Wider : ℕ → ℕ → Type 0
  Wider j x = Place j x ⊎ ((j ≡ i) × Contains darts x)

  abbrev more : List ValueChange
  more = map (old_value l p i) darts

  more-is : (c : ValueChange) → Contains more c → Wider c.dim c.dart × (c.old ≡ stored_value p l c.dim c.dart)
  more-is c (k, lt, is) =
      let short : length more ≡ length darts = length-map darts (old_value l p i) in
      let within : k < length darts = omega arith in
      let at : get_or more k c ≡ old_value l p i (get_or darts k 0) = get_or-map (old_value l p i) darts k 0 c within in
      let here : old_value l p i (get_or darts k 0) ≡ c = sym at ∙ is in
      subst (λ (x : ValueChange). Wider x.dim x.dart × (x.old ≡ stored_value p l x.dim x.dart)) here
      (inr (refl, Contains-get_or darts k 0 within), refl)

  placed : (c : ValueChange) → Contains (values ++ more) c → Wider c.dim c.dart × (c.old ≡ stored_value p l c.dim c.dart)
  placed c held = elim (Contains-append_cases values more c held) [
    | inl early ↦ (let at = are.placed c early in (inl at.0, at.1))
    | inr late ↦ more-is c late
  ]

  all : (j x : ℕ) → Wider j x → (c : ValueChange) × Contains (values ++ more) c × (c.dim ≡ j) × (c.dart ≡ x)
  all j x (inl place) = let (c, held, dim, dart) = are.all j x place in (c, Contains-append_left values more c held, dim, dart)
  all j x (inr (dim, held)) = (
    old_value l p i x,
    Contains-append_right values more (old_value l p i x) (held-map (old_value l p i) darts x held),
    sym dim,
    refl,
  )

  ordered : AllPairs IsValueBefore (values ++ more)
  ordered a b z lt within = elim (cases_lt b (length values)) [
    | inl early ↦ subst (λ (c : ValueChange). IsValueBefore c (get_or (values ++ more) b z)) (sym (get_or_append_left values more z a (omega arith)))
        (subst (IsValueBefore (get_or values a z)) (sym (get_or_append_left values more z b early)) (are.ordered a b z lt early))
    | inr late ↦ elim (cases_lt a (length values)) [
      | inl early ↦ subst (λ (c : ValueChange). IsValueBefore c (get_or (values ++ more) b z)) (sym (get_or_append_left values more z a early))
          (subst (IsValueBefore (get_or values a z)) (sym (at-late b late within))
          (inl (let at = are.placed (get_or values a z) (Contains-get_or values a z early) in before (get_or values a z).dim (get_or values a z).dart at.0)))
      | inr both ↦ subst (λ (c : ValueChange). IsValueBefore c (get_or (values ++ more) b z)) (sym (at-late a both (omega arith)))
          (subst (IsValueBefore (old_value l p i (get_or darts (a - length values) 0))) (sym (at-late b late within))
          (inr (refl, AllPairs-from_increasing darts rising (a - length values) (b - length values) 0 (omega arith) (omega (arith, long, within)))))
    ]
  ]
    where
      long : length (values ++ more) ≡ length values + length darts
      long = length-append values more ∙ ap (λ (m : ℕ). length values + m) (length-map darts (old_value l p i))

      at-late : (k : ℕ) → length values ≤ k → k < length (values ++ more) → get_or (values ++ more) k z ≡ old_value l p i (get_or darts (k - length values) 0)
      at-late k late inside = get_or-append_right values more (length values) k z refl late ∙ get_or-map (old_value l p i) darts (k - length values) 0 z (omega (arith, long, inside, late))

  pub olds-more : AreOldValues Wider l p (values ++ more)
  olds-more = record { placed = placed; all = all; ordered = ordered }

-- one element more of a list that is told
pub map-more : (f : ℕ → ValueChange) (xs : List ℕ) (k x : ℕ) (start now : List ValueChange) → k < length xs → x ≡ get_or xs k 0 → now ≡ start ++ map f (take k xs)
    → now ++ f x ∷ [] ≡ start ++ map f (take (k + 1) xs)
map-more f xs k x start now lt is told =
    ap (λ (vs : List ValueChange). vs ++ f x ∷ []) told ∙ append_assoc start (map f (take k xs)) (f x ∷ [])
    ∙ ap (λ (vs : List ValueChange). start ++ vs)
    (sym (map_push f (take k xs) x) ∙ ap (λ (y : ℕ). map f (take k xs ++ y ∷ [])) is ∙ ap (map f) (sym (take_more xs k 0 lt)))

pub map-all : (f : ℕ → ValueChange) (xs : List ℕ) (k : ℕ) (start now : List ValueChange) → length xs ≤ k → now ≡ start ++ map f (take k xs) → now ≡ start ++ map f xs
map-all f xs k start now all told = told ∙ ap (λ (ys : List ℕ). start ++ map f ys) (take_all k xs all)

-- the change with the value of its place as it is now
abbrev pub renewed : (ℕ → ℕ → Option Value) → ValueChange → ValueChange
renewed w c = record { dim = c.dim; dart = c.dart; old = c.old; new = w c.dim c.dart }

-- the first changes have their new values, and the others are as they were
pub record AreRenewed (w : ℕ → ℕ → Option Value) (olds : List ValueChange) (below : ℕ) (values : List ValueChange) : Type 0 where
  pub long : length values ≡ length olds
  pub done : (k : ℕ) (z : ValueChange) → k < below → k < length olds → get_or values k z ≡ renewed w (get_or olds k z)
  pub left : (k : ℕ) (z : ValueChange) → below ≤ k → get_or values k z ≡ get_or olds k z

pub renewed-none : (w : ℕ → ℕ → Option Value) (olds : List ValueChange) → AreRenewed w olds 0 olds
renewed-none w olds = record { long = refl; done = λ k z lt within. absurd (omega arith); left = λ k z le. refl }

pub renewed-more : (w : ℕ → ℕ → Option Value) (olds : List ValueChange) (k : ℕ) (values : List ValueChange) (change : ValueChange) → k < length values
    → ((z : ValueChange) → change ≡ get_or values k z) → AreRenewed w olds k values → AreRenewed w olds (k + 1) (slice_set values k (renewed w change))
renewed-more w olds k values change within is are = record {
  long = length-set values k (renewed w change) ∙ are.long;
  done = done;
  left = λ h z le. get_or-set_other values k h (renewed w change) z (λ e. omega arith) ∙ are.left h z (omega arith);
}
  where
    done : (h : ℕ) (z : ValueChange) → h < k + 1 → h < length olds → get_or (slice_set values k (renewed w change)) h z ≡ renewed w (get_or olds h z)
    done h z lt low = elim (cases_eq h k) [
      | inl same ↦ ap (λ (m : ℕ). get_or (slice_set values k (renewed w change)) m z) same ∙ get_or-set_same values k (renewed w change) z within
          ∙ ap (renewed w) (is z ∙ are.left k z (omega arith) ∙ ap (λ (m : ℕ). get_or olds m z) (sym same))
      | inr other ↦ get_or-set_other values k h (renewed w change) z other ∙ are.done h z (omega arith) low
    ]

pub renewed-new : (l : Labeling) (p : Store) (olds : List ValueChange) (k : ℕ) (values kept : List ValueChange) → length values ≤ k → AreRenewed (stored_value p l) olds k values
    → ((c : ValueChange) → Contains kept c ↔ (Contains values c × (c.old ≢ c.new)))
    → (AllPairs IsValueBefore values → AllPairs IsValueBefore kept)
    → AreNewValues l p olds kept
renewed-new l p olds k values kept all are kept_are ordered = record { members = λ c. (to c, back c); ordered = λ old. ordered (pairs old) }
  where
    at : (h : ℕ) (z : ValueChange) → h < length olds → get_or values h z ≡ renewed (stored_value p l) (get_or olds h z)
    at h z low = are.done h z (omega (arith, are.long)) low

    to : (c : ValueChange) → Contains kept c → (o : ValueChange) × Contains olds o × (c.dim ≡ o.dim) × (c.dart ≡ o.dart) × (c.old ≡ o.old) × (c.new ≡ stored_value p l c.dim c.dart) × (c.old ≢ c.new)
    to c held =
        let there = (kept_are c).0 held in
        let h : ℕ = there.0.0 in
        let low : h < length olds = omega (arith, there.0.1, are.long) in
        let is : renewed (stored_value p l) (get_or olds h c) ≡ c = sym (at h c low) ∙ there.0.2 in (
          get_or olds h c,
          Contains-get_or olds h c low,
          sym (ap (λ (x : ValueChange). x.dim) is),
          sym (ap (λ (x : ValueChange). x.dart) is),
          sym (ap (λ (x : ValueChange). x.old) is),
          subst (λ (x : ValueChange). x.new ≡ stored_value p l x.dim x.dart) is refl,
          there.1,
        )

    back : (c : ValueChange) → (o : ValueChange) × Contains olds o × (c.dim ≡ o.dim) × (c.dart ≡ o.dart) × (c.old ≡ o.old) × (c.new ≡ stored_value p l c.dim c.dart) × (c.old ≢ c.new) → Contains kept c
    back c (o, (h, low, is), dim, dart, old, new, differ) =
        (kept_are c).1 (
          (
            h,
            omega (arith, low, are.long),
            at h c low ∙ ap (renewed (stored_value p l)) (get_or_default olds h c o low ∙ is)
                ∙ same-value-change (renewed (stored_value p l) o) c (sym dim) (sym dart) (sym old)
                (ap (λ (i : ℕ). stored_value p l i o.dart) (sym dim) ∙ ap (stored_value p l c.dim) (sym dart) ∙ sym new),
          ),
          differ,
        )

    pairs : AllPairs IsValueBefore olds → AllPairs IsValueBefore values
    pairs old a b z lt within =
        let low : b < length olds = omega (arith, are.long) in
        subst (λ (x : ValueChange). IsValueBefore x (get_or values b z)) (sym (at a z (omega arith)))
        (subst (IsValueBefore (renewed (stored_value p l) (get_or olds a z))) (sym (at b z low)) (old a b z lt low))

-- the value at one place, put there by parts
pub renewed-put : (w : ℕ → ℕ → Option Value) (olds : List ValueChange) (k : ℕ) (values : List ValueChange) (x y z z' : ValueChange) (v : Option Value) → k < length values
    → x ≡ get_or values k z → y ≡ get_or values k z' → v ≡ w y.dim y.dart → AreRenewed w olds k values
    → AreRenewed w olds (k + 1) (slice_set values k (record { dim = x.dim; dart = x.dart; old = x.old; new = v }))
renewed-put w olds k values x y z z' v within is same told are =
    let other : y ≡ x = same ∙ get_or_default values k z' z within ∙ sym is in
    subst (λ (u : Option Value). AreRenewed w olds (k + 1) (slice_set values k (record { dim = x.dim; dart = x.dart; old = x.old; new = u })))
    (sym (told ∙ ap (λ (c : ValueChange). w c.dim c.dart) other))
    (renewed-more w olds k values x within (λ u. is ∙ get_or_default values k z u within) are)

-- the values of a cell
pub cell-olds : (l : Labeling) (p : Store) (i : ℕ) (darts : List ℕ) (Cell : ℕ → Type 0) (values : List ValueChange) → IsStrictlyIncreasing darts → ((d : ℕ) → Contains darts d ↔ Cell d)
    → values ≡ map (old_value l p i) darts → AreOldValues (λ j x. (j ≡ i) × Cell x) l p values
cell-olds l p i darts Cell values rising are told =
    olds-as (λ j x. ⊥ ⊎ ((j ≡ i) × Contains darts x)) (λ j x. (j ≡ i) × Cell x) l p values
    (λ j x. (λ h. (elim h [ inl none ↦ absurd none | inr at ↦ (at.0, (are x).0 at.1) ]), λ h. inr (h.0, (are x).1 h.1)))
    (subst (AreOldValues (λ j x. ⊥ ⊎ ((j ≡ i) × Contains darts x)) l p) (sym told)
    (olds-more (λ j x. ⊥) l p i [] darts (λ j x none. absurd none) rising (no-olds (λ j x. ⊥) l p (λ j x none. none))))

-- the darts 1 to number of dimension m come after those of the dimensions before
abbrev pub IsTurnedPlace : ℕ → ℕ → ℕ → ℕ → ℕ → Type 0
IsTurnedPlace m made number i d = IsPlaceBelow m made i d ⊎ ((i ≡ m) × (0 < d) × (d ≤ number))

pub turned-none : (m made i d : ℕ) → IsPlaceBelow m made i d ↔ IsTurnedPlace m made 0 i d
turned-none m made i d = (λ h. inl h, λ h. (elim h [ inl place ↦ place | inr here ↦ absurd (let low = here.1 in let high = here.2 in omega arith) ]))

pub turned-more : (m made number i d : ℕ) → (IsTurnedPlace m made number i d ⊎ ((i ≡ m) × (d ≡ number + 1))) ↔ IsTurnedPlace m made (number + 1) i d
turned-more m made number i d = (to, back)
  where
    to : IsTurnedPlace m made number i d ⊎ ((i ≡ m) × (d ≡ number + 1)) → IsTurnedPlace m made (number + 1) i d
    to (inl (inl place)) = inl place
    to (inl (inr (dim, low, high))) = inr (dim, low, omega arith)
    to (inr (dim, last)) = inr (dim, omega arith, omega arith)

    back : IsTurnedPlace m made (number + 1) i d → IsTurnedPlace m made number i d ⊎ ((i ≡ m) × (d ≡ number + 1))
    back (inl place) = inl (inl place)
    back (inr (dim, low, high)) = elim (cases_eq d (number + 1)) [
      | inl last ↦ inr (dim, last)
      | inr other ↦ inl (inr (dim, low, omega arith))
    ]

pub turned-before : (m made number : ℕ) (j x : ℕ) → IsTurnedPlace m made number j x → (j < m) ⊎ ((j ≡ m) × (x < number + 1))
turned-before m made number j x (inl place) = inl place.0
turned-before m made number j x (inr (dim, low, high)) = inr (dim, omega arith)

pub turned-all : (m made number i d : ℕ) → number ≡ made → IsTurnedPlace m made number i d ↔ IsPlaceBelow (m + 1) made i d
turned-all m made number i d whole = (to, back)
  where
    to : IsTurnedPlace m made number i d → IsPlaceBelow (m + 1) made i d
    to (inl (low, some, few)) = (omega arith, some, few)
    to (inr (dim, some, few)) = (omega arith, some, omega arith)

    back : IsPlaceBelow (m + 1) made i d → IsTurnedPlace m made number i d
    back (low, some, few) = elim (cases_eq i m) [
      | inl same ↦ inr (same, some, omega arith)
      | inr other ↦ inl (omega arith, some, few)
    ]

-- the rules of no dimension, and of one more
pub no-rule-changes : (old new : List (Option Rule)) → AreRuleChanges 0 old new []
no-rule-changes old new = record {
  members = λ c. ((λ h. absurd (let lt : h.0 < 0 = h.1 in omega arith)), λ h. absurd (let low = h.0 in omega arith));
  ordered = λ i j d h within. absurd (omega arith);
}

rule_change : ℕ → Option Rule → Option Rule → RuleChange
rule_change dim old new = record { dim = dim; old = old; new = new }

same-rule-change : (b c : RuleChange) → b.dim ≡ c.dim → b.old ≡ c.old → b.new ≡ c.new → b ≡ c
unfolding rule_change
same-rule-change b c dim old new =
    let one : b ≡ rule_change b.dim b.old b.new = refl in
    let other : c ≡ rule_change c.dim c.old c.new = refl in
    cc

pub rule-changes-more : (m : ℕ) (old new : List (Option Rule)) (changes more : List RuleChange) → AreRuleChanges m old new changes
    → IsRuleAdded (record { dim = m; old = rule_at old m; new = rule_at new m }) changes more → AreRuleChanges (m + 1) old new more
rule-changes-more m old new changes more are (inl (same, kept)) =
    subst (AreRuleChanges (m + 1) old new) (sym kept)
    (record {
      members = λ c. (
        (λ h. let at = (are.members c).0 h in let low = at.0 in (omega arith, at.1, at.2, at.3)),
        λ h. (elim (cases_eq c.dim m) [
          | inl here ↦ absurd (h.3 (h.1 ∙ ap (rule_at old) here ∙ same ∙ sym (h.2 ∙ ap (rule_at new) here)))
          | inr other ↦ (are.members c).1 (let low = h.0 in omega arith, h.1, h.2, h.3)
        ]),
      );
      ordered = are.ordered;
    })
rule-changes-more m old new changes more are (inr (differ, pushed)) =
    subst (AreRuleChanges (m + 1) old new) (sym pushed)
    (record { members = λ c. (to c, back c); ordered = all_pairs_push IsRuleBefore changes here are.ordered front })
  where
    here : RuleChange
    here = record { dim = m; old = rule_at old m; new = rule_at new m }

    front : (j : ℕ) (z : RuleChange) → j < length changes → IsRuleBefore (get_or changes j z) here
    front j z lt = ((are.members (get_or changes j z)).0 (Contains-get_or changes j z lt)).0

    to : (c : RuleChange) → Contains (changes ++ here ∷ []) c → (c.dim < m + 1) × (c.old ≡ rule_at old c.dim) × (c.new ≡ rule_at new c.dim) × (c.old ≢ c.new)
    to c held = elim (Contains-push_cases changes here c held) [
      | inl early ↦ (let at = (are.members c).0 early in let low = at.0 in (omega arith, at.1, at.2, at.3))
      | inr last ↦ subst (λ (x : RuleChange). (x.dim < m + 1) × (x.old ≡ rule_at old x.dim) × (x.new ≡ rule_at new x.dim) × (x.old ≢ x.new)) last (omega arith, refl, refl, differ)
    ]

    back : (c : RuleChange) → (c.dim < m + 1) × (c.old ≡ rule_at old c.dim) × (c.new ≡ rule_at new c.dim) × (c.old ≢ c.new) → Contains (changes ++ here ∷ []) c
    back c (low, was, is, other) = elim (cases_eq c.dim m) [
      | inl dim ↦ subst (Contains (changes ++ here ∷ [])) (same-rule-change here c (sym dim) (sym (was ∙ ap (rule_at old) dim)) (sym (is ∙ ap (rule_at new) dim))) (Contains-push changes here)
      | inr early ↦ Contains-append_left changes (here ∷ []) c ((are.members c).1 (omega arith, was, is, other))
    ]
