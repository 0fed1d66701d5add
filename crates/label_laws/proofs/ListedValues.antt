-- Values that are listed one after another.
use Rattle.std.proofs.Common.{ℕ, ◌≡◌, ◌≢◌, ◌⊎◌, ◌↔◌, ◌+◌, ◌-◌, ◌<◌, inl, inr, refl, sym, ap, subst, ◌∙◌, List, [], ◌∷◌, ◌++◌, length, get_or, take, append_assoc, Option, Some, None, Contains, arith}
use Rattle.std.specs.List.Sorted.{IsStrictlyIncreasing}
use Rattle.std.proofs.lemmas.Bool.{cases_lt, cases_eq}
use Rattle.std.proofs.lemmas.List.{append-nil, length-append, length-take-le, get_or_append_left, get_or-append_right, get_or-take, get_or_default}
use Rattle.std.proofs.lemmas.List.Kept.{AllPairs-from_increasing}
use Rattle.std.proofs.lemmas.List.Elements.{Contains-append_left, Contains-append_right, Contains-append_cases, Contains-push, Contains-push_cases, Contains-get_or}
use Rattle.map_defs.specs.Kind.{Kind}
use Rattle.map_defs.specs.Rows.{Rows, links_of}
use Rattle.map_defs.specs.Cells.{NamesCell}
use Rattle.machine_defs.specs.State.{value_at}
use Rattle.map_defs.specs.Values.{Value, Rule}
use Rattle.machine_defs.specs.Listing.{ListValue, IsBefore, ListsValues, ListsValuesIn}
use Rattle.store_defs.specs.Stores.{Store}
use Rattle.store_defs.specs.Labelings.{Labeling, id_of}
use Rattle.store_defs.specs.Groups.{labelled_value}
use Rattle.label_laws.specs.Stored.{stored_value}
use Rattle.label_laws.specs.Contents.{content_of}
use Rattle.label_laws.specs.Maps.{IsStoredMap}
use Rattle.label_laws.specs.Lists.{AreListed, IsNamed, listed}
use Rattle.label_laws.proofs.Showing.{value-shown, id-low}
use Rattle.label_laws.proofs.Loops.{head-more, head-none}

no-value-held : (v : ListValue) → Contains [] v → ⊥
no-value-held v h = let lt : h.0 < 0 = h.1 in omega arith

-- nothing is listed of no places
pub listed-none : (l : Labeling) (p : Store) (Among : ℕ → ℕ → Type 0) → ((i d : ℕ) → Among i d → ⊥) → AreListed l p Among []
listed-none l p Among none = record {
  members = λ v. (λ h. absurd (no-value-held v h), λ h. absurd (none v.dim v.dart h.0));
  ordered = λ j k d lt le. absurd (omega arith);
}

-- the same places, as far as they have values
pub listed-told : (l : Labeling) (p : Store) (Among Other : ℕ → ℕ → Type 0) (values : List ListValue) → ((i d : ℕ) (v : Value) → stored_value p l i d ≡ Some v → Among i d ↔ Other i d)
    → AreListed l p Among values → AreListed l p Other values
listed-told l p Among Other values same a = record {
  members = λ v. (
    λ h. (let m = (a.members v).0 h in ((same v.dim v.dart v.value m.1).0 m.0, m.1)),
    λ h. (a.members v).1 ((same v.dim v.dart v.value h.1).1 h.0, h.1),
  );
  ordered = a.ordered;
}

-- a value behind all others
ordered-push : (values : List ListValue) (w : ListValue) → ((j k : ℕ) (d : ListValue) → j < k → k < length values → IsBefore (get_or values j d) (get_or values k d))
    → ((v : ListValue) → Contains values v → IsBefore v w)
    → (j k : ℕ) (d : ListValue) → j < k → k < length (values ++ w ∷ []) → IsBefore (get_or (values ++ w ∷ []) j d) (get_or (values ++ w ∷ []) k d)
ordered-push values w ordered last j k d lt le = elim (cases_lt k (length values)) [
  | inl within ↦ subst (λ (v : ListValue). IsBefore v (get_or (values ++ w ∷ []) k d)) (sym (get_or_append_left values (w ∷ []) d j (omega arith)))
      (subst (λ (v : ListValue). IsBefore (get_or values j d) v) (sym (get_or_append_left values (w ∷ []) d k within)) (ordered j k d lt within))
  | inr at ↦
      let is : k ≡ length values = omega (arith, length-append values (w ∷ [])) in
      let there : get_or (values ++ w ∷ []) k d ≡ w =
      get_or-append_right values (w ∷ []) (length values) k d refl at ∙ ap (λ (n : ℕ). get_or (w ∷ []) n d) (let z : k - length values ≡ 0 = omega arith in z) in
      subst (λ (v : ListValue). IsBefore v (get_or (values ++ w ∷ []) k d)) (sym (get_or_append_left values (w ∷ []) d j (omega arith)))
      (subst (λ (v : ListValue). IsBefore (get_or values j d) v) (sym there) (last (get_or values j d) (Contains-get_or values j d (omega arith))))
]

abbrev line : ℕ → ℕ → Value → ListValue
line i d v = record { dim = i; dart = d; value = v }

-- one place more, behind all others
pub listed-more : (l : Labeling) (p : Store) (Among : ℕ → ℕ → Type 0) (values : List ListValue) (i d : ℕ) → AreListed l p Among values
    → ((j e : ℕ) → Among j e → (j < i) ⊎ ((j ≡ i) × (e < d)))
    → AreListed l p (λ j e. Among j e ⊎ ((j ≡ i) × (e ≡ d))) (values ++ listed i d (stored_value p l i d))
listed-more l p Among values i d a before = go (stored_value p l i d) refl
  where
    More : ℕ → ℕ → Type 0
    More j e = Among j e ⊎ ((j ≡ i) × (e ≡ d))

    stored_value-there : (v : ListValue) → v.dim ≡ i → v.dart ≡ d → stored_value p l v.dim v.dart ≡ stored_value p l i d
    stored_value-there v e f = ap (λ (j : ℕ). stored_value p l j v.dart) e ∙ ap (λ (x : ℕ). stored_value p l i x) f

    none-to : (v : ListValue) → stored_value p l i d ≡ None → More v.dim v.dart → stored_value p l v.dim v.dart ≡ Some v.value → Contains values v
    none-to v none (inl m) is = (a.members v).1 (m, is)
    none-to v none (inr at) is = absurd (let same = stored_value-there v at.0 at.1 in cc (same, none, is))

    some-to : (v : ListValue) (w : Value) → stored_value p l i d ≡ Some w → More v.dim v.dart → stored_value p l v.dim v.dart ≡ Some v.value → Contains (values ++ line i d w ∷ []) v
    some-to v w some (inl m) is = Contains-append_left values (line i d w ∷ []) v ((a.members v).1 (m, is))
    some-to v w some (inr at) is =
        let value : w ≡ v.value = (let same = stored_value-there v at.0 at.1 in cc (same, some, is)) in
        let one : line i d w ≡ line v.dim v.dart v.value = ap (λ (j : ℕ). line j d w) (sym at.0) ∙ ap (λ (x : ℕ). line v.dim x w) (sym at.1) ∙ ap (line v.dim v.dart) value in
        subst (Contains (values ++ line i d w ∷ [])) one (Contains-push values (line i d w))

    some-from : (v : ListValue) (w : Value) → stored_value p l i d ≡ Some w → Contains values v ⊎ (line i d w ≡ v) → More v.dim v.dart × (stored_value p l v.dim v.dart ≡ Some v.value)
    some-from v w some (inl h) = let m = (a.members v).0 h in (inl m.0, m.1)
    some-from v w some (inr e) = subst (λ (x : ListValue). More x.dim x.dart × (stored_value p l x.dim x.dart ≡ Some x.value)) e (inr (refl, refl), some)

    go : (o : Option Value) → stored_value p l i d ≡ o → AreListed l p More (values ++ listed i d o)
    go None none = subst (AreListed l p More) (sym (append-nil values)) (record {
      members = λ v. (λ h. (let m = (a.members v).0 h in (inl m.0, m.1)), λ h. none-to v none h.0 h.1);
      ordered = a.ordered;
    })
    go (Some w) some = record {
      members = λ v. (λ h. some-from v w some (Contains-push_cases values (line i d w) v h), λ h. some-to v w some h.0 h.1);
      ordered = ordered-push values (line i d w) a.ordered (λ v h. before v.dim v.dart ((a.members v).0 h).0);
    }

-- the cells of a dimension, one after another
abbrev pub IsSoFar : ℕ → List ℕ → ℕ → ℕ → Type 0
IsSoFar i cells j e = (j ≡ i) × Contains cells e

-- these cells were listed behind what stood before
pub record AreBehind (l : Labeling) (p : Store) (i : ℕ) (cells : List ℕ) (old values : List ListValue) : Type 0 where
  pub behind : List ListValue
  pub is : values ≡ old ++ behind
  pub listed : AreListed l p (IsSoFar i cells) behind

pub cells-begun : (l : Labeling) (p : Store) (i : ℕ) (cells : List ℕ) (old : List ListValue) → AreBehind l p i (take 0 cells) old old
cells-begun l p i cells old = record {
  behind = [];
  is = sym (append-nil old);
  listed = listed-none l p (IsSoFar i (take 0 cells)) (λ j e h. head-none cells e h.1);
}

taken-below : (cells : List ℕ) (k e : ℕ) → IsStrictlyIncreasing cells → k < length cells → Contains (take k cells) e → e < get_or cells k 0
taken-below cells k e up lt h =
    let long : length (take k cells) ≡ k = length-take-le k cells (omega arith) in
    let there : h.0 < k = (let within : h.0 < length (take k cells) = h.1 in omega arith) in
    let is : get_or cells h.0 e ≡ e = sym (get_or-take k cells h.0 e there) ∙ h.2 in
    let less : get_or cells h.0 e < get_or cells k e = AllPairs-from_increasing cells up h.0 k e there lt in
    let same : get_or cells k e ≡ get_or cells k 0 = get_or_default cells k e 0 lt in
    omega arith

pub cells-more : (l : Labeling) (p : Store) (i : ℕ) (cells : List ℕ) (at : ℕ) (old values new : List ListValue) → IsStrictlyIncreasing cells → at < length cells
    → AreBehind l p i (take at cells) old values → new ≡ values ++ listed i (get_or cells at 0) (stored_value p l i (get_or cells at 0)) → AreBehind l p i (take (at + 1) cells) old new
cells-more l p i cells at old values new up lt a is = record {
  behind = a.behind ++ next;
  is = is ∙ ap (λ (front : List ListValue). front ++ next) a.is ∙ append_assoc old a.behind next;
  listed = listed-told l p (λ j e. IsSoFar i (take at cells) j e ⊎ ((j ≡ i) × (e ≡ get_or cells at 0))) (IsSoFar i (take (at + 1) cells)) (a.behind ++ next)
      (λ j e v _. (to j e, from j e)) (listed-more l p (IsSoFar i (take at cells)) a.behind i (get_or cells at 0) a.listed before);
}
  where
    next : List ListValue
    next = listed i (get_or cells at 0) (stored_value p l i (get_or cells at 0))

    before : (j e : ℕ) → IsSoFar i (take at cells) j e → (j < i) ⊎ ((j ≡ i) × (e < get_or cells at 0))
    before j e x = inr (x.0, taken-below cells at e up lt x.1)

    to : (j e : ℕ) → IsSoFar i (take at cells) j e ⊎ ((j ≡ i) × (e ≡ get_or cells at 0)) → IsSoFar i (take (at + 1) cells) j e
    to j e (inl x) = (x.0, (head-more cells at e lt).1 (inl x.1))
    to j e (inr x) = (x.0, (head-more cells at e lt).1 (inr x.1))

    from : (j e : ℕ) → IsSoFar i (take (at + 1) cells) j e → IsSoFar i (take at cells) j e ⊎ ((j ≡ i) × (e ≡ get_or cells at 0))
    from j e x = elim ((head-more cells at e lt).0 x.1) [ inl y ↦ inl (x.0, y) | inr y ↦ inr (x.0, y) ]

-- the values of one dimension
abbrev pub OfDimension : Kind → Rows → ℕ → ℕ → ℕ → Type 0
OfDimension k rows i j e = (j ≡ i) × IsNamed k rows j e

-- the values of the dimensions below one
abbrev pub BelowDimension : Kind → Rows → ℕ → ℕ → ℕ → Type 0
BelowDimension k rows i j e = (j < i) × IsNamed k rows j e

pub cells-all : (k : Kind) (rows : Rows) (l : Labeling) (p : Store) (i : ℕ) (cells : List ℕ) (values : List ListValue) → ((d : ℕ) → Contains cells d ↔ IsNamed k rows i d)
    → AreListed l p (IsSoFar i cells) values → AreListed l p (OfDimension k rows i) values
cells-all k rows l p i cells values are a =
    listed-told l p (IsSoFar i cells) (OfDimension k rows i) values (λ j e v _. (
      λ x. (x.0, subst (λ (h : ℕ). IsNamed k rows h e) (sym x.0) ((are e).0 x.1)),
      λ x. (x.0, (are e).1 (subst (λ (h : ℕ). IsNamed k rows h e) x.0 x.1)),
    )) a

-- a dimension without ids has no values
pub listed-bare : (k : Kind) (rows : Rows) (l : Labeling) (p : Store) (i : ℕ) → ((d : ℕ) → id_of l i d ≡ None) → AreListed l p (OfDimension k rows i) []
listed-bare k rows l p i bare = record {
  members = λ v. (λ h. absurd (no-value-held v h), λ h. absurd (none v h.0.0 h.1));
  ordered = λ j k d lt le. absurd (omega arith);
}
  where
    none : (v : ListValue) → v.dim ≡ i → stored_value p l v.dim v.dart ≡ Some v.value → ⊥
    none v is some = let none : stored_value p l v.dim v.dart ≡ None = ap (λ (x : ℕ). stored_value p l x v.dart) is ∙ ap (labelled_value p) (bare v.dart) in cc (none, some)

-- one list behind another, all of whose values come later
ordered-append : (values others : List ListValue) → ((j k : ℕ) (d : ListValue) → j < k → k < length values → IsBefore (get_or values j d) (get_or values k d))
    → ((j k : ℕ) (d : ListValue) → j < k → k < length others → IsBefore (get_or others j d) (get_or others k d))
    → ((v w : ListValue) → Contains values v → Contains others w → IsBefore v w)
    → (j k : ℕ) (d : ListValue) → j < k → k < length (values ++ others) → IsBefore (get_or (values ++ others) j d) (get_or (values ++ others) k d)
ordered-append values others one two across j k d lt le = elim (cases_lt k (length values)) [
  | inl within ↦ subst (λ (v : ListValue). IsBefore v (get_or (values ++ others) k d)) (sym (get_or_append_left values others d j (omega arith)))
      (subst (λ (v : ListValue). IsBefore (get_or values j d) v) (sym (get_or_append_left values others d k within)) (one j k d lt within))
  | inr past ↦
      let long = length-append values others in
      let last : k - length values < length others = omega arith in
      let there : get_or (values ++ others) k d ≡ get_or others (k - length values) d = get_or-append_right values others (length values) k d refl past in
      subst (λ (v : ListValue). IsBefore (get_or (values ++ others) j d) v) (sym there) (elim (cases_lt j (length values)) [
        | inl first ↦ subst (λ (v : ListValue). IsBefore v (get_or others (k - length values) d)) (sym (get_or_append_left values others d j first))
            (across (get_or values j d) (get_or others (k - length values) d) (Contains-get_or values j d first) (Contains-get_or others (k - length values) d last))
        | inr beyond ↦ subst (λ (v : ListValue). IsBefore v (get_or others (k - length values) d)) (sym (get_or-append_right values others (length values) j d refl beyond))
            (two (j - length values) (k - length values) d (omega arith) last)
      ])
]

-- the values of a dimension behind those of the lower ones
pub listed-behind : (k : Kind) (rows : Rows) (l : Labeling) (p : Store) (i : ℕ) (values others : List ListValue) → AreListed l p (BelowDimension k rows i) values → AreListed l p (OfDimension k rows i) others
    → AreListed l p (BelowDimension k rows (i + 1)) (values ++ others)
listed-behind k rows l p i values others a b = record {
  members = λ v. (λ h. to v (Contains-append_cases values others v h), λ h. from v h.0 h.1 (cases_eq v.dim i));
  ordered = ordered-append values others a.ordered b.ordered (λ v w held there.
      let low : v.dim < i = ((a.members v).0 held).0.0 in
      let is : w.dim ≡ i = ((b.members w).0 there).0.0 in
      inl (omega arith));
}
  where
    to : (v : ListValue) → Contains values v ⊎ Contains others v → BelowDimension k rows (i + 1) v.dim v.dart × (stored_value p l v.dim v.dart ≡ Some v.value)
    to v (inl h) = let m = (a.members v).0 h in ((let low : v.dim < i = m.0.0 in omega arith, m.0.1), m.1)
    to v (inr h) = let m = (b.members v).0 h in ((let is : v.dim ≡ i = m.0.0 in omega arith, m.0.1), m.1)

    from : (v : ListValue) → BelowDimension k rows (i + 1) v.dim v.dart → stored_value p l v.dim v.dart ≡ Some v.value → (v.dim ≡ i) ⊎ (v.dim ≢ i) → Contains (values ++ others) v
    from v h some (inl is) = Contains-append_right values others v ((b.members v).1 ((is, h.1), some))
    from v h some (inr other) = Contains-append_left values others v ((a.members v).1 ((let low : v.dim < i + 1 = h.0 in omega arith, h.1), some))

-- all cells of a map with values are listed
module _ (k : Kind) (n : ℕ) (rows : Rows) (l : Labeling) (p : Store) (rules : List (Option Rule)) (s : IsStoredMap k n rows l p rules) (values : List ListValue) where
  has-id : (o : Option ℕ) (v : Value) → labelled_value p o ≡ Some v → (c : ℕ) × (o ≡ Some c)
  has-id None v e = absurd (cc e)
  has-id (Some c) v e = (c, refl)

  pub lists-values : AreListed l p (λ i d. (i < n + 1) × IsNamed k rows i d) values → ListsValues (content_of k n rows l p rules) values
  lists-values a = record {
    members = λ v. (
      λ h. (let m = (a.members v).0 h in (value-shown k n rows l p rules s v.dim v.dart ∙ m.1, m.0.1.1)),
      λ h. (let is : stored_value p l v.dim v.dart ≡ Some v.value = sym (value-shown k n rows l p rules s v.dim v.dart) ∙ h.0 in
          let c = has-id (id_of l v.dim v.dart) v.value is in
          (a.members v).1 ((id-low k n rows l p rules s v.dim v.dart c.0 c.1, (s.stored.live v.dim v.dart c.0 c.1, h.1)), is)),
    );
    ordered = a.ordered;
  }

  pub lists-values-in : (i : ℕ) → AreListed l p (OfDimension k rows i) values → ListsValuesIn (content_of k n rows l p rules) i values
  lists-values-in i a = record {
    members = λ v. (
      λ h. (let m = (a.members v).0 h in (m.0.0, shown v m.0.0 ∙ m.1, subst (λ (j : ℕ). NamesCell k (links_of rows) j v.dart) m.0.0 m.0.1.1)),
      λ h. (let is : stored_value p l v.dim v.dart ≡ Some v.value = sym (shown v h.0) ∙ h.1 in
          let c = has-id (id_of l v.dim v.dart) v.value is in
          (a.members v).1 ((h.0, (s.stored.live v.dim v.dart c.0 c.1, subst (λ (j : ℕ). NamesCell k (links_of rows) j v.dart) (sym h.0) h.2)), is)),
    );
    ordered = a.ordered;
  }
    where
      shown : (v : ListValue) → v.dim ≡ i → value_at (content_of k n rows l p rules) i v.dart ≡ stored_value p l v.dim v.dart
      shown v is = ap (λ (j : ℕ). value_at (content_of k n rows l p rules) j v.dart) (sym is) ∙ value-shown k n rows l p rules s v.dim v.dart
