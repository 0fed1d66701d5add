-- The values of a difference put forward and taken back.
use Rattle.std.proofs.Common.{◌≡◌, ◌≢◌, ℕ, zero, suc, ◌+◌, ◌-◌, ◌<◌, ◌≤◌, List, [], ◌∷◌, ◌++◌, length, get_or, set, take, replicate, Option, None, refl, sym, ap, ◌∙◌, inl, inr, arith, AllPairs}
use Rattle.std.specs.Prelude.{All}
use Rattle.std.proofs.lemmas.Bool.{cases_lt, cases_eq}
use Rattle.std.proofs.lemmas.List.{ext_get_or, get_or-set_same, get_or-set_other, get_or_past, get_or_append_left, get_or-append_right, get_or-replicate, set-set, set-get_or, length-set, length-append, length-replicate, take_at}
use Rattle.std.proofs.lemmas.List.Elements.{All-contains, Contains-get_or}
use Rattle.map_defs.specs.Values.{Value}
use Rattle.machine_defs.specs.State.{Content, value_at, no_values}
use Rattle.machine_defs.specs.Difference.{Difference, ValueChange, IsDifference, with_value, valued, unvalued}
use Rattle.journal_laws.proofs.ContentFacts.{value-cases}
use Rattle.journal_laws.specs.Following.{Follows}

abbrev pub Values : Type 0
Values = List (List (Option Value))

-- the values of a dart, and one of them
abbrev pub list_of : Values → ℕ → List (Option Value)
list_of values d = get_or values d []

abbrev pub value_of : Values → ℕ → ℕ → Option Value
value_of values i d = get_or (list_of values d) i None

-- no value is changed twice
abbrev pub IsOnce : List ValueChange → Type 0
IsOnce cs = AllPairs (λ (b c : ValueChange). b.dim ≡ c.dim → b.dart ≡ c.dart → ⊥) cs

list-same : (values : Values) (i d : ℕ) (v : Option Value) → list_of (with_value values i d v) d ≡ set (list_of values d) i v
list-same values i d v = elim (cases_lt d (length values)) [
  | inl within ↦ get_or-set_same values d (set (list_of values d) i v) [] within
  | inr past ↦
      get_or_past (with_value values i d v) d [] (omega (arith, length-set values d (set (list_of values d) i v)))
      ∙ sym (ap (λ (l : List (Option Value)). set l i v) (get_or_past values d [] past))
]

list-other : (values : Values) (i d : ℕ) (v : Option Value) (x : ℕ) → x ≢ d → list_of (with_value values i d v) x ≡ list_of values x
list-other values i d v x other = get_or-set_other values d x (set (list_of values d) i v) [] other

width-kept : (values : Values) (i d : ℕ) (v : Option Value) (x : ℕ) → length (list_of (with_value values i d v) x) ≡ length (list_of values x)
width-kept values i d v x = elim (cases_eq x d) [
  | inl same ↦
      ap (λ (y : ℕ). length (list_of (with_value values i d v) y)) same ∙ ap length (list-same values i d v)
      ∙ length-set (list_of values d) i v ∙ sym (ap (λ (y : ℕ). length (list_of values y)) same)
  | inr other ↦ ap length (list-other values i d v x other)
]

value-kept : (values : Values) (i d : ℕ) (v : Option Value) (j x : ℕ) → (j ≡ i → x ≡ d → ⊥) → value_of (with_value values i d v) j x ≡ value_of values j x
value-kept values i d v j x apart = elim (cases_eq x d) [
  | inl same ↦
      ap (value_of (with_value values i d v) j) same ∙ ap (λ (l : List (Option Value)). get_or l j None) (list-same values i d v)
      ∙ get_or-set_other (list_of values d) i j v None (λ e. apart e same) ∙ sym (ap (value_of values j) same)
  | inr other ↦ ap (λ (l : List (Option Value)). get_or l j None) (list-other values i d v x other)
]

value-set : (values : Values) (i d : ℕ) (v : Option Value) → i < length (list_of values d) → value_of (with_value values i d v) i d ≡ v
value-set values i d v within =
    ap (λ (l : List (Option Value)). get_or l i None) (list-same values i d v) ∙ get_or-set_same (list_of values d) i v None within

-- the old value written back
value-back : (values : Values) (i d : ℕ) (v : Option Value) → with_value (with_value values i d v) i d (value_of values i d) ≡ values
value-back values i d v =
    ap (λ (l : List (Option Value)). set (with_value values i d v) d (set l i (value_of values i d))) (list-same values i d v)
    ∙ set-set values d (set (list_of values d) i v) (set (set (list_of values d) i v) i (value_of values i d))
    ∙ ap (set values d) (set-set (list_of values d) i v (value_of values i d) ∙ set-get_or (list_of values d) i None)
    ∙ set-get_or values d []

pub valued-length : (cs : List ValueChange) (values : Values) → length (valued cs values) ≡ length values
valued-length [] values = refl
valued-length (c ∷ cs) values = valued-length cs (with_value values c.dim c.dart c.new) ∙ length-set values c.dart _

pub valued-width : (cs : List ValueChange) (values : Values) (x : ℕ) → length (list_of (valued cs values) x) ≡ length (list_of values x)
valued-width [] values x = refl
valued-width (c ∷ cs) values x = valued-width cs (with_value values c.dim c.dart c.new) x ∙ width-kept values c.dim c.dart c.new x

-- a place that no change names keeps its value
pub untouched : (cs : List ValueChange) (values : Values) (i d : ℕ) → All (λ (c : ValueChange). i ≡ c.dim → d ≡ c.dart → ⊥) cs
    → value_of (valued cs values) i d ≡ value_of values i d
untouched [] values i d other = refl
untouched (c ∷ cs) values i d other =
    untouched cs (with_value values c.dim c.dart c.new) i d (λ k z h. other (suc k) z (omega arith))
    ∙ value-kept values c.dim c.dart c.new i d (other 0 c (omega arith))

-- a place that a change names has its new value
pub touched : (cs : List ValueChange) (values : Values) → All (λ (c : ValueChange). c.dim < length (list_of values c.dart)) cs → IsOnce cs
    → All (λ (c : ValueChange). value_of (valued cs values) c.dim c.dart ≡ c.new) cs
touched [] values within once k z h = absurd (omega arith)
touched (c ∷ cs) values within once zero z h =
    untouched cs (with_value values c.dim c.dart c.new) c.dim c.dart (λ k y l. once 0 (suc k) y (omega arith) (omega arith))
    ∙ value-set values c.dim c.dart c.new (within 0 c (omega arith))
touched (c ∷ cs) values within once (suc k) z h =
    touched cs (with_value values c.dim c.dart c.new)
    (λ p y l. let kept = width-kept values c.dim c.dart c.new (get_or cs p y).dart in let low = within (suc p) y (omega arith) in omega arith)
    (λ i j y m l. once (suc i) (suc j) y (omega arith) (omega arith)) k z (omega arith)

-- changes that name what stands, each place once, are taken back by their old values
pub unvalued-valued : (cs : List ValueChange) (values : Values) → All (λ (c : ValueChange). value_of values c.dim c.dart ≡ c.old) cs → IsOnce cs
    → unvalued cs (valued cs values) ≡ values
unvalued-valued [] values stands once = refl
unvalued-valued (c ∷ cs) values stands once =
    let next : Values = with_value values c.dim c.dart c.new in
    let rest : All (λ (b : ValueChange). value_of next b.dim b.dart ≡ b.old) cs = λ k z h.
    value-kept values c.dim c.dart c.new (get_or cs k z).dim (get_or cs k z).dart
    (λ same dart. once 0 (suc k) z (omega arith) (omega arith) (sym same) (sym dart))
    ∙ stands (suc k) z (omega arith) in
    let apart : IsOnce cs = λ i j z h l. once (suc i) (suc j) z (omega arith) (omega arith) in
    ap (λ (v : Values). with_value v c.dim c.dart c.old) (unvalued-valued cs next rest apart)
    ∙ ap (with_value next c.dim c.dart) (sym (stands 0 c (omega arith)))
    ∙ value-back values c.dim c.dart c.new

-- new places have no value
born-value : (n births i j : ℕ) → value_of (replicate births (no_values n)) i j ≡ None
born-value n births i j = elim (cases_lt j births) [
  | inl within ↦ ap (λ (l : List (Option Value)). get_or l i None) (get_or-replicate births j (no_values n) [] within) ∙ none (n + 1) i
  | inr past ↦ ap (λ (l : List (Option Value)). get_or l i None) (get_or_past (replicate births (no_values n)) j [] (omega (arith, length-replicate births (no_values n))))
]
  where
    none : (m i : ℕ) → get_or (replicate m (let o : Option Value = None in o)) i None ≡ None
    none zero i = refl
    none (suc m) zero = refl
    none (suc m) (suc i) = none m i

births-value : (n births : ℕ) (values : Values) (i d : ℕ) → value_of (values ++ replicate births (no_values n)) i d ≡ value_of values i d
births-value n births values i d = elim (cases_lt d (length values)) [
  | inl old ↦ ap (λ (l : List (Option Value)). get_or l i None) (get_or_append_left values (replicate births (no_values n)) [] d old)
  | inr new ↦
      ap (λ (l : List (Option Value)). get_or l i None) (get_or-append_right values (replicate births (no_values n)) (length values) d [] refl new)
      ∙ born-value n births i (d - length values) ∙ sym (ap (λ (l : List (Option Value)). get_or l i None) (get_or_past values d [] new))
]

module _ (a b : Content) (s : Difference) (f : Follows a b) (is : IsDifference a b s) where
  start : Values
  start = a.values ++ replicate s.edit.births (no_values a.dim)

  start-long : length start ≡ length b.values
  unfolding start
  start-long =
      length-append a.values (replicate s.edit.births (no_values a.dim))
      ∙ omega (arith, length-replicate s.edit.births (no_values a.dim), f.places.long, f.next_places.long, is.born)

  start-wide : (d : ℕ) → d < length b.values → length (list_of start d) ≡ length (list_of b.values d)
  unfolding start
  start-wide d within = elim (cases_lt d (length a.values)) [
    | inl old ↦
        ap length (get_or_append_left a.values (replicate s.edit.births (no_values a.dim)) [] d old) ∙ f.places.wide d (omega (arith, f.places.long)) ∙ next
    | inr new ↦
        ap length
        (get_or-append_right a.values (replicate s.edit.births (no_values a.dim)) (length a.values) d [] refl new
        ∙ get_or-replicate s.edit.births (d - length a.values) (no_values a.dim) [] (omega (arith, f.places.long, f.next_places.long, is.born)))
        ∙ length-replicate (a.dim + 1) (let o : Option Value = None in o) ∙ next
  ]
    where
      next : a.dim + 1 ≡ length (list_of b.values d)
      next = sym (f.next_places.wide d (omega (arith, f.next_places.long)) ∙ ap (λ (m : ℕ). m + 1) f.dim)

  start-value : (i d : ℕ) → value_of start i d ≡ value_at a i d
  unfolding start
  start-value i d = births-value a.dim s.edit.births a.values i d

  once : IsOnce s.values
  once i j z h l same dart = elim (is.values_ordered i j z h l) [ inl p ↦ omega arith | inr p ↦ (let q = p.1 in omega arith) ]

  stands : All (λ (c : ValueChange). value_of start c.dim c.dart ≡ c.old) s.values
  stands p z h =
      let c : ValueChange = get_or s.values p z in
      start-value c.dim c.dart ∙ sym ((is.values c).0 (Contains-get_or s.values p z h)).0

  -- past the places there is no value, before and after
  none-past : (i d : ℕ) → length (list_of start d) ≤ i → value_at a i d ≡ value_at b i d
  none-past i d past = sym (start-value i d) ∙ get_or_past (list_of start d) i None past ∙ sym next
    where
      next : value_at b i d ≡ None
      next = elim (cases_lt d (length b.values)) [
        | inl within ↦ get_or_past (list_of b.values d) i None (let e = start-wide d within in omega arith)
        | inr beyond ↦ ap (λ (l : List (Option Value)). get_or l i None) (get_or_past b.values d [] beyond)
      ]

  within : All (λ (c : ValueChange). c.dim < length (list_of start c.dart)) s.values
  within p z h =
      let c : ValueChange = get_or s.values p z in
      let m = (is.values c).0 (Contains-get_or s.values p z h) in
      elim (cases_lt c.dim (length (list_of start c.dart))) [
        | inl low ↦ low
        | inr past ↦ absurd (m.2 (m.0 ∙ none-past c.dim c.dart past ∙ sym m.1))
      ]

  value-on : (i d : ℕ) → value_of (valued s.values start) i d ≡ value_at b i d
  value-on i d = value-cases (value_at a i d ≡ value_at b i d) (value_of (valued s.values start) i d) (value_at b i d) kept changed
    where
      kept : value_at a i d ≡ value_at b i d → value_of (valued s.values start) i d ≡ value_at b i d
      kept same =
          let other : All (λ (c : ValueChange). i ≡ c.dim → d ≡ c.dart → ⊥) s.values = λ p z h dim dart.
          let c : ValueChange = get_or s.values p z in
          let m = (is.values c).0 (Contains-get_or s.values p z h) in
          m.2 (m.0 ∙ ap (λ (j : ℕ). value_at a j c.dart) (sym dim) ∙ ap (value_at a i) (sym dart) ∙ same
          ∙ ap (value_at b i) dart ∙ ap (λ (j : ℕ). value_at b j c.dart) dim ∙ sym m.1) in
          untouched s.values start i d other ∙ start-value i d ∙ same

      changed : (value_at a i d ≡ value_at b i d → ⊥) → value_of (valued s.values start) i d ≡ value_at b i d
      changed differ =
          let c : ValueChange = record { dim = i; dart = d; old = value_at a i d; new = value_at b i d } in
          All-contains (λ (c : ValueChange). value_of (valued s.values start) c.dim c.dart ≡ c.new) s.values c
          (touched s.values start within once) ((is.values c).1 (refl, refl, differ))

  on : valued s.values start ≡ b.values
  on =
      ext_get_or [] (valued s.values start) b.values (valued-length s.values start ∙ start-long)
      (λ d h.
      let below : d < length b.values = (let e = valued-length s.values start in let e' = start-long in omega arith) in
      ext_get_or None (list_of (valued s.values start) d) (list_of b.values d) (valued-width s.values start d ∙ start-wide d below)
      (λ i l. value-on i d))

  pub values-on : valued s.values (a.values ++ replicate s.edit.births (no_values a.dim)) ≡ b.values
  unfolding start
  values-on = on

  pub values-back : take (length b.values - s.edit.births) (unvalued s.values b.values) ≡ a.values
  unfolding start
  values-back =
      let cut : length b.values - s.edit.births ≡ length a.values = omega (arith, f.places.long, f.next_places.long, is.born) in
      ap (λ (m : ℕ). take m (unvalued s.values b.values)) cut
      ∙ ap (λ (v : Values). take (length a.values) (unvalued s.values v)) (sym on)
      ∙ ap (take (length a.values)) (unvalued-valued s.values start stands once)
      ∙ take_at a.values (replicate s.edit.births (no_values a.dim)) (length a.values) refl
