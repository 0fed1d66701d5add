-- What a map shows of its values: those that the ids stand for, each in its place.
use Rattle.std.proofs.Common.{ℕ, zero, suc, ◌≡◌, ◌⊎◌, ◌+◌, ◌<◌, ◌≤◌, inl, inr, refl, sym, ap, subst, ◌∙◌, List, [], ◌∷◌, length, get_or, map, replicate, ext_get_or, Option, Some, None, IsSome, arith}
use Rattle.std.specs.List.{range_with_len}
use Rattle.std.proofs.lemmas.Bool.{false≢true, cases_lt}
use Rattle.std.proofs.lemmas.List.{get_or_past, length-replicate}
use Rattle.std.proofs.lemmas.List.FromFn.{length-map-range_with_len, get_or-map-range_with_len}
use Rattle.map_defs.specs.Kind.{Kind}
use Rattle.map_defs.specs.Rows.{Rows, IsLive, links_of}
use Rattle.map_defs.specs.Values.{Value, Rule}
use Rattle.machine_defs.specs.State.{empty_content, no_values, value_at, HasPlaces}
use Rattle.machine_defs.specs.Kept.{IsLawfulContent}
use Rattle.link_laws.proofs.Told.{told_of_laws}
use Rattle.edit_laws.proofs.RowWrites.{live-within}
use Rattle.machine_laws.proofs.Born.{no-value}
use Rattle.store_defs.specs.Stores.{Store}
use Rattle.store_defs.specs.Labelings.{Labeling, id_of}
use Rattle.store_defs.specs.Groups.{rule_at, labelled_value}
use Rattle.label_laws.specs.Stored.{stored_value}
use Rattle.label_laws.specs.Contents.{table, all_rules, content_of}
use Rattle.label_laws.specs.Maps.{IsStoredMap}
use Rattle.label_laws.proofs.Relabelling.{stored_value-equal}

-- what stands in a table
pub table-long : (n places : ℕ) (value : ℕ → ℕ → Option Value) → length (table n places value) ≡ places
table-long n places value = length-map-range_with_len (λ (d : ℕ). map (λ (i : ℕ). value i d) (range_with_len 0 (n + 1))) 0 places

pub table-place : (n places : ℕ) (value : ℕ → ℕ → Option Value) (d : ℕ) → d < places → get_or (table n places value) d [] ≡ map (λ (i : ℕ). value i d) (range_with_len 0 (n + 1))
table-place n places value d h = get_or-map-range_with_len (λ (d : ℕ). map (λ (i : ℕ). value i d) (range_with_len 0 (n + 1))) 0 places d d [] h (omega arith)

pub table-at : (n places : ℕ) (value : ℕ → ℕ → Option Value) (i d : ℕ) → d < places → i < n + 1 → get_or (get_or (table n places value) d []) i None ≡ value i d
table-at n places value i d h lt =
    ap (λ (vs : List (Option Value)). get_or vs i None) (table-place n places value d h)
    ∙ get_or-map-range_with_len (λ (j : ℕ). value j d) 0 (n + 1) i i None lt (omega arith)

-- the value at each place of a table is the one it is made of, where there is none elsewhere
pub table-value : (n places : ℕ) (value : ℕ → ℕ → Option Value) → ((i d : ℕ) → n + 1 ≤ i → value i d ≡ None) → ((i d : ℕ) → places ≤ d → value i d ≡ None)
    → (i d : ℕ) → get_or (get_or (table n places value) d []) i None ≡ value i d
table-value n places value high beyond i d = elim (cases_lt d places) [
  | inl h ↦ elim (cases_lt i (n + 1)) [
    | inl lt ↦ table-at n places value i d h lt
    | inr ge ↦ ap (λ (vs : List (Option Value)). get_or vs i None) (table-place n places value d h)
        ∙ get_or_past (map (λ (j : ℕ). value j d) (range_with_len 0 (n + 1))) i None (omega (arith, length-map-range_with_len (λ (j : ℕ). value j d) 0 (n + 1)))
        ∙ sym (high i d ge)
  ]
  | inr past ↦ ap (λ (vs : List (Option Value)). get_or vs i None) (get_or_past (table n places value) d [] (omega (arith, table-long n places value))) ∙ sym (beyond i d past)
]

-- the rules as they are shown
pub rule-shown : (n i : ℕ) (rules : List (Option Rule)) → get_or (all_rules n rules) i None ≡ rule_at rules i
rule-shown n i [] = no-rule (n + 1) i
  where
    no-rule : (m i : ℕ) → get_or (replicate m None) i None ≡ (let none : Option Rule = None in none)
    no-rule zero i = refl
    no-rule (suc m) zero = refl
    no-rule (suc m) (suc i) = no-rule m i
rule-shown n i (rule ∷ rules) = refl

pub rules-long : (n : ℕ) (rules : List (Option Rule)) → (rules ≡ []) ⊎ (length rules ≡ n + 1) → length (all_rules n rules) ≡ n + 1
rules-long n [] long = length-replicate (n + 1) (let none : Option Rule = None in none)
rules-long n (rule ∷ rules) (inl e) = absurd (omega (arith, ap (λ (rs : List (Option Rule)). length rs) e))
rules-long n (rule ∷ rules) (inr e) = e

no-rules : (i : ℕ) (rules : List (Option Rule)) → rules ≡ [] → rule_at rules i ≡ None
no-rules i rules e = ap (λ (rs : List (Option Rule)). rule_at rs i) e

-- a dimension with a rule is one of the map's
pub ruled-low : (n i : ℕ) (rules : List (Option Rule)) → (rules ≡ []) ⊎ (length rules ≡ n + 1) → IsSome (rule_at rules i) → i < n + 1
ruled-low n i rules (inl e) some = absurd (false≢true (subst (λ (o : Option Rule). IsSome o) (no-rules i rules e) some))
ruled-low n i rules (inr e) some = elim (cases_lt i (n + 1)) [
  | inl lt ↦ lt
  | inr ge ↦ absurd (false≢true (subst (λ (o : Option Rule). IsSome o) (get_or_past rules i None (omega arith)) some))
]

some-rule : (o : Option Rule) → (o ≡ None → ⊥) → IsSome o
some-rule None h = absurd (h refl)
some-rule (Some r) h = refl

module _ (k : Kind) (n : ℕ) (rows : Rows) (l : Labeling) (p : Store) (rules : List (Option Rule)) (s : IsStoredMap k n rows l p rules) where
  -- a dimension that has an id is one of the map's
  pub id-low : (i d c : ℕ) → id_of l i d ≡ Some c → i < n + 1
  id-low i d c e = ruled-low n i rules s.ruled (some-rule (rule_at rules i) (λ none. let f = s.bare i d none in cc (e, f)))

  none-unless : (i d : ℕ) → ((c : ℕ) → id_of l i d ≡ Some c → ⊥) → stored_value p l i d ≡ None
  none-unless i d no-id = ap (labelled_value p) (go (id_of l i d) refl)
    where
      go : (o : Option ℕ) → id_of l i d ≡ o → id_of l i d ≡ None
      go None e = e
      go (Some c) e = absurd (no-id c e)

  pub stored_value-dead : (i d : ℕ) → (IsLive rows d → ⊥) → stored_value p l i d ≡ None
  stored_value-dead i d dead = none-unless i d (λ c e. dead (s.stored.live i d c e))

  pub value-shown : (i d : ℕ) → value_at (content_of k n rows l p rules) i d ≡ stored_value p l i d
  value-shown = table-value n (length rows) (stored_value p l)
      (λ i d high. none-unless i d (λ c e. let low = id-low i d c e in omega arith))
      (λ i d past. stored_value-dead i d (λ live. let within = live-within rows d live in omega arith))

  -- above the dimension of the map there are no values
  pub value-low : (i d : ℕ) → n + 1 ≤ i → value_at (content_of k n rows l p rules) i d ≡ None
  value-low i d above = value-shown i d ∙ none-unless i d (λ c e. let low = id-low i d c e in omega arith)

  pub places-shown : HasPlaces (content_of k n rows l p rules)
  places-shown = record {
    long = table-long n (length rows) (stored_value p l);
    wide = λ d h. ap (λ (vs : List (Option Value)). length vs) (table-place n (length rows) (stored_value p l) d h) ∙ length-map-range_with_len (λ (i : ℕ). stored_value p l i d) 0 (n + 1);
    none = λ i d dead. value-shown i d ∙ stored_value-dead i d dead;
  }

  pub kept-shown : IsLawfulContent (content_of k n rows l p rules)
  kept-shown = record {
    flat = s.flat;
    sound = s.sound;
    begun = s.begun;
    lawful = told_of_laws k (links_of rows) s.laws;
    places = places-shown;
    ruled = rules-long n rules s.ruled;
    equal = λ i x y live cell. value-shown i x ∙ stored_value-equal k n rows rows s.laws s.laws l p s.stored i x y live cell ∙ sym (value-shown i y);
    none = λ i d none. value-shown i d ∙ ap (labelled_value p) (s.bare i d (sym (rule-shown n i rules) ∙ none));
  }

-- a map without darts and ids shows the machine's first content
pub begun-content : (k : Kind) (n : ℕ) (l : Labeling) (p : Store) → ((i d : ℕ) → id_of l i d ≡ None) → content_of k n (None ∷ []) l p [] ≡ empty_content k n
begun-content k n l p bare = ap (λ (vs : List (Option Value)). record (empty_content k n) { values = vs ∷ [] }) row
  where
    one : ℕ → Option Value
    one i = stored_value p l i 0

    row : map (λ (i : ℕ). stored_value p l i 0) (range_with_len 0 (n + 1)) ≡ no_values n
    row =
        let long = length-map-range_with_len one 0 (n + 1) in
        let long' = length-replicate (n + 1) (let none : Option Value = None in none) in
        ext_get_or None (map one (range_with_len 0 (n + 1))) (no_values n) (omega arith)
        (λ i h. get_or-map-range_with_len one 0 (n + 1) i i None (omega arith) (omega arith) ∙ ap (labelled_value p) (bare i 0) ∙ sym (no-value (n + 1) i))
