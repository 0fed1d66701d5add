-- Labels and pools that tell the same ids and values.
use Rattle.std.proofs.Common.{ℕ, ◌≡◌, ◌+◌, refl, sym, ap, subst, ◌∙◌, List, [], length, get_or, map, ext_get_or, Option, Some, None, IsSome, arith}
use Rattle.std.specs.List.{range_with_len}
use Rattle.std.proofs.lemmas.List.FromFn.{length-map-range_with_len, get_or-map-range_with_len}
use Rattle.map_defs.specs.Kind.{Kind}
use Rattle.map_defs.specs.Links.{Links}
use Rattle.map_defs.specs.Rows.{Rows}
use Rattle.map_defs.specs.Values.{Value, Rule, Hook, Meaning, meaning_of}
use Rattle.map_defs.specs.Carry.{IsCarried, AreCarried, IsValuedWith, known}
use Rattle.map_defs.specs.Touched.{IsAlike}
use Rattle.map_defs.specs.Cells.{InCell}
use Rattle.value_laws.proofs.Renaming.{renamed}
use Rattle.store_defs.specs.Stores.{Store}
use Rattle.store_defs.specs.Labelings.{Labeling, id_of, KeepsIds}
use Rattle.store_defs.specs.Groups.{Group, labelled_value, known_value, HasCarriedValue}
use Rattle.label_laws.specs.Stored.{stored_value, AreStored}
use Rattle.label_laws.specs.Contents.{table, content_of}

slots-same : (p q : Store) → q.slots ≡ p.slots → (o : Option ℕ) → labelled_value q o ≡ labelled_value p o
slots-same p q e None = refl
slots-same p q e (Some c) = ap (λ (xs : List (Option Value)). get_or xs c None) e

pub stored_value-alike : (l m : Labeling) (p q : Store) → KeepsIds l m → q.slots ≡ p.slots → (i d : ℕ) → stored_value q m i d ≡ stored_value p l i d
stored_value-alike l m p q ids e i d = ap (labelled_value q) (ids i d) ∙ slots-same p q e (id_of l i d)

pub stored-alike : (k : Kind) (L : Links) (Live : ℕ → Type 0) (l m : Labeling) (p q : Store) → KeepsIds l m → q.slots ≡ p.slots → AreStored k L Live l p → AreStored k L Live m q
stored-alike k L Live l m p q ids same s = record {
  live = λ i d c e. s.live i d c (sym (ids i d) ∙ e);
  held = λ i d c e. subst (λ (xs : List (Option Value)). IsSome (get_or xs c None)) (sym same) (s.held i d c (sym (ids i d) ∙ e));
  whole = λ i d x c e cell. ids i x ∙ s.whole i d x c (sym (ids i d) ∙ e) cell;
  apart = λ i d j x c e f. s.apart i d j x c (sym (ids i d) ∙ e) (sym (ids j x) ∙ f);
}

pub carried-pool : (k : Kind) (L : Links) (Live : ℕ → Type 0) (l : Labeling) (p q : Store) (hook : Hook) (rules : List (Option Rule)) (g : Group) → q.slots ≡ p.slots
    → HasCarriedValue k L Live (id_of l) p hook rules g → HasCarriedValue k L Live (id_of l) q hook rules g
carried-pool k L Live l p q hook rules g e h rule d is here =
    renamed Live (IsAlike (id_of l g.dim)) (IsAlike (id_of l g.dim)) (InCell k L g.dim) (λ x y _ _. ((λ a. a), λ a. a)) (meaning_of hook rule)
    (known_value p (id_of l g.dim)) (known_value q (id_of l g.dim)) (λ x _ _. ap known (sym (slots-same p q e (id_of l g.dim x)))) d g.value (h rule d is here)

-- values that are the same everywhere are carried alike
pub carried-alike : (k : Kind) (i : ℕ) (rule : Meaning) (L : Links) (Live : ℕ → Type 0) (values other : ℕ → Option Value) (N : Links) (LiveAfter : ℕ → Type 0) (after last : ℕ → Option Value)
    → ((x : ℕ) → other x ≡ values x) → ((x : ℕ) → last x ≡ after x) → AreCarried k i rule L Live values N LiveAfter after → AreCarried k i rule L Live other N LiveAfter last
carried-alike k i rule L Live values other N LiveAfter after last same end a d h =
    subst (λ (r : Option Value). IsCarried rule (λ x. known (other x)) (λ x. Live x × LiveAfter x) (IsValuedWith k i L other) (InCell k N i) d r) (sym (end d))
    (renamed (λ x. Live x × LiveAfter x) (IsValuedWith k i L values) (IsValuedWith k i L other) (InCell k N i)
    (λ x y _ _. ((λ v. (v.0, subst (λ (o : Option Value). IsSome o) (sym (same x)) v.1)), λ v. (v.0, subst (λ (o : Option Value). IsSome o) (same x) v.1)))
    rule (λ x. known (values x)) (λ x. known (other x)) (λ x _ _. ap known (sym (same x))) d (after d) (a d h))

-- tables of the same values are the same
row-same : (n : ℕ) (value other : ℕ → ℕ → Option Value) → ((i d : ℕ) → value i d ≡ other i d) → (d : ℕ)
    → map (λ (i : ℕ). value i d) (range_with_len 0 (n + 1)) ≡ map (λ (i : ℕ). other i d) (range_with_len 0 (n + 1))
row-same n value other same d =
    let one : ℕ → Option Value = λ i. value i d in
    let two : ℕ → Option Value = λ i. other i d in
    let long = length-map-range_with_len one 0 (n + 1) in
    let long' = length-map-range_with_len two 0 (n + 1) in
    ext_get_or None (map one (range_with_len 0 (n + 1))) (map two (range_with_len 0 (n + 1))) (omega arith)
    (λ i h. get_or-map-range_with_len one 0 (n + 1) i i None (omega arith) (omega arith) ∙ same i d ∙ sym (get_or-map-range_with_len two 0 (n + 1) i i None (omega arith) (omega arith)))

pub table-same : (n places : ℕ) (value other : ℕ → ℕ → Option Value) → ((i d : ℕ) → value i d ≡ other i d) → table n places value ≡ table n places other
table-same n places value other same =
    let one : ℕ → List (Option Value) = λ d. map (λ (i : ℕ). value i d) (range_with_len 0 (n + 1)) in
    let two : ℕ → List (Option Value) = λ d. map (λ (i : ℕ). other i d) (range_with_len 0 (n + 1)) in
    let long = length-map-range_with_len one 0 places in
    let long' = length-map-range_with_len two 0 places in
    ext_get_or [] (map one (range_with_len 0 places)) (map two (range_with_len 0 places)) (omega arith)
    (λ d h. get_or-map-range_with_len one 0 places d d [] (omega arith) (omega arith) ∙ row-same n value other same d ∙ sym (get_or-map-range_with_len two 0 places d d [] (omega arith) (omega arith)))

pub content-alike : (k : Kind) (n : ℕ) (rows : Rows) (l m : Labeling) (p q : Store) (rules : List (Option Rule)) → KeepsIds l m → q.slots ≡ p.slots
    → content_of k n rows m q rules ≡ content_of k n rows l p rules
content-alike k n rows l m p q rules ids e =
    ap (λ (vs : List (List (Option Value))). record (content_of k n rows l p rules) { values = vs }) (table-same n (length rows) (stored_value q m) (stored_value p l) (stored_value-alike l m p q ids e))
