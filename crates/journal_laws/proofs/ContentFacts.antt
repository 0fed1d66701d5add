-- Values in their places, and when two lists of values or two contents are one.
use Rattle.std.proofs.Common.{◌≡◌, ◌≢◌, ◌⊎◌, ℕ, ℤ, pos, negsuc, ◌+◌, ◌<◌, ◌≤◌, List, [], length, get_or, Option, Some, None, refl, sym, ap, ◌∙◌, subst, inl, inr, ⊎_elim, arith}
use Rattle.std.proofs.lemmas.Bool.{cases_lt}
use Rattle.std.proofs.lemmas.List.{ext_get_or, get_or_past}
use Rattle.map_defs.specs.Kind.{Kind}
use Rattle.map_defs.specs.Rows.{Rows, IsLive}
use Rattle.map_defs.specs.Values.{Value, Rule}
use Rattle.machine_defs.specs.State.{Content, value_at, HasPlaces}
use Rattle.link_laws.proofs.Basics.{same_or_not}
use Rattle.value_laws.proofs.OfRows.{told_live}

same-integer : (a b : ℤ) → (a ≡ b) ⊎ (a ≢ b)
same-integer (pos m) (pos n) = ⊎_elim (λ e. inl (ap pos e)) (λ d. inr (λ e. d (cc (e)))) (same_or_not m n)
same-integer (pos m) (negsuc n) = inr (λ e. cc (e))
same-integer (negsuc m) (pos n) = inr (λ e. cc (e))
same-integer (negsuc m) (negsuc n) = ⊎_elim (λ e. inl (ap negsuc e)) (λ d. inr (λ e. d (cc (e)))) (same_or_not m n)

value-of : ℤ → ℤ → ℤ → Value
value-of a b c = record { a = a; b = b; c = c }

same-value : (v w : Value) → (v ≡ w) ⊎ (v ≢ w)
unfolding value-of
same-value v w = by_a (same-integer v.a w.a) (same-integer v.b w.b) (same-integer v.c w.c)
  where
    by_a : (v.a ≡ w.a) ⊎ (v.a ≢ w.a) → (v.b ≡ w.b) ⊎ (v.b ≢ w.b) → (v.c ≡ w.c) ⊎ (v.c ≢ w.c) → (v ≡ w) ⊎ (v ≢ w)
    by_a (inr d) q r = inr (λ e. d (ap (λ (x : Value). x.a) e))
    by_a (inl p) (inr d) r = inr (λ e. d (ap (λ (x : Value). x.b) e))
    by_a (inl p) (inl q) (inr d) = inr (λ e. d (ap (λ (x : Value). x.c) e))
    by_a (inl p) (inl q) (inl r) = inl (let one : v ≡ value-of v.a v.b v.c = refl in let other : w ≡ value-of w.a w.b w.c = refl in cc)

same-option : (v w : Option Value) → (v ≡ w) ⊎ (v ≢ w)
same-option None None = inl refl
same-option None (Some w) = inr (λ e. cc (e))
same-option (Some v) None = inr (λ e. cc (e))
same-option (Some v) (Some w) = ⊎_elim (λ e. inl (ap (λ (x : Value). Some x) e)) (λ d. inr (λ e. d (cc (e)))) (same-value v w)

-- an equation of optional values may be proved by cases on any P
pub value-cases : (P : Type 0) (v w : Option Value) → (P → v ≡ w) → ((P → ⊥) → v ≡ w) → v ≡ w
value-cases P v w with_p without = ⊎_elim (λ e. e) (λ d. without (λ p. d (with_p p))) (same-option v w)

-- there is no value in a dimension above the map's
pub value-above : (c : Content) → HasPlaces c → (i d : ℕ) → c.dim < i → value_at c i d ≡ None
value-above c places i d above = elim (cases_lt d (length c.rows)) [
  | inl within ↦ get_or_past (get_or c.values d []) i None (omega (arith, places.wide d within))
  | inr beyond ↦ ap (λ (vs : List (Option Value)). get_or vs i None) (get_or_past c.values d [] (omega (arith, places.long)))
]

-- values in all places are one list
pub values-one : (a b : Content) → HasPlaces a → HasPlaces b → a.dim ≡ b.dim → a.rows ≡ b.rows
    → ((i d : ℕ) → i ≤ a.dim → IsLive a.rows d → value_at a i d ≡ value_at b i d) → a.values ≡ b.values
values-one a b p q dims rows same =
    ext_get_or [] a.values b.values (p.long ∙ ap (λ (r : Rows). length r) rows ∙ sym q.long) place
  where
    at : (i d : ℕ) → i ≤ a.dim → value_at a i d ≡ value_at b i d
    at i d within = elim (told_live a.rows d) [
      | inl live ↦ same i d within live
      | inr dead ↦ p.none i d dead ∙ sym (q.none i d (λ live. dead (subst (λ (r : Rows). IsLive r d) (sym rows) live)))
    ]

    place : (d : ℕ) → d < length a.values → get_or a.values d [] ≡ get_or b.values d []
    place d h =
        let wide : length (get_or a.values d []) ≡ a.dim + 1 = p.wide d (omega (arith, p.long)) in
        let wide' : length (get_or b.values d []) ≡ b.dim + 1 = q.wide d (omega (arith, p.long, ap (λ (r : Rows). length r) rows)) in
        ext_get_or None (get_or a.values d []) (get_or b.values d []) (wide ∙ ap (λ (n : ℕ). n + 1) dims ∙ sym wide') (λ i below. at i d (omega (arith, wide)))

content_of : Kind → ℕ → Rows → List (List (Option Value)) → List (Option Rule) → Content
content_of kind dim rows values rules = record { kind = kind; dim = dim; rows = rows; values = values; rules = rules }

pub same-content : (a b : Content) → a.kind ≡ b.kind → a.dim ≡ b.dim → a.rows ≡ b.rows → a.values ≡ b.values → a.rules ≡ b.rules → a ≡ b
unfolding content_of
same-content a b kinds dims rows values rules =
    let one : a ≡ content_of a.kind a.dim a.rows a.values a.rules = refl in
    let other : b ≡ content_of b.kind b.dim b.rows b.values b.rules = refl in
    cc
