-- The total of a dimension is one, and that of each listing.
use Rattle.std.proofs.Common.{◌≡◌, ◌≢◌, ◌⊎◌, ℕ, suc, List, [], ◌∷◌, Contains, Some, Bool, true, false, cond, nat_eq, refl, sym, ap, ◌∙◌, subst, inl, inr, arith}
use Rattle.map_defs.specs.Rows.{links_of}
use Rattle.map_defs.specs.Cells.{NamesCell}
use Rattle.map_defs.specs.Values.{Value}
use Rattle.map_defs.specs.Totals.{plain_sum}
use Rattle.machine_defs.specs.State.{Content, value_at, HasPlaces}
use Rattle.machine_defs.specs.Listing.{ListValue, IsBefore, ListsValues, ListsValuesIn, listed_total}
use Rattle.journal_laws.proofs.ContentFacts.{value-cases}
use Rattle.machine_laws.proofs.ValueLists.{one-dimension}
use Rattle.total_laws.specs.Totals.{HasTotal}
use Rattle.total_laws.proofs.Places.{Somehow, IsOrdered, told-first, first-told, later-told, ordered-first, has-listing}

-- those of dimension i alone
abbrev in_dim : ℕ → List ListValue → List ListValue
in_dim i [] = []
in_dim i (v ∷ vs) = cond (nat_eq v.dim i) (v ∷ in_dim i vs) (in_dim i vs)

told-eq : (a b : ℕ) → ((a ≡ b) × (nat_eq a b ≡ true)) ⊎ ((a ≢ b) × (nat_eq a b ≡ false))
told-eq a b = grind arith

in-dim-held : (i : ℕ) (vs : List ListValue) (v : ListValue) → Contains (in_dim i vs) v → Contains vs v × (v.dim ≡ i)
in-dim-held i [] v h = absurd (let g = h.1 in omega arith)
in-dim-held i (u ∷ us) v h = at (told-eq u.dim i) h (in-dim-held i us v)
  where
    at : ((u.dim ≡ i) × (nat_eq u.dim i ≡ true)) ⊎ ((u.dim ≢ i) × (nat_eq u.dim i ≡ false)) → Contains (cond (nat_eq u.dim i) (u ∷ in_dim i us) (in_dim i us)) v
        → (Contains (in_dim i us) v → Contains us v × (v.dim ≡ i)) → Contains (u ∷ us) v × (v.dim ≡ i)
    at (inl (e, t)) g next = elim (told-first u v (in_dim i us) (subst (λ b. Contains (cond b (u ∷ in_dim i us) (in_dim i us)) v) t g)) [
      | inl f ↦ (subst (λ (w : ListValue). Contains (u ∷ us) w) (sym f) (first-told u us), ap (λ (w : ListValue). w.dim) f ∙ e)
      | inr r ↦ (let m = next r in (later-told u v us m.0, m.1))
    ]
    at (inr (n, t)) g next = let m = next (subst (λ b. Contains (cond b (u ∷ in_dim i us) (in_dim i us)) v) t g) in (later-told u v us m.0, m.1)

held-in-dim : (i : ℕ) (vs : List ListValue) (v : ListValue) → Contains vs v → v.dim ≡ i → Contains (in_dim i vs) v
held-in-dim i [] v h e = absurd (let g = h.1 in omega arith)
held-in-dim i (u ∷ us) v h e = at (told-eq u.dim i) (told-first u v us h) (λ r. held-in-dim i us v r e)
  where
    at : ((u.dim ≡ i) × (nat_eq u.dim i ≡ true)) ⊎ ((u.dim ≢ i) × (nat_eq u.dim i ≡ false)) → (v ≡ u) ⊎ Contains us v
        → (Contains us v → Contains (in_dim i us) v) → Contains (cond (nat_eq u.dim i) (u ∷ in_dim i us) (in_dim i us)) v
    at (inl (f, t)) (inl g) next = rw t (subst (λ (w : ListValue). Contains (u ∷ in_dim i us) w) (sym g) (first-told u (in_dim i us)))
    at (inl (f, t)) (inr r) next = rw t (later-told u v (in_dim i us) (next r))
    at (inr (n, t)) (inl g) next = absurd (n (ap (λ (w : ListValue). w.dim) (sym g) ∙ e))
    at (inr (n, t)) (inr r) next = rw t (next r)

ordered-rest : (u : ListValue) (us : List ListValue) → IsOrdered (u ∷ us) → IsOrdered us
ordered-rest u us o = λ j k d lt within. o (suc j) (suc k) d (omega arith) (omega arith)

first-before : (u : ListValue) (us : List ListValue) (w : ListValue) → IsOrdered (u ∷ us) → Contains us w → IsBefore u w
first-before u us w o (k, h, e) = subst (IsBefore u) e (o 0 (suc k) w (omega arith) (omega arith))

in-dim-ordered : (i : ℕ) (vs : List ListValue) → IsOrdered vs → IsOrdered (in_dim i vs)
in-dim-ordered i [] o = o
in-dim-ordered i (u ∷ us) o = at (told-eq u.dim i) (in-dim-ordered i us (ordered-rest u us o))
  where
    at : ((u.dim ≡ i) × (nat_eq u.dim i ≡ true)) ⊎ ((u.dim ≢ i) × (nat_eq u.dim i ≡ false)) → IsOrdered (in_dim i us) → IsOrdered (cond (nat_eq u.dim i) (u ∷ in_dim i us) (in_dim i us))
    at (inl (e, t)) r = subst (λ b. IsOrdered (cond b (u ∷ in_dim i us) (in_dim i us))) (sym t) (ordered-first u (in_dim i us) (λ w h. first-before u us w o (in-dim-held i us w h).0) r)
    at (inr (n, t)) r = subst (λ b. IsOrdered (cond b (u ∷ in_dim i us) (in_dim i us))) (sym t) r

-- they add up to the same
first-counts : (i : ℕ) (u : ListValue) (us : List ListValue) → nat_eq u.dim i ≡ true → listed_total i (u ∷ us) ≡ plain_sum u.value (listed_total i us)
first-counts i u us t = ap (λ b. cond b (plain_sum u.value (listed_total i us)) (listed_total i us)) t

in-dim-total : (i : ℕ) (vs : List ListValue) → listed_total i (in_dim i vs) ≡ listed_total i vs
in-dim-total i [] = refl
in-dim-total i (u ∷ us) = at (nat_eq u.dim i) refl (in-dim-total i us)
  where
    at : (b : Bool) → nat_eq u.dim i ≡ b → listed_total i (in_dim i us) ≡ listed_total i us
        → listed_total i (cond b (u ∷ in_dim i us) (in_dim i us)) ≡ cond b (plain_sum u.value (listed_total i us)) (listed_total i us)
    at true t r = first-counts i u (in_dim i us) t ∙ ap (plain_sum u.value) r
    at false t r = r

in-dim-lists : (c : Content) (i : ℕ) (values : List ListValue) → ListsValues c values → ListsValuesIn c i (in_dim i values)
in-dim-lists c i values lists = record { members = λ v. (to v, from v); ordered = in-dim-ordered i values lists.ordered }
  where
    to : (v : ListValue) → Contains (in_dim i values) v → (v.dim ≡ i) × (value_at c i v.dart ≡ Some v.value) × NamesCell c.kind (links_of c.rows) i v.dart
    to v h =
        let held = in-dim-held i values v h in
        let m = (lists.members v).0 held.0 in
        (held.1, subst (λ (n : ℕ). value_at c n v.dart ≡ Some v.value) held.1 m.0, subst (λ (n : ℕ). NamesCell c.kind (links_of c.rows) n v.dart) held.1 m.1)

    from : (v : ListValue) → (v.dim ≡ i) × (value_at c i v.dart ≡ Some v.value) × NamesCell c.kind (links_of c.rows) i v.dart → Contains (in_dim i values) v
    from v h = held-in-dim i values v
        ((lists.members v).1 (subst (λ (n : ℕ). value_at c n v.dart ≡ Some v.value) (sym h.0) h.1, subst (λ (n : ℕ). NamesCell c.kind (links_of c.rows) n v.dart) (sym h.0) h.2)) h.0

pub one-total : (c : Content) (i : ℕ) (total other : Value) → HasTotal c i total → HasTotal c i other → total ≡ other
one-total c i total other p q = p.2 ∙ ap (listed_total i) (one-dimension c i p.0 q.0 p.1 q.1) ∙ sym q.2

pub listing-total : (c : Content) (i : ℕ) (values : List ListValue) → ListsValues c values → HasTotal c i (listed_total i values)
listing-total c i values lists = (in_dim i values, in-dim-lists c i values lists, sym (in-dim-total i values))

some-one : (v w : Value) → Some v ≡ Some w → v ≡ w
some-one v w e = cc

-- an equation of values follows from what is not absurd
pub settled : (P : Type 0) → Somehow P → (v w : Value) → (P → v ≡ w) → v ≡ w
settled P has v w with_p = some-one v w (value-cases P (Some v) (Some w) (λ p. ap (λ (x : Value). Some x) (with_p p)) (λ none. absurd (has none)))

-- what holds of the totals of two contents by all listings holds of each
pub totals-by : (c next : Content) → HasPlaces c → HasPlaces next → (i : ℕ)
    → ((values others : List ListValue) → ListsValues c values → ListsValues next others → listed_total i values ≡ listed_total i others)
    → (total after : Value) → HasTotal c i total → HasTotal next i after → total ≡ after
totals-by c next places places' i same total after p q =
    settled _ (has-listing c places) total after (λ here. settled _ (has-listing next places') total after (λ there.
    one-total c i total (listed_total i here.0) p (listing-total c i here.0 here.1)
    ∙ same here.0 there.0 here.1 there.1
    ∙ one-total next i (listed_total i there.0) after (listing-total next i there.0 there.1) q))
