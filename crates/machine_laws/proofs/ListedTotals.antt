-- The valued cells of one dimension in a listing, and what their values add up to.
use Rattle.std.proofs.Common.{ℕ, zero, suc, ◌≡◌, ◌≢◌, ◌⊎◌, ◌<◌, inl, inr, refl, sym, ap, ap₂, subst, ◌∙◌, List, [], ◌∷◌, length, Contains, slice_index, slice_index_or, Option, Some, None, IsSome, true, false, cond, nat_eq, arith, add-one}
use Rattle.std.specs.List.Sorted.{IsStrictlyIncreasing}
use Rattle.std.proofs.lemmas.List.Elements.{Contains-get_or}
use Rattle.map_defs.specs.Rows.{IsLive, links_of}
use Rattle.map_defs.specs.Cells.{NamesCell}
use Rattle.map_defs.specs.Values.{Value}
use Rattle.map_defs.specs.Carry.{known}
use Rattle.machine_defs.specs.State.{Content, value_at}
use Rattle.machine_defs.specs.Listing.{ListValue, IsBefore, ListsValues, listed_total}
use Rattle.map_defs.specs.Totals.{ListsValuedCells, plain_sum, total_value}
use Rattle.value_laws.proofs.Rising.{held_case, held_first, held_later, held_none}

abbrev pub cells_at : ℕ → List ListValue → List ℕ
cells_at i [] = []
cells_at i (v ∷ values) = cond (nat_eq v.dim i) (v.dart ∷ cells_at i values) (cells_at i values)

told_eq : (a b : ℕ) → ((a ≡ b) × (nat_eq a b ≡ true)) ⊎ ((a ≢ b) × (nat_eq a b ≡ false))
told_eq a b = grind arith

-- a list of values holds v
value_case : (u : ListValue) (us : List ListValue) (v : ListValue) → Contains (u ∷ us) v → (u ≡ v) ⊎ Contains us v
value_case u us v h = go h.0 h.1 h.2
  where
    go : (k : ℕ) → k < length (u ∷ us) → slice_index_or (u ∷ us) k v ≡ v → (u ≡ v) ⊎ Contains us v
    go zero l e = inl e
    go (suc k) l e = inr (k, omega arith, e)

value_first : (u : ListValue) (us : List ListValue) → Contains (u ∷ us) u
value_first u us = (0, omega arith, refl)

value_later : (u : ListValue) (us : List ListValue) (v : ListValue) → Contains us v → Contains (u ∷ us) v
value_later u us v h = let l : suc h.0 < length (u ∷ us) = (let g = h.1 in omega arith) in (suc h.0, l, h.2)

-- a cell that is listed has an entry, and each entry is listed
held_entry : (i : ℕ) (vs : List ListValue) (d : ℕ) → Contains (cells_at i vs) d → (v : ListValue) × Contains vs v × (v.dim ≡ i) × (v.dart ≡ d)
held_entry i [] d h = absurd (held_none d h)
held_entry i (u ∷ us) d h = go (told_eq u.dim i) h (λ g. held_entry i us d g)
  where
    later : (v : ListValue) × Contains us v × (v.dim ≡ i) × (v.dart ≡ d) → (v : ListValue) × Contains (u ∷ us) v × (v.dim ≡ i) × (v.dart ≡ d)
    later (v, c, e, f) = (v, value_later u us v c, e, f)

    go : ((u.dim ≡ i) × (nat_eq u.dim i ≡ true)) ⊎ ((u.dim ≢ i) × (nat_eq u.dim i ≡ false)) → Contains (cond (nat_eq u.dim i) (u.dart ∷ cells_at i us) (cells_at i us)) d → (Contains (cells_at i us) d → (v : ListValue) × Contains us v × (v.dim ≡ i) × (v.dart ≡ d)) → (v : ListValue) × Contains (u ∷ us) v × (v.dim ≡ i) × (v.dart ≡ d)
    go (inl (e, t)) g next =
        let c : Contains (u.dart ∷ cells_at i us) d = subst (λ b. Contains (cond b (u.dart ∷ cells_at i us) (cells_at i us)) d) t g in
        elim (held_case u.dart (cells_at i us) d c) [ inl f ↦ (u, value_first u us, e, f) | inr r ↦ later (next r) ]
    go (inr (n, t)) g next = later (next (subst (λ b. Contains (cond b (u.dart ∷ cells_at i us) (cells_at i us)) d) t g))

entry_held : (i : ℕ) (vs : List ListValue) (v : ListValue) → Contains vs v → v.dim ≡ i → Contains (cells_at i vs) v.dart
entry_held i [] v h e = absurd (let g = h.1 in omega arith)
entry_held i (u ∷ us) v h e = go (told_eq u.dim i) (value_case u us v h) (λ g. entry_held i us v g e)
  where
    go : ((u.dim ≡ i) × (nat_eq u.dim i ≡ true)) ⊎ ((u.dim ≢ i) × (nat_eq u.dim i ≡ false)) → (u ≡ v) ⊎ Contains us v → (Contains us v → Contains (cells_at i us) v.dart) → Contains (cond (nat_eq u.dim i) (u.dart ∷ cells_at i us) (cells_at i us)) v.dart
    go (inl (e, t)) c next = rw t (elim c [ inl f ↦ subst (λ z. Contains (u.dart ∷ cells_at i us) z.dart) f (held_first u.dart (cells_at i us)) | inr r ↦ held_later u.dart (cells_at i us) v.dart (next r) ])
    go (inr (n, t)) (inl f) next = absurd (n (ap (λ z. z.dim) f ∙ e))
    go (inr (n, t)) (inr r) next = rw t (next r)

-- the cells rise
Orders : List ListValue → Type 0
Orders vs = (j k : ℕ) (d : ListValue) → j < k → k < length vs → IsBefore (slice_index_or vs j d) (slice_index_or vs k d)

orders_rest : (u : ListValue) (us : List ListValue) → Orders (u ∷ us) → Orders us
unfolding Orders
orders_rest u us o j k d l h = o (suc j) (suc k) d (omega arith) (omega arith)

first_before : (u : ListValue) (us : List ListValue) (v : ListValue) → Orders (u ∷ us) → Contains us v → IsBefore u v
unfolding Orders
first_before u us v o h = let g = h.1 in subst (IsBefore u) h.2 (o 0 (suc h.0) v (omega arith) (omega arith))

rising_more : (x : ℕ) (xs : List ℕ) → ((m : ℕ) → Contains xs m → x < m) → IsStrictlyIncreasing xs → IsStrictlyIncreasing (x ∷ xs)
rising_more x xs h r zero l = h (slice_index xs 0) (Contains-get_or xs 0 0 (omega arith))
rising_more x xs h r (suc k) l = rw add-one (rw add-one at (r k (omega arith)))

cells_rise : (i : ℕ) (vs : List ListValue) → Orders vs → IsStrictlyIncreasing (cells_at i vs)
cells_rise i [] o = λ k l. absurd (omega arith)
cells_rise i (u ∷ us) o = go (told_eq u.dim i) (cells_rise i us (orders_rest u us o))
  where
    above : u.dim ≡ i → (m : ℕ) → Contains (cells_at i us) m → u.dart < m
    above e m h =
        let q : (v : ListValue) × Contains us v × (v.dim ≡ i) × (v.dart ≡ m) = held_entry i us m h in
        let b : IsBefore u q.0 = first_before u us q.0 o q.1 in
        let f : q.0.dim ≡ i = q.2 in
        let g : q.0.dart ≡ m = q.3 in
        elim b [ inl l ↦ absurd (omega arith) | inr p ↦ (let l = p.1 in omega arith) ]

    go : ((u.dim ≡ i) × (nat_eq u.dim i ≡ true)) ⊎ ((u.dim ≢ i) × (nat_eq u.dim i ≡ false)) → IsStrictlyIncreasing (cells_at i us) → IsStrictlyIncreasing (cond (nat_eq u.dim i) (u.dart ∷ cells_at i us) (cells_at i us))
    go (inl (e, t)) r = subst (λ b. IsStrictlyIncreasing (cond b (u.dart ∷ cells_at i us) (cells_at i us))) (sym t) (rising_more u.dart (cells_at i us) (above e) r)
    go (inr (n, t)) r = subst (λ b. IsStrictlyIncreasing (cond b (u.dart ∷ cells_at i us) (cells_at i us))) (sym t) r

-- their values add up alike
cells_total : (i : ℕ) (values : ℕ → ℕ → Option Value) (vs : List ListValue) → ((v : ListValue) → Contains vs v → values v.dim v.dart ≡ Some v.value) → listed_total i vs ≡ total_value (values i) (cells_at i vs)
cells_total i values [] h = refl
cells_total i values (u ∷ us) h = go (told_eq u.dim i) (cells_total i values us (λ v c. h v (value_later u us v c)))
  where
    own : u.dim ≡ i → u.value ≡ known (values i u.dart)
    own e = sym (ap known (ap (λ j. values j u.dart) (sym e) ∙ h u (value_first u us)))

    go : ((u.dim ≡ i) × (nat_eq u.dim i ≡ true)) ⊎ ((u.dim ≢ i) × (nat_eq u.dim i ≡ false)) → listed_total i us ≡ total_value (values i) (cells_at i us)
        → cond (nat_eq u.dim i) (plain_sum u.value (listed_total i us)) (listed_total i us) ≡ total_value (values i) (cond (nat_eq u.dim i) (u.dart ∷ cells_at i us) (cells_at i us))
    go (inl (e, t)) r = subst (λ b. cond b (plain_sum u.value (listed_total i us)) (listed_total i us) ≡ total_value (values i) (cond b (u.dart ∷ cells_at i us) (cells_at i us))) (sym t) (ap₂ plain_sum (own e) r)
    go (inr (n, t)) r = subst (λ b. cond b (plain_sum u.value (listed_total i us)) (listed_total i us) ≡ total_value (values i) (cond b (u.dart ∷ cells_at i us) (cells_at i us))) (sym t) r

module _ (c : Content) (i : ℕ) (vs : List ListValue) (lists : ListsValues c vs) where
  pub listed_is : listed_total i vs ≡ total_value (value_at c i) (cells_at i vs)
  listed_is = cells_total i (value_at c) vs (λ v h. ((lists.members v).0 h).0)

  pub listed_cells : ((x : ℕ) → IsSome (value_at c i x) → IsLive c.rows x) → ListsValuedCells c.kind i (links_of c.rows) (IsLive c.rows) (value_at c i) (cells_at i vs)
  unfolding Orders
  listed_cells live = record { ascending = cells_rise i vs lists.ordered; members = λ d. (to d, from d) }
    where
      to : (d : ℕ) → Contains (cells_at i vs) d → IsLive c.rows d × IsSome (value_at c i d) × NamesCell c.kind (links_of c.rows) i d
      to d h = at (held_entry i vs d h)
        where
          at : (v : ListValue) × Contains vs v × (v.dim ≡ i) × (v.dart ≡ d) → IsLive c.rows d × IsSome (value_at c i d) × NamesCell c.kind (links_of c.rows) i d
          at (v, h, e, f) =
              let m = (lists.members v).0 h in
              let a : value_at c i d ≡ Some v.value = ap₂ (value_at c) (sym e) (sym f) ∙ m.0 in
              let s : IsSome (value_at c i d) = subst IsSome (sym a) refl in
              (live d s, s, subst (λ j. NamesCell c.kind (links_of c.rows) j d) e (subst (λ x. NamesCell c.kind (links_of c.rows) v.dim x) f m.1))

      from : (d : ℕ) → IsLive c.rows d × IsSome (value_at c i d) × NamesCell c.kind (links_of c.rows) i d → Contains (cells_at i vs) d
      from d (l, s, n) = at (value_at c i d) refl s
        where
          at : (o : Option Value) → value_at c i d ≡ o → IsSome (value_at c i d) → Contains (cells_at i vs) d
          at None e s = cc (e, s)
          at (Some x) e s = entry_held i vs (record { dim = i; dart = d; value = x }) ((lists.members (record { dim = i; dart = d; value = x })).1 (e, n)) refl
