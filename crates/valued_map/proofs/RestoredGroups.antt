-- Groups with the values that cells had, one dimension after another.
use Rattle.std.proofs.Common.{ℕ, ◌≡◌, ◌⊎◌, ◌↔◌, ◌+◌, ◌-◌, ◌<◌, inl, inr, sym, ap, subst, ◌∙◌, List, ◌++◌, length, Option, None, IsSome, Contains, slice_index, arith}
use Rattle.std.specs.List.Sorted.{IsStrictlyIncreasing}
use Rattle.std.proofs.lemmas.Bool.{cases_lt, cases_eq, false≢true}
use Rattle.std.proofs.lemmas.List.{get_or_append_left, get_or-append-add, get_or_default, get_or_past, length-append}
use Rattle.map_defs.specs.Kind.{Kind}
use Rattle.map_defs.specs.Laws.{Laws}
use Rattle.map_defs.specs.Rows.{Rows, IsLive, links_of}
use Rattle.map_defs.specs.Cells.{InCell}
use Rattle.map_defs.specs.Values.{Value, Rule}
use Rattle.link_laws.proofs.RowFacts.{rows_lead_to_live}
use Rattle.value_laws.proofs.Touching.{cell_live}
use Rattle.store_defs.specs.Groups.{Group, group_at, no_group, least_of, rule_at, IsBefore}
use Rattle.transport.specs.Pieces.{AreBareCells}
use Rattle.label_laws.specs.Changing.{IsGroupedBelow}
use Rattle.label_laws.specs.Restoring.{IsRestored, AreRestored}
use Rattle.valued_map.specs.Undoing.{AreGivenValues}

-- the same, told otherwise
pub restored-as : (k : Kind) (rows : Rows) (Dims Others : ℕ → Type 0) (Wanted Asked : ℕ → ℕ → Type 0) (value other : ℕ → ℕ → Option Value) (groups : List Group)
    → ((i : ℕ) → Dims i ↔ Others i) → ((i d : ℕ) → Asked i d → IsLive rows d → Wanted i d) → ((i d : ℕ) → value i d ≡ other i d)
    → AreRestored k (links_of rows) (IsLive rows) Dims Wanted value groups → AreRestored k (links_of rows) (IsLive rows) Others Asked other groups
restored-as k rows Dims Others Wanted Asked value other groups dims wanted values r = record {
  cells = λ n lt. (let one = r.cells n lt in record {
    dim = (dims (group_at groups n).dim).0 one.dim;
    ascending = one.ascending;
    live = one.live;
    whole = one.whole;
    least = one.least;
    is = one.is ∙ values (group_at groups n).dim (least_of (group_at groups n));
  });
  all = λ i d dim asked live. r.all i d ((dims i).1 dim) (wanted i d asked live) live;
  ascending = r.ascending;
}

module _ (k : Kind) (rows : Rows) (laws : Laws k (links_of rows)) (dim : ℕ) (Dims : ℕ → Type 0) (Wanted : ℕ → ℕ → Type 0) (value : ℕ → ℕ → Option Value) (darts : List ℕ)
    (is-one : Dims dim) (only : (i : ℕ) → Dims i → i ≡ dim) (live : (x : ℕ) → Contains darts x → IsLive rows x) (all : (d : ℕ) → Wanted dim d → IsLive rows d → Contains darts d)
    (old new : List Group) (bare : AreBareCells (InCell k (links_of rows) dim) dim darts old) (given : AreGivenValues (value dim) (length old) old new) where
  within : (n : ℕ) → n < length new → n < length old
  within n lt = let size = given.size in omega arith

  dim-is : (n : ℕ) → n < length new → (group_at new n).dim ≡ dim
  dim-is n lt = given.dims n ∙ (bare.each n (within n lt)).dim

  nonempty : (xs : List ℕ) (x : ℕ) → Contains xs x → 0 < length xs
  nonempty xs x c = let lt : c.0 < length xs = c.1 in omega arith

  least-in : (xs : List ℕ) → 0 < length xs → Contains xs (slice_index xs 0)
  least-in xs lt = (0, lt, get_or_default xs 0 (slice_index xs 0) 0 lt)

  one : (n : ℕ) → n < length new → IsRestored k (links_of rows) (IsLive rows) Dims value (group_at new n)
  one n lt =
      let b = bare.each n (within n lt) in
      let ds : List ℕ = (group_at old n).darts in
      let some : 0 < length ds = nonempty ds b.reached.0 b.reached.2 in
      let lives : (d : ℕ) → Contains ds d → IsLive rows d = λ d here.
      cell_live k (IsLive rows) (links_of rows) (links_of rows) laws laws (IsLive rows) (rows_lead_to_live k rows laws) dim b.reached.0 (live b.reached.0 b.reached.1) ((b.whole b.reached.0 d b.reached.2).0 here) in
      record {
        dim = subst Dims (sym (dim-is n lt)) is-one;
        ascending = subst IsStrictlyIncreasing (sym (given.darts n)) b.ascending;
        live = subst (λ (xs : List ℕ). (d : ℕ) → Contains xs d → IsLive rows d) (sym (given.darts n)) lives;
        whole = subst (λ (i : ℕ). (d x : ℕ) → Contains (group_at new n).darts d → Contains (group_at new n).darts x ↔ InCell k (links_of rows) i d x) (sym (dim-is n lt))
            (subst (λ (xs : List ℕ). (d x : ℕ) → Contains xs d → Contains xs x ↔ InCell k (links_of rows) dim d x) (sym (given.darts n)) b.whole);
        least = subst (λ (xs : List ℕ). Contains xs (slice_index xs 0)) (sym (given.darts n)) (least-in ds some);
        is = given.values n (within n lt) (within n lt) some
            ∙ ap (value dim) (ap (λ (xs : List ℕ). slice_index xs 0) (sym (given.darts n))) ∙ ap (λ (i : ℕ). value i (least_of (group_at new n))) (sym (dim-is n lt));
      }

  grouped : (d : ℕ) → (n : ℕ) × (n < length old) × Contains (group_at old n).darts d → IsGroupedBelow (length new) new dim d
  grouped d f =
      let lt : f.0 < length new = (let low : f.0 < length old = f.1 in let size = given.size in omega arith) in
      (f.0, lt, sym (dim-is f.0 lt), subst (λ (xs : List ℕ). Contains xs d) (sym (given.darts f.0)) f.2)

  rising : (m n : ℕ) → m < n → n < length new → IsBefore (group_at new m) (group_at new n)
  rising m n lt below =
      let up = bare.rising m n lt (within n below) in
      let first = ap (λ (xs : List ℕ). slice_index xs 0) (given.darts m) in
      let second = ap (λ (xs : List ℕ). slice_index xs 0) (given.darts n) in
      inr (dim-is m (omega arith) ∙ sym (dim-is n below), omega (arith, up, first, second))

  pub restored-one : AreRestored k (links_of rows) (IsLive rows) Dims Wanted value new
  restored-one = record {
    cells = one;
    all = λ i d here wanted lives.
        let e : i ≡ dim = only i here in
        subst (λ (j : ℕ). IsGroupedBelow (length new) new j d) (sym e) (grouped d (bare.all d (all d (subst (λ (j : ℕ). Wanted j d) e wanted) lives)));
    ascending = rising;
  }

-- the groups of a further dimension behind those of lesser ones
module _ (k : Kind) (rows : Rows) (m : ℕ) (Ruled : ℕ → Type 0) (Wanted : ℕ → ℕ → Type 0) (value : ℕ → ℕ → Option Value) (groups cells : List Group)
    (r : AreRestored k (links_of rows) (IsLive rows) (λ i. (i < m) × Ruled i) Wanted value groups)
    (s : AreRestored k (links_of rows) (IsLive rows) (λ i. (i ≡ m) × Ruled i) Wanted value cells) where
  left-at : (n : ℕ) → n < length groups → group_at (groups ++ cells) n ≡ group_at groups n
  left-at n lt = get_or_append_left groups cells no_group n lt

  right-at : (n : ℕ) → group_at (groups ++ cells) (length groups + n) ≡ group_at cells n
  right-at n = get_or-append-add groups cells n no_group

  long : length (groups ++ cells) ≡ length groups + length cells
  long = length-append groups cells

  side : (n : ℕ) → n < length (groups ++ cells) → (n < length groups) ⊎ ((p : ℕ) × (p < length cells) × (n ≡ length groups + p))
  side n lt = elim (cases_lt n (length groups)) [
    | inl low ↦ inl low
    | inr high ↦ inr (n - length groups, omega (arith, long), omega arith)
  ]

  raised : (g : Group) → IsRestored k (links_of rows) (IsLive rows) (λ i. (i < m) × Ruled i) value g → IsRestored k (links_of rows) (IsLive rows) (λ i. (i < m + 1) × Ruled i) value g
  raised g o = record { dim = (let lt : g.dim < m = o.dim.0 in omega arith, o.dim.1); ascending = o.ascending; live = o.live; whole = o.whole; least = o.least; is = o.is }

  last : (g : Group) → IsRestored k (links_of rows) (IsLive rows) (λ i. (i ≡ m) × Ruled i) value g → IsRestored k (links_of rows) (IsLive rows) (λ i. (i < m + 1) × Ruled i) value g
  last g o = record { dim = (let e : g.dim ≡ m = o.dim.0 in omega arith, o.dim.1); ascending = o.ascending; live = o.live; whole = o.whole; least = o.least; is = o.is }

  each : (n : ℕ) → n < length (groups ++ cells) → IsRestored k (links_of rows) (IsLive rows) (λ i. (i < m + 1) × Ruled i) value (group_at (groups ++ cells) n)
  each n lt = elim (side n lt) [
    | inl low ↦ subst (λ (g : Group). IsRestored k (links_of rows) (IsLive rows) (λ i. (i < m + 1) × Ruled i) value g) (sym (left-at n low)) (raised (group_at groups n) (r.cells n low))
    | inr p ↦ subst (λ (j : ℕ). IsRestored k (links_of rows) (IsLive rows) (λ i. (i < m + 1) × Ruled i) value (group_at (groups ++ cells) j)) (sym p.2)
        (subst (λ (g : Group). IsRestored k (links_of rows) (IsLive rows) (λ i. (i < m + 1) × Ruled i) value g) (sym (right-at p.0)) (last (group_at cells p.0) (s.cells p.0 p.1)))
  ]

  from-left : (i d : ℕ) → IsGroupedBelow (length groups) groups i d → IsGroupedBelow (length (groups ++ cells)) (groups ++ cells) i d
  from-left i d g =
      let low : g.0 < length groups = g.1 in
      subst (λ (h : Group). (i ≡ h.dim) × Contains h.darts d → IsGroupedBelow (length (groups ++ cells)) (groups ++ cells) i d) (left-at g.0 low)
      (λ w. (g.0, omega (arith, long), w.0, w.1)) (g.2, g.3)

  from-right : (i d : ℕ) → IsGroupedBelow (length cells) cells i d → IsGroupedBelow (length (groups ++ cells)) (groups ++ cells) i d
  from-right i d g =
      let low : g.0 < length cells = g.1 in
      subst (λ (h : Group). (i ≡ h.dim) × Contains h.darts d → IsGroupedBelow (length (groups ++ cells)) (groups ++ cells) i d) (right-at g.0)
      (λ w. (length groups + g.0, omega (arith, long), w.0, w.1)) (g.2, g.3)

  ordered : (a b : ℕ) → a < b → b < length (groups ++ cells) → IsBefore (group_at (groups ++ cells) a) (group_at (groups ++ cells) b)
  ordered a b lt below = go (side a (omega arith)) (side b below)
    where
      go : (a < length groups) ⊎ ((p : ℕ) × (p < length cells) × (a ≡ length groups + p)) → (b < length groups) ⊎ ((p : ℕ) × (p < length cells) × (b ≡ length groups + p))
          → IsBefore (group_at (groups ++ cells) a) (group_at (groups ++ cells) b)
      go (inl x) (inl y) =
          subst (λ (g : Group). IsBefore g (group_at (groups ++ cells) b)) (sym (left-at a x))
          (subst (λ (g : Group). IsBefore (group_at groups a) g) (sym (left-at b y)) (r.ascending a b lt y))
      go (inl x) (inr q) =
          let low : (group_at groups a).dim < m = (r.cells a x).dim.0 in
          let high : (group_at cells q.0).dim ≡ m = (s.cells q.0 q.1).dim.0 in
          let one = ap (λ (g : Group). g.dim) (left-at a x) in
          let two = ap (λ (j : ℕ). (group_at (groups ++ cells) j).dim) q.2 ∙ ap (λ (g : Group). g.dim) (right-at q.0) in
          inl (omega (arith, low, high, one, two))
      go (inr p) (inl y) = absurd (let e : a ≡ length groups + p.0 = p.2 in omega arith)
      go (inr p) (inr q) =
          let e : a ≡ length groups + p.0 = p.2 in
          let f : b ≡ length groups + q.0 = q.2 in
          subst (λ (j : ℕ). IsBefore (group_at (groups ++ cells) j) (group_at (groups ++ cells) b)) (sym e)
          (subst (λ (j : ℕ). IsBefore (group_at (groups ++ cells) (length groups + p.0)) (group_at (groups ++ cells) j)) (sym f)
          (subst (λ (g : Group). IsBefore g (group_at (groups ++ cells) (length groups + q.0))) (sym (right-at p.0))
          (subst (λ (g : Group). IsBefore (group_at cells p.0) g) (sym (right-at q.0)) (s.ascending p.0 q.0 (omega arith) q.1))))

  pub restored-append : AreRestored k (links_of rows) (IsLive rows) (λ i. (i < m + 1) × Ruled i) Wanted value (groups ++ cells)
  restored-append = record {
    cells = each;
    all = λ i d dim wanted live. (elim (cases_eq i m) [
      | inl e ↦ from-right i d (s.all i d (e, dim.1) wanted live)
      | inr other ↦ from-left i d (r.all i d ((let low : i < m + 1 = dim.0 in omega arith), dim.1) wanted live)
    ]);
    ascending = ordered;
  }

-- a dimension with a rule has a place among the rules
pub rule-low : (rules : List (Option Rule)) (i : ℕ) → IsSome (rule_at rules i) → i < length rules
rule-low rules i some = elim (cases_lt i (length rules)) [
  | inl lt ↦ lt
  | inr past ↦ absurd (false≢true (subst (λ (o : Option Rule). IsSome o) (get_or_past rules i None past) some))
]

-- cells given the same values, told otherwise
pub valued-as : (value other : ℕ → Option Value) (m : ℕ) (old new : List Group) → ((d : ℕ) → value d ≡ other d) → AreGivenValues value m old new → AreGivenValues other m old new
valued-as value other m old new same a = record {
  size = a.size;
  dims = a.dims;
  darts = a.darts;
  values = λ n lt low some. a.values n lt low some ∙ same (least_of (group_at old n));
}
