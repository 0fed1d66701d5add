-- The groups of one dimension after those of the others.
use Rattle.std.proofs.Common.{◌≡◌, ◌⊎◌, ◌↔◌, inl, inr, ℕ, ◌+◌, ◌-◌, ◌<◌, ◌≤◌, List, ◌++◌, length, get_or, slice_index, Option, Some, None, IsSome, Contains, refl, sym, ◌∙◌, ap, subst, arith, length-append}
use Rattle.std.specs.List.Sorted.{IsStrictlyIncreasing}
use Rattle.std.proofs.lemmas.Bool.{false≢true}
use Rattle.std.proofs.lemmas.List.{get_or_past, get_or_default, get_or_append_left, get_or-append-add}
use Rattle.map_defs.specs.Kind.{Kind}
use Rattle.map_defs.specs.Links.{Links}
use Rattle.map_defs.specs.Cells.{InCell}
use Rattle.map_defs.specs.Values.{Rule, Hook, meaning_of}
use Rattle.map_defs.specs.Touched.{IsAlike, Covers}
use Rattle.map_defs.specs.Carry.{IsCarried}
use Rattle.store_defs.specs.Stores.{Store}
use Rattle.store_defs.specs.Groups.{Group, no_group, group_at, rule_at, known_value, IsBefore, IsTouchedCell, AreTouchedCells, HasCarriedValue}
use Rattle.transport.specs.Pieces.{merged_before, AreBareCells, AreAllPieces, AreMerged}
use Rattle.transport.specs.Joined.{IsCarriedCell, IsWanted, AreAllOf}
use Rattle.transport.specs.declared.pieces.Piece.{Piece}
use Rattle.transport.proofs.Finding.{AreClasses}
use Rattle.transport.proofs.CarryFacts.{is_carried}

-- the rule of a dimension, as it is read
pub read_rule : (rules row : List (Option Rule)) (i : ℕ) (o : Option Rule) (r : Rule) → row ≡ rules → i < length rules → o ≡ get_or row i o → o ≡ Some r → rule_at rules i ≡ Some r
read_rule rules row i o r same h at is =
    sym (at ∙ ap (λ (l : List (Option Rule)). get_or l i o) same ∙ get_or_default rules i o None h) ∙ is

early_group : (xs ys : List Group) (n : ℕ) → n < length xs → group_at (xs ++ ys) n ≡ group_at xs n
early_group xs ys n h = get_or_append_left xs ys no_group n h

late_group : (xs ys : List Group) (n : ℕ) → group_at (xs ++ ys) (length xs + n) ≡ group_at ys n
late_group xs ys n = get_or-append-add xs ys n no_group

-- a group is an early one or a late one
split_place : (xs ys : List Group) (n : ℕ) → n < length (xs ++ ys) → (n < length xs) ⊎ ((j : ℕ) × (j < length ys) × (n ≡ length xs + j))
split_place xs ys n h = go (case (length xs))
  where
    case : (a : ℕ) → (n < a) ⊎ (a ≤ n)
    case a = grind arith

    go : (n < length xs) ⊎ (length xs ≤ n) → (n < length xs) ⊎ ((j : ℕ) × (j < length ys) × (n ≡ length xs + j))
    go (inl l) = inl l
    go (inr l) = let s = length-append xs ys in inr (n - length xs, omega arith, omega arith)

module _ (Good : Group → Type 0) (Wanted : ℕ → ℕ → Type 0) where
  pub all_joined : (i : ℕ) (xs ys : List Group) → AreAllOf Good Wanted (λ j. j < i) xs → AreAllOf Good Wanted (λ j. j ≡ i) ys → AreAllOf Good Wanted (λ j. j < i + 1) (xs ++ ys)
  all_joined i xs ys a b = record { good = good; among = among; all = all; ascending = ascending }
    where
      good : (n : ℕ) → n < length (xs ++ ys) → Good (group_at (xs ++ ys) n)
      good n h = elim (split_place xs ys n h) [
        | inl l ↦ subst Good (sym (early_group xs ys n l)) (a.good n l)
        | inr q ↦ subst Good (sym (ap (group_at (xs ++ ys)) q.2 ∙ late_group xs ys q.0)) (b.good q.0 q.1)
      ]

      among : (n : ℕ) → n < length (xs ++ ys) → (group_at (xs ++ ys) n).dim < i + 1
      among n h = elim (split_place xs ys n h) [
        | inl l ↦ (let e = ap (λ g. g.dim) (early_group xs ys n l) in let f = a.among n l in omega arith)
        | inr q ↦ (let e = ap (λ g. g.dim) (ap (group_at (xs ++ ys)) q.2 ∙ late_group xs ys q.0) in let f = b.among q.0 q.1 in omega arith)
      ]

      case : (j : ℕ) → j < i + 1 → (j < i) ⊎ (j ≡ i)
      case j h = grind arith

      early : (j t : ℕ) → (n : ℕ) × (n < length xs) × ((group_at xs n).dim ≡ j) × Contains (group_at xs n).darts t → (n : ℕ) × (n < length (xs ++ ys)) × ((group_at (xs ++ ys) n).dim ≡ j) × Contains (group_at (xs ++ ys) n).darts t
      early j t (n, h, e, c) = let f = early_group xs ys n h in let s = length-append xs ys in (n, omega arith, ap (λ g. g.dim) f ∙ e, subst (λ g. Contains g.darts t) (sym f) c)

      late : (j t : ℕ) → (n : ℕ) × (n < length ys) × ((group_at ys n).dim ≡ j) × Contains (group_at ys n).darts t → (n : ℕ) × (n < length (xs ++ ys)) × ((group_at (xs ++ ys) n).dim ≡ j) × Contains (group_at (xs ++ ys) n).darts t
      late j t (n, h, e, c) = let f = late_group xs ys n in let s = length-append xs ys in (length xs + n, omega arith, ap (λ g. g.dim) f ∙ e, subst (λ g. Contains g.darts t) (sym f) c)

      all : (j t : ℕ) → j < i + 1 → Wanted j t → (n : ℕ) × (n < length (xs ++ ys)) × ((group_at (xs ++ ys) n).dim ≡ j) × Contains (group_at (xs ++ ys) n).darts t
      all j t h w = elim (case j h) [ inl l ↦ early j t (a.all j t l w) | inr e ↦ late j t (b.all j t e w) ]

      ordered : (m n : ℕ) → m < n → (m < length xs) ⊎ ((j : ℕ) × (j < length ys) × (m ≡ length xs + j)) → (n < length xs) ⊎ ((j : ℕ) × (j < length ys) × (n ≡ length xs + j)) → IsBefore (group_at (xs ++ ys) m) (group_at (xs ++ ys) n)
      ordered m n l (inl s) (inl t) = subst (λ g. IsBefore g (group_at (xs ++ ys) n)) (sym (early_group xs ys m s)) (subst (IsBefore (group_at xs m)) (sym (early_group xs ys n t)) (a.ascending m n l t))
      ordered m n l (inl s) (inr (j, t, e)) =
          let f = ap (λ g. g.dim) (early_group xs ys m s) in
          let g = ap (λ h. h.dim) (ap (group_at (xs ++ ys)) e ∙ late_group xs ys j) in
          let u = a.among m s in
          let v = b.among j t in
          inl (omega arith)
      ordered m n l (inr (j, s, e)) (inl t) = absurd (omega arith)
      ordered m n l (inr (j, s, e)) (inr (k, t, f)) =
          subst (λ g. IsBefore g (group_at (xs ++ ys) n)) (sym (ap (group_at (xs ++ ys)) e ∙ late_group xs ys j))
          (subst (IsBefore (group_at ys j)) (sym (ap (group_at (xs ++ ys)) f ∙ late_group xs ys k)) (b.ascending j k (omega arith) t))

      ascending : (m n : ℕ) → m < n → n < length (xs ++ ys) → IsBefore (group_at (xs ++ ys) m) (group_at (xs ++ ys) n)
      ascending m n l h = ordered m n l (split_place xs ys m (omega arith)) (split_place xs ys n h)

module _ (k : Kind) (L : Links) (Live : ℕ → Type 0) (label : ℕ → ℕ → Option ℕ) (pool : Store) (hook : Hook) (rules : List (Option Rule)) (touched : ℕ → List ℕ) where
  -- the groups of one dimension
  pub all_of_dim : (i : ℕ) (rule : Rule) (cells new : List Group) (pieces : List Piece) → rule_at rules i ≡ Some rule → AreClasses (InCell k L i) → AreBareCells (InCell k L i) i (touched i) cells
      → AreAllPieces (label i) cells pieces → ((n x : ℕ) → n < length cells → Contains (group_at cells n).darts x → Live x) → Covers k i L Live (label i) (Contains (touched i))
      → AreMerged (meaning_of hook rule) pool pieces (length pieces) cells new → AreAllOf (IsCarriedCell k L Live label pool hook rules touched) (IsWanted rules touched) (λ j. j ≡ i) new
  all_of_dim i rule cells new pieces ruled classes bare all live covers merged = record { good = λ n h. record { cell = cell n (old n h); value = value n (old n h) }; among = λ n h. dim n (old n h); all = hold; ascending = λ m n l h. ascending m n l (old n h) }
    where
      old : (n : ℕ) → n < length new → n < length cells
      old n h = let s = merged.size in omega arith

      dim : (n : ℕ) → n < length cells → (group_at new n).dim ≡ i
      dim n h = merged.dims n ∙ (bare.each n h).dim

      cell : (n : ℕ) → n < length cells → IsTouchedCell k L rules touched (group_at new n)
      cell n h = record {
        ruled = subst (λ j. IsSome (rule_at rules j)) (sym (dim n h)) (subst IsSome (sym ruled) refl);
        ascending = subst IsStrictlyIncreasing (sym (merged.darts n)) (bare.each n h).ascending;
        whole = subst (λ j. (d x : ℕ) → Contains (group_at new n).darts d → Contains (group_at new n).darts x ↔ InCell k L j d x) (sym (dim n h))
            (subst (λ ds. (d x : ℕ) → Contains ds d → Contains ds x ↔ InCell k L i d x) (sym (merged.darts n)) (bare.each n h).whole);
        reached = subst (λ j. (t : ℕ) × Contains (touched j) t × Contains (group_at new n).darts t) (sym (dim n h)) (subst (λ ds. (t : ℕ) × Contains (touched i) t × Contains ds t) (sym (merged.darts n)) (bare.each n h).reached);
      }

      value : (n : ℕ) → n < length cells → HasCarriedValue k L Live label pool hook rules (group_at new n)
      value n h = subst (λ j. (r : Rule) (d : ℕ) → rule_at rules j ≡ Some r → Contains (group_at new n).darts d → IsCarried (meaning_of hook r) (known_value pool (label j)) Live (IsAlike (label j)) (InCell k L j) d (group_at new n).value) (sym (dim n h)) here
        where
          here : (r : Rule) (d : ℕ) → rule_at rules i ≡ Some r → Contains (group_at new n).darts d → IsCarried (meaning_of hook r) (known_value pool (label i)) Live (IsAlike (label i)) (InCell k L i) d (group_at new n).value
          here r d e c =
              let same : rule ≡ r = cc in
              subst (λ v. IsCarried (meaning_of hook r) (known_value pool (label i)) Live (IsAlike (label i)) (InCell k L i) d v) (sym (merged.values n h))
              (subst (λ s. IsCarried (meaning_of hook s) (known_value pool (label i)) Live (IsAlike (label i)) (InCell k L i) d (merged_before (meaning_of hook rule) pool pieces (length pieces) n)) same
              (is_carried (InCell k L i) classes i (touched i) cells bare Live (label i) pieces all live covers (meaning_of hook rule) pool n d h (subst (λ ds. Contains ds d) (merged.darts n) c)))

      hold : (j t : ℕ) → j ≡ i → IsWanted rules touched j t → (n : ℕ) × (n < length new) × ((group_at new n).dim ≡ j) × Contains (group_at new n).darts t
      hold j t e w =
          let q = bare.all t (subst (λ m. Contains (touched m) t) e w.1) in
          let s = merged.size in
          let l = q.1 in
          (q.0, omega arith, dim q.0 q.1 ∙ sym e, subst (λ ds. Contains ds t) (sym (merged.darts q.0)) q.2)

      ascending : (m n : ℕ) → m < n → n < length cells → IsBefore (group_at new m) (group_at new n)
      ascending m n l h =
          let a = ap (λ ds. slice_index ds 0) (merged.darts m) in
          let b = ap (λ ds. slice_index ds 0) (merged.darts n) in
          let r = bare.rising m n l h in
          let hm : m < length cells = omega arith in
          inr (dim m hm ∙ sym (dim n h), omega arith)

  -- the groups of all dimensions
  pub all_touched : (n : ℕ) (groups : List Group) → length rules ≤ n → AreAllOf (IsCarriedCell k L Live label pool hook rules touched) (IsWanted rules touched) (λ j. j < n) groups → AreTouchedCells k L rules touched groups
  all_touched n groups past a = record { cells = λ m h. (a.good m h).cell; all = λ i t r c. a.all i t (below i r) (r, c); ascending = a.ascending }
    where
      case : (i j : ℕ) → (i < j) ⊎ (j ≤ i)
      case i j = grind arith

      below : (i : ℕ) → IsSome (rule_at rules i) → i < n
      below i r = elim (case i n) [ inl l ↦ l | inr l ↦ absurd (let e : rule_at rules i ≡ None = get_or_past rules i None (omega arith) in false≢true (subst IsSome e r)) ]

  pub all_carried : (n : ℕ) (groups : List Group) → AreAllOf (IsCarriedCell k L Live label pool hook rules touched) (IsWanted rules touched) (λ j. j < n) groups → (m : ℕ) → m < length groups → HasCarriedValue k L Live label pool hook rules (group_at groups m)
  all_carried n groups a m h = (a.good m h).value
