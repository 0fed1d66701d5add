-- The darts of the groups of one dimension.
use Rattle.std.proofs.Common.{◌≡◌, ℕ, ◌+◌, ◌<◌, ◌≤◌, ◌⊎◌, ◌↔◌, ◌==◌, if◌then◌else◌, rules, tests, List, [], ◌++◌, length, sym, ap, ◌∙◌, subst, inl, inr, arith, Contains}
use Rattle.std.proofs.lemmas.Bool.{cases_eq}
use Rattle.std.proofs.lemmas.List.Elements.{Contains-append_left, Contains-append_right, Contains-append_cases}
use Rattle.store_defs.specs.Groups.{Group, group_at}
use Rattle.map_defs.specs.Edits.{Edit}
use Rattle.valued_map.specs.Told.{IsRelabelledPlace, IsRevaluedPlace}

-- d is a dart of one of the first k groups, of this dimension
abbrev pub InGroups : ℕ → List Group → ℕ → ℕ → Type 0
InGroups i groups k d = (n : ℕ) × (n < k) × ((group_at groups n).dim ≡ i) × Contains (group_at groups n).darts d

pub in-none : (i : ℕ) (groups : List Group) (ended : List ℕ) (d : ℕ) → Contains ended d ↔ (Contains ended d ⊎ InGroups i groups 0 d)
in-none i groups ended d = (λ h. inl h, λ h. (elim h [ inl there ↦ there | inr grouped ↦ absurd (let lt : grouped.0 < 0 = grouped.1 in omega arith) ]))

-- the darts of one group more
added-are : (i : ℕ) (g : Group) (d : ℕ) → Contains (if g.dim == i then g.darts else []) d ↔ ((g.dim ≡ i) × Contains g.darts d)
added-are i g d = go (cases_eq g.dim i)
  where
    go : (g.dim ≡ i) ⊎ (g.dim ≡ i → ⊥) → Contains (if g.dim == i then g.darts else []) d ↔ ((g.dim ≡ i) × Contains g.darts d)
    go (inl same) = (λ h. (same, subst (λ (xs : List ℕ). Contains xs d) (chosen same) h), λ h. subst (λ (xs : List ℕ). Contains xs d) (sym (chosen same)) h.1)
      where
        chosen : g.dim ≡ i → (if g.dim == i then g.darts else []) ≡ g.darts
        chosen e = search (rules, tests)
    go (inr other) = (
      λ h. absurd (let none : Contains [] d = subst (λ (xs : List ℕ). Contains xs d) (left-out other) h in let lt : none.0 < 0 = none.1 in omega arith),
      λ h. absurd (other h.0),
    )
      where
        left-out : (g.dim ≡ i → ⊥) → (if g.dim == i then g.darts else []) ≡ []
        left-out e = search (rules, tests)

pub in-more : (i : ℕ) (groups : List Group) (ended : List ℕ) (k : ℕ) (g : Group) (now next : List ℕ) → k < length groups → g ≡ group_at groups k
    → next ≡ now ++ (if g.dim == i then g.darts else [])
    → ((d : ℕ) → Contains now d ↔ (Contains ended d ⊎ InGroups i groups k d))
    → (d : ℕ) → Contains next d ↔ (Contains ended d ⊎ InGroups i groups (k + 1) d)
in-more i groups ended k g now next lt is pushed are d = (
  λ h. (elim (Contains-append_cases now (if g.dim == i then g.darts else []) d (subst (λ (xs : List ℕ). Contains xs d) pushed h)) [
    | inl early ↦ elim ((are d).0 early) [
      | inl gone ↦ inl gone
      | inr (n, below, dim, there) ↦ inr (n, omega arith, dim, there)
    ]
    | inr late ↦ (let there = (added-are i g d).0 late in
        inr (k, omega arith, sym (ap (λ (x : Group). x.dim) is) ∙ there.0, subst (λ (x : Group). Contains x.darts d) is there.1))
  ]),
  λ h. subst (λ (xs : List ℕ). Contains xs d) (sym pushed) (elim h [
    | inl gone ↦ Contains-append_left now _ d ((are d).1 (inl gone))
    | inr (n, below, dim, there) ↦ elim (cases_eq n k) [
      | inl last ↦ Contains-append_right now _ d ((added-are i g d).1 (
        ap (λ (x : Group). x.dim) is ∙ ap (λ (m : ℕ). (group_at groups m).dim) (sym last) ∙ dim,
        subst (λ (x : Group). Contains x.darts d) (sym is) (subst (λ (m : ℕ). Contains (group_at groups m).darts d) last there),
      ))
      | inr other ↦ Contains-append_left now _ d ((are d).1 (inr (n, omega arith, dim, there)))
    ]
  ]),
)

-- the places of the first dimensions, below m, whose ids are given anew
abbrev pub IsPlaceIn : List ℕ → List Group → ℕ → ℕ → ℕ → Type 0
IsPlaceIn ended groups m i d = (i < m) × (Contains ended d ⊎ InGroups i groups (length groups) d)

-- those of one dimension more
pub place-more : (ended : List ℕ) (groups : List Group) (m : ℕ) (darts : List ℕ) → ((d : ℕ) → Contains darts d ↔ (Contains ended d ⊎ InGroups m groups (length groups) d))
    → (i d : ℕ) → (IsPlaceIn ended groups m i d ⊎ ((i ≡ m) × Contains darts d)) ↔ IsPlaceIn ended groups (m + 1) i d
place-more ended groups m darts are i d = (to, back)
  where
    to : IsPlaceIn ended groups m i d ⊎ ((i ≡ m) × Contains darts d) → IsPlaceIn ended groups (m + 1) i d
    to (inl (low, place)) = (omega arith, place)
    to (inr (same, there)) = (omega arith, subst (λ (j : ℕ). Contains ended d ⊎ InGroups j groups (length groups) d) (sym same) ((are d).0 there))

    back : IsPlaceIn ended groups (m + 1) i d → IsPlaceIn ended groups m i d ⊎ ((i ≡ m) × Contains darts d)
    back (low, place) = elim (cases_eq i m) [
      | inl same ↦ inr (same, (are d).1 (subst (λ (j : ℕ). Contains ended d ⊎ InGroups j groups (length groups) d) same place))
      | inr other ↦ inl (omega arith, place)
    ]

-- and of all dimensions
pub place-all : (n : ℕ) (ended : List ℕ) (groups : List Group) → ((h : ℕ) → h < length groups → (group_at groups h).dim ≤ n)
    → (i d : ℕ) → IsPlaceIn ended groups (n + 1) i d ↔ IsRelabelledPlace n ended groups i d
place-all n ended groups low i d = (to, back)
  where
    to : IsPlaceIn ended groups (n + 1) i d → IsRelabelledPlace n ended groups i d
    to (within, inl gone) = inl (within, gone)
    to (within, inr (h, lt, dim, there)) = inr (h, lt, sym dim, there)

    back : IsRelabelledPlace n ended groups i d → IsPlaceIn ended groups (n + 1) i d
    back (inl (within, gone)) = (within, inl gone)
    back (inr (h, lt, dim, there)) = (let small = low h lt in omega arith, inr (h, lt, sym dim, there))

-- the places of darts that end and of those that an edit bore, beside those of groups
pub renewed-places : (n older : ℕ) (e : Edit) (renewed : List ℕ) (groups : List Group) → ((d : ℕ) → Contains renewed d ↔ (Contains e.deaths d ⊎ ((older < d) × (d < older + e.births + 1))))
    → (i d : ℕ) → IsRelabelledPlace n renewed groups i d ↔ IsRevaluedPlace n older e groups i d
renewed-places n older e renewed groups are i d = (to, from)
  where
    to : IsRelabelledPlace n renewed groups i d → IsRevaluedPlace n older e groups i d
    to (inl (low, there)) = elim ((are d).0 there) [ inl gone ↦ inl (inl (low, gone)) | inr born ↦ inr (low, born.0, born.1) ]
    to (inr grouped) = inl (inr grouped)

    from : IsRevaluedPlace n older e groups i d → IsRelabelledPlace n renewed groups i d
    from (inl (inl (low, gone))) = inl (low, (are d).1 (inl gone))
    from (inl (inr grouped)) = inr grouped
    from (inr (low, high, within)) = inl (low, (are d).1 (inr (high, within)))
