-- Lists of cells: each live dart lies in one of them.
use Rattle.std.proofs.Common.{◌≡◌, ◌⊎◌, ◌↔◌, inl, inr, ℕ, zero, suc, ◌≤◌, ◌<◌, List, [], length, slice_index, slice_index_or, Option, Some, None, Contains, sym, ap, ◌∙◌, subst, arith}
use Rattle.std.proofs.lemmas.Bool.{cases_lt}
use Rattle.std.proofs.lemmas.List.{get_or_default}
use Rattle.map_defs.specs.Kind.{Kind}
use Rattle.map_defs.specs.LinkWords.{through_second}
use Rattle.map_defs.specs.Rows.{Rows, links_of, entry_of, IsLive, IsSound}
use Rattle.map_defs.specs.Cells.{InCell, NamesCell, Leads, here, onward}
use Rattle.map_defs.specs.LinkWords.{IsCellWord}
use Rattle.link_laws.proofs.Orbits.{orbit_trans}
use Rattle.link_laws.proofs.CellTurns.{cell_turns}
use Rattle.value_laws.proofs.Rising.{has_least}
use Rattle.value_laws.proofs.Adding.{told_held}
use Rattle.cell_walk.specs.CellLists.{AreCellsOf}

pub rows-nothing : (k : Kind) (n : ℕ) (rows : Rows) → IsSound k n rows → (i : ℕ) → links_of rows i 0 ≡ 0
rows-nothing k n rows sound i = ap (λ row. entry_of row i) sound.nothing

-- the darts of a live dart's cell are live
pub cell-live : (k : Kind) (n : ℕ) (rows : Rows) → IsSound k n rows → (i d x : ℕ) → IsLive rows d → InCell k (links_of rows) i d x → IsLive rows x
cell-live k n rows sound i d x live here = live
cell-live k n rows sound i d x live (onward {x = u} {y = v} o s) = go s.0.first s.0.second s.2
  where
    go : (first : ℕ) (second : Option ℕ) → through_second (links_of rows) second (links_of rows first u) ≡ v → IsLive rows v
    go first None is = subst (IsLive rows) is (sound.live first u (λ none. s.3 (sym is ∙ none)))
    go first (Some j) is = subst (IsLive rows) is (sound.live j (links_of rows first u) (λ none. s.3 (sym is ∙ none)))

-- some list below this place holds x, or none does
held_below : (lists : List (List ℕ)) (x m : ℕ) → ((p : ℕ) × (p < m) × Contains (slice_index_or lists p []) x) ⊎ ((p : ℕ) → p < m → Contains (slice_index_or lists p []) x → ⊥)
held_below lists x zero = inr (λ p low has. omega arith)
held_below lists x (suc m) = on (held_below lists x m) (told_held (slice_index_or lists m []) x)
  where
    Held : ℕ → Type 0
    Held p = Contains (slice_index_or lists p []) x

    on : ((p : ℕ) × (p < m) × Held p) ⊎ ((p : ℕ) → p < m → Held p → ⊥) → Held m ⊎ (Held m → ⊥) → ((p : ℕ) × (p < suc m) × Held p) ⊎ ((p : ℕ) → p < suc m → Held p → ⊥)
    on (inl below) told = inl (below.0, omega (arith, below.1), below.2)
    on (inr none) (inl has) = inl (m, omega arith, has)
    on (inr none) (inr not_last) = inr (λ p low has. last_or_below p low has (cases_lt p m))
      where
        last_or_below : (p : ℕ) → p < suc m → Held p → (p < m) ⊎ (m ≤ p) → ⊥
        last_or_below p low has (inl below) = none p below has
        last_or_below p low has (inr above) = let same : p ≡ m = omega arith in not_last (subst Held same has)

same_place : (xs : List ℕ) (p m : ℕ) → p < length xs → slice_index_or xs p m ≡ m → slice_index xs p ≡ m
same_place xs p m low is = get_or_default xs p 0 m low ∙ is

-- each live dart lies in some list of the cells of the map
pub listed : (k : Kind) (n : ℕ) (rows : Rows) (i : ℕ) (least : List ℕ) (lists : List (List ℕ)) → IsSound k n rows
    → ((d : ℕ) → Contains least d ↔ (IsLive rows d × NamesCell k (links_of rows) i d))
    → AreCellsOf k (links_of rows) i least lists → (x : ℕ) → IsLive rows x → (p : ℕ) × (p < length lists) × Contains (slice_index_or lists p []) x
listed k n rows i least lists sound members are x live = go (held_below lists x (length lists))
  where
    go : ((p : ℕ) × (p < length lists) × Contains (slice_index_or lists p []) x) ⊎ ((p : ℕ) → p < length lists → Contains (slice_index_or lists p []) x → ⊥)
        → (p : ℕ) × (p < length lists) × Contains (slice_index_or lists p []) x
    go (inl has) = has
    go (inr none) = absurd (has_least (InCell k (links_of rows) i x) x here in_least)
      where
        in_least : (m : ℕ) → InCell k (links_of rows) i x m → ((y : ℕ) → InCell k (links_of rows) i x y → m ≤ y) → ⊥
        in_least m among low =
            let at = (members m).1 (cell-live k n rows sound i x m live among, λ e o. low e (orbit_trans (Leads (links_of rows) (IsCellWord k i)) x m e among o)) in
            let back : InCell k (links_of rows) i m x = cell_turns k (links_of rows) (rows-nothing k n rows sound) sound.back i x m among in
            let named : slice_index least at.0 ≡ m = same_place least at.0 m at.1 at.2 in
            none at.0 (omega (arith, at.1, are.long)) ((are.members at.0 at.1 x).1 (subst (λ d. InCell k (links_of rows) i d x) (sym named) back))
