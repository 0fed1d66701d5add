-- The links of the new numbers, set one after the other.
use Rattle.std.proofs.Common.{◌≡◌, ℕ, zero, suc, ◌+◌, ◌-◌, ◌<◌, ◌≤◌, ◌↔◌, List, [], ◌∷◌, ◌++◌, length, get_or, Option, Some, None, refl, sym, ap, ◌∙◌, subst, inl, inr, arith}
use Rattle.std.specs.Prelude.{slice_index, slice_index_or, Contains, IfSome, Vec, Err}
use Rattle.std.specs.declared.alloc.Global.{Global}
use Rattle.std.specs.List.Sorted.{IsStrictlyIncreasing}
use Rattle.std.proofs.lemmas.Bool.{cases_lt}
use Rattle.std.proofs.lemmas.List.{get_or_append_left, get_or-append_right, length-append}
use Rattle.map_defs.specs.Kind.{Kind}
use Rattle.map_defs.specs.Cells.{NamesCell}
use Rattle.map_defs.specs.Rows.{Rows, links_of, entry_of, IsLive}
use Rattle.machine_defs.specs.Listing.{ListRow}
use Rattle.machine_defs.specs.ListingFaults.{links_in, IsLawful}
use Rattle.row_laws.specs.Rows.{darts_of, IsRow, AreRows}
use Rattle.list_text.specs.Ranks.{AreSetUpTo, AreRanked, AreLeast, items_of, lists_of}
use Rattle.row_laws.proofs.RowsRead.{good, some, some_is}
use Rattle.row_laws.proofs.RowsAt.{row-found}
use Rattle.list_text.proofs.Ranking.{names}

pub set-row : (n : ℕ) (rows : List ListRow) (p i : ℕ) (R : Rows) → n < i → AreSetUpTo n rows p i R → AreSetUpTo n rows (p + 1) 0 R
set-row n rows p i R h are = record {
  long = are.long;
  nothing = are.nothing;
  live = are.live;
  wide = are.wide;
  before = λ j q low less. elim (cases_lt q p) [
    | inl below ↦ are.before j q low below
    | inr same ↦ let e : q ≡ p = omega arith in rw e (are.here j (omega arith))
  ];
  here = λ j g. absurd (omega arith);
}

-- the least darts of one dimension more
pub least-more : (k : Kind) (n : ℕ) (rows : List ListRow) (R : Rows) (are : AreRows n rows) (lawful : (p : ℕ) → p < length rows → IsLawful k rows (slice_index (darts_of rows) p)) (ranked : AreRanked n rows R)
    (count : ℕ) (cells : List (List ℕ)) (ds : List ℕ) → AreLeast k count rows cells → IsStrictlyIncreasing ds → ((d : ℕ) → Contains ds d ↔ (IsLive R d × NamesCell k (links_of R) count d))
    → AreLeast k (count + 1) rows (cells ++ ds ∷ [])
least-more k n rows R are lawful ranked count cells ds least up members = record {
  long = let l = least.long in length-append cells (ds ∷ []) ∙ omega (arith, l);
  ascending = λ i h. elim (cases_lt i count) [
    | inl low ↦ rw (before i low) (least.ascending i low)
    | inr high ↦ rw (last i h high) up
  ];
  members = λ i p h g. elim (cases_lt i count) [
    | inl low ↦ rw (before i low) (least.members i p low g)
    | inr high ↦
        let e : i ≡ count = omega arith in
        let both = names k n rows R are lawful ranked count p g in
        rw (last i h high, e) ((λ has. both.0 ((members (p + 1)).0 has).1), λ named. (members (p + 1)).1 (ranked.live p g, both.1 named))
  ];
}
  where
    before : (i : ℕ) → i < count → get_or (cells ++ ds ∷ []) i [] ≡ get_or cells i []
    before i low = let l = least.long in get_or_append_left cells (ds ∷ []) [] i (omega (arith, l))

    last : (i : ℕ) → i < count + 1 → count ≤ i → get_or (cells ++ ds ∷ []) i [] ≡ ds
    last i h high = let zero_at : i - count ≡ 0 = omega arith in get_or-append_right cells (ds ∷ []) count i [] least.long high ∙ ap (λ (j : ℕ). get_or (ds ∷ []) j []) zero_at

-- the number of a dart that is there
pub number-is : (made : Option ℕ) (d n : ℕ) → made ≡ Some d → IfSome made (λ dart. dart ≡ n) → d ≡ n
number-is (Some x) d n e h = sym (dart_is x d e) ∙ h
  where
    dart_is : (x y : ℕ) → some x ≡ some y → x ≡ y
    dart_is x y e = some_is x y e
number-is None d n e h = absurd cc

-- the row at a place has the links of its dart
pub row-links : (n : ℕ) (rows : List ListRow) (p : ℕ) (row : ListRow) → AreRows n rows → p < length rows → row ≡ get_or rows p row
    → ((j : ℕ) → slice_index row.links j ≡ links_in rows j (slice_index (darts_of rows) p)) × (length row.links ≡ n + 1)
row-links n rows p row are h is =
    let found = row-found rows (slice_index (darts_of rows) p) p row are.ascending h refl is in
    let wide : IsRow n row = subst (IsRow n) (sym is) (are.each p row h) in
    (λ j. ap (λ (o : Option (List ℕ)). entry_of o j) (sym found), wide.1)

-- the list at a place
pub list-at : (lists : List (Vec ℕ Global)) (i : ℕ) (v : Vec ℕ Global) → i < length lists → v ≡ get_or lists i v → slice_index_or (lists_of lists) i [] ≡ v.items
list-at [] i v h is = absurd (omega arith)
list-at (list ∷ lists) zero v h is = ap items_of (sym is)
list-at (list ∷ lists) (suc i) v h is = list-at lists i v (omega arith) is

pub not-full : {A E : Type 0} (x : A) (e : E) → good {E = E} x ≡ Err e → ⊥
not-full x e h = cc
