-- The counts of a map, dimension by dimension.
use Rattle.std.proofs.Common.{◌≡◌, ℕ, ◌+◌, ◌≤◌, ◌<◌, ◌⊎◌, ◌↔◌, List, [], ◌∷◌, ◌++◌, length, slice_index, Contains, sym, ap, ◌∙◌, subst, inl, inr, arith}
use Rattle.std.proofs.lemmas.Bool.{cases_lt}
use Rattle.std.proofs.lemmas.List.{get_or_append_left, get_or_at, length_push}
use Rattle.std.specs.List.Sorted.{IsStrictlyIncreasing}
use Rattle.map_defs.specs.Kind.{Kind}
use Rattle.map_defs.specs.Cells.{NamesCell, NamesComponent}
use Rattle.map_defs.specs.Counts.{HasCount, AreCounts}
use Rattle.map_defs.specs.Rows.{Rows, IsLive, links_of, live_count}

pub counted : (P : ℕ → Type 0) (xs : List ℕ) (count : ℕ) → ((d : ℕ) → Contains xs d ↔ P d) → IsStrictlyIncreasing xs → length xs ≡ count → HasCount P count
counted P xs count members up long = record { numbers = xs; ascending = up; members = members; counted = long }

-- the counts of darts and of the cells of dimensions below next
pub record IsCounted (k : Kind) (rows : Rows) (next : ℕ) (counts : List ℕ) : Type 0 where
  pub long : length counts ≡ next + 1
  pub darts : slice_index counts 0 ≡ live_count rows
  pub cells : (i : ℕ) → i < next → HasCount (λ d. IsLive rows d × NamesCell k (links_of rows) i d) (slice_index counts (i + 1))

pub counted-more : (k : Kind) (rows : Rows) (next count : ℕ) (counts : List ℕ) → HasCount (λ d. IsLive rows d × NamesCell k (links_of rows) next d) count → IsCounted k rows next counts → IsCounted k rows (next + 1) (counts ++ count ∷ [])
counted-more k rows next count counts has before = record {
  long = length_push counts count ∙ ap (λ m. m + 1) before.long;
  darts = get_or_append_left counts (count ∷ []) 0 0 (omega (arith, before.long)) ∙ before.darts;
  cells = λ i low. cells i low (cases_lt i next);
}
  where
    cells : (i : ℕ) → i < next + 1 → (i < next) ⊎ (next ≤ i) → HasCount (λ d. IsLive rows d × NamesCell k (links_of rows) i d) (slice_index (counts ++ count ∷ []) (i + 1))
    cells i low (inl below) =
        subst (HasCount (λ d. IsLive rows d × NamesCell k (links_of rows) i d))
        (sym (get_or_append_left counts (count ∷ []) 0 (i + 1) (omega (arith, before.long)))) (before.cells i below)
    cells i low (inr above) =
        let is : next ≡ i = omega arith in
        let last : length counts ≡ i + 1 = omega (arith, before.long) in
        subst (HasCount (λ d. IsLive rows d × NamesCell k (links_of rows) i d))
        (sym (get_or_at counts count [] 0 (i + 1) last))
        (subst (λ j. HasCount (λ d. IsLive rows d × NamesCell k (links_of rows) j d) count) is has)

pub counted-all : (k : Kind) (n : ℕ) (rows : Rows) (next count : ℕ) (counts : List ℕ) → next ≡ n + 1 → HasCount (λ d. IsLive rows d × NamesComponent (links_of rows) d) count → IsCounted k rows next counts → AreCounts k n rows (counts ++ count ∷ [])
counted-all k n rows next count counts past has before = record {
  long = length_push counts count ∙ omega (arith, before.long);
  darts = get_or_append_left counts (count ∷ []) 0 0 (omega (arith, before.long)) ∙ before.darts;
  cells = λ i low.
      subst (HasCount (λ d. IsLive rows d × NamesCell k (links_of rows) i d))
      (sym (get_or_append_left counts (count ∷ []) 0 (i + 1) (omega (arith, before.long)))) (before.cells i (omega arith));
  components =
      subst (HasCount (λ d. IsLive rows d × NamesComponent (links_of rows) d))
      (sym (get_or_at counts count [] 0 (n + 2) (omega (arith, before.long)))) has;
}
