-- The row of a dart, written entry by entry.
use Rattle.std.proofs.Common.{◌≡◌, ℕ, ◌+◌, ◌<◌, ◌≤◌, List, [], ◌∷◌, ◌++◌, length, get_or, set, take, drop, Option, Some, None, IsSome, refl, sym, ap, ◌∙◌, arith, append_assoc}
use Rattle.std.specs.Prelude.{option_map}
use Rattle.std.proofs.lemmas.Bool.{false≢true}
use Rattle.std.proofs.lemmas.List.{take_more, drop_more, take_all, drop_all, append-nil, set_at, set-set, set-get_or, get_or-set_same, length-take-le}
use Rattle.map_defs.specs.Rows.{Rows, row_at, IsLive, AreWide}
use Rattle.map_defs.specs.Edits.{with_entry}
use Rattle.edit_laws.proofs.RowWrites.{live-within}

-- the first entries are the new ones, and the others those that stood there
abbrev begun_row : ℕ → List ℕ → List ℕ → List ℕ
begun_row i links row = take i links ++ drop i row

abbrev pub begun : ℕ → ℕ → List ℕ → Rows → Rows
begun i d links R = set R d (option_map (begun_row i links) (row_at R d))

pub begun-none : (d : ℕ) (links : List ℕ) (R : Rows) → begun 0 d links R ≡ R
begun-none d links R = ap (set R d) (same (row_at R d)) ∙ set-get_or R d None
  where
    same : (o : Option (List ℕ)) → option_map (begun_row 0 links) o ≡ o
    same None = refl
    same (Some row) = refl

row-more : (i : ℕ) (links row : List ℕ) → i < length links → length row ≡ length links → set (begun_row i links row) i (get_or links i 0) ≡ begun_row (i + 1) links row
row-more i links row low long =
    let old : drop i row ≡ get_or row i 0 ∷ drop (i + 1) row = drop_more row i 0 (omega (arith, long)) in
    ap (λ (rest : List ℕ). set (take i links ++ rest) i (get_or links i 0)) old
    ∙ set_at (take i links) (get_or row i 0) (drop (i + 1) row) (get_or links i 0) i (length-take-le i links (omega arith))
    ∙ (sym (append_assoc (take i links) (get_or links i 0 ∷ []) (drop (i + 1) row)) ∙ ap (λ (front : List ℕ). front ++ drop (i + 1) row) (sym (take_more links i 0 low)))

-- one entry more
pub begun-more : (n i d : ℕ) (links : List ℕ) (R : Rows) → IsLive R d → AreWide n R → length links ≡ n + 1 → i < length links
    → with_entry (begun i d links R) d i (get_or links i 0) ≡ begun (i + 1) d links R
begun-more n i d links R live wide long low =
    let put : Option (List ℕ) → Option (List ℕ) = option_map (λ (row : List ℕ). set row i (get_or links i 0)) in
    let there : row_at (begun i d links R) d ≡ option_map (begun_row i links) (row_at R d) = get_or-set_same R d (option_map (begun_row i links) (row_at R d)) None (live-within R d live) in
    ap (λ (o : Option (List ℕ)). set (begun i d links R) d (put o)) there
    ∙ (set-set R d (option_map (begun_row i links) (row_at R d)) (put (option_map (begun_row i links) (row_at R d))) ∙ ap (set R d) (at (row_at R d) (wide d)))
  where
    at : (o : Option (List ℕ)) → ((row : List ℕ) → o ≡ Some row → length row ≡ n + 1)
        → option_map (λ (row : List ℕ). set row i (get_or links i 0)) (option_map (begun_row i links) o) ≡ option_map (begun_row (i + 1) links) o
    at None wide = refl
    at (Some row) wide = ap (λ (r : List ℕ). Some r) (row-more i links row low (wide row refl ∙ sym long))

-- all entries
pub begun-all : (n i d : ℕ) (links : List ℕ) (R : Rows) → IsLive R d → AreWide n R → length links ≡ n + 1 → length links ≤ i → begun i d links R ≡ set R d (Some links)
begun-all n i d links R live wide long high = ap (set R d) (at (row_at R d) live (wide d))
  where
    at : (o : Option (List ℕ)) → IsSome o → ((row : List ℕ) → o ≡ Some row → length row ≡ n + 1) → option_map (begun_row i links) o ≡ Some links
    at None live wide = absurd (false≢true live)
    at (Some row) live wide =
        let width = wide row refl in
        ap (λ (r : List ℕ). Some r) (ap (λ (front : List ℕ). front ++ drop i row) (take_all i links high) ∙ (ap (λ (rest : List ℕ). links ++ rest) (drop_all i row (omega (arith, width, long))) ∙ append-nil links))
