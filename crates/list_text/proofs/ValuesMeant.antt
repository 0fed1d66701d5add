-- The rules and the values that the lines mean.
use Rattle.std.proofs.Common.{◌≡◌, ◌≢◌, ℕ, zero, suc, ◌+◌, ◌<◌, ◌==◌, Bool, true, false, cond, List, [], ◌∷◌, ◌++◌, length, map, refl, ap, ◌∙◌, subst, arith}
use Rattle.std.specs.Prelude.{All, filter, slice_index}
use Rattle.std.specs.List.{list_any, range_with_len}
use Rattle.std.proofs.lemmas.Bool.{false≢true}
use Rattle.std.proofs.lemmas.Bool.Decides.{nat_tests}
use Rattle.std.proofs.lemmas.List.{map-append}
use Rattle.std.proofs.lemmas.List.Elements.{filter-append}
use Rattle.map_defs.specs.Kind.{Kind, alpha, beta, letter}
use Rattle.machine_defs.specs.Listing.{ListRow, ListRule, ListValue}
use Rattle.machine_defs.specs.ListingFaults.{HasRow, IsLawful, first_copy}
use Rattle.row_laws.specs.Rows.{darts_of}
use Rattle.list_text.specs.Letters.{kind_named}
use Rattle.row_laws.proofs.RowsAt.{row-missing}
use Rattle.row_laws.proofs.RowPlaces.{lawful-at}

pub range-suc : (a n j : ℕ) → a + n ≡ j → range_with_len a (suc n) ≡ range_with_len a n ++ j ∷ []
range-suc a zero j e = let same : a ≡ j = omega arith in ap (λ (i : ℕ). i ∷ []) same
range-suc a (suc n) j e = ap (λ (is : List ℕ). a ∷ is) (range-suc (a + 1) n j (omega arith))

range-more : (n : ℕ) → range_with_len 0 (n + 1) ≡ range_with_len 0 n ++ n ∷ []
range-more n = let more : n + 1 ≡ suc n = omega arith in ap (range_with_len 0) more ∙ range-suc 0 n n (omega arith)

-- the rules of the dimensions below
abbrev pub rules_below : ℕ → List ListValue → List ListRule
rules_below dim values = map first_copy (filter (λ (i : ℕ). list_any (λ (v : ListValue). v.dim == i) values) (range_with_len 0 dim))

pub rules-more : (dim : ℕ) (values : List ListValue) → rules_below (dim + 1) values ≡ rules_below dim values ++ cond (list_any (λ (v : ListValue). v.dim == dim) values) (first_copy dim ∷ []) []
rules-more dim values =
    ap (λ (is : List ℕ). map first_copy (filter test is)) (range-more dim)
    ∙ (ap (map first_copy) (filter-append test (range_with_len 0 dim) (dim ∷ []))
    ∙ (map-append first_copy (filter test (range_with_len 0 dim)) (filter test (dim ∷ [])) ∙ ap (λ (more : List ListRule). rules_below dim values ++ more) (one (test dim) refl)))
  where
    test : ℕ → Bool
    test i = list_any (λ (v : ListValue). v.dim == i) values

    one : (b : Bool) → test dim ≡ b → map first_copy (filter test (dim ∷ [])) ≡ cond (test dim) (first_copy dim ∷ []) []
    one true e = rw e refl
    one false e = rw e refl

-- a byte that is not the letter of generalized maps
pub named-beta : (byte : ℕ) → byte ≢ letter alpha → kind_named byte ≡ beta
named-beta byte other = let no : byte == letter alpha ≡ false = grind (arith, nat_tests) in rw no refl

-- the laws at the darts of all rows, where the kind and the rows are told in another way
pub lawful-of : (kind k : Kind) (rows listed : List ListRow) → kind ≡ k → rows ≡ listed → All (λ (row : ListRow). IsLawful kind listed row.dart) listed
    → (p : ℕ) → p < length rows → IsLawful k rows (slice_index (darts_of rows) p)
lawful-of kind k rows listed named is lawful p h =
    let here : IsLawful kind listed (slice_index (darts_of listed) p) = lawful-at kind listed listed lawful p (rw is at h) in
    rw is (subst (λ (kind : Kind). IsLawful kind listed (slice_index (darts_of listed) p)) named here)

-- where no place is the dart's, it has no row
pub no-row : (rows listed : List ListRow) (d : ℕ) → rows ≡ listed → ((p : ℕ) → p < length rows → slice_index (darts_of rows) p ≢ d) → HasRow listed d → ⊥
no-row rows listed d is none has = let missing = row-missing listed d (rw is at none) in false≢true (rw missing at has)
