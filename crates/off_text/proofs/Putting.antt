-- Places put at the numbers of darts.
use Rattle.std.proofs.Common.{◌≡◌, ◌⊎◌, inl, inr, ℕ, ◌+◌, ◌<◌, List, [], length, ◌≤◌, slice_index, slice_index_or, Contains, sym, ap, ◌∙◌, subst, arith}
use Rattle.std.proofs.lemmas.Bool.{cases_lt}
use Rattle.off_text.specs.MapViews.{IsPlaced}

-- A place was put at the numbers of these darts, and the others were left.
pub record IsPut (old : List ℕ) (darts : List ℕ) (place : ℕ) (new : List ℕ) : Type 0 where
  pub long : length new ≡ length old
  pub put : (x : ℕ) → Contains darts x → slice_index new x ≡ place
  pub kept : (x : ℕ) → Contains darts x ⊎ (slice_index new x ≡ slice_index old x)

-- The numbers of the darts of the lists below this place have the place of a list in which they stand.
pub record ArePlaced (made : ℕ) (lists : List (List ℕ)) (count : ℕ) (places : List ℕ) : Type 0 where
  pub long : length places ≡ made + 1
  pub placed : (x p : ℕ) → p < count → Contains (slice_index_or lists p []) x → IsPlaced lists x (slice_index places x)

pub placed-more : (made : ℕ) (lists : List (List ℕ)) (count : ℕ) (cell old new : List ℕ) → count < length lists → slice_index_or lists count [] ≡ cell
    → length new ≡ length old → ((x : ℕ) → Contains cell x → slice_index new x ≡ count) → ((x : ℕ) → Contains cell x ⊎ (slice_index new x ≡ slice_index old x))
    → ArePlaced made lists count old → ArePlaced made lists (count + 1) new
placed-more made lists count cell old new low at long put kept before = record {
  long = long ∙ before.long;
  placed = λ x p below has. placed x p has (kept x) (cases_lt p count) below;
}
  where
    own : (x : ℕ) → Contains cell x → IsPlaced lists x (slice_index new x)
    own x has = subst (IsPlaced lists x) (sym (put x has)) (low, subst (λ xs. Contains xs x) (sym at) has)

    placed : (x p : ℕ) → Contains (slice_index_or lists p []) x → Contains cell x ⊎ (slice_index new x ≡ slice_index old x) → (p < count) ⊎ (count ≤ p) → p < count + 1 → IsPlaced lists x (slice_index new x)
    placed x p has (inl among) where_is below = own x among
    placed x p has (inr same) (inl earlier) below = subst (IsPlaced lists x) (sym same) (before.placed x p earlier has)
    placed x p has (inr same) (inr later) below =
        let is : p ≡ count = omega arith in own x (subst (λ xs. Contains xs x) (ap (λ q. slice_index_or lists q []) is ∙ at) has)
