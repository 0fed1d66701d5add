-- The laws at one link of a dart, by their parts.
use Rattle.std.proofs.Common.{◌≡◌, ◌≢◌, ℕ, zero, suc, ◌+◌, ◌<◌, List, [], ◌∷◌, ◌++◌, length, take, drop, get_or, sym, ap, ◌∙◌, inl, inr, arith}
use Rattle.std.proofs.lemmas.List.{length-take-le, take_more}
use Rattle.std.proofs.lemmas.List.Elements.{All-push}
use Rattle.std.specs.Prelude.{All}
use Rattle.std.proofs.lemmas.Bool.{cases_lt}
use Rattle.map_defs.specs.Kind.{Kind, IsDistant}
use Rattle.machine_defs.specs.Listing.{ListRow}
use Rattle.machine_defs.specs.ListingFaults.{links_in, KeepsLaws, IsLawful, IsFirstWithout}
use Rattle.row_laws.specs.Rows.{IsRow, IsClosedAt, AreClosed}
use Rattle.row_laws.proofs.RowsAt.{link-above}

-- above the dimension all links are free
pub closed-all : (k : Kind) (n : ℕ) (rows : List ListRow) (i d e end : ℕ) → All (IsRow n) rows → n < end → ((j : ℕ) → i < j → j < end → IsDistant k i j → IsClosedAt k rows i d e j)
    → AreClosed k rows i d e
closed-all k n rows i d e end each high below j distant less = elim (cases_lt j end) [
  | inl low ↦ below j less low distant
  | inr past ↦ ((λ _. link-above n rows j e each (omega arith), λ _. link-above n rows j d each (omega arith)), λ some. absurd (some (link-above n rows j d each (omega arith))))
]

pub lawful-all : (k : Kind) (n : ℕ) (rows : List ListRow) (d end : ℕ) → All (IsRow n) rows → n < end
    → ((i : ℕ) → i < end → links_in rows i d ≢ 0 → KeepsLaws k rows i d (links_in rows i d)) → IsLawful k rows d
lawful-all k n rows d end each high below i some = elim (cases_lt i end) [
  | inl low ↦ below i low some
  | inr past ↦ absurd (some (link-above n rows i d each (omega arith)))
]

parts-at : {A : Type 0} (xs : List A) (p : ℕ) (x : A) → p < length xs → x ≡ get_or xs p x → xs ≡ take p xs ++ x ∷ drop (p + 1) xs
parts-at [] p x h is = absurd (omega arith)
parts-at (y ∷ xs) zero x h is = ap (λ (z : _). z ∷ xs) (sym is)
parts-at (y ∷ xs) (suc p) x h is =
    let e : suc p + 1 ≡ suc (p + 1) = omega arith in
    rw e (ap (λ (zs : _). y ∷ zs) (parts-at xs p x (omega arith) is))

-- the element at a place is the first without P
pub first-at : {A : Type 0} (P : A → Type 0) (xs : List A) (p : ℕ) (x : A) → p < length xs → x ≡ get_or xs p x → All P (take p xs) → (P x → ⊥) → IsFirstWithout P xs p
first-at P xs p x h is all fails = record {
  before = take p xs;
  first = x;
  behind = drop (p + 1) xs;
  parts = parts-at xs p x h is;
  all = all;
  fails = fails;
  counted = length-take-le p xs (omega arith);
}

-- one more has P
pub more-have : {A : Type 0} (P : A → Type 0) (xs : List A) (p : ℕ) (x : A) → p < length xs → x ≡ get_or xs p x → All P (take p xs) → P x → All P (take (p + 1) xs)
more-have P xs p x h is all has =
    let more : take (p + 1) xs ≡ take p xs ++ x ∷ [] = take_more xs p x h ∙ ap (λ (z : _). take p xs ++ z ∷ []) (sym is) in
    rw more (All-push P (take p xs) x all has)
