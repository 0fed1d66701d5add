-- Lists of darts, one for each dimension, to which that of the next dimension is added.
use Rattle.std.proofs.Common.{ℕ, ◌≡◌, ◌+◌, ◌<◌, ◌≤◌, ◌⊎◌, inl, inr, List, [], ◌∷◌, ◌++◌, length, length-append, Contains, refl, sym, ap, subst, ◌∙◌, arith}
use Rattle.std.proofs.lemmas.List.{get_or_past, get_or_append_left, get_or-append-add}
use Rattle.std.proofs.lemmas.Bool.{cases_eq}
use Rattle.store_defs.specs.Groups.{darts_in}
use Rattle.valued_map.specs.Changing.{IsListPut}

pub which : (i n : ℕ) → (i < n) ⊎ ((i ≡ n) ⊎ (n < i))
which i n = grind arith

module _ (lists : List (List ℕ)) (darts : List ℕ) where
  pub list-before : (i : ℕ) → i < length lists → darts_in (lists ++ darts ∷ []) i ≡ darts_in lists i
  list-before i low = get_or_append_left lists (darts ∷ []) [] i low

  pub list-at : (i : ℕ) → i ≡ length lists → darts_in (lists ++ darts ∷ []) i ≡ darts
  list-at i same = ap (darts_in (lists ++ darts ∷ [])) (omega (arith, same)) ∙ get_or-append-add lists (darts ∷ []) 0 []

  pub list-past : (i : ℕ) → length lists < i → darts_in (lists ++ darts ∷ []) i ≡ []
  list-past i high = get_or_past (lists ++ darts ∷ []) i [] (let s = length-append lists (darts ∷ []) in omega arith)

-- a dimension without darts needs no list
pub put-none : (dim : ℕ) (lists : List (List ℕ)) → length lists ≤ dim → IsListPut dim [] lists lists
put-none dim lists few = record { size = omega arith; here = get_or_past lists dim [] few; others = λ i other. refl }

-- an empty list more changes none
pub pad-more : (old lists : List (List ℕ)) → length old ≤ length lists → ((i : ℕ) → darts_in lists i ≡ darts_in old i) → (i : ℕ) → darts_in (lists ++ [] ∷ []) i ≡ darts_in old i
pad-more old lists long same i = elim (which i (length lists)) [
  | inl low ↦ list-before lists [] i low ∙ same i
  | inr rest ↦ elim rest [
    | inl here ↦ list-at lists [] i here ∙ sym (get_or_past old i [] (omega (arith, here)))
    | inr high ↦ list-past lists [] i high ∙ sym (get_or_past old i [] (omega arith))
  ]
]

-- the list of the next dimension is put behind those of the others
pub put-last : (dim : ℕ) (darts : List ℕ) (old lists : List (List ℕ)) → length lists ≡ dim → ((i : ℕ) → darts_in lists i ≡ darts_in old i) → length old ≤ dim
    → IsListPut dim darts old (lists ++ darts ∷ [])
put-last dim darts old lists size same few = record {
  size = (let s = length-append lists (darts ∷ []) in omega (arith, s, size));
  here = list-at lists darts dim (sym size);
  others = λ i other. (elim (which i (length lists)) [
    | inl low ↦ list-before lists darts i low ∙ same i
    | inr rest ↦ elim rest [
      | inl here ↦ absurd (other (here ∙ size))
      | inr high ↦ list-past lists darts i high ∙ sym (get_or_past old i [] (omega (arith, size)))
    ]
  ]);
}

-- The lists of the first dimensions have just the darts that are wanted there, and maybe others that may stand there.
pub record AreListedBelow (Only Wanted : ℕ → ℕ → Type 0) (dim : ℕ) (lists : List (List ℕ)) : Type 0 where
  pub size : length lists ≤ dim
  pub only : (i x : ℕ) → Contains (darts_in lists i) x → Only i x
  pub all : (i x : ℕ) → i < dim → Wanted i x → Contains (darts_in lists i) x

module _ (Only Wanted : ℕ → ℕ → Type 0) where
  pub listed-none : AreListedBelow Only Wanted 0 []
  listed-none = record { size = omega arith; only = λ i x here. (let lt : here.0 < 0 = here.1 in absurd (omega arith)); all = λ i x lt. absurd (omega arith) }

  pub listed-more : (dim : ℕ) (lists new : List (List ℕ)) (darts : List ℕ) → AreListedBelow Only Wanted dim lists → IsListPut dim darts lists new
      → ((x : ℕ) → Contains darts x → Only dim x) → ((x : ℕ) → Wanted dim x → Contains darts x)
      → AreListedBelow Only Wanted (dim + 1) new
  listed-more dim lists new darts a put only all = record {
    size = put.size;
    only = λ i x here. (elim (cases_eq i dim) [
      | inl same ↦ subst (λ j. Only j x) (sym same) (only x (subst (λ ds. Contains ds x) (at i same) here))
      | inr other ↦ a.only i x (subst (λ ds. Contains ds x) (put.others i other) here)
    ]);
    all = λ i x lt wanted. (elim (cases_eq i dim) [
      | inl same ↦ subst (λ ds. Contains ds x) (sym (at i same)) (all x (subst (λ j. Wanted j x) same wanted))
      | inr other ↦ subst (λ ds. Contains ds x) (sym (put.others i other)) (a.all i x (omega arith) wanted)
    ]);
  }
    where
      at : (i : ℕ) → i ≡ dim → darts_in new i ≡ darts
      at i same = ap (darts_in new) same ∙ put.here
