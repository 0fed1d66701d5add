-- Whether a search among ascending numbers finds one.
use Rattle.std.proofs.Common.{◌≡◌, ℕ, ◌↔◌, List, get_or, Result, Ok, Err, refl, ◌∙◌, inl, inr, arith, nat_cmp}
use Rattle.std.specs.Prelude.{is_ok, IsTrue, Contains}
use Rattle.std.specs.List.Sorted.{IsStrictlyIncreasing, IsBinarySearchResult}
use Rattle.std.proofs.lemmas.Bool.{cases_lt, false≢true}
use Rattle.std.proofs.lemmas.List.{get_or_default}
use Rattle.std.proofs.lemmas.List.Sorted.{searched}
use Rattle.row_laws.proofs.RowsAt.{not_below}

pub found-contained : (ds : List ℕ) (x : ℕ) (r : Result ℕ ℕ) → IsStrictlyIncreasing ds → IsBinarySearchResult (λ y. nat_cmp y x) ds r → IsTrue (is_ok r) ↔ Contains ds x
found-contained ds x (Ok i) up h =
    let found = searched ds x (Ok i) h (not_below ds up) in
    (λ _. (i, found.0, get_or_default ds i x 0 found.0 ∙ found.1), λ _. refl)
found-contained ds x (Err i) up h =
    let found = searched ds x (Err i) h (not_below ds up) in (
      λ t. absurd (false≢true t),
      λ has.
          let at : get_or ds has.0 0 ≡ x = get_or_default ds has.0 0 x has.1 ∙ has.2 in
          elim (cases_lt has.0 i) [
            | inl before ↦ let less = found.1 has.0 before in absurd (omega (arith, less, at))
            | inr after ↦ let more = found.2 has.0 after has.1 in absurd (omega (arith, more, at))
          ],
    )
