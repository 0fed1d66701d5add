-- The links of darts that were only born.
use Rattle.std.proofs.Common.{◌≡◌, ℕ, zero, suc, ◌+◌, List, length, ◌∷◌, [], Some, None, refl, sym, ◌∙◌, arith}
use Rattle.map_defs.specs.Kind.{Kind, inverse}
use Rattle.map_defs.specs.Laws.{Laws}
use Rattle.map_defs.specs.Links.{Links}
use Rattle.map_defs.specs.Rows.{row_at, links_of, IsSound}
use Rattle.map_defs.specs.Edits.{after_edit}
use Rattle.edit_laws.proofs.EditPlain.{births_edit}
use Rattle.edit_laws.proofs.RowWrites.{births-links}

no-links : (i x : ℕ) → links_of (None ∷ []) i x ≡ 0
no-links i zero = refl
no-links i (suc x) = refl

free-laws : (k : Kind) (L : Links) → ((i x : ℕ) → L i x ≡ 0) → Laws k L
free-laws k L free = record {
  nil = λ i. free i 0;
  back = λ i x h. absurd (h (free i x));
  apart = λ i x own dart is. dart (sym is ∙ free i x);
  square = λ i j x far. free (inverse k i) (L j x) ∙ sym (free (inverse k j) (L i x));
}

pub born-laws : (k : Kind) (n births : ℕ) → Laws k (links_of (after_edit n (births_edit births) (None ∷ [])))
born-laws k n births = free-laws k (links_of (after_edit n (births_edit births) (None ∷ []))) (λ i x. births-links n births (None ∷ []) i x ∙ no-links i x)

pub none-sound : (k : Kind) (n : ℕ) → IsSound k n (None ∷ [])
none-sound k n = record {
  nothing = refl;
  live = λ i x h. absurd (h (no-links i x));
  back = λ i x h. absurd (h (no-links i x));
  wide = wide;
  few = omega arith;
}
  where
    wide : (d : ℕ) (row : List ℕ) → row_at (None ∷ []) d ≡ Some row → length row ≡ n + 1
    wide zero row is = absurd (let e : None ≡ Some row = is in cc)
    wide (suc d) row is = absurd (let e : None ≡ Some row = is in cc)
