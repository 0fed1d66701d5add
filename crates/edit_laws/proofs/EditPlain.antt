-- Edits that only make darts, or only end one: they fit.
use Rattle.std.proofs.Common.{◌≡◌, ◌≢◌, ℕ, zero, suc, ◌<◌, [], ◌∷◌, get_or, ap, ◌∙◌, arith}
use Rattle.map_defs.specs.Kind.{Kind, inverse}
use Rattle.map_defs.specs.Rows.{Rows, links_of, IsLive, IsSound}
use Rattle.map_defs.specs.Edits.{Edit, with_births, Fits}
use Rattle.edit_laws.proofs.RowWrites.{births-links}

-- so many darts are born
abbrev pub births_edit : ℕ → Edit
births_edit births = record { births = births; deaths = []; changes = [] }

-- one dart ends
abbrev pub death_edit : ℕ → Edit
death_edit d = record { births = 0; deaths = d ∷ []; changes = [] }

births-back : (k : Kind) (n births : ℕ) (rows : Rows) → IsSound k n rows → (i x : ℕ) → links_of (with_births n births rows) i x ≢ 0
    → links_of (with_births n births rows) (inverse k i) (links_of (with_births n births rows) i x) ≡ x
births-back k n births rows sound i x linked =
    let is : links_of (with_births n births rows) i x ≡ links_of rows i x = births-links n births rows i x in
    ap (links_of (with_births n births rows) (inverse k i)) is ∙ births-links n births rows (inverse k i) (links_of rows i x)
    ∙ sound.back i x (λ none. linked (is ∙ none))

-- births alone fit
pub births-fit : (k : Kind) (n births : ℕ) (rows : Rows) → IsSound k n rows → Fits k n rows (births_edit births)
births-fit k n births rows sound = record {
  darts = λ p z h. absurd (omega arith);
  links = λ p z h. absurd (omega arith);
  stands = λ p z h. absurd (omega arith);
  once = λ i j z h l. absurd (omega arith);
  back = births-back k n births rows sound;
  living = λ p z h. absurd (omega arith);
  ends = λ i j z h l. absurd (omega arith);
  free = λ p z h. absurd (omega arith);
}

-- the end of a live dart whose links are free fits
pub death-fits : (k : Kind) (n : ℕ) (rows : Rows) (d : ℕ) → IsSound k n rows → IsLive rows d → ((i : ℕ) → links_of rows i d ≡ 0) → Fits k n rows (death_edit d)
death-fits k n rows d sound live free = record {
  darts = λ p z h. absurd (omega arith);
  links = λ p z h. absurd (omega arith);
  stands = λ p z h. absurd (omega arith);
  once = λ i j z h l. absurd (omega arith);
  back = births-back k n 0 rows sound;
  living = λ p z h. one (λ e. IsLive rows e) live p z h;
  ends = λ i j z h l. absurd (omega arith);
  free = λ p z h. one (λ e. (i : ℕ) → links_of (with_births n 0 rows) i e ≡ 0) (λ i. births-links n 0 rows i d ∙ free i) p z h;
}
  where
    one : (P : ℕ → Type 0) → P d → (p z : ℕ) → p < 1 → P (get_or (d ∷ []) p z)
    one P h zero z below = h
    one P h (suc p) z below = absurd (omega arith)
