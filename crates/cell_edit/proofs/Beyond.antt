-- What the links of a new dart become, and which number it has.
use Rattle.std.proofs.Common.{ℕ, zero, suc, not, ◌≡◌, ◌≢◌, ◌+◌, ◌<◌, ◌≤◌, length, take, slice_index, get_or, Contains, Option, Some, None, refl, sym, ap, ◌∙◌, ⊎_elim, eq-eqb, arith}
use Rattle.std.specs.Prelude.{All, IsNone}
use Rattle.std.specs.List.Sorted.{IsStrictlyIncreasing}
use Rattle.std.proofs.lemmas.Bool.{ne_eqb}
use Rattle.std.proofs.lemmas.List.{get_or-take, length-take, get_or_default}
use Rattle.map_defs.specs.Kind.{Kind, alpha, beta, inverse, place, IsDistant}
use Rattle.map_defs.specs.Links.{Links}
use Rattle.map_defs.specs.Rows.{Rows, links_of, made, IsLive}
use Rattle.map_defs.specs.Insertion.{IsJustBelow}
use Rattle.link_laws.proofs.Basics.{stable}
use Rattle.link_laws.proofs.RowFacts.{rows_made}
use Rattle.insert_laws.proofs.Places.{next, below, next_place, below_apart}
use Rattle.edit_laws.proofs.RowWrites.{live-within}
use Rattle.cell_edit.specs.Stars.{Stars, star_of}
use Rattle.cell_edit.specs.Writing.{copied, beyond}
use Rattle.cell_edit.proofs.StarNumbers.{rises, star-found}

module _ (k : Kind) (L : Links) (i : ℕ) (star : ℕ → ℕ) (x : ℕ) where
  -- the link itself leads back
  pub beyond-own : beyond k L i star x i ≡ x
  beyond-own = rw (eq-eqb i i refl) refl

  -- a link before is left to the pairs
  pub beyond-before : (t : ℕ) → IsJustBelow k i t → beyond k L i star x t ≡ 0
  beyond-before t before = rw (ne_eqb t i (below_apart k i t before), eq-eqb (place k t + 1) (place k i) before) refl

  pub beyond-else : (t : ℕ) → t ≢ i → (IsJustBelow k i t → ⊥) → beyond k L i star x t ≡ star (L (copied k i t) x)
  beyond-else t own before = rw (ne_eqb t i own, ne_eqb (place k t + 1) (place k i) before) refl

-- the copied link is the one beyond which the new link lies
pub copied-next : (k : Kind) (i : ℕ) → copied k i (i + 1) ≡ i
copied-next k i = rw (eq-eqb (i + 1) (i + 1) refl) refl

pub copied-far : (k : Kind) (i t : ℕ) → t ≢ i + 1 → copied k i t ≡ inverse k t
copied-far k i t n = rw (ne_eqb t (i + 1) n) refl

-- a distant link is not the next one
pub far-off : (k : Kind) (i t : ℕ) → inverse k i ≡ i → IsDistant k i t → t ≢ i + 1
unfolding IsDistant
far-off k i t own away after =
    let f : i + 1 ≡ suc i = omega arith in
    let at : place k t ≡ place k i + 1 = ap (place k) (after ∙ f) ∙ next_place k i own in
    ⊎_elim (λ (p : place k i + 2 ≤ place k t). omega arith) (λ (p : place k t + 2 ≤ place k i). omega arith) away

-- nor one just below, and one just below is a link of the map
pub far-below : (k : Kind) (i t : ℕ) → IsDistant k i t → IsJustBelow k i t → ⊥
unfolding IsDistant
far-below k i t away b = ⊎_elim (λ (p : place k i + 2 ≤ place k t). omega arith) (λ (p : place k t + 2 ≤ place k i). omega arith) away

pub below-within : (k : Kind) (i t n : ℕ) → IsJustBelow k i t → i < n → t ≤ n
below-within alpha i t n b low = omega arith
below-within beta i zero n b low = omega arith
below-within beta zero (suc t) n b low = omega arith
below-within beta (suc i) (suc t) n b low = omega arith

pub next-above : (k : Kind) (i t : ℕ) → inverse k i ≡ i → t ≡ i + 1 → IsJustBelow k i t → ⊥
next-above k i t own is b =
    let f : i + 1 ≡ suc i = omega arith in
    let e : place k t ≡ place k i + 1 = ap (place k) (is ∙ f) ∙ next_place k i own in omega arith

-- no dart is there unless one is
pub none-unless : (o : Option ℕ) → ((d : ℕ) → o ≡ Some d → ⊥) → IsNone o
none-unless None not = refl
none-unless (Some d) not = absurd (not d refl)

-- a dart that was not made has no links
pub unmade-free : (rows : Rows) (t d : ℕ) → made rows < d → links_of rows t d ≡ 0
unmade-free rows t d above = stable (links_of rows t d) 0 (λ n. let low : d ≤ made rows = rows_made rows t d n in omega arith)

pub live-made : (rows : Rows) (d : ℕ) → IsLive rows d → d ≤ made rows
live-made rows d live = let low : d < length rows = live-within rows d live in omega arith

-- ---- the darts of an insertion, one after another, and their new darts
pub keys-apart : (stars : Stars) (k x u : ℕ) → IsStrictlyIncreasing stars.keys → All (λ (d : ℕ). d ≤ stars.made) stars.keys → k < length stars.keys → x ≡ get_or stars.keys k x → Contains (take k stars.keys) u
    → (u ≢ x) × (star_of stars u ≢ star_of stars x) × (u ≢ star_of stars x) × (x ≢ star_of stars u)
keys-apart stars k x u up under low at has =
    let p : ℕ = has.0 in
    let p_low : p < k = omega (arith, has.1, length-take k stars.keys) in
    let p_at : slice_index stars.keys p ≡ u = get_or_default stars.keys p 0 u (omega arith) ∙ sym (get_or-take k stars.keys p u p_low) ∙ has.2 in
    let k_at : slice_index stars.keys k ≡ x = get_or_default stars.keys k 0 x low ∙ sym at in
    let less : slice_index stars.keys p < slice_index stars.keys k = rises stars.keys up p k p_low low in
    let u_star : star_of stars u ≡ stars.made + 1 + p = star-found stars u p up (omega arith) p_at in
    let x_star : star_of stars x ≡ stars.made + 1 + k = star-found stars x k up low k_at in
    let u_low : slice_index stars.keys p ≤ stars.made = under p 0 (omega arith) in
    let x_low : slice_index stars.keys k ≤ stars.made = under k 0 low in (
      (λ e. omega arith),
      (λ e. omega arith),
      (λ e. omega arith),
      λ e. omega arith,
    )
