-- The darts to whose new darts the links of new darts lead have new darts themselves.
use Rattle.std.proofs.Common.{ℕ, zero, suc, ◌≡◌, ◌≢◌, ◌≤◌, Contains, refl, sym, ◌∙◌, subst, arith}
use Rattle.map_defs.specs.Kind.{Kind, alpha, beta}
use Rattle.map_defs.specs.Links.{Links}
use Rattle.map_defs.specs.Rows.{Rows, links_of}
use Rattle.cell_edit.specs.Stars.{Stars}
use Rattle.face_center.specs.declared.hanging.Hanging.{Hanging}
use Rattle.face_center.specs.declared.hanging.Hanging.TheVariants.{Corner, Face}
use Rattle.face_center.specs.Hanging.{before, turning, beside, CanHang}

-- ---- those darts in each kind of map
turning-beside : (k : Kind) (h : Hanging) (L : Links) (s x : ℕ) → k ≡ alpha → beside k h L s x 1 ≡ L (turning h) x
turning-beside alpha h L s x is = refl
turning-beside beta h L s x is = absurd (cc is)

next-beside : (k : Kind) (h : Hanging) (L : Links) (s x : ℕ) → k ≡ alpha → beside k h L s x 2 ≡ L 1 x
next-beside alpha h L s x is = refl
next-beside beta h L s x is = absurd (cc is)

side-beside : (k : Kind) (h : Hanging) (L : Links) (s x : ℕ) → k ≡ beta → h ≡ Face → beside k h L s x 2 ≡ L s x
side-beside alpha h L s x is face = absurd (cc is)
side-beside beta Corner L s x is face = absurd (cc face)
side-beside beta Face L s x is face = refl

high-beside : (k : Kind) (h : Hanging) (L : Links) (s x t : ℕ) → 3 ≤ t → beside k h L s x t ≡ L t (before k h L x)
high-beside k h L s x zero high = absurd (omega arith)
high-beside k h L s x (suc zero) high = absurd (omega arith)
high-beside k h L s x (suc (suc zero)) high = absurd (omega arith)
high-beside alpha h L s x (suc (suc (suc t))) high = refl
high-beside beta h L s x (suc (suc (suc t))) high = refl

-- ---- they are among the darts
module _ (k : Kind) (rows : Rows) (h : Hanging) (stars : Stars) (can : CanHang k rows h stars) (x : ℕ) (has : Contains stars.keys x) (n : ℕ) where
  abbrev L : Links
  L = links_of rows

  beside-key : (s t : ℕ) → s ≤ 1 → n ≡ beside k h L s x t → n ≢ 0 → Contains stars.keys n
  beside-key s t low is some = subst (Contains stars.keys) (sym is) (can.closed x s t has low (λ none. some (is ∙ none)))

  pub turning-key : k ≡ alpha → n ≡ L (turning h) x → n ≢ 0 → Contains stars.keys n
  turning-key general is = beside-key 0 1 (omega arith) (is ∙ sym (turning-beside k h L 0 x general))

  pub next-key : k ≡ alpha → n ≡ L 1 x → n ≢ 0 → Contains stars.keys n
  next-key general is = beside-key 0 2 (omega arith) (is ∙ sym (next-beside k h L 0 x general))

  pub side-key : (s : ℕ) → s ≤ 1 → k ≡ beta → h ≡ Face → n ≡ L s x → n ≢ 0 → Contains stars.keys n
  side-key s low combinatorial face is = beside-key s 2 low (is ∙ sym (side-beside k h L s x combinatorial face))

  pub high-key : (t : ℕ) → 3 ≤ t → n ≡ L t (before k h L x) → n ≢ 0 → Contains stars.keys n
  high-key t high is = beside-key 0 t (omega arith) (is ∙ sym (high-beside k h L 0 x t high))
