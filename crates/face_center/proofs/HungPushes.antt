-- The changes of the new darts of a dart, pushed for one link after another.
use Rattle.std.proofs.Common.{ℕ, ◌≡◌, ◌+◌, List, Contains, refl, ap, ◌∙◌}
use Rattle.map_defs.specs.Kind.{Kind, alpha, beta}
use Rattle.map_defs.specs.Links.{Links}
use Rattle.map_defs.specs.Rows.{Rows, links_of}
use Rattle.map_defs.specs.Edits.{Change}
use Rattle.cell_edit.specs.Stars.{Stars, star_of}
use Rattle.cell_edit.specs.Writing.{Appends, IsLinkEntry}
use Rattle.face_center.specs.declared.hanging.Hanging.{Hanging}
use Rattle.face_center.specs.Hanging.{tip_of, before, star_link, tip_link, IsNewEntry, CanHang}
use Rattle.face_center.proofs.HungEntries.{new-none, new-push}
use Rattle.face_center.proofs.HungFacts.{star-fresh, tip-fresh, star-tip}

-- ---- what links 0 to 2 of the new darts become in a generalized map
pub general-zero : (k : Kind) (h : Hanging) (L : Links) (star tip : ℕ → ℕ) (x s t : ℕ) → k ≡ alpha → s ≡ tip x → t ≡ star x
    → (s ≡ star_link k h L star tip x 0) × (t ≡ tip_link k h L star tip x 0)
general-zero alpha h L star tip x s t is begin end = (begin, end)
general-zero beta h L star tip x s t is begin end = absurd (cc is)

pub general-one : (k : Kind) (h : Hanging) (L : Links) (star tip : ℕ → ℕ) (x : ℕ) → k ≡ alpha → x ≡ star_link k h L star tip x 1
general-one alpha h L star tip x is = refl
general-one beta h L star tip x is = absurd (cc is)

pub general-two : (k : Kind) (h : Hanging) (L : Links) (star tip : ℕ → ℕ) (x n s t : ℕ) → k ≡ alpha → n ≡ L 1 x → s ≡ star n → t ≡ tip n
    → (s ≡ star_link k h L star tip x 2) × (t ≡ tip_link k h L star tip x 2)
general-two alpha h L star tip x n s t is next begin end = (begin ∙ ap star next, end ∙ ap tip next)
general-two beta h L star tip x n s t is next begin end = absurd (cc is)

-- ---- what links 0 and 1 of them become in a combinatorial map
pub combinatorial-zero : (k : Kind) (h : Hanging) (L : Links) (star tip : ℕ → ℕ) (x s t : ℕ) → k ≡ beta → s ≡ before k h L x → t ≡ star x
    → (s ≡ star_link k h L star tip x 0) × (t ≡ tip_link k h L star tip x 0)
combinatorial-zero alpha h L star tip x s t is begin end = absurd (cc is)
combinatorial-zero beta h L star tip x s t is begin end = (begin, end)

pub combinatorial-one : (k : Kind) (h : Hanging) (L : Links) (star tip : ℕ → ℕ) (x s : ℕ) → k ≡ beta → s ≡ tip x
    → (s ≡ star_link k h L star tip x 1) × (x ≡ tip_link k h L star tip x 1)
combinatorial-one alpha h L star tip x s is begin = absurd (cc is)
combinatorial-one beta h L star tip x s is begin = (begin, refl)

-- ---- the changes
-- a change is pushed by which link t of dart d becomes y, where it is free
abbrev pub Pushes : ℕ → ℕ → ℕ → List Change → List Change → Type 0
Pushes d t y a b = (L : ℕ → ℕ → ℕ) → L t d ≡ 0 → Appends L (IsLinkEntry d t y) a b

module _ (k : Kind) (rows : Rows) (h : Hanging) (stars : Stars) (can : CanHang k rows h stars) (x : ℕ) (has : Contains stars.keys x)
    (begin end : ℕ) (is_begin : begin ≡ star_of stars x) (is_end : end ≡ tip_of stars x) where
  abbrev L : Links
  L = links_of rows

  abbrev New : ℕ → ℕ → ℕ → ℕ → Type 0
  New m = IsNewEntry k h L (star_of stars) (tip_of stars) m x

  -- the changes of one link
  pub link-pushes : (m s t : ℕ) (a b c e : List Change) → s ≡ star_link k h L (star_of stars) (tip_of stars) x m → t ≡ tip_link k h L (star_of stars) (tip_of stars) x m
      → Appends L (New m) a b → Pushes begin m s b c → Pushes end m t c e → Appends L (New (m + 1)) a e
  link-pushes m s t a b c e is_s is_t done first then =
      let free_begin : L m (star_of stars x) ≡ 0 = (star-fresh k rows h stars can).unlinked m x has in
      let free_end : L m (tip_of stars x) ≡ 0 = (tip-fresh k rows h stars can).unlinked m x has in
      new-push k h L (star_of stars) (tip_of stars) x m a b c e (star-tip k rows h stars can x x has has) done
      ((rw (is_begin, is_s) at first L) free_begin) ((rw (is_end, is_t) at then L) free_end)

  -- those of links 0 to 2
  pub low-pushes : (s t u v w z : ℕ) (a b c d e f g : List Change)
      → (s ≡ star_link k h L (star_of stars) (tip_of stars) x 0) × (t ≡ tip_link k h L (star_of stars) (tip_of stars) x 0)
      → (u ≡ star_link k h L (star_of stars) (tip_of stars) x 1) × (v ≡ tip_link k h L (star_of stars) (tip_of stars) x 1)
      → (w ≡ star_link k h L (star_of stars) (tip_of stars) x 2) × (z ≡ tip_link k h L (star_of stars) (tip_of stars) x 2)
      → Pushes begin 0 s a b → Pushes end 0 t b c → Pushes begin 1 u c d → Pushes end 1 v d e → Pushes begin 2 w e f → Pushes end 2 z f g
      → Appends L (New 3) a g
  low-pushes s t u v w z a b c d e f g zeroth first second p q i j m n =
      link-pushes 2 w z a e f g second.0 second.1
      (link-pushes 1 u v a c d e first.0 first.1
      (link-pushes 0 s t a a b c zeroth.0 zeroth.1 (new-none k h L (star_of stars) (tip_of stars) x a) p q) i j) m n
