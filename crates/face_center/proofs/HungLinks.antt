-- The links after an edit that hangs edges: those of the new darts, those of the darts before them, and all others.
use Rattle.std.proofs.Common.{ℕ, zero, suc, ◌≡◌, ◌≢◌, ◌+◌, ◌<◌, ◌≤◌, List, length, Contains, refl, sym, ap, ◌∙◌, subst, inl, inr, arith}
use Rattle.std.proofs.lemmas.Bool.{cases_lt}
use Rattle.map_defs.specs.Kind.{Kind, alpha, beta}
use Rattle.map_defs.specs.Links.{Links}
use Rattle.map_defs.specs.Rows.{Rows, links_of, IsLive, IsSound}
use Rattle.map_defs.specs.Edits.{Change, with_births, after_edit}
use Rattle.link_laws.proofs.Basics.{same_or_not}
use Rattle.link_laws.proofs.RowFacts.{rows_dimension}
use Rattle.cell_edit.specs.Stars.{Stars, star_of}
use Rattle.cell_edit.specs.Writing.{WritesEntries}
use Rattle.face_center.specs.declared.hanging.Hanging.{Hanging}
use Rattle.face_center.specs.Hanging.{tip_of, before, star_link, tip_link, AreHungEntries, CanHang}
use Rattle.cell_edit.proofs.EntryEdit.{growing, written, left}
use Rattle.face_center.proofs.Tips.{star-none, tip-none}
use Rattle.face_center.proofs.HungFacts.{key-live, key-made, star-fresh, tip-fresh, star-tip, star-above, tip-above, old-lives, star-lives, tip-lives}
use Rattle.face_center.proofs.HungPlaces.{before-made}

module _ (k : Kind) (n : ℕ) (rows : Rows) (sound : IsSound k n rows) (dim : 2 ≤ n) (h : Hanging) (stars : Stars) (can : CanHang k rows h stars) where
  abbrev L : Links
  L = links_of rows

  abbrev K : ℕ → Type 0
  K = Contains stars.keys

  abbrev star : ℕ → ℕ
  star = star_of stars

  abbrev tip : ℕ → ℕ
  tip = tip_of stars

  abbrev pub Entry : ℕ → ℕ → ℕ → Type 0
  Entry = AreHungEntries k h L star tip (n + 1) stars.keys

  abbrev births : ℕ
  births = length stars.keys + length stars.keys

  pub lives : (d t y : ℕ) → Entry d t y → IsLive (with_births n births rows) d
  lives d t y (x, has, inl (inl e)) = rw e.0 (old-lives k rows h stars can n (before k h L x) (can.begins x has))
  lives d t y (x, has, inl (inr e)) = rw e.1.0 (old-lives k rows h stars can n x (key-live k rows h stars can x has))
  lives d t y (x, has, inr (low, inl e)) = rw e.0 (star-lives k rows h stars can n x has)
  lives d t y (x, has, inr (low, inr e)) = rw e.0 (tip-lives k rows h stars can n x has)

  pub inside : (d t y : ℕ) → Entry d t y → t ≤ n
  inside d t y (x, has, inl (inl e)) = omega (arith, e.1)
  inside d t y (x, has, inl (inr e)) = omega (arith, e.1.1)
  inside d t y (x, has, inr (low, e)) = omega arith

  -- ---- the entries that stand at new darts
  star_entry : (x t y : ℕ) → K x → Entry (star x) t y → (y ≡ star_link k h L star tip x t) × (y ≢ 0)
  star_entry x t y has (u, g, inl (inl e)) = absurd (omega (arith, e.0, before-made k rows h stars can u g, star-above k rows h stars can x has))
  star_entry x t y has (u, g, inl (inr e)) = absurd (omega (arith, e.1.0, key-made k rows h stars can u g, star-above k rows h stars can x has))
  star_entry x t y has (u, g, inr (low, inl e)) =
      let same : u ≡ x = (star-fresh k rows h stars can).one u x g has (sym e.0) in
      (e.2 ∙ ap (λ v. star_link k h L star tip v t) same, e.3)
  star_entry x t y has (u, g, inr (low, inr e)) = absurd (star-tip k rows h stars can x u has g e.0)

  tip_entry : (x t y : ℕ) → K x → Entry (tip x) t y → (y ≡ tip_link k h L star tip x t) × (y ≢ 0)
  tip_entry x t y has (u, g, inl (inl e)) = absurd (omega (arith, e.0, before-made k rows h stars can u g, tip-above k rows h stars can x has))
  tip_entry x t y has (u, g, inl (inr e)) = absurd (omega (arith, e.1.0, key-made k rows h stars can u g, tip-above k rows h stars can x has))
  tip_entry x t y has (u, g, inr (low, inl e)) = absurd (star-tip k rows h stars can u x g has (sym e.0))
  tip_entry x t y has (u, g, inr (low, inr e)) =
      let same : u ≡ x = (tip-fresh k rows h stars can).one u x g has (sym e.0) in
      (e.2 ∙ ap (λ v. tip_link k h L star tip v t) same, e.3)

  -- a link above the dimension stays free
  above : (t x : ℕ) → n < t → L t x ≡ 0
  above = rows_dimension n rows sound.wide

  star_high : (j : Kind) (x t : ℕ) → n < t → star_link j h L star tip x t ≡ 0
  star_high j x zero high = absurd (omega arith)
  star_high j x (suc zero) high = absurd (omega arith)
  star_high j x (suc (suc zero)) high = absurd (omega arith)
  star_high alpha x (suc (suc (suc t))) high = ap star (above (suc (suc (suc t))) x high) ∙ star-none stars can.pair
  star_high beta x (suc (suc (suc t))) high = ap tip (above (suc (suc (suc t))) (before beta h L x) high) ∙ tip-none stars can.pair

  tip_high : (j : Kind) (x t : ℕ) → n < t → tip_link j h L star tip x t ≡ 0
  tip_high j x zero high = absurd (omega arith)
  tip_high j x (suc zero) high = absurd (omega arith)
  tip_high j x (suc (suc zero)) high = absurd (omega arith)
  tip_high alpha x (suc (suc (suc t))) high = ap tip (above (suc (suc (suc t))) x high) ∙ tip-none stars can.pair
  tip_high beta x (suc (suc (suc t))) high = ap star (above (suc (suc (suc t))) (before beta h L x) high) ∙ star-none stars can.pair

  module _ (cs : List Change) (writes : WritesEntries L Entry cs) where
    abbrev N : Links
    N = links_of (after_edit n (growing births cs) rows)

    is : (d t y : ℕ) → Entry d t y → N t d ≡ y
    is = written k n rows sound births Entry lives inside cs writes

    stays : (d t : ℕ) → ((y : ℕ) → Entry d t y → ⊥) → N t d ≡ L t d
    stays = left k n rows sound births Entry lives inside cs writes

    -- ---- the new darts
    pub star-links : (x t : ℕ) → K x → N t (star x) ≡ star_link k h L star tip x t
    star-links x t has = elim (same_or_not (star_link k h L star tip x t) 0) [
      | inl free ↦
          stays (star x) t (λ y e. let f = star_entry x t y has e in f.1 (f.0 ∙ free)) ∙ (star-fresh k rows h stars can).unlinked t x has ∙ sym free
      | inr some ↦ elim (cases_lt n t) [
        | inl high ↦ absurd (some (star_high k x t high))
        | inr low ↦ is (star x) t (star_link k h L star tip x t) (x, has, inr (omega arith, inl (refl, refl, refl, some)))
      ]
    ]

    pub tip-links : (x t : ℕ) → K x → N t (tip x) ≡ tip_link k h L star tip x t
    tip-links x t has = elim (same_or_not (tip_link k h L star tip x t) 0) [
      | inl free ↦
          stays (tip x) t (λ y e. let f = tip_entry x t y has e in f.1 (f.0 ∙ free)) ∙ (tip-fresh k rows h stars can).unlinked t x has ∙ sym free
      | inr some ↦ elim (cases_lt n t) [
        | inl high ↦ absurd (some (tip_high k x t high))
        | inr low ↦ is (tip x) t (tip_link k h L star tip x t) (x, has, inr (omega arith, inr (refl, refl, refl, some)))
      ]
    ]

    -- ---- the old darts
    pub first-links : (x : ℕ) → K x → N 1 (before k h L x) ≡ star x
    first-links x has = is (before k h L x) 1 (star x) (x, has, inl (inl (refl, refl, refl, (star-fresh k rows h stars can).dart x has)))

    pub back-links : (x : ℕ) → k ≡ beta → K x → N 0 x ≡ tip x
    back-links x b has = is x 0 (tip x) (x, has, inl (inr (b, (refl, refl, refl, (tip-fresh k rows h stars can).dart x has))))

    none : (z t y : ℕ) → ((x : ℕ) → K x → t ≡ 1 → z ≢ before k h L x) → (k ≡ beta → t ≡ 0 → K z → ⊥) → ((x : ℕ) → K x → z ≢ star x) → ((x : ℕ) → K x → z ≢ tip x)
        → Entry z t y → ⊥
    none z t y first back new end (x, has, inl (inl e)) = first x has e.1 e.0
    none z t y first back new end (x, has, inl (inr e)) = back e.0 e.1.1 (subst K (sym e.1.0) has)
    none z t y first back new end (x, has, inr (low, inl e)) = new x has e.0
    none z t y first back new end (x, has, inr (low, inr e)) = end x has e.0

    pub kept-links : (z t : ℕ) → ((x : ℕ) → K x → t ≡ 1 → z ≢ before k h L x) → (k ≡ beta → t ≡ 0 → K z → ⊥) → ((x : ℕ) → K x → z ≢ star x) → ((x : ℕ) → K x → z ≢ tip x)
        → N t z ≡ L t z
    kept-links z t first back new end = stays z t (λ y e. none z t y first back new end e)
