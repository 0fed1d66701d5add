-- A set that touches a dimension covers the old labels there, where they are those of the valued cells.
use Rattle.std.proofs.Common.{ℕ, ◌≡◌, ◌⊎◌, inl, inr, refl, sym, ◌∙◌, Option, Some, None}
use Rattle.map_defs.specs.Kind.{Kind}
use Rattle.map_defs.specs.Links.{Links}
use Rattle.map_defs.specs.Laws.{Laws}
use Rattle.map_defs.specs.Cells.{InCell, here}
use Rattle.map_defs.specs.Touched.{IsOldCell, Touches, IsAlike, IsLabelled, IsWhole, Covers}
use Rattle.link_laws.proofs.CellFacts.{cell_back}

module _ (k : Kind) (L N : Links) (w : Laws k L) (Live LiveAfter : ℕ → Type 0) (decide : (x : ℕ) → Live x ⊎ (Live x → ⊥)) (i : ℕ) (label : ℕ → Option ℕ)
    (born : (x : ℕ) → LiveAfter x → (Live x → ⊥) → label x ≡ None) (labelled : IsLabelled k i L Live label) where
  whole : (d : ℕ) → IsOldCell k i L Live N d → (c : ℕ) → label d ≡ Some c → IsWhole LiveAfter (InCell k N i d) label c
  whole d o c e = record { inside = inside; outside = outside }
    where
      lived : Live d
      lived = o.lived d here

      inside : (x : ℕ) → InCell k N i d x → label x ≡ Some c
      inside x h =
          let a : IsAlike label d x = (labelled d x lived (o.lived x h)).1 ((o.same x).0 h, (c, e)) in
          a.2 ∙ (sym a.1 ∙ e)

      outside : (x : ℕ) → LiveAfter x → label x ≡ Some c → InCell k N i d x
      outside x l f = go (decide x)
        where
          go : Live x ⊎ (Live x → ⊥) → InCell k N i d x
          go (inl v) = (o.same x).1 ((labelled d x lived v).0 (c, e, f)).0
          go (inr n) = let g = born x l n in cc (f, g)

  bare : (d : ℕ) → IsOldCell k i L Live N d → label d ≡ None → (x : ℕ) → InCell k N i d x → label x ≡ None
  bare d o e x h = go (label x) refl
    where
      go : (v : Option ℕ) → label x ≡ v → label x ≡ None
      go None f = f
      go (Some c) f =
          let a : IsAlike label x d = (labelled x d (o.lived x h) (o.lived d here)).1 (cell_back k L w i d x ((o.same x).0 h), (c, f)) in
          let g = a.2 in
          cc (e, g)

  pub touching_covers : (T : ℕ → Type 0) → Touches k i L Live N LiveAfter T → Covers k i N LiveAfter label T
  touching_covers T touches d l none = go (label d) refl
    where
      old : IsOldCell k i L Live N d
      old = touches d l none

      go : (v : Option ℕ) → label d ≡ v → ((x : ℕ) → InCell k N i d x → label x ≡ None) ⊎ ((c : ℕ) × IsWhole LiveAfter (InCell k N i d) label c)
      go None e = inl (bare d old e)
      go (Some c) e = inr (c, whole d old c e)
