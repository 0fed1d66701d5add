-- Links lead from number to number as they lead from dart to dart.
use Rattle.std.proofs.Common.{ℕ, ◌≡◌, ◌<◌, true, List, length, slice_index, inl, inr, sym, ap, ◌∙◌, arith}
use Rattle.map_defs.specs.Kind.{Kind}
use Rattle.map_defs.specs.Links.{Links, HasDimension}
use Rattle.map_defs.specs.Laws.{Laws}
use Rattle.map_defs.specs.Rows.{Rows, IsLive, links_of, IsSound}
use Rattle.map_defs.specs.MeshMap.{Side, sides_of, has_ends, IsBorder, AreMeshLinks}
use Rattle.map_defs.specs.OffOfMap.{ListsCells}
use Rattle.link_laws.proofs.Basics.{same_or_not}
use Rattle.link_laws.proofs.RowFacts.{live_or_free}
use Rattle.mesh_laws.specs.Sides.{side_of}
use Rattle.off_laws.specs.ReadBack.{AreSidesSewn}
use Rattle.off_laws.specs.SideDarts.{AreSideDarts}
use Rattle.off_laws.proofs.RenumberedPlaces.{live-some, side-ring}
use Rattle.off_laws.proofs.RenumberedPairs.{points-same, of-live, joined-of}
use Rattle.off_laws.proofs.RenumberedDarts.{IsNumbered, nowhere}
use Rattle.off_laws.proofs.RenumberedSides.{border-at}

-- what does not live has no links
pub dead-free : (rows : Rows) (t d : ℕ) → (IsLive rows d → ⊥) → links_of rows t d ≡ 0
dead-free rows t d dead = elim (live_or_free rows d) [ inl live ↦ absurd (dead live) | inr free ↦ free.1 t ]

module _ (k : Kind) (n : ℕ) (rows : Rows) (sound : IsSound k n rows) (w : Laws k (links_of rows)) (vertices : List ℕ) (listed : ListsCells k rows 0 vertices)
    (faces : List (List ℕ)) (darts : List ℕ) (s : AreSideDarts k (IsLive rows) (links_of rows) vertices faces darts)
    (flat : HasDimension 2 (links_of rows)) (sewn : AreSidesSewn k (IsLive rows) (links_of rows)) (M : Links) (m : AreMeshLinks k (sides_of faces) M) (nil : (t : ℕ) → M t 0 ≡ 0) where
  abbrev L : Links
  L = links_of rows

  abbrev dart : ℕ → ℕ
  dart i = slice_index darts i

  abbrev side : ℕ → Side
  side i = side_of (sides_of faces) i

  abbrev Numbered : ℕ → ℕ → Type 0
  Numbered d e = IsNumbered k (IsLive rows) L darts d e

  pub there : (i : ℕ) → i < length darts → i < length (sides_of faces)
  there i h = omega (arith, h, s.counted)

  pub own-number : (i : ℕ) → i < length darts → (side i).number ≡ i
  own-number i h = (side-ring k n rows sound w vertices listed faces darts s i h).number

  -- what leads nowhere gets no number
  pub free-led : (d e : ℕ) → d ≡ 0 → e ≡ 0 → Numbered d e
  free-led d e none is = nowhere (λ live. live-some k n rows sound d live none) is

  pub dead-led : (t d e : ℕ) → (IsLive rows d → ⊥) → e ≡ 0 → Numbered (L t d) (M t e)
  dead-led t d e dead is = free-led (L t d) (M t e) (dead-free rows t d dead) (ap (M t) is ∙ nil t)

  pub high-led : (t d e : ℕ) → 2 < t → Numbered (L t d) (M t e)
  high-led t d e high = free-led (L t d) (M t e) (flat t d high) (m.flat t e high)

  -- link 2 of a side's darts is free where link 2 of its dart was
  pub border-led : (i : ℕ) → i < length darts → L 2 (dart i) ≡ 0 → IsBorder k M (side i)
  border-led i h free = border-at k faces M m i (there i h) only
    where
      only : (j : ℕ) → j < length (sides_of faces) → has_ends (side i) (side j) ≡ true → j ≡ i
      only j within same = elim (same_or_not j i) [
        | inl e ↦ e
        | inr other ↦
            let hj : j < length darts = omega (arith, within, s.counted) in
            let of = joined-of k n rows sound w vertices listed faces darts s sewn i j h hj (λ e. other (sym e)) (points-same (side i) (side j) same) in
            absurd (live-some k n rows sound (L 2 (dart i)) (of-live k n rows sound w vertices listed faces darts s j (L 2 (dart i)) hj of) free)
      ]
