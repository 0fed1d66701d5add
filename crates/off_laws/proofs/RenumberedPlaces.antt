-- Darts at the places of their 0-cells in the list of vertices, and the darts of sides at the places between which sides lead.
use Rattle.std.proofs.Common.{ℕ, ◌≡◌, ◌≢◌, ◌<◌, List, length, slice_index, inl, inr, sym, ap, subst, ◌∙◌, arith}
use Rattle.std.proofs.lemmas.Bool.{cases_order}
use Rattle.std.proofs.lemmas.List.{get_or_default}
use Rattle.std.proofs.lemmas.List.Kept.{AllPairs-from_increasing}
use Rattle.map_defs.specs.Kind.{Kind, alpha, beta}
use Rattle.map_defs.specs.Links.{Links}
use Rattle.map_defs.specs.Laws.{Laws}
use Rattle.map_defs.specs.Rows.{Rows, IsLive, links_of, IsSound}
use Rattle.map_defs.specs.Cells.{InCell, here}
use Rattle.map_defs.specs.MeshMap.{sides_of}
use Rattle.map_defs.specs.OffOfMap.{next_round, IsCell, ListsCells, LiesIn}
use Rattle.link_laws.proofs.LawFacts.{back_to}
use Rattle.link_laws.proofs.CellFacts.{cell_back, alpha_closed}
use Rattle.value_laws.proofs.MapValues.{cell_trans}
use Rattle.mesh_laws.specs.Sides.{side_of, IsRing}
use Rattle.mesh_laws.proofs.Rings.{is_ring}
use Rattle.off_laws.specs.SideDarts.{AreSideDarts}

-- the dart that lies where the side of dart x ends: its other dart, or in a combinatorial map the dart of the next side
abbrev pub ahead : Kind → Links → ℕ → ℕ
ahead alpha L x = L 0 x
ahead beta L x = L 1 x

-- it lies in the 0-cell of the next side's dart
pub round-meets : (k : Kind) (L : Links) → Laws k L → (x y : ℕ) → y ≢ 0 → next_round k L x ≡ y → InCell k L 0 y (ahead k L x)
round-meets alpha L w x y some e =
    let back : L 1 y ≡ L 0 x = back_to alpha L w 1 (L 0 x) y some e in
    let linked : L 0 x ≢ 0 = λ none. some (sym e ∙ (ap (L 1) none ∙ w.nil 1)) in
    subst (InCell alpha L 0 y) back (alpha_closed L 0 1 y y (λ z. omega (arith, z)) here (λ none. linked (sym back ∙ none)))
round-meets beta L w x y some e = subst (InCell beta L 0 y) (sym e) here

-- 0 does not live
pub live-some : (k : Kind) (n : ℕ) (rows : Rows) → IsSound k n rows → (d : ℕ) → IsLive rows d → d ≢ 0
live-some k n rows sound d live none = absurd (cc (live, none, sound.nothing))

module _ (k : Kind) (n : ℕ) (rows : Rows) (sound : IsSound k n rows) (w : Laws k (links_of rows)) (vertices : List ℕ) (listed : ListsCells k rows 0 vertices) where
  abbrev L : Links
  L = links_of rows

  pub vertex-there : (p : ℕ) → p < length vertices → IsCell k rows 0 (slice_index vertices p)
  vertex-there p h = (listed.members (slice_index vertices p)).0 (p, h, get_or_default vertices p (slice_index vertices p) 0 h)

  -- a dart lies at one place
  pub place-one : (x p q : ℕ) → LiesIn k L vertices x p → LiesIn k L vertices x q → p ≡ q
  place-one x p q one two =
      let v : ℕ = slice_index vertices p in
      let u : ℕ = slice_index vertices q in
      let low = (vertex-there p one.0).1 u (cell_trans k L 0 v x u one.1 (cell_back k L w 0 u x two.1)) in
      let high = (vertex-there q two.0).1 v (cell_trans k L 0 u x v two.1 (cell_back k L w 0 v x one.1)) in
      elim (cases_order p q) [
        | inl same ↦ same
        | inr (inl before) ↦ (let up = AllPairs-from_increasing vertices listed.ascending p q 0 before two.0 in absurd (omega (arith, up, low, high)))
        | inr (inr after) ↦ (let up = AllPairs-from_increasing vertices listed.ascending q p 0 after one.0 in absurd (omega (arith, up, low, high)))
      ]

  -- the darts at one place lie in one 0-cell
  pub place-same : (x y p q : ℕ) → LiesIn k L vertices x p → LiesIn k L vertices y q → p ≡ q → InCell k L 0 x y
  place-same x y p q one two same =
      let v : ℕ = slice_index vertices p in
      let at : LiesIn k L vertices y p = subst (LiesIn k L vertices y) (sym same) two in
      cell_trans k L 0 x v y (cell_back k L w 0 v x one.1) at.1

  -- and those of one 0-cell at one place
  pub same-place : (x y p q : ℕ) → LiesIn k L vertices x p → LiesIn k L vertices y q → InCell k L 0 x y → p ≡ q
  same-place x y p q one two cell = place-one y p q (one.0, cell_trans k L 0 (slice_index vertices p) x y one.1 cell) two

  module _ (faces : List (List ℕ)) (darts : List ℕ) (s : AreSideDarts k (IsLive rows) L vertices faces darts) where
    pub side-ring : (i : ℕ) → i < length darts → IsRing (sides_of faces) i
    side-ring i h = is_ring faces i (omega (arith, h, s.counted))

    pub next-there : (i : ℕ) → i < length darts → (side_of (sides_of faces) i).next < length darts
    next-there i h = let r = side-ring i h in omega (arith, r.next, s.counted)

    pub previous-there : (i : ℕ) → i < length darts → (side_of (sides_of faces) i).previous < length darts
    previous-there i h = let r = side-ring i h in omega (arith, r.previous, s.counted)

    pub dart-some : (i : ℕ) → i < length darts → slice_index darts i ≢ 0
    dart-some i h = live-some k n rows sound (slice_index darts i) (s.live i h)

    -- a side ends at the place of the 0-cell of the dart ahead
    pub ends : (i : ℕ) → i < length darts → LiesIn k L vertices (ahead k L (slice_index darts i)) (side_of (sides_of faces) i).to
    ends i h =
        let j : ℕ = (side_of (sides_of faces) i).next in
        let at : LiesIn k L vertices (slice_index darts j) (side_of (sides_of faces) i).to = subst (LiesIn k L vertices (slice_index darts j)) (side-ring i h).meets (s.starts j (next-there i h)) in
        (at.0, cell_trans k L 0 (slice_index vertices (side_of (sides_of faces) i).to) (slice_index darts j) (ahead k L (slice_index darts i)) at.1 (round-meets k L w (slice_index darts i) (slice_index darts j) (dart-some j (next-there i h)) (s.next i h)))
